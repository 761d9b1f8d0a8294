-- The pages of a store.
use Rattle.std.proofs.Common.{ℕ, ◌≡◌, ◌≢◌, ◌+◌, ◌*◌, ◌<◌, ◌≤◌, ◌⊎◌, inl, inr, List, [], length, get_or, set, map, sym, ap, ◌∙◌, arith}
use Rattle.std.specs.List.{range_with_len}
use Rattle.std.proofs.lemmas.List.{length-set, get_or-set_same, get_or-set_other, same_lists, get_or_default}
use Rattle.std.proofs.lemmas.List.FromFn.{length-map-range_with_len, get_or-map-range_with_len}
use Rattle.std.proofs.lemmas.Bool.{cases_order}
use Rattle.disk_io.specs.Disk.{part, splice}
use Rattle.disk_io.specs.Bytes.{length-part, part-splice, part-splice_out}
use Rattle.page_store.specs.declared.store.PageStore.{PageStore}
use Rattle.page_store.specs.Store.{page_bytes, pages_in, with_page}
use Rattle.page_store.proofs.Ranges.{page_bytes-with_page}
use Rattle.ordered_index.specs.Row.{pages_of}

pub length-pages_of : (s : PageStore) → length (pages_of s) ≡ pages_in s
unfolding pages_of
length-pages_of s = length-map-range_with_len (λ n. part (8192 * n) 8192 (page_bytes s)) 0 (pages_in s)

pub page_at : (s : PageStore) (n : ℕ) → n < pages_in s → get_or (pages_of s) n [] ≡ part (8192 * n) 8192 (page_bytes s)
unfolding pages_of
page_at s n lt = get_or-map-range_with_len (λ n. part (8192 * n) 8192 (page_bytes s)) 0 (pages_in s) n n [] lt (omega arith)

pub page_sized : (s : PageStore) (n : ℕ) → n < length (pages_of s) → length (get_or (pages_of s) n []) ≡ 8192
page_sized s n lt =
    let inside : n < pages_in s = omega (arith, length-pages_of s) in
    let size : length (page_bytes s) ≡ 8192 * pages_in s = s.all_pages in
    ap length (page_at s n inside) ∙ length-part (8192 * n) 8192 (page_bytes s) (omega arith)

-- the pages are those of the same bytes
pub same_pages : (s t : PageStore) → page_bytes t ≡ page_bytes s → pages_in t ≡ pages_in s → pages_of t ≡ pages_of s
unfolding pages_of
same_pages s t b n = ap (λ (bytes : List ℕ). map (λ k. part (8192 * k) 8192 bytes) (range_with_len 0 (pages_in t))) b ∙ ap (λ (m : ℕ). map (λ k. part (8192 * k) 8192 (page_bytes s)) (range_with_len 0 m)) n

changed_at : (s : PageStore) (n i : ℕ) (w : List ℕ) → n < pages_in s → length w ≡ 8192 → i < pages_in s → (i ≡ n) ⊎ ((i < n) ⊎ (n < i)) → part (8192 * i) 8192 (splice (8192 * n) w (page_bytes s)) ≡ get_or (set (pages_of s) n w) i []
changed_at s n i w inside long lt (inl e) =
    let size : length (page_bytes s) ≡ 8192 * pages_in s = s.all_pages in
    ap (λ (k : ℕ). part (8192 * k) 8192 (splice (8192 * n) w (page_bytes s))) e
    ∙ ap (λ (m : ℕ). part (8192 * n) m (splice (8192 * n) w (page_bytes s))) (sym long)
    ∙ part-splice (8192 * n) w (page_bytes s) (omega arith)
    ∙ sym (ap (λ (k : ℕ). get_or (set (pages_of s) n w) k []) e ∙ get_or-set_same (pages_of s) n w [] (omega (arith, length-pages_of s)))
changed_at s n i w inside long lt (inr o) =
    let size : length (page_bytes s) ≡ 8192 * pages_in s = s.all_pages in
    let ne : i ≢ n = apart o in
    part-splice_out (8192 * n) w (page_bytes s) (8192 * i) 8192 (omega arith) (omega arith) (sides o)
    ∙ sym (get_or-set_other (pages_of s) n i w [] ne ∙ page_at s i lt)
  where
    apart : (i < n) ⊎ (n < i) → i ≢ n
    apart (inl h) e = omega arith
    apart (inr h) e = omega arith

    sides : (i < n) ⊎ (n < i) → (8192 * i + 8192 ≤ 8192 * n) ⊎ (8192 * n + length w ≤ 8192 * i)
    sides (inl h) = inl (omega arith)
    sides (inr h) = inr (omega arith)

-- another page n
pub pages-with_page : (s : PageStore) (n : ℕ) (w : List ℕ) → n < pages_in s → length w ≡ 8192 → pages_of (with_page s n w) ≡ set (pages_of s) n w
pages-with_page s n w inside long =
    let t = with_page s n w in
    let bytes : page_bytes t ≡ splice (8192 * n) w (page_bytes s) = page_bytes-with_page s n w inside long in
    same_lists (pages_of t) (set (pages_of s) n w) (length-pages_of t ∙ sym (length-set (pages_of s) n w ∙ length-pages_of s))
    (λ i d lt.
    let low : i < pages_in s = omega (arith, length-pages_of t) in
    get_or_default (pages_of t) i d [] lt
    ∙ page_at t i low
    ∙ ap (part (8192 * i) 8192) bytes
    ∙ changed_at s n i w inside long low (cases_order i n)
    ∙ get_or_default (set (pages_of s) n w) i [] d (omega (arith, length-set (pages_of s) n w, length-pages_of s)))
