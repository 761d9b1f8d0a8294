-- Ranges of a slice, as parts.
use Rattle.std.proofs.Common.{◌≡◌, ℕ, ◌+◌, ◌-◌, ◌*◌, ◌<◌, ◌≤◌, List, ◌++◌, length, take, drop, ◌∙◌, ap, arith}
use Rattle.std.proofs.lemmas.List.{drop-drop, take_all, take-append-le}
use Rattle.disk_io.specs.Disk.{part, splice}
use Rattle.disk_io.specs.Bytes.{length-splice}
use Rattle.page_store.specs.declared.store.PageStore.{PageStore}
use Rattle.page_store.specs.Store.{page_bytes, pages_in, with_page}

pub range_part : (at n : ℕ) (s : List ℕ) → take (at + n - at) (drop at s) ≡ part at n s
range_part at n s = ap (λ k. take k (drop at s)) (let e : at + n - at ≡ n = omega arith in e)

pub page_bytes-with_page : (s : PageStore) (n : ℕ) (w : List ℕ) → n < pages_in s → length w ≡ 8192 → page_bytes (with_page s n w) ≡ splice (8192 * n) w (page_bytes s)
page_bytes-with_page s n w inside long =
    let at = 8192 * n in
    let all = s.bytes.items in
    let size : length all ≡ 8192 * length s.stored.items = s.all_pages in
    let fits : at + length w ≤ length all = omega (arith, size, inside, long) in
    let new : take at all ++ (w ++ drop (length w) (drop at all)) ≡ splice at w all = ap (λ (l : List ℕ). take at all ++ (w ++ l)) (drop-drop (length w) at all) in
    let whole : length (splice at w all) ≡ length all = length-splice at w all fits in
    ap (λ (l : List ℕ). take s.bytes.len (l ++ drop (length l) all)) new
    ∙ take-append-le s.bytes.len (splice at w all) (drop (length (splice at w all)) all) (omega (arith, whole, s.bytes.ok.0))
    ∙ take_all s.bytes.len (splice at w all) (omega (arith, whole, s.bytes.ok.0))
