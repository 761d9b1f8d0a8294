-- The pages of a store, as a publish leaves them.
use Rattle.std.proofs.Common.{ℕ, ◌≡◌, ◌*◌, ◌<◌, Bool, false, List, [], length, get_or, sym, ap, ◌∙◌, subst, arith}
use Rattle.page_store.specs.declared.store.PageStore.{PageStore}
use Rattle.page_store.specs.Store.{page_bytes, stored_flags, pages_in}
use Rattle.disk_io.specs.Disk.{part}
use Rattle.slot_page.specs.Page.{IsPage}
use Rattle.ordered_index.specs.Row.{Row, Leaf, no_leaf, leaf_of, pages_of, IsRow}
use Rattle.ordered_index.specs.Drawn.{IsLaid, Flagged}
use Rattle.ordered_index.proofs.StorePages.{length-pages_of, page_at}
use Rattle.ordered_index.proofs.Rows.{row_is, in_range, apart, leaf_at, length-leaves_of}

pub laid : (s m : PageStore) (order free : List ℕ) (r : Row) (kept : List Bool) → IsRow (pages_of s) order free → row_is (pages_of s) order ≡ r → page_bytes m ≡ page_bytes s → pages_in m ≡ pages_in s
    → Flagged (pages_of s) order kept (length order) (stored_flags m) → IsLaid r.pages kept r.leaves order (stored_flags m) (page_bytes m)
laid s m order free r kept sound is bytes count f =
    let n : pages_in s ≡ r.pages = sym (length-pages_of s) ∙ ap (λ (x : Row). x.pages) is in
    let low : (k : ℕ) → k < length order → get_or order k 0 < pages_in s = λ k lt. omega (arith, in_range (pages_of s) order free k sound lt, length-pages_of s) in
    let page : (k : ℕ) → k < length order → part (8192 * get_or order k 0) 8192 (page_bytes m) ≡ get_or (pages_of s) (get_or order k 0) [] =
    λ k lt. ap (part (8192 * get_or order k 0) 8192) bytes ∙ sym (page_at s (get_or order k 0) (low k lt)) in
    let leaf : (k : ℕ) → k < length order → leaf_of (get_or (pages_of s) (get_or order k 0) []) ≡ get_or r.leaves k no_leaf =
    λ k lt. sym (leaf_at (pages_of s) order k lt) ∙ ap (λ (x : Row). get_or x.leaves k no_leaf) is in
    record {
      count = count ∙ n;
      number = sym (length-leaves_of (pages_of s) order) ∙ ap (λ (x : Row). length x.leaves) is;
      inside = λ k lt. omega (arith, low k lt);
      apart = λ i j hi hj ne. apart (pages_of s) order free i j sound hi hj ne;
      packed = λ k lt. subst IsPage (sym (page k lt)) (sound.held k lt);
      leaf = λ k lt. ap leaf_of (page k lt) ∙ leaf k lt;
      here = λ k lt. f.here k lt ∙ ap (λ (l : Leaf). get_or kept l.0 false) (leaf k lt);
      others = f.others;
    }
