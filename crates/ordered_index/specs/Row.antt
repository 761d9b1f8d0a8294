-- No clause of `run` rests on this module: it serves contracts between crates.
--
-- Leaves in order.
use Rattle.std.specs.Prelude.{ℕ, ◌≡◌, ◌+◌, ◌*◌, ◌<◌, ◌≤◌, List, [], ◌∷◌, get_or, length, map, cond, ◌==◌}
use Rattle.std.specs.List.{range_with_len}
use Rattle.disk_io.specs.Disk.{part}
use Rattle.page_store.specs.declared.store.PageStore.{PageStore}
use Rattle.page_store.specs.Store.{page_bytes, pages_in}
use Rattle.slot_page.specs.Page.{Entry, index_of, entries, IsPage, whole_page}

-- how few pages there may be, and how many
abbrev pub least_pages : ℕ
least_pages = 512

abbrev pub most_pages : ℕ
most_pages = 131072

-- the index of a leaf, and its entries
abbrev pub Leaf : Type 0
Leaf = ℕ × List Entry

abbrev pub no_leaf : Leaf
no_leaf = (0, [])

-- how many pages there are, and the leaves
pub record Row : Type 0 where
  pub pages : ℕ
  pub leaves : List Leaf

-- the leaf that a page holds
abbrev pub leaf_of : List ℕ → Leaf
leaf_of page = (index_of page, entries page)

-- the pages of a store
unfoldable pub pages_of : PageStore → List (List ℕ)
pages_of s = map (λ n. part (8192 * n) 8192 (page_bytes s)) (range_with_len 0 (pages_in s))

-- how often a number stands in a list
abbrev pub times : ℕ → List ℕ → ℕ
times p [] = 0
times p (x ∷ xs) = cond (p == x) 1 0 + times p xs

-- the leaves whose pages these are
abbrev pub leaves_of : List (List ℕ) → List ℕ → List Leaf
leaves_of pages order = map (λ p. leaf_of (get_or pages p [])) order

-- each page is in order or free, once; pages in order hold entries
pub record IsRow (pages : List (List ℕ)) (order : List ℕ) (free : List ℕ) : Type 0 where
  pub number : length order + length free ≡ length pages
  pub once : (p : ℕ) → p < length pages → times p order + times p free ≡ 1
  pub beyond : (p : ℕ) → length pages ≤ p → times p order + times p free ≡ 0
  pub sized : (p : ℕ) → p < length pages → length (get_or pages p []) ≡ whole_page
  pub held : (k : ℕ) → k < length order → IsPage (get_or pages (get_or order k 0) [])
