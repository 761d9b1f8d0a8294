-- No clause of `run` rests on this module: it serves contracts between crates.
--
-- What the stored pages of an image hold.
use Rattle.std.specs.Prelude.{ℕ, ◌≡◌, ◌≢◌, ◌*◌, ◌<◌, Bool, true, false, List, [], length, get_or, Option, Some, None}
use Rattle.std.specs.FinMap.{get}
use Rattle.iv_types.specs.Maps.{Map}
use Rattle.disk_io.specs.Disk.{part}
use Rattle.page_store.specs.Publish.{stored_pages}
use Rattle.slot_page.specs.Page.{no_entry, IsPage, entries, index_of}
use Rattle.ordered_index.specs.Row.{Leaf, no_leaf, leaf_of}
use Rattle.ordered_index.specs.Tree.{Tree, map_of}

-- entry i of stored page p is this one of an index
pub record StandsIn (stored : List (Option (List ℕ))) (index : ℕ) (key value : List ℕ) (p i : ℕ) : Type 0 where
  pub page : List ℕ
  pub there : get_or stored p None ≡ Some page
  pub of : index_of page ≡ index
  pub inside : i < length (entries page)
  pub entry : get_or (entries page) i no_entry ≡ (key, value)

-- The stored pages hold just the entries of the stored indexes: each of these stands in a page, once, and no other entry
-- stands in one.
pub record HoldsJust (kept : List Bool) (maps : ℕ → Map) (stored : List (Option (List ℕ))) : Type 0 where
  pub packed : (p : ℕ) (page : List ℕ) → get_or stored p None ≡ Some page → IsPage page
  pub held : (index : ℕ) (key value : List ℕ) → get_or kept index false ≡ true → get (maps index) key ≡ Some value → (p : ℕ) × (i : ℕ) × StandsIn stored index key value p i
  pub just : (index : ℕ) (key value : List ℕ) (p i : ℕ) → StandsIn stored index key value p i → (get_or kept index false ≡ true) × (get (maps index) key ≡ Some value)
  pub once : (index : ℕ) (key value other : List ℕ) (p i q j : ℕ) → StandsIn stored index key value p i → StandsIn stored index key other q j → (p ≡ q) × (i ≡ j)

-- These pages of a store, by their flags and the bytes of all, are stored: they hold just the entries of the stored indexes.
pub record IsDrawn (t : Tree) (flags : List Bool) (bytes : List ℕ) : Type 0 where
  pub count : length flags ≡ t.pages
  pub holds : HoldsJust t.kept (map_of t) (stored_pages flags bytes)

-- the same, by the page of each leaf
pub record IsLaid (pages : ℕ) (kept : List Bool) (leaves : List Leaf) (order : List ℕ) (flags : List Bool) (bytes : List ℕ) : Type 0 where
  pub count : length flags ≡ pages
  pub number : length order ≡ length leaves
  pub inside : (k : ℕ) → k < length order → get_or order k 0 < pages
  pub apart : (i j : ℕ) → i < length order → j < length order → i ≢ j → get_or order i 0 ≢ get_or order j 0
  pub packed : (k : ℕ) → k < length order → IsPage (part (8192 * get_or order k 0) 8192 bytes)
  pub leaf : (k : ℕ) → k < length order → leaf_of (part (8192 * get_or order k 0) 8192 bytes) ≡ get_or leaves k no_leaf
  pub here : (k : ℕ) → k < length order → get_or flags (get_or order k 0) false ≡ get_or kept (get_or leaves k no_leaf).0 false
  pub others : (p : ℕ) → ((k : ℕ) → k < length order → get_or order k 0 ≢ p) → get_or flags p false ≡ false

-- of the first n pages in order those are flagged whose index is stored, and no other page
pub record Flagged (pages : List (List ℕ)) (order : List ℕ) (kept : List Bool) (n : ℕ) (flags : List Bool) : Type 0 where
  pub here : (k : ℕ) → k < n → get_or flags (get_or order k 0) false ≡ get_or kept (index_of (get_or pages (get_or order k 0) [])) false
  pub others : (p : ℕ) → ((k : ℕ) → k < n → get_or order k 0 ≢ p) → get_or flags p false ≡ false

-- each of the first n marks is set
pub record Marked (marks : List Bool) (n : ℕ) : Type 0 where
  pub each : (p : ℕ) → p < n → get_or marks p false ≡ true
