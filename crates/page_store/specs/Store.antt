-- No clause of `run` rests on this module: it serves contracts between crates.
--
-- What a store holds: its pages, which of them are stored, and which are marked as changed.
use Rattle.std.specs.Prelude.{true, ℕ, ◌*◌, Bool, List, length}
use Rattle.std.specs.Borrow.{Lends, MutBor, Fml, u8, Array}
use Rattle.std.specs.Vec.{with_item, with_items_from}
use Rattle.std.proofs.Common.{sym, ◌∙◌}
use Rattle.page_store.specs.declared.store.PageStore.{PageStore}
use Rattle.page_store.specs.contracts.store.PageStore.{the_row}

-- the bytes of all pages, one page after another
abbrev pub page_bytes : PageStore → List ℕ
page_bytes s = s.bytes.items

-- which pages are stored, by number
abbrev pub stored_flags : PageStore → List Bool
stored_flags s = s.stored.items

-- which pages are marked as changed, by number
abbrev pub change_marks : PageStore → List Bool
change_marks s = s.changed.items

-- how many pages a store has
abbrev pub pages_in : PageStore → ℕ
pages_in s = length s.stored.items

-- the store with other bytes in page n, which is marked as changed
abbrev pub with_page : PageStore → ℕ → List ℕ → PageStore
with_page s n w = record s {
  bytes = with_items_from s.bytes (8192 * n) w;
  changed = with_item s.changed n true;
  all_pages = sym (with_items_from s.bytes (8192 * n) w).ok.0 ∙ s.bytes.ok.0 ∙ s.all_pages;
  all_marks = sym (with_item s.changed n true).ok.0 ∙ s.changed.ok.0 ∙ s.all_marks;
}

-- what is left behind r becomes page n
abbrev pub LendsPage : MutBor PageStore → ℕ → MutBor (List ℕ) → Fml
LendsPage s n r = Lends the_row (Array u8 0) s r (with_page s.now n)
