-- No clause of `run` rests on this module: it serves contracts between crates.
--
-- When a store has some contents: its catalog the definitions, its maps the rows and the stored view rows, and its view rows the
-- kept pays.
use Rattle.std.specs.Prelude.{◌≡◌, ◌≢◌, ℕ, suc, ℤ, List, length, None, Some}
use Rattle.std.specs.List.{AllByRecursion}
use Rattle.std.specs.Option.{option_map, IfSome}
use Rattle.std.specs.FinMap.{get, empty}
use Rattle.iv_types.specs.Maps.{Map}
use Rattle.iv_types.specs.Definitions.{Definitions}
use Rattle.iv_types.specs.Encoding.{IsHuge}
use Rattle.iv_meaning.specs.Objects as defined
use Rattle.iv_meaning.specs.Schema.{view, ViewTree, numbered}
use Rattle.table_store.specs.Stored.{Holds}
use Rattle.ghost_rows.specs.Numbers.{numbers_bytes}
use Rattle.ghost_rows.specs.State.{State, stored_at, AreKept}
use Rattle.ghost_rows.specs.Ghosts.{IsListed}
use Rattle.data_store.specs.Contents.{Contents, pays_on}

-- no map has an entry
abbrev pub AreEmpty : (ℕ → Map) → Type 0
AreEmpty maps = (index : ℕ) → maps index ≡ empty

pub record IsHeld (definitions : Definitions) (maps : ℕ → Map) (state : State) (c : Contents) : Type 0 where
  pub objects : defined.schema_of definitions ≡ c.objects
  -- the rows of each table in all its indexes
  pub tables : Holds definitions c.rows maps
  -- each stored row of a view, its numbers as bytes under its group
  pub views : (n : ℕ) (v : ViewTree) → numbered c.objects n ≡ Some (view v) → (group : List ℕ) → stored_at maps (n, group) ≡ option_map numbers_bytes (get c.view (n, group))
  -- which are in the HUGE range
  pub in_range : (n : ℕ) (v : ViewTree) → numbered c.objects n ≡ Some (view v) → (group : List ℕ) (numbers : List ℤ) → get c.view (n, group) ≡ Some numbers → AllByRecursion IsHuge numbers
  -- and the pays on it that sessions keep
  pub pays : (n : ℕ) (v : ViewTree) → numbered c.objects n ≡ Some (view v) → (group : List ℕ)
      → AreKept state maps (n, group) (suc (length v.sums)) (λ session. pays_on (n, group) (c.kept session))
  -- each ghost is a candidate
  pub ghosts : (n : ℕ) (v : ViewTree) → numbered c.objects n ≡ Some (view v) → (group : List ℕ) → IsListed state maps (n, group)
  -- index 0 has the entries that are told of it
  pub texts : IfSome c.texts (λ entries. maps 0 ≡ entries)
  -- and under another number of no object nothing is stored
  pub unused : (index : ℕ) → index ≢ 0 → numbered c.objects index ≡ None → maps index ≡ empty
