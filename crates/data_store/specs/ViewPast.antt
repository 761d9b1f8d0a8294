-- No clause of `run` rests on this module: it serves contracts between crates.
--
-- The stored rows of a view at a commit number: what is committed of them, less what was committed above that number.
use Rattle.std.specs.Prelude.{◌≡◌, ℕ, suc, ℤ, List, map, [], Option, IsSome, Some, None}
use Rattle.std.specs.List.{AllByRecursion}
use Rattle.std.specs.Option.{option_map_or}
use Rattle.std.specs.FinMap.{get}
use Rattle.iv_types.specs.declared.value.Kind.{Kind}
use Rattle.iv_types.specs.declared.catalog.ViewDef.{ViewDef}
use Rattle.iv_types.specs.declared.catalog.Definition.{Definition}
use Rattle.iv_types.specs.declared.catalog.Definition.TheVariants.{View}
use Rattle.iv_types.specs.Definitions.{Definitions}
use Rattle.iv_types.specs.Definitions as defined
use Rattle.iv_types.specs.Encoding.{IsHuge}
use Rattle.iv_types.specs.Maps.{Map, Entry}
use Rattle.iv_meaning.specs.Schema.{view, ViewTree, numbered}
use Rattle.table_laws.specs.Place.{Place}
use Rattle.txn_machine.specs.Stored.{ViewRows, AreStored}
use Rattle.ghost_rows.specs.Numbers.{numbers_bytes, Fits128}
use Rattle.ghost_rows.specs.Kept.{Pays}
use Rattle.ghost_rows.specs.State.{State, stored_at, AreKept}
use Rattle.ghost_rows.specs.Ghosts.{AreCommitted}
use Rattle.version_chain.specs.Versions.{Version}
use Rattle.version_chain.specs.Deltas.{due, less}
use Rattle.version_chain.specs.declared.deltas.Delta.{Delta}
use Rattle.data_store.specs.Contents.{Contents}
use Rattle.data_store.specs.Reading.{CanBeRead}
use Rattle.data_store.specs.Shown.{IsGroupRow}

-- ---- the view of an object number

abbrev pub as_view : Option Definition → Option ViewDef
as_view (Some (View v)) = Some v
as_view _ = None

abbrev pub view_of : Definitions → ℕ → Option ViewDef
view_of definitions number = as_view (defined.numbered definitions number)

-- ---- at a commit number

abbrev pub DeltaVersions : Type 0
DeltaVersions = List (Version Delta)

-- these were the stored rows of a view at a commit number
pub record WereViewRows (number : ℕ) (versions : DeltaVersions) (state : State) (maps : ℕ → Map) (n : ℕ) (past : ViewRows) : Type 0 where
  pub absent : (group : List ℕ) → stored_at maps (n, group) ≡ None → get past (n, group) ≡ None
  pub there : (group : List ℕ) → IsSome (stored_at maps (n, group)) → (numbers : List ℤ) × (get past (n, group) ≡ Some numbers)
      × ((committed : List ℤ) → AreCommitted state maps (n, group) committed → Fits128 committed × (numbers ≡ less (λ column. due number (n, group) column versions) 0 committed))
  pub in_range : (group : List ℕ) (numbers : List ℤ) → get past (n, group) ≡ Some numbers → AllByRecursion IsHuge numbers

-- the value of such a row
abbrev pub past_value : ViewRows → Place → List ℕ
past_value past place = option_map_or numbers_bytes (get past place) []

-- entries with the values of such rows
abbrev pub past_entries : ViewRows → ℕ → List Entry → List Entry
past_entries past n es = map (λ e. (e.0, past_value past (n, e.0))) es

-- each entry of the view is that of a group, and was so with its value then
pub record WasGroupRow (state : State) (maps : ℕ → Map) (n : ℕ) (kinds : List Kind) (past : ViewRows) (key : List ℕ) : Type 0 where
  pub many : ℕ
  pub pays : Pays
  pub kept : AreKept state maps (n, key) (suc many) pays
  pub was : IsGroupRow kinds key (past_value past (n, key))
  pub there : get past (n, key) ≡ None → ⊥

pub record CanShowAt (number : ℕ) (versions : DeltaVersions) (state : State) (maps : ℕ → Map) (n : ℕ) (kinds : List Kind) (past : ViewRows) : Type 0 where
  pub were : WereViewRows number versions state maps n past
  pub each : (key value : List ℕ) → get (maps n) key ≡ Some value → WasGroupRow state maps n kinds past key

-- the store has some contents that can be read, of which the number is that of a view, and its rows then were some rows of views
pub record CanPeekView (number : ℕ) (versions : DeltaVersions) (definitions : Definitions) (maps : ℕ → Map) (state : State) (n : ℕ) : Type 0 where
  pub contents : Contents
  pub readable : CanBeRead definitions maps state contents
  pub of : ViewTree
  pub is_view : numbered contents.objects n ≡ Some (view of)
  pub past : ViewRows
  pub were : WereViewRows number versions state maps n past
  pub stored : AreStored contents.objects past
