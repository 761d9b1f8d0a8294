-- No clause of `run` rests on this module: it serves contracts between crates.
--
-- A delta added to the row of its group, or taken back.
use Rattle.std.specs.Prelude.{◌≡◌, ℕ, suc, ℤ, Bool, List, length, None, IsSome, if◌then◌else◌}
use Rattle.std.specs.FinMap.{get}
use Rattle.std.specs.List.{AllByRecursion}
use Rattle.iv_types.specs.Maps.{Map}
use Rattle.iv_types.specs.Definitions.{Definitions}
use Rattle.iv_types.specs.Encoding.{IsHuge}
use Rattle.iv_types.specs.declared.lock.GroupDelta.{GroupDelta}
use Rattle.table_laws.specs.Place.{Place}
use Rattle.iv_meaning.specs.Objects.{schema_of}
use Rattle.txn_machine.specs.Deltas.{negated, place_of}
use Rattle.txn_machine.specs.Stored.{ViewRows, add_to}
use Rattle.txn_log.specs.Fitting.{IsGroup, InRange}
use Rattle.ghost_rows.specs.State.{State}
use Rattle.data_store.specs.Contents.{Contents}
use Rattle.group_replay.specs.Closed.{IsClosed}
use Rattle.group_replay.specs.declared.adding.AddedDelta.{AddedDelta}
use Rattle.group_replay.specs.declared.adding.AddedDelta.TheVariants.{Added, NoRow, OutOfRange}

-- the delta, or the one that takes it back
abbrev pub amount : GroupDelta → Bool → GroupDelta
amount d back = if back then negated d else d

-- what is answered of a delta beside these rows: whether its row is stored, and whether the numbers of that stay in range
abbrev pub Tells : ViewRows → GroupDelta → AddedDelta → Type 0
Tells view d Added = IsSome (get view (place_of d)) × InRange (add_to view d) (place_of d)
Tells view d NoRow = get view (place_of d) ≡ None
Tells view d OutOfRange = IsSome (get view (place_of d)) × (InRange (add_to view d) (place_of d) → ⊥)

-- the store has these contents, and at the place of a group a row, which these numbers can replace
pub record CanReplace (definitions : Definitions) (maps : ℕ → Map) (state : State) (place : Place) (numbers : List ℤ) (c : Contents) : Type 0 where
  pub closed : IsClosed definitions maps state c
  pub group : IsGroup (schema_of definitions) place
  pub width : length numbers ≡ suc (length group.of.sums)
  pub in_range : AllByRecursion IsHuge numbers
  pub there : IsSome (get c.view place)
