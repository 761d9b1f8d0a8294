-- No clause of `run` rests on this module: it serves contracts between crates.
--
-- What an open transaction keeps and owes: changes of rows, and deltas that it paid to view rows.
use Rattle.std.specs.Prelude.{◌≡◌, ℕ, ℤ, List, [], ◌∷◌, Bool, false, if◌then◌else◌}
use Rattle.iv_types.specs.declared.statement.Mode.{Mode}
use Rattle.iv_types.specs.declared.statement.Mode.TheVariants.{Serial}
use Rattle.iv_types.specs.declared.lock.GroupDelta.{GroupDelta}
use Rattle.iv_types.specs.declared.lock.Want.{Want}
use Rattle.iv_types.specs.declared.value.Interval.{Interval}
use Rattle.table_laws.specs.Place.{Place}
use Rattle.iv_meaning.specs.Database.{Row}
use Rattle.txn_machine.specs.Deltas.{RowChange, worth, is_for}

-- a step that can be taken back
pub data KeptStep : Type 0 where
  -- a change of a row, and the deltas that it owed
  Put : RowChange → List GroupDelta → KeptStep
  -- a delta that was added to its view row
  Pay : GroupDelta → KeptStep

-- of kept steps, of which the latest stands first, the changes of rows
abbrev pub changes_of : List KeptStep → List RowChange
changes_of [] = []
changes_of (Put c ds ∷ ks) = c ∷ changes_of ks
changes_of (Pay d ∷ ks) = changes_of ks

-- and the increments of a column of a view row
abbrev pub increments : Place → ℕ → List KeptStep → List ℤ
increments place column [] = []
increments place column (Put c ds ∷ ks) = increments place column ks
increments place column (Pay d ∷ ks) = if is_for place d then worth column d ∷ increments place column ks else increments place column ks

-- The pays since the latest change, and then what is owed, are the deltas of that change in their order; all that earlier
-- changes owed is paid.
abbrev pub IsSettled : List KeptStep → List GroupDelta → Type 0
IsSettled [] owed = owed ≡ []
IsSettled (Pay d ∷ ks) owed = IsSettled ks (d ∷ owed)
IsSettled (Put c ds ∷ ks) owed = (owed ≡ ds) × IsSettled ks []

-- what a Fetch was answered, and how many kept steps there were then
pub record Note : Type 0 where
  pub index : ℕ
  pub interval : Interval
  pub rows : List Row
  pub kept : ℕ

-- an open transaction
pub record Open : Type 0 where
  pub mode : Mode
  -- the greatest commit number as it began
  pub number : ℕ
  pub locks : List Want
  -- the latest first
  pub notes : List Note
  -- the latest first
  pub kept : List KeptStep
  -- the next one to be paid first
  pub owed : List GroupDelta
  -- how many of the first owed ones are coming back by undo
  pub back : ℕ
  -- a deadlock met it, so that it can only be taken back
  pub is_lost : Bool

abbrev pub begun : Mode → ℕ → Open
begun mode number = record { mode = mode; number = number; locks = []; notes = []; kept = []; owed = []; back = 0; is_lost = false }

-- what stands for a transaction where none is open
abbrev pub idle : Open
idle = begun Serial 0
