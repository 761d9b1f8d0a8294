-- No clause of `run` rests on this module: it serves contracts between crates.
--
-- What a session's transaction has kept last.
use Rattle.std.specs.Prelude.{◌≡◌, ◌⊎◌, ℕ, ◌+◌, ◌-◌, List, ◌∷◌, Option, Some}
use Rattle.std.specs.FinMap.{get}
use mathlib.Core.Logic.{inl, inr}
use Rattle.iv_types.specs.Maps.{Map, IsWithin, used}
use Rattle.iv_types.specs.declared.catalog.TableDef.{TableDef}
use Rattle.iv_types.specs.declared.lock.GroupDelta.{GroupDelta}
use Rattle.iv_types.specs.declared.lock.KeptStep.{KeptStep as Step}
use Rattle.iv_types.specs.declared.lock.KeptStep.TheVariants as step
use Rattle.iv_meaning.specs.Schema.{Schema, table, numbered}
use Rattle.ghost_rows.specs.Kept.{width}
use Rattle.ghost_rows.specs.State.{CanStore}
use Rattle.txn_machine.specs.Deltas.{RowChange, place_of}
use Rattle.txn_machine.specs.Keeping.{KeptStep, Put, Pay}
use Rattle.txn_machine.specs.KeptLaws.{IsDelta}
use Rattle.txn_machine.specs.Log.{perhaps_entries}
use Rattle.txn_machine.specs.May.{IsOpen, FitsUnder}
use Rattle.txn_machine.specs.Store.{Store, now, schema_of}

-- a pay, before these steps
pub record KeepsPay (s : Store) (session : ℕ) : Type 0 where
  pub is_open : IsOpen s session
  pub latest : GroupDelta
  pub earlier : List KeptStep
  pub kept_is : (now s session).kept ≡ Pay latest ∷ earlier
  pub delta : IsDelta (schema_of s) latest

-- a change, before these steps: its row after is the one that is there, and its row before fits its table under its key
pub record KeepsPut (s : Store) (session : ℕ) : Type 0 where
  pub is_open : IsOpen s session
  pub change : RowChange
  pub owed : List GroupDelta
  pub earlier : List KeptStep
  pub kept_is : (now s session).kept ≡ Put change owed ∷ earlier
  pub there : get s.rows change.key ≡ change.after
  pub before : (of : TableDef) → numbered (schema_of s) change.key.0 ≡ Some (table of) → FitsUnder of change.key.1 change.before

-- one of both
abbrev pub KeepsOne : Store → ℕ → Type 0
KeepsOne s session = KeepsPay s session ⊎ KeepsPut s session

-- the entries with a change's row before in place of the row after are within the limit
abbrev pub FitsBack : (ℕ → Map) → Option ℕ → Schema → RowChange → Type 0
FitsBack maps limit objects c = IsWithin limit (used maps + perhaps_entries objects c.key c.before - perhaps_entries objects c.key c.after)

-- there is room for what taking it back puts in: a row of numbers where it is a pay, and the entries of the row before where it is a change
abbrev pub CanGoBack : (ℕ → Map) → Option ℕ → (s : Store) (session : ℕ) → KeepsOne s session → Type 0
CanGoBack maps limit s session (inl o) = CanStore maps limit (place_of o.latest) (width o.latest)
CanGoBack maps limit s session (inr o) = FitsBack maps limit (schema_of s) o.change

-- a kept step of the book is a pay
abbrev pub IsPay : Step → Type 0
IsPay (step.Put k txn_bytes history_bytes number) = ⊥
IsPay (step.Pay d before number) = Unit {0}
