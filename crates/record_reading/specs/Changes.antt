-- No clause of `run` rests on this module: it serves contracts between crates.
--
-- Changes of rows, as records say them in bytes.
use Rattle.std.specs.Prelude.{◌≡◌, ℕ, List, Option}
use Rattle.std.specs.Option.{option_map}
use Rattle.iv_types.specs.declared.catalog.TableDef.{TableDef}
use Rattle.iv_types.specs.Encoding.{kinds_of, row_bytes}
use Rattle.table_laws.specs.Place.{Place}
use Rattle.iv_meaning.specs.Schema.{Schema}
use Rattle.iv_meaning.specs.Database.{Row}
use Rattle.txn_machine.specs.Deltas.{RowChange}
use Rattle.txn_machine.specs.May.{FitsUnder}
use Rattle.txn_log.specs.Fitting.{IsKeyOf}
use Rattle.log_disk.specs.Spelled.{row_in}
use Rattle.record_reading.specs.declared.fault.ReadFault.{ReadFault}
use Rattle.record_reading.specs.declared.fault.ReadFault.TheVariants.{Misfit, NoMemory}

-- there is none, unless memory ran out
abbrev pub Refuses : Type 0 → ReadFault → Type 0
Refuses There Misfit = There → ⊥
Refuses There NoMemory = Unit {0}

-- the row of these bytes, which stands under this key of the table, and no row where there are no bytes
abbrev pub IsRowOf : TableDef → List ℕ → Option (List ℕ) → Option Row → Type 0
IsRowOf t key bytes row = FitsUnder t key row × (bytes ≡ option_map (row_bytes (kinds_of t)) row)

-- the change of the row at this place from the row of these bytes to the row of those
pub record IsChangeIn (t : TableDef) (place : Place) (before after : Option (List ℕ)) (c : RowChange) : Type 0 where
  pub place_is : c.key ≡ place
  pub key : IsKeyOf t place.1
  pub was : IsRowOf t place.1 before c.before
  pub becomes : IsRowOf t place.1 after c.after

-- the change is of the row at this place, and its rows have these bytes beside these definitions
pub record HasBytes (objects : Schema) (place : Place) (before after : Option (List ℕ)) (c : RowChange) : Type 0 where
  pub place_is : c.key ≡ place
  pub was : before ≡ row_in objects place c.before
  pub becomes : after ≡ row_in objects place c.after
