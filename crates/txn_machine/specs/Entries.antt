-- No clause of `run` rests on this module: it serves contracts between crates.
--
-- Which rows an index has in an interval of its keys, and what two tables have in common there.
use Rattle.std.specs.Prelude.{◌≡◌, ℕ, ◌==◌, List, Option, Some, None, if◌then◌else◌}
use Rattle.std.specs.Option.{option_map, option_and_then}
use Rattle.std.specs.List.{Contains, flat_map}
use Rattle.std.specs.FinMap.{get}
use Rattle.iv_types.specs.declared.lock.Want.{Want}
use Rattle.iv_types.specs.Intervals.{LiesIn}
use Rattle.table_laws.specs.Place.{Place}
use Rattle.iv_meaning.specs.Schema.{Schema, Object, index, numbered, as_table}
use Rattle.iv_meaning.specs.Database.{Row, Rows}
use Rattle.iv_meaning.specs.View.{index_key}
use Rattle.txn_machine.specs.Deltas.{RowChange, look_ups, views_of}

abbrev pub secondary_key : Schema → Option Object → Place → Row → Option (List ℕ)
secondary_key objects (Some (index i)) place row = if i.table == place.0 then option_map (λ t. index_key t i row) (option_and_then as_table (numbered objects place.0)) else None
secondary_key objects _ place row = None

-- the key under which an index has a row, if it is an index of the row's table
unfoldable pub entry_key : Schema → ℕ → Place → Row → Option (List ℕ)
entry_key objects number place row = if number == place.0 then Some place.1 else secondary_key objects (numbered objects number) place row

-- an index has the same rows under the key in both
pub record AgreeAt (objects : Schema) (number : ℕ) (key : List ℕ) (one other : Rows) : Type 0 where
  pub there : (place : Place) (row : Row) → entry_key objects number place row ≡ Some key → get one place ≡ Some row → get other place ≡ Some row
  pub back : (place : Place) (row : Row) → entry_key objects number place row ≡ Some key → get other place ≡ Some row → get one place ≡ Some row

-- the row, if there is one, has this entry
abbrev pub HasEntry : Schema → ℕ → List ℕ → Place → Option Row → Type 0
HasEntry objects number key place None = ⊥
HasEntry objects number key place (Some row) = entry_key objects number place row ≡ Some key

-- what has to be looked up to know what a change owes covers this key
pub record NeedsAt (objects : Schema) (c : RowChange) (number : ℕ) (key : List ℕ) : Type 0 where
  pub want : Want
  pub wanted : Contains (flat_map (look_ups objects c) (views_of objects)) want
  pub index_is : want.index ≡ number
  pub covers : LiesIn key want.interval
