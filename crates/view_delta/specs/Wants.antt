-- No clause of `run` rests on this module: it serves contracts between crates.
--
-- The locks that a change asks for, part by part.
use Rattle.std.specs.Prelude.{List, map}
use Rattle.iv_types.specs.declared.lock.LockMode.TheVariants.{Share}
use Rattle.iv_types.specs.declared.lock.Want.{Want}
use Rattle.iv_types.specs.declared.catalog.TableDef.{TableDef}
use Rattle.iv_types.specs.declared.catalog.Second.{Second}
use Rattle.iv_types.specs.Intervals.{point}
use Rattle.iv_meaning.specs.Schema.{Schema, indexes_of}
use Rattle.iv_meaning.specs.Database.{Row}
use Rattle.iv_meaning.specs.View.{index_key}
use Rattle.table_store.specs.Stored.{key_at}
use Rattle.txn_machine.specs.Deltas.{exclusive_point}

-- the row of the second table with which a row of the first is combined
abbrev pub joined_want : TableDef → Second → Row → Want
joined_want first second row = record { index = second.table; interval = point (key_at first second.joined row); mode = Share }

-- a row's entries in those of them that are indexes of its table
abbrev pub index_wants : Schema → TableDef → Row → List Want
index_wants objects t row = map (λ i. exclusive_point i.number (index_key t i row)) (indexes_of objects t.number)
