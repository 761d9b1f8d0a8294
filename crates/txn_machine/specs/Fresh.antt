-- No clause of `run` rests on this module: it serves contracts between crates.
--
-- Views evaluated afresh, group by group: what all combinations of a view's query add up to.
use Rattle.std.specs.Prelude.{ℕ, ℤ, List, [], map, filter}
use Rattle.std.specs.List.{flat_map}
use Rattle.iv_types.specs.declared.lock.GroupDelta.{GroupDelta}
use Rattle.table_laws.specs.Place.{Place}
use Rattle.iv_meaning.specs.Schema.{Schema, Object, view, ViewTree, sources_of}
use Rattle.iv_meaning.specs.Database.{Rows, rows_of}
use Rattle.iv_meaning.specs.Query.{combinations}
use Rattle.txn_machine.specs.Deltas.{contribution, is_counted, views_of, due}

-- what each combination of a view adds to its group
abbrev pub all_contributions : Schema → Rows → ViewTree → List GroupDelta
all_contributions objects rows v = map (contribution objects v) (filter (is_counted objects v) (combinations (map (rows_of rows) (sources_of v))))

-- a column of the row of a view and an encoded group, 0 where the group has no combination
abbrev pub fresh : Schema → Rows → Place → ℕ → ℤ
fresh objects rows place column = due place column (flat_map (all_contributions objects rows) (views_of objects))

-- what the stored rows of a new object are made of
abbrev pub made_of : Schema → Rows → Object → List GroupDelta
made_of objects rows (view v) = all_contributions objects rows v
made_of objects rows _ = []
