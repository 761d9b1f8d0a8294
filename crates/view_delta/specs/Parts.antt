-- No clause of `run` rests on this module: it serves contracts between crates.
--
-- What a change owes to a view, by the rows that are looked up for it.
use Rattle.std.specs.Prelude.{ℕ, pos, ◌==◌, List, [], ◌∷◌, map, filter, take, Option, if◌then◌else◌}
use Rattle.std.specs.List.{AllByRecursion, flat_map}
use Rattle.std.specs.Option.{option_to_list, option_map_or}
use Rattle.iv_types.specs.declared.value.Kind.{Kind}
use Rattle.iv_types.specs.declared.lock.GroupDelta.{GroupDelta}
use Rattle.iv_types.specs.declared.lock.Want.{Want}
use Rattle.iv_types.specs.Encoding.{FitAll, key_bytes}
use Rattle.iv_meaning.specs.Schema.{Schema, ViewTree, numbered, kinds_of_table, sources_of}
use Rattle.iv_meaning.specs.Database.{Row, Rows}
use Rattle.iv_meaning.specs.Values.{value_at}
use Rattle.iv_meaning.specs.Query.{Combination, values_at}
use Rattle.iv_meaning.specs.Grouping.{number_in}
use Rattle.iv_meaning.specs.View.{read}
use Rattle.txn_machine.specs.Deltas.{RowChange, contribution, is_counted, exchanged, look_ups}

-- one row of each of some tables, which fits it
abbrev pub FitEach : Schema → List ℕ → List Row → Type 0
FitEach objects [] [] = Unit {0}
FitEach objects (n ∷ ns) (row ∷ rows) = FitAll (kinds_of_table (numbered objects n)) row × FitEach objects ns rows
FitEach objects _ _ = ⊥

-- one row of each table of a view
abbrev pub FitTables : Schema → ViewTree → Combination → Type 0
FitTables objects v rows = FitEach objects (sources_of v) rows

-- what rows add to their group, where these are the kinds of its columns
abbrev pub contribution_by : List Kind → ViewTree → Combination → GroupDelta
contribution_by kinds v c = record {
  view = v.number;
  group = key_bytes kinds (values_at v.group c);
  count = pos 1;
  sums = map (λ column. number_in (value_at c column)) v.sums;
}

-- what rows contribute, if the view counts them
abbrev pub contributed : Schema → ViewTree → Combination → List GroupDelta
contributed objects v c = map (contribution objects v) (filter (is_counted objects v) (c ∷ []))

-- what a row of the first table contributes with the first of some rows of the second with which it is counted
abbrev pub first_contributed : Schema → ViewTree → Row → List Row → List GroupDelta
first_contributed objects v row others = take 1 (flat_map (λ other. contributed objects v (row ∷ other ∷ [])) others)

-- what it contributes with a row of the second, if there is one
abbrev pub with_second : Schema → ViewTree → Row → Option Row → List GroupDelta
with_second objects v row other = flat_map (λ s. contributed objects v (row ∷ s ∷ [])) (option_to_list other)

-- what a change of a row of the second table owes for a row of the first
abbrev pub owed_for : Schema → ViewTree → Option Row → Option Row → Row → List GroupDelta
owed_for objects v before after row = exchanged (with_second objects v row before) (with_second objects v row after)

-- what an option of a row of the first table contributes with rows of the second
abbrev pub of_first : Schema → ViewTree → Option Row → List Row → List GroupDelta
of_first objects v row others = flat_map (λ r. first_contributed objects v r others) (option_to_list row)

-- the rows that a look-up reads
abbrev pub one_read : Schema → Rows → Want → List Row
one_read objects rows w = read (record { number = 0; schema = objects; rows = rows }) w.index w.interval

-- those that some look-ups read, one after the other
abbrev pub rows_read : Schema → Rows → List Want → List Row
rows_read objects rows wants = flat_map (one_read objects rows) wants

-- those that the look-ups of a change read
abbrev pub looked_up : Schema → Rows → RowChange → ViewTree → List Row
looked_up objects rows c v = rows_read objects rows (look_ups objects c v)

-- the table whose rows are looked up for a change of a table
abbrev pub other_table : ViewTree → ℕ → ℕ
other_table v table = option_map_or (λ second. if table == v.first then second.table else v.first) v.second v.first

-- these rows fit that table
abbrev pub FitOther : Schema → ViewTree → ℕ → List Row → Type 0
FitOther objects v table rows = AllByRecursion (FitAll (kinds_of_table (numbered objects (other_table v table)))) rows
