-- No clause of `run` rests on this module: it serves contracts between crates.
--
-- What a change of one row owes to the views: deltas, each of one combination of a view's query.
use Rattle.std.specs.Prelude.{ℕ, ℤ, pos, neg_ℤ, Bool, true, false, ◌&&◌, ◌==◌, List, [], ◌∷◌, ◌++◌, map, filter, get_or, Option, Some, None, if◌then◌else◌}
use Rattle.std.specs.List.{flat_map, filter_map}
use Rattle.std.specs.Option.{option_map_or, option_to_list}
use Rattle.std.specs.FinMap.{get, entries}
use Rattle.std.specs.Ordering.{int_cmp, is_eq}
use Rattle.std.specs.Cmp.Lexicographic.{slice_cmp}
use Rattle.std.specs.Str.{bytes_eq}
use Rattle.iv_types.specs.declared.lock.GroupDelta.{GroupDelta}
use Rattle.iv_types.specs.declared.lock.LockMode.TheVariants.{Share, Exclusive}
use Rattle.iv_types.specs.declared.lock.Want.{Want}
use Rattle.iv_types.specs.declared.catalog.TableDef.{TableDef}
use Rattle.iv_types.specs.declared.catalog.Second.{Second}
use Rattle.iv_types.specs.Encoding.{key_bytes}
use Rattle.iv_types.specs.Intervals.{point, prefix_interval}
use Rattle.table_laws.specs.Place.{Place}
use Rattle.table_laws.specs.Table.{write, rows_where, Change}
use Rattle.iv_meaning.specs.Schema.{Schema, table, numbered, ViewTree, as_view, indexes_of, items_at, key_kinds, group_kinds}
use Rattle.iv_meaning.specs.Database.{Row, Rows, rows_of}
use Rattle.iv_meaning.specs.Values.{is_true, value_at}
use Rattle.iv_meaning.specs.Query.{Combination, combinations, conjunction, values_at}
use Rattle.iv_meaning.specs.Grouping.{number_in, sum_by}
use Rattle.iv_meaning.specs.View.{conditions_of, index_key}

abbrev pub RowChange : Type 0
RowChange = Change Place Row

-- the rows after a change
abbrev pub rows_after : RowChange → Rows → Rows
rows_after c rows = write rows c.key c.after

-- ---- contributions

-- what a combination adds to its group
abbrev pub contribution : Schema → ViewTree → Combination → GroupDelta
contribution objects v c = record {
  view = v.number;
  group = key_bytes (group_kinds objects v) (values_at v.group c);
  count = pos 1;
  sums = map (λ column. number_in (value_at c column)) v.sums;
}

-- the view's conditions are true of it
abbrev pub is_counted : Schema → ViewTree → Combination → Bool
is_counted objects v c = is_true (conjunction (conditions_of objects v) c)

-- the rows with which a row of the first table is combined
abbrev pub other_rows : Rows → ViewTree → List (List Row)
other_rows rows v = option_map_or (λ second. rows_of rows second.table ∷ []) v.second []

-- What the row of the first table at a place adds. A view of two tables joins by the primary key of the second, so that a
-- row is in one combination at most.
abbrev pub contributions : Schema → ViewTree → Rows → Option Row → List GroupDelta
contributions objects v rows None = []
contributions objects v rows (Some row) =
    map (contribution objects v) (filter (is_counted objects v) (map (λ rest. row ∷ rest) (combinations (other_rows rows v))))

-- ---- deltas

abbrev pub negated : GroupDelta → GroupDelta
negated d = record d { count = neg_ℤ d.count; sums = map neg_ℤ d.sums }

-- contributions to one view are equal: they have the same groups and sums
abbrev pub are_equal : List GroupDelta → List GroupDelta → Bool
are_equal [] [] = true
are_equal (a ∷ as_) (b ∷ bs) = bytes_eq a.group b.group && is_eq (slice_cmp int_cmp a.sums b.sums) && are_equal as_ bs
are_equal _ _ = false

-- the old ones negated and then the new ones; none where they are equal
abbrev pub exchanged : List GroupDelta → List GroupDelta → List GroupDelta
exchanged old new = if are_equal old new then [] else map negated old ++ new

-- the places of a table that have a row before the change or after it, in order
abbrev pub places_around : ℕ → RowChange → Rows → List Place
places_around number c rows =
    map (λ e. e.0) (rows_where (λ place row. place.0 == number) (entries (elim c.after [ None ↦ rows | Some row ↦ rows_after c rows ])))

-- what a change owes to a view: row by row of its first table, in the order of their keys
abbrev pub owed_to : Schema → Rows → RowChange → ViewTree → List GroupDelta
owed_to objects rows c v =
    let after : Rows = rows_after c rows in
    flat_map (λ place. exchanged (contributions objects v rows (get rows place)) (contributions objects v after (get after place))) (places_around v.first c rows)

abbrev pub views_of : Schema → List ViewTree
views_of objects = filter_map as_view objects

-- what a change owes: to view after view, in the order in which they were made
abbrev pub owed : Schema → Rows → RowChange → List GroupDelta
owed objects rows c = flat_map (owed_to objects rows c) (views_of objects)

-- ---- what deltas add up to

-- the count is column 0, and the sums are those behind it
abbrev pub columns_of : GroupDelta → List ℤ
columns_of d = d.count ∷ d.sums

abbrev pub worth : ℕ → GroupDelta → ℤ
worth column d = get_or (columns_of d) column (pos 0)

-- where the row of a delta's group is stored
abbrev pub place_of : GroupDelta → Place
place_of d = (d.view, d.group)

abbrev pub is_for : Place → GroupDelta → Bool
is_for place d = (d.view == place.0) && bytes_eq d.group place.1

-- what some deltas add to a column of a group
abbrev pub due : Place → ℕ → List GroupDelta → ℤ
due place column ds = sum_by (λ d. if is_for place d then worth column d else pos 0) ds

-- ---- what a change locks

abbrev pub exclusive_point : ℕ → List ℕ → Want
exclusive_point index key = record { index = index; interval = point key; mode = Exclusive }

-- a row's entry in each index of its table
abbrev pub entry_wants : Schema → TableDef → List ℕ → Row → List Want
entry_wants objects t key row =
    exclusive_point t.number key ∷ map (λ i. exclusive_point i.number (index_key t i row)) (indexes_of objects t.number)

-- the row of the second table with which a row of the first is combined
abbrev pub look_up_second : Schema → Second → Row → List Want
look_up_second objects second row = elim (numbered objects second.table) [
  | Some (table t) ↦ record { index = second.table; interval = point (key_bytes (key_kinds t) (items_at row second.joined)); mode = Share } ∷ []
  | _ ↦ []
]

-- the rows of the first table that are combined with a row of the second: their entries in the view's index begin with its key
abbrev pub look_up_first : Schema → Second → List ℕ → List Want
look_up_first objects second key = record { index = second.index; interval = prefix_interval key; mode = Share } ∷ []

-- what has to be looked up to know what the change owes to a view
abbrev pub look_ups : Schema → RowChange → ViewTree → List Want
look_ups objects c v = elim v.second [
  | None ↦ []
  | Some second ↦
      if c.key.0 == v.first then flat_map (look_up_second objects second) (option_to_list c.before ++ option_to_list c.after)
      else if c.key.0 == second.table then look_up_first objects second c.key.1
      else []
]

-- the locks of a change: its entries and what it looks up
abbrev pub wants_of : Schema → TableDef → RowChange → List Want
wants_of objects t c =
    flat_map (entry_wants objects t c.key.1) (option_to_list c.before ++ option_to_list c.after)
    ++ flat_map (look_ups objects c) (views_of objects)
