-- How a statement is bound: pass 1 resolves it, and of the tests of the later passes the first that fails refuses it.
use Rattle.std.specs.Prelude.{ℕ, ◌+◌, not, List, [], ◌∷◌, ◌++◌, map, length, Option, Some, None, Result, Ok, Err, if◌then◌else◌}
use Rattle.std.specs.List.{filter_map}
use Rattle.std.specs.Option.{option_map, option_to_list, unwrap_or}
use Rattle.iv_types.specs.declared.refusal.Refusal.{Refusal}
use Rattle.iv_types.specs.declared.refusal.Refusal.TheVariants.{WrongType}
use Rattle.iv_types.specs.declared.statement.Order.{Order}
use Rattle.iv_types.specs.declared.catalog.TableDef.{TableDef}
use Rattle.iv_types.specs.declared.catalog.Second.{Second}
use Rattle.iv_types.specs.declared.expression.ColumnAt.{ColumnAt}
use Rattle.iv_types.specs.Syntax.{StatementTree}
use Rattle.iv_types.specs.Printing.{statement_size}
use Rattle.iv_meaning.specs.Schema as schema
use Rattle.iv_meaning.specs.Schema.{Schema, Object, as_table}
use Rattle.iv_meaning.specs.Shape.{object_number}
use Rattle.iv_meaning.specs.Query.{BoundItem, sum, BoundQuery}
use Rattle.iv_meaning.specs.Statement as bound
use Rattle.iv_meaning.specs.Statement.{BoundTree}
use Rattle.iv_meaning.specs.Resolving.{ResolvedQuery, Resolved, table, index, view, insert, update, delete, select, control, resolved, and_then, names_in}
use Rattle.iv_meaning.specs.Types.{well_typed, sources_of}
use Rattle.iv_meaning.specs.Tests.{Test, tests, ordered, join_index, second_of}

abbrev pub summed : BoundItem → Option ColumnAt
summed (sum place) = Some place
summed _ = None

-- the second table of a view as it is kept
abbrev pub second_kept : Schema → TableDef → TableDef × List ℕ → Second
second_kept objects first second = record { table = second.0.number; joined = second.1; index = unwrap_or (join_index objects first second.1) 0 }

-- what a query of one table or two makes as a view
abbrev pub made_view : Schema → List ℕ → ResolvedQuery → TableDef → Object
made_view objects name query first = schema.view (record {
  number = length objects + 1;
  name = name;
  names = names_in query.items;
  first = first.number;
  second = option_map (second_kept objects first) (second_of query);
  condition = query.condition;
  group = query.group;
  sums = filter_map (λ i. summed i.item) query.items;
})

abbrev pub bound_query : ResolvedQuery → List Order → BoundQuery
bound_query query order = record {
  relations = map object_number (sources_of query);
  conditions = map (λ j. j.on) query.joins ++ option_to_list query.condition;
  items = map (λ i. i.item) query.items;
  group = query.group;
  order = filter_map (ordered query.items) order;
}

abbrev pub bound_of : Schema → Resolved → BoundTree
bound_of objects (table name columns primary) =
    bound.create (schema.table (record { number = length objects + 1; name = name; columns = columns; primary = primary }))
bound_of objects (index name target columns) =
    bound.create (schema.index (record { number = length objects + 1; name = name; table = object_number target; columns = columns }))
bound_of objects (view name query) = elim (as_table query.first) [ None ↦ bound.control | Some first ↦ bound.create (made_view objects name query first) ]
bound_of objects (insert target tuples) = bound.insert (object_number target) tuples
bound_of objects (update target sets condition) = bound.update (object_number target) sets condition
bound_of objects (delete target condition) = bound.delete (object_number target) condition
bound_of objects (select query order) = bound.select (bound_query query order)
bound_of objects control = bound.control

abbrev pub refuse_if : Test → Result (Unit {0}) Refusal
refuse_if t = if t.0 then Err t.1 else Ok tt

-- the first test that fails refuses
abbrev pub passing : {A : Type 0} → List Test → A → Result A Refusal
passing [] a = Ok a
passing (t ∷ ts) a = and_then (refuse_if t) (λ u. passing ts a)

abbrev pub passed : List Test → Result (Unit {0}) Refusal
passed ts = passing ts tt

abbrev pub checked : Schema → ℕ → Resolved → Result BoundTree Refusal
checked objects size statement = passing ((not (well_typed objects statement), WrongType) ∷ tests objects size statement) (bound_of objects statement)

abbrev pub bind : Schema → StatementTree → Result BoundTree Refusal
bind objects statement = and_then (resolved objects statement) (checked objects (statement_size statement))
