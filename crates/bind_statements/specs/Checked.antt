-- No clause of `run` rests on this module: it serves contracts between crates.
--
-- Tests of resolved statements as they are made, part by part.
use Rattle.std.specs.Prelude.{ℕ, ◌+◌, nat_lt, not, is_some, length, List, [], ◌∷◌, Result}
use Rattle.std.specs.List.{filter_map, list_all, list_any}
use Rattle.iv_types.specs.declared.statement.ColumnDef.{ColumnDef}
use Rattle.iv_types.specs.declared.statement.Order.{Order}
use Rattle.iv_types.specs.declared.refusal.Refusal.{Refusal}
use Rattle.iv_types.specs.declared.refusal.Refusal.TheVariants.{Limit, WrongType}
use Rattle.iv_types.specs.declared.limit.Limit.TheVariants.{Columns, DefinitionBytes, KeyWidth, Readers, Sums, Views}
use Rattle.iv_types.specs.declared.limit.ShapeRule.TheVariants.{NoItem}
use Rattle.iv_types.specs.Limits.{most_of}
use Rattle.iv_meaning.specs.Schema.{Schema, Object, as_view, kind_at}
use Rattle.iv_meaning.specs.Shape.{key_width, object_number, readers, sums_in, width}
use Rattle.iv_meaning.specs.Types.{kinds_seen, sources_of, query_typed, well_typed}
use Rattle.iv_meaning.specs.Resolving as meant
use Rattle.iv_meaning.specs.Resolving.{Resolved, table, index, and_then}
use Rattle.iv_meaning.specs.Binding.{passed, refuse_if}
use Rattle.iv_meaning.specs.Tests.{Test, at_most, index_test, item_named, query_rules, rule, tests, view_rules}

-- ---- CREATE

-- those of a resolved statement of so many bytes as it is printed
abbrev pub every_test : Schema → ℕ → Resolved → List Test
every_test objects size statement = (not (well_typed objects statement), WrongType) ∷ tests objects size statement

-- whatever the new names are
abbrev pub table_tests : Schema → ℕ → List ColumnDef → List ℕ → List Test
table_tests objects size columns primary = every_test objects size (table [] columns primary)

abbrev pub index_tests : Schema → ℕ → Object → List ℕ → List Test
index_tests objects size target columns = every_test objects size (index [] target columns)

abbrev pub view_limits : Schema → ℕ → meant.ResolvedQuery → List Test
view_limits objects size query =
    at_most Columns (length query.group)
    ∷ at_most Views (length (filter_map as_view objects) + 1)
    ∷ (list_any (λ o. nat_lt (most_of Readers) (readers objects (object_number o) + 1)) (sources_of query), Limit Readers)
    ∷ at_most KeyWidth (width key_width (filter_map (kind_at (kinds_seen objects query)) query.group))
    ∷ at_most Sums (sums_in query.items)
    ∷ at_most DefinitionBytes size
    ∷ []

-- a view, by its types and four lists of tests
abbrev pub view_chain : Schema → ℕ → meant.ResolvedQuery → Result (Unit {0}) Refusal
view_chain objects size query =
    and_then (refuse_if (not (query_typed objects query), WrongType)) (λ typed.
    and_then (passed (query_rules query)) (λ shaped.
    and_then (passed (view_rules query)) (λ listed.
    and_then (passed (view_limits objects size query)) (λ limited. passed (index_test objects query)))))

abbrev pub select_chain : Schema → meant.ResolvedQuery → List Order → Result (Unit {0}) Refusal
select_chain objects query order =
    and_then (refuse_if (not (query_typed objects query), WrongType)) (λ typed.
    and_then (passed (query_rules query)) (λ shaped.
    passed (rule NoItem (not (list_all (λ o. is_some (item_named query.items o.by)) order)) ∷ at_most Columns (length query.group) ∷ [])))
