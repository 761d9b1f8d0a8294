-- No clause of `run` rests on this module: it serves contracts between crates.
--
-- Items and relations one after another, each behind the names of those before it.
use Rattle.std.specs.Prelude.{ℕ, List, [], ◌∷◌, ◌++◌, Bool, IsTrue, Option, Result, Ok, if◌then◌else◌}
use Rattle.iv_types.specs.declared.refusal.Refusal.{Refusal}
use Rattle.iv_types.specs.declared.expression.ColumnAt.{ColumnAt}
use Rattle.iv_types.specs.Syntax.{ItemTree, JoinTree, QueryTree, Tree}
use Rattle.iv_meaning.specs.Schema.{Schema}
use Rattle.iv_meaning.specs.Resolving.{NamedItem, Scope, Joined, ResolvedQuery, and_then, called, column_of, each, expression, fresh, items_for, items_resolved, joins_resolved, known, names_in, perhaps}
use Rattle.bind_resolve.specs.Seen.{Alike}

-- what an item stands for, if its names are new in a view
abbrev pub next_items : Bool → Scope → List (List ℕ) → ItemTree → Result (List NamedItem) Refusal
next_items view scope others item = and_then (items_for scope item) (λ some. and_then (if view then fresh others (names_in some) else Ok tt) (λ new. Ok some))

abbrev pub next_join : Schema → Scope → List (List ℕ) → JoinTree → Result Joined Refusal
next_join objects scope others join =
    and_then (known objects join.relation.name) (λ object.
    and_then (fresh others (called join.relation ∷ [])) (λ new.
    and_then (expression scope join.on) (λ on. Ok (record { object = object; on = on }))))

-- in a view, names join others
abbrev pub Joins : Bool → List (List ℕ) → List (List ℕ) → List (List ℕ) → Type 0
Joins view names others after = IsTrue view → Alike after (names ++ others)

-- the condition of a query and the columns of its GROUP BY
abbrev pub choice : Scope → QueryTree → Result (Option Tree × List ColumnAt) Refusal
choice scope query =
    and_then (perhaps (expression scope) query.condition) (λ condition.
    and_then (each (column_of scope) query.group) (λ group. Ok (condition, group)))

-- a query that sees these relations, of which the first has a name of its own
abbrev pub query_by : Bool → Schema → Scope → QueryTree → Result ResolvedQuery Refusal
query_by view objects scope query =
    and_then (items_resolved view scope [] query.items) (λ items.
    and_then (known objects query.first.name) (λ first.
    and_then (joins_resolved objects scope (called query.first ∷ []) query.joins) (λ joins.
    and_then (choice scope query) (λ chosen.
    Ok (record { items = items; first = first; joins = joins; condition = chosen.0; group = chosen.1 })))))
