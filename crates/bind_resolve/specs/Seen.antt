-- No clause of `run` rests on this module: it serves contracts between crates.
--
-- What resolved statements are, without where they lie in memory.
use Rattle.std.specs.Prelude.{◌≡◌, ◌&&◌, ℕ, Bool, List, map, Option, Some, None}
use Rattle.std.specs.Option.{option_copied}
use Rattle.std.specs.Str.{bytes_eq}
use denote.Ref.{Bor}
use Rattle.iv_types.specs.Trees.{tree, trees, perhaps_tree}
use Rattle.iv_meaning.specs.Objects.{object_of}
use Rattle.iv_meaning.specs.Resolving.{is_among}
use Rattle.iv_meaning.specs.Bound.{item_tree, set_tree}
use Rattle.iv_meaning.specs.Resolving as meant
use Rattle.bind_resolve.specs.declared.resolved.Column.{Column}
use Rattle.bind_resolve.specs.declared.resolved.Scope.{Scope}
use Rattle.bind_resolve.specs.declared.resolved.NamedItem.{NamedItem}
use Rattle.bind_resolve.specs.declared.resolved.Joined.{Joined}
use Rattle.bind_resolve.specs.declared.resolved.ResolvedQuery.{ResolvedQuery}
use Rattle.bind_resolve.specs.declared.resolved.Resolved.{Resolved}
use Rattle.bind_resolve.specs.declared.resolved.Resolved.TheVariants as resolved

abbrev pub names_in : List (Bor (List ℕ)) → List (List ℕ)
names_in = map (λ b. b.now)

-- the same names are in both, in whatever order and however often
abbrev pub Alike : List (List ℕ) → List (List ℕ) → Type 0
Alike names others = (name : List ℕ) → is_among names name ≡ is_among others name

abbrev pub column_seen : Column → meant.Column
column_seen c = record { relation = c.relation.now; name = c.name.now; place = c.place }

abbrev pub scope_seen : Scope → meant.Scope
scope_seen scope = record { relations = names_in scope.relations; columns = map column_seen scope.columns }

-- a column has this name, in a relation that is called so
abbrev pub is_called : Option (List ℕ) → List ℕ → meant.Column → Bool
is_called None name c = bytes_eq name c.name
is_called (Some qualifier) name c = bytes_eq qualifier c.relation && bytes_eq name c.name

abbrev pub item_seen : NamedItem → meant.NamedItem
item_seen i = record { item = item_tree i.item; name = option_copied i.name }

abbrev pub joined_seen : Joined → meant.Joined
joined_seen j = record { object = object_of j.object.now; on = tree j.on }

abbrev pub query_seen : ResolvedQuery → meant.ResolvedQuery
query_seen q = record {
  items = map item_seen q.items;
  first = object_of q.first.now;
  joins = map joined_seen q.joins;
  condition = perhaps_tree q.condition;
  group = q.group;
}

abbrev pub resolved_seen : Resolved → meant.Resolved
resolved_seen (resolved.Table name columns primary) = meant.table name.now columns.now primary
resolved_seen (resolved.Index name target columns) = meant.index name.now (object_of target.now) columns
resolved_seen (resolved.View name query) = meant.view name.now (query_seen query)
resolved_seen (resolved.Insert target tuples) = meant.insert (object_of target.now) (map trees tuples)
resolved_seen (resolved.Update target sets condition) = meant.update (object_of target.now) (map set_tree sets) (perhaps_tree condition)
resolved_seen (resolved.Delete target condition) = meant.delete (object_of target.now) (perhaps_tree condition)
resolved_seen (resolved.Select query order) = meant.select (query_seen query) order.now
resolved_seen resolved.Control = meant.control
