-- No clause of `run` rests on this module: it serves contracts between crates.
--
-- What bound statements are, without where they lie in memory.
use Rattle.std.specs.Prelude.{map}
use Rattle.iv_types.specs.Trees.{tree, trees, perhaps_tree}
use Rattle.iv_types.specs.declared.bound.BoundSet.{BoundSet}
use Rattle.iv_types.specs.declared.bound.BoundItem.{BoundItem}
use Rattle.iv_types.specs.declared.bound.BoundItem.TheVariants as item
use Rattle.iv_types.specs.declared.bound.BoundOrder.{BoundOrder}
use Rattle.iv_types.specs.declared.bound.BoundSelect.{BoundSelect}
use Rattle.iv_types.specs.declared.bound.Bound.{Bound}
use Rattle.iv_types.specs.declared.bound.Bound.TheVariants as bound
use Rattle.iv_meaning.specs.Schema as schema
use Rattle.iv_meaning.specs.Objects as objects
use Rattle.iv_meaning.specs.Query as query
use Rattle.iv_meaning.specs.Statement as statement

abbrev pub set_tree : BoundSet → statement.BoundSet
set_tree s = record { column = s.column; value = tree s.value }

abbrev pub item_tree : BoundItem → query.BoundItem
item_tree item.Count = query.count
item_tree (item.Sum place) = query.sum place
item_tree (item.Plain e) = query.plain (tree e)

abbrev pub order_tree : BoundOrder → query.BoundOrder
order_tree o = record { item = o.item; descending = o.descending }

abbrev pub select_tree : BoundSelect → query.BoundQuery
select_tree s = record {
  relations = s.relations;
  conditions = trees s.conditions;
  items = map item_tree s.items;
  group = s.group;
  order = map order_tree s.order;
}

abbrev pub bound_tree : Bound → statement.BoundTree
bound_tree (bound.Table t) = statement.create (schema.table t)
bound_tree (bound.Index i) = statement.create (schema.index i)
bound_tree (bound.View v) = statement.create (schema.view (objects.view_tree v))
bound_tree (bound.Insert i) = statement.insert i.table (map trees i.tuples)
bound_tree (bound.Update u) = statement.update u.table (map set_tree u.sets) (perhaps_tree u.condition)
bound_tree (bound.Delete d) = statement.delete d.table (perhaps_tree d.condition)
bound_tree (bound.Select s) = statement.select (select_tree s)
bound_tree bound.Control = statement.control
