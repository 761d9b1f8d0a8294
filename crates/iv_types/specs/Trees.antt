-- No clause of `run` rests on this module: it serves contracts between crates.
--
-- What expressions and statements of the code are, without where they lie in memory.
use Rattle.std.specs.Prelude.{Option, Some, None, List, map}
use Rattle.iv_types.specs.declared.expression.Expr.{Expr, Number, Word, Named, At, Not', Minus', Pair'}
use Rattle.iv_types.specs.declared.statement.Join.{Join}
use Rattle.iv_types.specs.declared.statement.Item.{Item}
use Rattle.iv_types.specs.declared.statement.Item.TheVariants as item
use Rattle.iv_types.specs.declared.statement.Query.{Query}
use Rattle.iv_types.specs.declared.statement.Set.{Set}
use Rattle.iv_types.specs.declared.statement.Statement.{Statement}
use Rattle.iv_types.specs.declared.statement.Statement.TheVariants as statement
use Rattle.iv_types.specs.Syntax.{Tree, JoinTree, ItemTree, QueryTree, SetTree, StatementTree, number, word, named, at, not, minus, pair, all, count, sum, plain, create_table, create_index, create_view, insert, update, delete, select, begin, commit, rollback, savepoint}

abbrev pub tree : Expr → Tree
tree (Number n) = number n
tree (Word bytes) = word bytes
tree (Named ref) = named ref
tree (At place) = at place
tree (Not' p e) = not (tree e)
tree (Minus' p e) = minus (tree e)
tree (Pair' op p a q b) = pair op (tree a) (tree b)

abbrev pub trees : List Expr → List Tree
trees es = map tree es

abbrev pub perhaps_tree : Option Expr → Option Tree
perhaps_tree None = None
perhaps_tree (Some e) = Some (tree e)

abbrev pub join_tree : Join → JoinTree
join_tree join = record { relation = join.relation; on = tree join.on }

abbrev pub item_tree : Item → ItemTree
item_tree item.All = all
item_tree (item.Count name) = count name
item_tree (item.Sum ref name) = sum ref name
item_tree (item.Plain e name) = plain (tree e) name

abbrev pub query_tree : Query → QueryTree
query_tree query = record {
  items = map item_tree query.items;
  first = query.first;
  joins = map join_tree query.joins;
  condition = perhaps_tree query.condition;
  group = query.group;
}

abbrev pub set_tree : Set → SetTree
set_tree s = record { name = s.name; value = tree s.value }

abbrev pub statement_tree : Statement → StatementTree
statement_tree (statement.CreateTable name columns primary) = create_table name columns primary
statement_tree (statement.CreateIndex name table columns) = create_index name table columns
statement_tree (statement.CreateView name query) = create_view name (query_tree query)
statement_tree (statement.Insert table tuples) = insert table (map trees tuples)
statement_tree (statement.Update table sets condition) = update table (map set_tree sets) (perhaps_tree condition)
statement_tree (statement.Delete table condition) = delete table (perhaps_tree condition)
statement_tree (statement.Select query order) = select (query_tree query) order
statement_tree (statement.Begin mode) = begin mode
statement_tree statement.Commit = commit
statement_tree (statement.Rollback to) = rollback to
statement_tree (statement.Savepoint name) = savepoint name
