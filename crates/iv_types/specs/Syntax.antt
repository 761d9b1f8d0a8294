-- Statements as they are parsed, without where they lie in memory. A list is a list and a name the list of its bytes, in
-- lower case.
use Rattle.std.specs.Prelude.{ℕ, ℤ, Option, List}
use Rattle.iv_types.specs.declared.expression.Op.{Op}
use Rattle.iv_types.specs.declared.expression.Ref.{Ref}
use Rattle.iv_types.specs.declared.expression.ColumnAt.{ColumnAt}
use Rattle.iv_types.specs.declared.statement.ColumnDef.{ColumnDef}
use Rattle.iv_types.specs.declared.statement.Relation.{Relation}
use Rattle.iv_types.specs.declared.statement.Order.{Order}
use Rattle.iv_types.specs.declared.statement.Mode.{Mode}

-- an expression
pub data Tree : Type 0 where
  number : ℤ → Tree
  word : List ℕ → Tree
  named : Ref → Tree
  at : ColumnAt → Tree
  not : Tree → Tree
  minus : Tree → Tree
  pair : Op → Tree → Tree → Tree

pub record JoinTree : Type 0 where
  pub relation : Relation
  pub on : Tree

pub data ItemTree : Type 0 where
  all : ItemTree
  count : Option (List ℕ) → ItemTree
  sum : Ref → Option (List ℕ) → ItemTree
  plain : Tree → Option (List ℕ) → ItemTree

pub record QueryTree : Type 0 where
  pub items : List ItemTree
  pub first : Relation
  pub joins : List JoinTree
  pub condition : Option Tree
  -- empty where there is no GROUP BY
  pub group : List Ref

pub record SetTree : Type 0 where
  pub name : List ℕ
  pub value : Tree

pub data StatementTree : Type 0 where
  create_table : (name : List ℕ) (columns : List ColumnDef) (primary : List (List ℕ)) → StatementTree
  create_index : (name table : List ℕ) (columns : List (List ℕ)) → StatementTree
  create_view : (name : List ℕ) (query : QueryTree) → StatementTree
  insert : (table : List ℕ) (tuples : List (List Tree)) → StatementTree
  update : (table : List ℕ) (sets : List SetTree) (condition : Option Tree) → StatementTree
  delete : (table : List ℕ) (condition : Option Tree) → StatementTree
  select : (query : QueryTree) (order : List Order) → StatementTree
  begin : Mode → StatementTree
  commit : StatementTree
  rollback : (to : Option (List ℕ)) → StatementTree
  savepoint : (name : List ℕ) → StatementTree
