-- No clause of `run` rests on this module: it serves contracts between crates.
--
-- CREATE statements: a view of sales that are there, and statements that are refused.
use Rattle.std.specs.Prelude.{ℕ, List, [], ◌∷◌, codes, Ok, Some, None}
use Rattle.iv_types.specs.declared.value.Kind.TheVariants.{Int, Huge}
use Rattle.iv_types.specs.declared.expression.Ref.{Ref}
use Rattle.iv_types.specs.declared.statement.Mode.TheVariants.{Serial}
use Rattle.iv_types.specs.Syntax.{JoinTree, QueryTree, create_table, create_index, create_view, begin, named, plain, count, sum}
use Rattle.iv_meaning.specs.Database.{created}
use Rattle.iv_meaning.specs.Said.{runs}
use Rattle.iv_meaning.specs.SerialExample.{shows}
use Rattle.script_runs.specs.Scripts.{Typed, IsSpelled, Script, IsPrintedOn, IsPrinted, IsTranscriptOn, sale_tuple, inserts}

-- ---- statements

abbrev pub sale_table : Typed
sale_table = record {
  text = codes "CREATE TABLE sale (id INT, shop INT, amount HUGE, PRIMARY KEY (id))";
  statement = create_table (codes "sale")
      (record { name = codes "id"; kind = Int } ∷ record { name = codes "shop"; kind = Int } ∷ record { name = codes "amount"; kind = Huge } ∷ []) (codes "id" ∷ []);
}

abbrev pub plainly : List ℕ → Ref
plainly name = record { qualifier = None; name = name }

-- how many sales there are by a column, and what they come to
abbrev pub sums_by : List ℕ → List JoinTree → QueryTree
sums_by column joins = record {
  items = plain (named (plainly column)) None ∷ count (Some (codes "n")) ∷ sum (plainly (codes "amount")) (Some (codes "total")) ∷ [];
  first = record { name = codes "sale"; alias = None };
  joins = joins;
  condition = None;
  group = plainly column ∷ [];
}

abbrev pub shop_view : Typed
shop_view = record {
  text = codes "CREATE INDEXED VIEW by_shop AS SELECT shop, COUNT(*) AS n, SUM(amount) AS total FROM sale GROUP BY shop";
  statement = create_view (codes "by_shop") (sums_by (codes "shop") []);
}

abbrev pub second_sale : Typed
second_sale = record {
  text = codes "CREATE TABLE sale (id INT, PRIMARY KEY (id))";
  statement = create_table (codes "sale") (record { name = codes "id"; kind = Int } ∷ []) (codes "id" ∷ []);
}

abbrev pub by_index : Typed
by_index = record { text = codes "CREATE INDEX i ON sale (shop)"; statement = create_index (codes "i") (codes "sale") (codes "shop" ∷ []) }

-- ---- scripts

-- the shop's table, sales, and the view of them
abbrev pub sales_are_shown : Script
sales_are_shown = record {
  lines = runs 1 (Ok sale_table.statement) ∷ runs 1 (Ok (inserts (sale_tuple 1 7 10 ∷ sale_tuple 2 7 5 ∷ sale_tuple 3 9 4 ∷ []))) ∷ runs 1 (Ok shop_view.statement) ∷ runs 1 (Ok shows) ∷ [];
  out = codes "1 OK 0\n1 COMMIT 1\n1 OK 3\n1 COMMIT 2\n1 OK 0\n1 COMMIT 3\n1 ROW 7 2 15\n1 ROW 9 1 4\n1 OK 2\n1 COMMIT 3\n";
}

-- on a database that defines nothing
pub record SalesAreShown : Type 0 where
  pub is_printed : IsPrintedOn created sales_are_shown
  pub is_serial : IsTranscriptOn created sales_are_shown
  pub sales : IsSpelled sale_table
  pub shops : IsSpelled shop_view

-- one has the name of a table, and one comes while a session has a transaction
abbrev pub creations_are_refused : Script
creations_are_refused = record {
  lines = runs 1 (Ok second_sale.statement) ∷ runs 1 (Ok (begin Serial)) ∷ runs 2 (Ok by_index.statement) ∷ [];
  out = codes "1 ERR 3 NameTaken sale\n1 OK 0\n2 ERR 26 SchemaBusy 1\n";
}

-- on the shop
pub record CreationsAreRefused : Type 0 where
  pub is_printed : IsPrinted creations_are_refused
  pub taken : IsSpelled second_sale
  pub busy : IsSpelled by_index
