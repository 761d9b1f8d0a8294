-- No clause of `run` rests on this module: it serves contracts between crates.
--
-- A shop's day: four sessions sell, one takes its sales back, and a snapshot reads what was committed as it began.
use Rattle.std.specs.Prelude.{ℕ, true, List, pos, [], ◌∷◌, codes, Ok, Some, None}
use Rattle.iv_types.specs.declared.expression.Op.TheVariants.{Add, Equal, Greater}
use Rattle.iv_types.specs.declared.statement.Mode.TheVariants.{Serial, Snapshot}
use Rattle.iv_types.specs.declared.statement.OrderKey.TheVariants.{Name}
use Rattle.iv_types.specs.Syntax.{Tree, StatementTree, begin, commit, rollback, update, select, pair, named, number, plain, sum}
use Rattle.iv_meaning.specs.Said.{runs, cleans, checkpoints}
use Rattle.iv_meaning.specs.SerialExample.{shows}
use Rattle.script_runs.specs.Scripts.{Script, IsPrinted, sale_tuple, inserts, compared}

abbrev pub first_ten : StatementTree
first_ten = inserts (sale_tuple 1 1 1 ∷ sale_tuple 2 2 2 ∷ sale_tuple 3 1 3 ∷ sale_tuple 4 2 4 ∷ sale_tuple 5 1 5 ∷ sale_tuple 6 2 6 ∷ sale_tuple 7 1 7 ∷ sale_tuple 8 2 8 ∷ sale_tuple 9 1 9 ∷ sale_tuple 10 2 10 ∷ [])

abbrev pub second_ten : StatementTree
second_ten = inserts (sale_tuple 11 1 11 ∷ sale_tuple 12 2 12 ∷ sale_tuple 13 1 13 ∷ sale_tuple 14 2 14 ∷ sale_tuple 15 1 15 ∷ sale_tuple 16 2 16 ∷ sale_tuple 17 1 17 ∷ sale_tuple 18 2 18 ∷ sale_tuple 19 1 19 ∷ sale_tuple 20 2 20 ∷ [])

abbrev pub third_ten : StatementTree
third_ten = inserts (sale_tuple 21 3 21 ∷ sale_tuple 22 3 22 ∷ sale_tuple 23 3 23 ∷ sale_tuple 24 3 24 ∷ sale_tuple 25 3 25 ∷ sale_tuple 26 3 26 ∷ sale_tuple 27 3 27 ∷ sale_tuple 28 3 28 ∷ sale_tuple 29 3 29 ∷ sale_tuple 30 3 30 ∷ [])

abbrev pub fourth_ten : StatementTree
fourth_ten = inserts (sale_tuple 31 2 31 ∷ sale_tuple 32 2 32 ∷ sale_tuple 33 2 33 ∷ sale_tuple 34 2 34 ∷ sale_tuple 35 2 35 ∷ sale_tuple 36 2 36 ∷ sale_tuple 37 2 37 ∷ sale_tuple 38 2 38 ∷ sale_tuple 39 2 39 ∷ sale_tuple 40 2 40 ∷ [])

-- UPDATE sale SET amount = amount + 100 WHERE id = 1
abbrev pub raises_first : StatementTree
raises_first = update (codes "sale") (record { name = codes "amount"; value = pair Add (named (record { qualifier = None; name = codes "amount" })) (number (pos 100)) } ∷ []) (Some (compared Equal (codes "id") 1))

abbrev pub column : List ℕ → Tree
column name = named (record { qualifier = None; name = name })

-- SELECT shop, n, total FROM by_shop ORDER BY total DESC
abbrev pub by_total : StatementTree
by_total = select (record {
  items = plain (column (codes "shop")) None ∷ plain (column (codes "n")) None ∷ plain (column (codes "total")) None ∷ [];
  first = record { name = codes "by_shop"; alias = None };
  joins = [];
  condition = None;
  group = [];
}) (record { by = Name (codes "total"); descending = true } ∷ [])

-- SELECT shop, SUM(amount) FROM sale WHERE id > 20 GROUP BY shop
abbrev pub late_sales : StatementTree
late_sales = select (record {
  items = plain (column (codes "shop")) None ∷ sum (record { qualifier = None; name = codes "amount" }) None ∷ [];
  first = record { name = codes "sale"; alias = None };
  joins = [];
  condition = Some (compared Greater (codes "id") 20);
  group = record { qualifier = None; name = codes "shop" } ∷ [];
}) []

abbrev pub day : Script
day = record {
  lines = runs 1 (Ok (begin Serial)) ∷ runs 2 (Ok (begin Serial)) ∷ runs 3 (Ok (begin Serial)) ∷ runs 1 (Ok first_ten) ∷ runs 2 (Ok second_ten) ∷ runs 3 (Ok third_ten) ∷ runs 4 (Ok fourth_ten)
      ∷ runs 2 (Ok commit) ∷ runs 4 (Ok (begin Snapshot)) ∷ runs 1 (Ok raises_first) ∷ runs 3 (Ok (rollback None)) ∷ runs 1 (Ok commit) ∷ checkpoints
      ∷ runs 4 (Ok shows) ∷ runs 4 (Ok commit) ∷ cleans ∷ runs 1 (Ok by_total) ∷ runs 1 (Ok late_sales) ∷ [];
  out = codes "1 OK 0\n2 OK 0\n3 OK 0\n1 OK 10\n2 OK 10\n3 OK 10\n4 OK 10\n4 COMMIT 3\n2 COMMIT 4\n4 SNAPSHOT 4\n1 OK 1\n3 OK 0\n1 COMMIT 5\nCHECKPOINT 5\n4 ROW 1 5 75\n4 ROW 2 15 435\n4 OK 2\n4 COMMIT 4\nCLEAN 1\n1 ROW 2 20 465\n1 ROW 1 10 200\n1 OK 2\n1 COMMIT 5\n1 ROW 2 355\n1 OK 1\n1 COMMIT 5\n";
}

abbrev pub DayRuns : Type 0
DayRuns = IsPrinted day
