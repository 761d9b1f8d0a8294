-- No clause of `run` rests on this module: it serves contracts between crates.
--
-- A view of two tables: it needs an index of the first by the column that joins them, and goes on with changes of both.
use Rattle.std.specs.Prelude.{List, [], ◌∷◌, codes, pos, Ok, Some, None, ℕ}
use Rattle.iv_types.specs.declared.value.Kind.TheVariants.{Int, Text}
use Rattle.iv_types.specs.declared.expression.Op.TheVariants.{Equal}
use Rattle.iv_types.specs.declared.statement.Mode.TheVariants.{Serial}
use Rattle.iv_types.specs.Syntax.{JoinTree, QueryTree, StatementTree, create_table, create_index, create_view, insert, update, begin, commit, number, word, named, pair}
use Rattle.iv_meaning.specs.Database.{created}
use Rattle.iv_meaning.specs.Said.{runs}
use Rattle.script_runs.specs.Creating.{sale_table, plainly, sums_by}
use Rattle.script_runs.specs.Scripts.{Typed, IsSpelled, Script, IsPrintedOn, IsTranscriptOn, sale_tuple, inserts, sold_to, compared, selects}

-- ---- its definitions

abbrev pub store_table : Typed
store_table = record {
  text = codes "CREATE TABLE store (id INT, region TEXT, PRIMARY KEY (id))";
  statement = create_table (codes "store") (record { name = codes "id"; kind = Int } ∷ record { name = codes "region"; kind = Text } ∷ []) (codes "id" ∷ []);
}

abbrev pub sale_shop : Typed
sale_shop = record { text = codes "CREATE INDEX sale_shop ON sale (shop)"; statement = create_index (codes "sale_shop") (codes "sale") (codes "shop" ∷ []) }

-- JOIN store ON shop = store.id
abbrev pub store_join : JoinTree
store_join = record {
  relation = record { name = codes "store"; alias = None };
  on = pair Equal (named (plainly (codes "shop"))) (named (record { qualifier = Some (codes "store"); name = codes "id" }));
}

abbrev pub region_query : QueryTree
region_query = sums_by (codes "region") (store_join ∷ [])

abbrev pub by_region : Typed
by_region = record {
  text = codes "CREATE INDEXED VIEW by_region AS SELECT region, COUNT(*) AS n, SUM(amount) AS total FROM sale JOIN store ON shop = store.id GROUP BY region";
  statement = create_view (codes "by_region") region_query;
}

-- ---- its other statements

-- INSERT INTO store VALUES (7, 'north'), (8, 'south')
abbrev pub two_stores : StatementTree
two_stores = insert (codes "store") ((number (pos 7) ∷ word (codes "north") ∷ []) ∷ (number (pos 8) ∷ word (codes "south") ∷ []) ∷ [])

-- INSERT INTO sale VALUES (1, 7, 10), (2, 7, 5), (3, 7, 1), (4, 8, 2)
abbrev pub four_sales : StatementTree
four_sales = inserts (sale_tuple 1 7 10 ∷ sale_tuple 2 7 5 ∷ sale_tuple 3 7 1 ∷ sale_tuple 4 8 2 ∷ [])

-- UPDATE store SET region = '..' WHERE id = 7
abbrev pub moves_to : List ℕ → StatementTree
moves_to region = update (codes "store") (record { name = codes "region"; value = word region } ∷ []) (Some (compared Equal (codes "id") 7))

-- SELECT * FROM by_region
abbrev pub shows_regions : StatementTree
shows_regions = selects (codes "by_region") None

-- ---- the script

-- The view is refused before there is the index. A store that moves takes its sales with it, and waits for one that is open.
abbrev pub stores_move : Script
stores_move = record {
  lines = runs 1 (Ok sale_table.statement) ∷ runs 1 (Ok store_table.statement) ∷ runs 1 (Ok by_region.statement) ∷ runs 1 (Ok sale_shop.statement) ∷ runs 1 (Ok by_region.statement)
      ∷ runs 1 (Ok two_stores) ∷ runs 1 (Ok four_sales) ∷ runs 1 (Ok (moves_to (codes "south"))) ∷ runs 1 (Ok shows_regions) ∷ runs 2 (Ok (begin Serial)) ∷ runs 2 (Ok (sold_to 5 7 3))
      ∷ runs 1 (Ok (moves_to (codes "north"))) ∷ runs 2 (Ok commit) ∷ runs 1 (Ok shows_regions) ∷ [];
  out = codes "1 OK 0\n1 COMMIT 1\n1 OK 0\n1 COMMIT 2\n1 ERR 7 NeedsIndex sale\n1 OK 0\n1 COMMIT 3\n1 OK 0\n1 COMMIT 4\n1 OK 2\n1 COMMIT 5\n1 OK 4\n1 COMMIT 6\n1 OK 1\n1 COMMIT 7\n1 ROW 'south' 4 18\n1 OK 1\n1 COMMIT 7\n2 OK 0\n2 OK 1\n1 WAIT 2\n2 COMMIT 8\n1 OK 1\n1 COMMIT 9\n1 ROW 'north' 4 19\n1 ROW 'south' 1 2\n1 OK 2\n1 COMMIT 9\n";
}

-- on a database that defines nothing
pub record StoresMove : Type 0 where
  pub is_printed : IsPrintedOn created stores_move
  pub is_serial : IsTranscriptOn created stores_move
  pub sales : IsSpelled sale_table
  pub stores : IsSpelled store_table
  pub index : IsSpelled sale_shop
  pub regions : IsSpelled by_region
