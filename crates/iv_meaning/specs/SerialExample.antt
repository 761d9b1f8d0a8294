-- No clause of `run` rests on this module: it serves contracts between crates.
--
-- Transcripts that are serial, what single lines say, and transcripts that are not serial.
use Rattle.std.specs.Prelude.{ℕ, pos, List, [], ◌∷◌, ◌++◌, codes, Ok, Some, None}
use Rattle.std.specs.FinMap.{empty}
use Rattle.iv_types.specs.declared.value.Kind.TheVariants.{Int, Huge}
use Rattle.iv_types.specs.declared.catalog.TableDef.{TableDef}
use Rattle.iv_types.specs.declared.reply.Reply.{Reply}
use Rattle.iv_types.specs.declared.reply.Reply.TheVariants as reply
use Rattle.iv_types.specs.declared.statement.Mode.TheVariants.{Serial, Snapshot}
use Rattle.iv_types.specs.Syntax.{StatementTree, number, all, insert, select, begin, commit, rollback}
use Rattle.iv_meaning.specs.Schema.{table, view, ViewTree}
use Rattle.iv_meaning.specs.Database.{Database}
use Rattle.iv_meaning.specs.Said.{Said, nothing, bad, runs, loads, unread, steps, cleans, checkpoints, Says}
use Rattle.iv_meaning.specs.Serial.{World, opened_with, set_open, IsSerialFrom}
use Rattle.iv_meaning.specs.Script.{IsOutput}

-- ---- the database

-- CREATE TABLE sale (id INT, shop INT, amount HUGE, PRIMARY KEY (id))
abbrev pub sale : TableDef
sale = record {
  number = 1;
  name = codes "sale";
  columns = record { name = codes "id"; kind = Int } ∷ record { name = codes "shop"; kind = Int } ∷ record { name = codes "amount"; kind = Huge } ∷ [];
  primary = 0 ∷ [];
}

-- SELECT shop, COUNT(*) AS n, SUM(amount) AS total FROM sale GROUP BY shop
abbrev pub by_shop : ViewTree
by_shop = record {
  number = 2;
  name = codes "by_shop";
  names = codes "shop" ∷ codes "n" ∷ codes "total" ∷ [];
  first = 1;
  second = None;
  condition = None;
  group = record { source = 0; column = 1 } ∷ [];
  sums = record { source = 0; column = 2 } ∷ [];
}

abbrev pub shop_database : Database
shop_database = record { number = 2; schema = table sale ∷ view by_shop ∷ []; rows = empty }

-- ---- its statements

-- INSERT INTO sale VALUES (id, 7, amount)
abbrev pub sold : ℕ → ℕ → StatementTree
sold id amount = insert (codes "sale") ((number (pos id) ∷ number (pos 7) ∷ number (pos amount) ∷ []) ∷ [])

-- SELECT * FROM by_shop
abbrev pub shows : StatementTree
shows = select (record { items = all ∷ []; first = record { name = codes "by_shop"; alias = None }; joins = []; condition = None; group = [] }) []

-- ---- a transcript

-- what is done behind a savepoint is taken back, and the rest is committed
abbrev pub savepoint_script : List ℕ
savepoint_script =
    codes "1: BEGIN\n"
    ++ (codes "1: INSERT INTO sale VALUES (1, 7, 10)\n"
    ++ (codes "1: SAVEPOINT s\n"
    ++ (codes "1: INSERT INTO sale VALUES (2, 7, 5)\n"
    ++ (codes "1: ROLLBACK TO s\n"
    ++ (codes "1: SELECT * FROM by_shop\n"
    ++ codes "1: COMMIT\n")))))

abbrev pub savepoint_output : List ℕ
savepoint_output =
    codes "1 OK 0\n"
    ++ (codes "1 OK 1\n"
    ++ (codes "1 OK 0\n"
    ++ (codes "1 OK 1\n"
    ++ (codes "1 OK 0\n"
    ++ (codes "1 ROW 7 1 10\n1 OK 1\n"
    ++ codes "1 COMMIT 3\n")))))

abbrev pub SavepointTranscript : Type 0
SavepointTranscript = IsOutput (opened_with shop_database) savepoint_script savepoint_output

-- a snapshot that is begun step by step does not see what was committed between its steps
abbrev pub StepsTranscript : Type 0
StepsTranscript = IsSerialFrom (opened_with shop_database)
    (loads 2 (Ok (begin Snapshot)) ∷ steps 2 ∷ runs 1 (Ok (sold 1 10)) ∷ steps 2 ∷ runs 2 (Ok shows) ∷ runs 2 (Ok commit) ∷ [])
    (codes "2 STEP\n" ++ (codes "2 STEP\n" ++ (codes "1 OK 1\n1 COMMIT 3\n" ++ (codes "2 SNAPSHOT 2\n" ++ (codes "2 OK 0\n" ++ codes "2 COMMIT 2\n")))))

-- a session that waits for another reads what that one committed
abbrev pub WaitsTranscript : Type 0
WaitsTranscript = IsSerialFrom (opened_with shop_database)
    (runs 1 (Ok (begin Serial)) ∷ runs 1 (Ok (sold 1 10)) ∷ runs 2 (Ok shows) ∷ runs 1 (Ok commit) ∷ [])
    (codes "1 OK 0\n" ++ (codes "1 OK 1\n" ++ (codes "2 WAIT 1\n" ++ codes "1 COMMIT 3\n2 ROW 7 1 10\n2 OK 1\n2 COMMIT 3\n")))

-- ---- what single lines say

-- all forms but one
pub record LinesSay : Type 0 where
  pub empty_line : Says [] nothing
  pub remark : Says (codes "# COMMIT") nothing
  pub run : Says (codes "64:COMMIT") (runs 64 (Ok commit))
  pub lacks_memory : Says (codes "64:COMMIT") (unread 64)
  pub load : Says (codes "2/ BEGIN SNAPSHOT") (loads 2 (Ok (begin Snapshot)))
  pub step : Says (codes "2+") (steps 2)
  pub clean : Says (codes "clean") cleans
  pub checkpoint : Says (codes "checkpoint") checkpoints
  pub no_session : Says (codes "65: COMMIT") bad
  pub spaced : Says (codes "2+ ") bad

-- ---- transcripts that are not serial

-- the first session's transaction is open, and its statements were told this
abbrev pub with_open : List (StatementTree × List Reply) → World
with_open told = set_open (opened_with shop_database) 1 (Some (record { mode = Serial; number = 2; told = told }))

-- it inserted a sale
abbrev pub with_sale : World
with_sale = with_open ((sold 1 10, reply.Done 1 ∷ []) ∷ [])

abbrev pub IsMiss : World → List Said → List ℕ → Type 0
IsMiss w said out = IsSerialFrom w said out → ⊥

pub record NearMisses : Type 0 where
  -- a row of a transaction that was rolled back
  pub rolled_back : IsMiss with_sale (runs 1 (Ok (rollback None)) ∷ runs 1 (Ok shows) ∷ []) (codes "1 OK 0\n1 ROW 7 1 10\n1 OK 1\n1 COMMIT 2\n")
  -- a number is left out
  pub skipped : IsMiss with_sale (runs 1 (Ok commit) ∷ []) (codes "1 COMMIT 4\n")
  -- there is no such savepoint
  pub no_savepoint : IsMiss with_sale (loads 1 (Ok (rollback (Some (codes "nosuch")))) ∷ []) (codes "1 STEP\n")
  -- a transaction that never ends is told of one row more
  pub never_ends : IsMiss (with_open []) (runs 1 (Ok (sold 1 10)) ∷ []) (codes "1 OK 2\n")
  -- the end of the output is cut off
  pub cut_off : IsMiss with_sale (runs 1 (Ok commit) ∷ []) []
  -- a snapshot of a number that was not printed
  pub wrong_snapshot : IsMiss (opened_with shop_database) (runs 1 (Ok (begin Snapshot)) ∷ []) (codes "1 SNAPSHOT 3\n")
