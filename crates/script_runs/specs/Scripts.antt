-- No clause of `run` rests on this module: it serves contracts between crates.
--
-- What scripts print, on a shop's sales and on other databases, where the statements' programs run over the machine; and the statements.
use Rattle.std.specs.Prelude.{ℕ, pos, List, [], ◌∷◌, Option, Some, None, codes}
use Rattle.std.specs.FinMap.{empty}
use Rattle.iv_types.specs.declared.expression.Op.{Op}
use Rattle.iv_types.specs.declared.expression.Op.TheVariants.{Equal}
use Rattle.iv_types.specs.Syntax.{Tree, StatementTree, number, named, pair, all, insert, delete, select}
use Rattle.iv_types.specs.Grammar.{Spells}
use Rattle.iv_meaning.specs.Database.{Database}
use Rattle.iv_meaning.specs.Said.{Said}
use Rattle.iv_meaning.specs.Serial.{opened_with, IsSerialFrom}
use Rattle.iv_meaning.specs.SerialExample.{shop_database}
use Rattle.txn_machine.specs.Store.{opened}
use Rattle.txn_machine.specs.Log.{unlimited}
use Rattle.txn_machine.specs.State.{opened_state}
use Rattle.txn_machine.specs.Alone.{Story, begun_story}
use Rattle.script_law.specs.RunLines.{Table, new_table, all_sessions, RunsLine, RunsLines, RunsScript}
use Rattle.script_law.specs.Machine.{DoesOf, seen_of}
use Rattle.script_law.specs.Sessions.{programs_of}
use Rattle.statement_law.specs.Telling.{tell}
use Rattle.statement_law.specs.Statements.{the_works}

-- ---- scripts

-- a database without view rows as it is opened
abbrev pub opened_on : Database → Story
opened_on db = begun_story (opened_state unlimited (opened db empty))

-- the shop: its table and its view, and no sale
abbrev pub opened_shop : Story
opened_shop = opened_on shop_database

-- lines that print this on it, to the end of the input
abbrev pub RunsTo : Database → List Said → List ℕ → Story → Type 0
RunsTo db lines out after = RunsScript DoesOf (programs_of the_works) (tell [] None) seen_of lines (opened_on db) out after

-- lines and what they print
pub record Script : Type 0 where
  pub lines : List Said
  pub out : List ℕ

abbrev pub IsPrintedOn : Database → Script → Type 0
IsPrintedOn db s = (after : Story) × RunsTo db s.lines s.out after

-- on the shop
abbrev pub IsPrinted : Script → Type 0
IsPrinted s = IsPrintedOn shop_database s

-- no run of the lines prints this
abbrev pub IsMiss : Script → Type 0
IsMiss s = (after : Story) → RunsTo shop_database s.lines s.out after → ⊥

-- what is printed is serial
abbrev pub IsTranscriptOn : Database → Script → Type 0
IsTranscriptOn db s = IsSerialFrom (opened_with db) s.lines s.out

abbrev pub IsTranscript : Script → Type 0
IsTranscript s = IsTranscriptOn shop_database s

-- some lines print this, and behind them no run of a line prints that
pub record IsMissBehind (before : Script) (said : Said) (piece : List ℕ) : Type 0 where
  pub table : Table
  pub s : Story
  pub comes : RunsLines DoesOf (programs_of the_works) (tell [] None) all_sessions before.lines new_table opened_shop before.out table s
  pub never : (later_table : Table) (after : Story) → RunsLine DoesOf (programs_of the_works) (tell [] None) all_sessions said table s piece later_table after → ⊥

-- ---- statements

-- a statement and its text as a user types it
pub record Typed : Type 0 where
  pub text : List ℕ
  pub statement : StatementTree

abbrev pub IsSpelled : Typed → Type 0
IsSpelled t = Spells t.text t.statement

-- a sale's number, its shop and its amount
abbrev pub sale_tuple : ℕ → ℕ → ℕ → List Tree
sale_tuple id shop amount = number (pos id) ∷ number (pos shop) ∷ number (pos amount) ∷ []

-- INSERT INTO sale VALUES ..
abbrev pub inserts : List (List Tree) → StatementTree
inserts tuples = insert (codes "sale") tuples

-- INSERT INTO sale VALUES (id, shop, amount)
abbrev pub sold_to : ℕ → ℕ → ℕ → StatementTree
sold_to id shop amount = inserts (sale_tuple id shop amount ∷ [])

-- a column compared with a number
abbrev pub compared : Op → List ℕ → ℕ → Tree
compared o name n = pair o (named (record { qualifier = None; name = name })) (number (pos n))

-- SELECT * FROM name WHERE ..
abbrev pub selects : List ℕ → Option Tree → StatementTree
selects name condition = select (record { items = all ∷ []; first = record { name = name; alias = None }; joins = []; condition = condition; group = [] }) []

-- SELECT * FROM by_shop WHERE shop ..
abbrev pub shows_shops : Op → ℕ → StatementTree
shows_shops o shop = selects (codes "by_shop") (Some (compared o (codes "shop") shop))

-- DELETE FROM sale WHERE name = n
abbrev pub deletes_where : List ℕ → ℕ → StatementTree
deletes_where name n = delete (codes "sale") (Some (compared Equal name n))
