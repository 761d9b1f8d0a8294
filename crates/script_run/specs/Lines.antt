-- No clause of `run` rests on this module: it serves contracts between crates.
--
-- A table of sessions and an engine that have run some lines from an opened database on.
use Rattle.std.specs.Prelude.{◌≡◌, ◌⊎◌, ℕ, List, [], ◌∷◌, ◌++◌, None}
use Rattle.std.specs.List.{Contains}
use Rattle.iv_meaning.specs.Database.{Database}
use Rattle.iv_meaning.specs.Said.{Said}
use Rattle.iv_meaning.specs.Serial.{opened_with, IsSerialFrom}
use Rattle.txn_machine.specs.Stored.{ViewRows}
use Rattle.txn_machine.specs.Store.{opened}
use Rattle.txn_machine.specs.Log.{Opening}
use Rattle.txn_machine.specs.State.{State, opened_state}
use Rattle.txn_machine.specs.Alone.{Story, begun_story}
use Rattle.txn_machine.specs.Laws.{IsOpened}
use Rattle.script_law.specs.RunLines.{RunsLine, RunsLines, new_table, all_sessions}
use Rattle.script_law.specs.Machine.{DoesOf, seen_of, IsStopped}
use Rattle.session_asks.specs.Askable.{the_programs}
use Rattle.session_table.specs.declared.slot.Slot.{Slot}
use Rattle.session_table.specs.Going.{the_tell, StandsIn}
use Rattle.session_table.specs.Slots.{table_of, AllGo}

-- the engine was opened on a database, and did no step yet
pub record WasOpened (Stands : State → Type 0) : Type 0 where
  pub db : Database
  pub stored : ViewRows
  pub opening : Opening
  pub is_opened : IsOpened db stored
  pub stands : Stands (opened_state opening (opened db stored))

-- lines that say this were run from this database on, and printed this
pub record HasRun (db : Database) (lines : List Said) (out : List ℕ) (slots : List Slot) (s : Story) : Type 0 where
  pub stored : ViewRows
  pub opening : Opening
  pub is_opened : IsOpened db stored
  pub runs : RunsLines DoesOf the_programs the_tell all_sessions lines new_table (begun_story (opened_state opening (opened db stored))) out (table_of slots) s
  pub go : AllGo slots s

-- some lines were run
pub record IsRunning (Stands : State → Type 0) (slots : List Slot) : Type 0 where
  pub db : Database
  pub lines : List Said
  pub out : List ℕ
  pub so_far : StandsIn Stands (HasRun db lines out slots)

-- a line more was run that says one of these things: what it printed stands behind a text, and all is serial
pub record RanOneMore (db : Database) (lines : List Said) (out : List ℕ) (MaySay : Said → Type 0) (before : List Slot) (s : Story) (old new : List ℕ) (slots : List Slot) (after : Story) : Type 0 where
  pub said : Said
  pub says : MaySay said
  pub piece : List ℕ
  pub told : new ≡ old ++ piece
  pub run : RunsLine DoesOf the_programs the_tell all_sessions said (table_of before) s piece (table_of slots) after
  pub ran : HasRun db (lines ++ said ∷ []) (out ++ piece) slots after
  pub serial : IsSerialFrom (opened_with db) (lines ++ said ∷ []) (out ++ piece)

-- no transaction is open, unless the engine is stopped
abbrev pub Rests : Story → Type 0
Rests s = (session : ℕ) → Contains all_sessions session → ((seen_of s).open_of session ≡ None) ⊎ IsStopped s
