-- No clause of `run` rests on this module: it serves contracts between crates.
--
-- What a caller has to know before a step, of an engine that is not stopped.
use Rattle.std.specs.Prelude.{◌≡◌, ◌≢◌, ◌⊎◌, ℕ, false, ◌≤◌, List, [], ◌∷◌, Option, Some, None, IsSome}
use Rattle.std.specs.FinMap.{get}
use Rattle.iv_types.specs.declared.statement.Mode.{Mode}
use Rattle.iv_types.specs.declared.statement.Mode.TheVariants.{Serial, Snapshot}
use Rattle.iv_types.specs.declared.lock.GroupDelta.{GroupDelta}
use Rattle.iv_types.specs.declared.lock.LockMode.{LockMode}
use Rattle.iv_types.specs.declared.lock.LockMode.TheVariants.{Share, Exclusive, Increment}
use Rattle.iv_types.specs.declared.catalog.TableDef.{TableDef}
use Rattle.iv_types.specs.Encoding.{FitAll, kinds_of}
use Rattle.iv_types.specs.Syntax.{StatementTree, create_table, create_index, create_view}
use Rattle.iv_types.specs.Grammar.{Spells}
use Rattle.iv_meaning.specs.Schema.{Object, table, index, view, numbered}
use Rattle.iv_meaning.specs.Database.{Row, key_of}
use Rattle.iv_meaning.specs.Escrow.{IsSession}
use Rattle.txn_machine.specs.Acts as act
use Rattle.txn_machine.specs.Acts.{Act}
use Rattle.txn_machine.specs.Keeping.{Open}
use Rattle.txn_machine.specs.Store.{Store, schema_of, locks_of}
use Rattle.txn_machine.specs.Ghosts.{Holds}
use Rattle.txn_machine.specs.State.{State}

-- the session's transaction is open, and no deadlock met it
pub record IsOpenIn (s : Store) (session : ℕ) (mode : Mode) : Type 0 where
  pub of_session : IsSession session
  pub transaction : Open
  pub is_open : s.open_of session ≡ Some transaction
  pub mode_is : transaction.mode ≡ mode
  pub not_lost : transaction.is_lost ≡ false

-- and it owes nothing
pub record IsReady (s : Store) (session : ℕ) (mode : Mode) : Type 0 where
  pub goes_on : IsOpenIn s session mode
  pub owes_nothing : goes_on.transaction.owed ≡ []

-- it owes a delta, and none that is coming back
pub record Owes (s : Store) (session : ℕ) : Type 0 where
  pub goes_on : IsOpenIn s session Serial
  pub first : GroupDelta
  pub others : List GroupDelta
  pub owed_is : goes_on.transaction.owed ≡ first ∷ others
  pub none_back : goes_on.transaction.back ≡ 0

-- any index may be locked in Share, and one of a table in Exclusive
abbrev pub MayLock : LockMode → Option Object → Type 0
MayLock Share o = IsSome o
MayLock Exclusive (Some (table t)) = Unit {0}
MayLock Exclusive (Some (index i)) = Unit {0}
MayLock _ _ = ⊥

-- a snapshot reads by primary indexes and views
abbrev pub MayPeek : Option Object → Type 0
MayPeek (Some (table t)) = Unit {0}
MayPeek (Some (view v)) = Unit {0}
MayPeek _ = ⊥

-- the row fits the table, and the key is the row's
abbrev pub FitsUnder : TableDef → List ℕ → Option Row → Type 0
FitsUnder t key None = Unit {0}
FitsUnder t key (Some row) = (key ≡ key_of t row) × FitAll (kinds_of t) row

pub record MayPut (s : Store) (number : ℕ) (key : List ℕ) (new : Option Row) : Type 0 where
  pub of : TableDef
  pub table_is : numbered (schema_of s) number ≡ Some (table of)
  pub fits : FitsUnder of key new
  pub changes : get s.rows (number, key) ≢ new

abbrev pub IsCreate : StatementTree → Type 0
IsCreate (create_table name columns primary) = Unit {0}
IsCreate (create_index name of columns) = Unit {0}
IsCreate (create_view name query) = Unit {0}
IsCreate _ = ⊥

-- it is written in some text
abbrev pub IsWritten : StatementTree → Type 0
IsWritten statement = (text : List ℕ) × Spells text statement

-- a transaction of the session is open
pub record IsOpen (s : Store) (session : ℕ) : Type 0 where
  pub of_session : IsSession session
  pub transaction : Open
  pub is_open : s.open_of session ≡ Some transaction

abbrev pub MayAct : Store → ℕ → Act → Type 0
MayAct s session (act.Begin mode) = IsSession session × (s.open_of session ≡ None)
MayAct s session act.Defs = IsSession session
MayAct s session (act.Fetch number interval mode) = IsReady s session Serial × MayLock mode (numbered (schema_of s) number)
MayAct s session (act.Peek number interval) = IsOpenIn s session Snapshot × MayPeek (numbered (schema_of s) number)
MayAct s session (act.Put number key new) = IsReady s session Serial × MayPut s number key new
MayAct s session act.Pay = Owes s session
MayAct s session act.Ghost = (o : Owes s session) × Holds (locks_of s session) Increment o.first.view o.first.group
MayAct s session act.UndoOne = (o : IsOpen s session) × (o.transaction.kept ≢ [])
MayAct s session act.End = (o : IsOpen s session) × (o.transaction.kept ≡ [])
MayAct s session act.Commit = IsReady s session Serial ⊎ IsReady s session Snapshot
MayAct s session (act.Schema statement) = IsSession session × (s.open_of session ≡ None) × IsCreate statement × IsWritten statement
MayAct s session act.Clean = session ≡ 0
MayAct s session act.Prune = session ≡ 0
MayAct s session act.Checkpoint = session ≡ 0
MayAct s session act.Cancel = IsSession session

-- who may ask for an act: the sessions, and for most acts the machine itself, which is session 0
abbrev pub MayAsk : ℕ → Act → Type 0
MayAsk session act.Defs = IsSession session
MayAsk session (act.Schema statement) = IsSession session
MayAsk session act.Cancel = IsSession session
MayAsk session _ = session ≤ 64

-- of an engine that is stopped they may ask for any step
abbrev pub May : State → ℕ → Act → Type 0
May s session a = MayAsk session a × (IsSome s.stop ⊎ MayAct s.store session a)
