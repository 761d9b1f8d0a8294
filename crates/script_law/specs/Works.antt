-- No clause of `run` rests on this module: it serves contracts between crates.
--
-- What a statement reads and changes, step by step, and what that leads to alone on a database.
use Rattle.std.specs.Prelude.{◌≡◌, ℕ, Bool, true, false, IsTrue, List, [], ◌∷◌, Option, None}
use Rattle.std.specs.FinMap.{get}
use Rattle.iv_types.specs.declared.statement.Mode.{Mode}
use Rattle.iv_types.specs.declared.statement.Mode.TheVariants.{Snapshot}
use Rattle.iv_types.specs.declared.value.Interval.{Interval}
use Rattle.iv_types.specs.declared.lock.LockMode.{LockMode}
use Rattle.iv_types.specs.declared.lock.GroupDelta.{GroupDelta}
use Rattle.iv_types.specs.declared.refusal.Refusal.{Refusal}
use Rattle.iv_types.specs.declared.refusal.EngineRefusal.{EngineRefusal}
use Rattle.iv_types.specs.Syntax.{StatementTree, insert, update, delete, select}
use Rattle.table_laws.specs.Kept.{redo}
use Rattle.iv_meaning.specs.Schema.{Schema}
use Rattle.iv_meaning.specs.Database.{Row, Database}
use Rattle.iv_meaning.specs.View.{read}
use Rattle.iv_meaning.specs.Statement.{Kept, keep_all, Meaning, Refused, Accepted}
use Rattle.iv_meaning.specs.Transaction.{means, refused_inside}
use Rattle.iv_meaning.specs.Serial.{is_engines, is_deadlock}
use Rattle.txn_machine.specs.Deltas.{RowChange}
use Rattle.txn_machine.specs.Alone.{with_changes}
use Rattle.txn_machine.specs.ViewLaws.{AreSound}
use Rattle.script_law.specs.Seen.{is_deadlock_event, in_order}

-- what is left of a statement's work
pub data Work : Type 0 where
  -- it lists these rows, and counts so many
  done : (listed : List Row) (count : ℕ) → Work
  refuses : Refusal → Work
  fetches : (index : ℕ) (interval : Interval) (lock : LockMode) → (List Row → Work) → Work
  -- it is told the row that was there
  puts : (table : ℕ) (key : List ℕ) (new : Option Row) → (Option Row → Work) → Work

-- what it comes to alone on a database, where it has made these changes, the latest first
abbrev pub alone_on : Work → Database → List RowChange → Meaning
alone_on (done listed count) db cs = Accepted listed count (in_order cs)
alone_on (refuses why) db cs = Refused why
alone_on (fetches index interval lock f) db cs = alone_on (f (read (with_changes cs db) index interval)) db cs
alone_on (puts table key new f) db cs =
    let before : Option Row = get (redo cs db.rows) (table, key) in
    alone_on (f before) db (record { key = (table, key); before = before; after = new } ∷ cs)

-- it changes nothing
abbrev pub OnlyReads : Work → Type 0
OnlyReads (puts table key new f) = ⊥
OnlyReads (fetches index interval lock f) = (rows : List Row) → OnlyReads (f rows)
OnlyReads w = Unit {0}

-- a statement that reads or changes rows
abbrev pub is_work : StatementTree → Bool
is_work (select query order) = true
is_work (insert table tuples) = true
is_work (update table sets condition) = true
is_work (delete table condition) = true
is_work _ = false

-- how each statement works in a transaction of a mode, by the definitions that its session has a copy of, and how a refusal of the
-- engine's is told: of a pay, with the delta that was to be paid
pub record Works : Type 0 where
  pub work : Mode → Schema → StatementTree → Work
  pub tell : Schema → Option GroupDelta → EngineRefusal → Refusal

pub record WorkLaws (works : Works) : Type 0 where
  -- alone on a sound database a work comes to what its statement means, which leaves a sound database
  pub right : (mode : Mode) (statement : StatementTree) → is_work statement ≡ true → (db : Database) → AreSound db.schema db.rows
      → alone_on (works.work mode db.schema statement) db [] ≡ means statement db
  pub sound : (statement : StatementTree) → is_work statement ≡ true → (db : Database) → AreSound db.schema db.rows
      → (listed : List Row) (count : ℕ) (kept : List Kept) → means statement db ≡ Accepted listed count kept → AreSound (keep_all kept db).schema (keep_all kept db).rows
  -- a snapshot may do only what changes nothing
  pub reads : (statement : StatementTree) → is_work statement ≡ true → refused_inside Snapshot [] statement ≡ None → (objects : Schema) → OnlyReads (works.work Snapshot objects statement)
  -- a refusal of the engine's is told as one, and a deadlock as a deadlock
  pub engines : (objects : Schema) (delta : Option GroupDelta) (why : EngineRefusal) → IsTrue (is_engines (works.tell objects delta why))
  pub deadlocks : (objects : Schema) (delta : Option GroupDelta) (why : EngineRefusal) → is_deadlock (works.tell objects delta why) ≡ is_deadlock_event why
