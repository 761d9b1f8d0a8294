-- No clause of `run` rests on this module: it serves contracts between crates.
--
-- The programs of all statements: how a session does its statements in steps.
use Rattle.std.specs.Prelude.{ℕ, zero, suc, ◌+◌, ◌-◌, ◌==◌, nat_le, Bool, false, List, [], ◌∷◌, ◌++◌, map, length, Option, Some, None, if◌then◌else◌}
use Rattle.std.specs.Str.{bytes_eq}
use Rattle.iv_types.specs.declared.statement.Mode.{Mode}
use Rattle.iv_types.specs.declared.statement.Mode.TheVariants.{Serial, Snapshot}
use Rattle.iv_types.specs.declared.value.Interval.{Interval}
use Rattle.iv_types.specs.declared.lock.LockMode.{LockMode}
use Rattle.iv_types.specs.declared.lock.GroupDelta.{GroupDelta}
use Rattle.iv_types.specs.declared.refusal.Refusal.{Refusal}
use Rattle.iv_types.specs.declared.refusal.Refusal.TheVariants.{UnknownSavepoint, Limit, NoMemory}
use Rattle.iv_types.specs.declared.limit.Limit.TheVariants.{Savepoints}
use Rattle.iv_types.specs.declared.refusal.EngineRefusal.{EngineRefusal}
use Rattle.iv_types.specs.declared.refusal.EngineRefusal.TheVariants as engine
use Rattle.iv_types.specs.declared.reply.Reply.TheVariants as reply
use Rattle.iv_types.specs.Syntax.{StatementTree, create_table, create_index, create_view, begin, commit, rollback, savepoint}
use Rattle.iv_meaning.specs.Schema.{Schema}
use Rattle.iv_meaning.specs.Database.{Row}
use Rattle.iv_meaning.specs.Transaction.{begin_reply, refused_outside, refused_inside, most_savepoints}
use Rattle.txn_machine.specs.Acts as act
use Rattle.txn_machine.specs.Acts.{Act}
use Rattle.txn_machine.specs.Answers as answer
use Rattle.txn_machine.specs.Answers.{Answer}
use Rattle.script_law.specs.Seen.{Fails, is_stop, is_deadlock_event}
use Rattle.script_law.specs.Programs.{Standing, outside_with, Todo, says, asks, Programs}
use Rattle.script_law.specs.Works.{Work, done, refuses, fetches, puts, Works}

-- what stands behind an answer that a step can't have
abbrev pub unanswered : Todo
unanswered = says [] (outside_with [])

-- a step with its one good answer told apart from a refusal

abbrev pub by_refusal : (EngineRefusal → Todo) → Answer → Todo
by_refusal failed (answer.Refused why) = failed why
by_refusal failed said = unanswered

-- where there is no memory to go on, so
abbrev pub with_memory : Bool → Todo → Todo → Todo
with_memory memory next lacking = if memory then next else lacking

-- what is taken back, ended or committed needs none

abbrev pub undo_next : Todo → (EngineRefusal → Todo) → Answer → Bool → Todo
undo_next next failed (answer.Undone left) memory = next
undo_next next failed said memory = by_refusal failed said

abbrev pub end_next : Todo → (EngineRefusal → Todo) → Answer → Bool → Todo
end_next next failed answer.Ended memory = next
end_next next failed said memory = by_refusal failed said

abbrev pub commit_next : (ℕ → Todo) → (EngineRefusal → Todo) → Answer → Bool → Todo
commit_next next failed (answer.Committed number) memory = next number
commit_next next failed said memory = by_refusal failed said

abbrev pub schema_next : (ℕ → Todo) → (Refusal → Todo) → (EngineRefusal → Todo) → Answer → Bool → Todo
schema_next next denied failed (answer.Committed number) memory = next number
schema_next next denied failed (answer.Denied why) memory = denied why
schema_next next denied failed said memory = by_refusal failed said

abbrev pub rows_next : (List Row → Todo) → Todo → (EngineRefusal → Todo) → Answer → Bool → Todo
rows_next next lacking failed (answer.Rows rows) memory = with_memory memory (next rows) lacking
rows_next next lacking failed said memory = by_refusal failed said

abbrev pub changed_next : (Option Row → List GroupDelta → Todo) → Todo → (EngineRefusal → Todo) → Answer → Bool → Todo
changed_next next lacking failed (answer.Changed before owed) memory = with_memory memory (next before owed) lacking
changed_next next lacking failed said memory = by_refusal failed said

-- a refusal is told with names, for which there may be no memory
abbrev pub paid_next : Todo → Todo → (Bool → EngineRefusal → Todo) → Answer → Bool → Todo
paid_next next lacking failed (answer.Paid left) memory = with_memory memory next lacking
paid_next next lacking failed said memory = by_refusal (failed memory) said

abbrev pub begun_next : (ℕ → ℕ → Todo) → Todo → (EngineRefusal → Todo) → Answer → Bool → Todo
begun_next next lacking failed (answer.Begun number defs) memory = with_memory memory (next number defs) lacking
begun_next next lacking failed said memory = by_refusal failed said

abbrev pub defs_next : (Schema → Todo) → Todo → (EngineRefusal → Todo) → Answer → Bool → Todo
defs_next next lacking failed (answer.Defs objects) memory = with_memory memory (next objects) lacking
defs_next next lacking failed said memory = by_refusal failed said

-- ---- works

-- what follows a work, where so many steps are kept since it began
pub record Frame : Type 0 where
  -- it lists and counts
  pub finish : List Row → ℕ → ℕ → Todo
  -- it is refused, and taken back
  pub back : ℕ → Refusal → Todo
  -- a deadlock met it, and its whole transaction is taken back
  pub lost : ℕ → Refusal → Todo
  -- the engine is stopped
  pub stopped : Refusal → Todo

-- an interval is locked and read, or read as of the snapshot
abbrev pub reads_by : Mode → ℕ → Interval → LockMode → Act
reads_by Serial index interval lock = act.Fetch index interval lock
reads_by Snapshot index interval lock = act.Peek index interval

-- ---- savepoints

-- the savepoints from the latest one of this name on
abbrev pub from_marked : List ℕ → List (List ℕ × ℕ) → List (List ℕ × ℕ)
from_marked name [] = []
from_marked name (p ∷ ps) = if bytes_eq name p.0 then p ∷ ps else from_marked name ps

-- codes 12 to 15 and limit 16, by what the session knows
abbrev pub refused_marked : Mode → List (List ℕ × ℕ) → StatementTree → Option Refusal
refused_marked mode saved (savepoint name) = if nat_le most_savepoints (length saved) then Some (Limit Savepoints) else None
refused_marked mode saved (rollback (Some name)) = elim (from_marked name saved) [ [] ↦ Some (UnknownSavepoint name) | p ∷ ps ↦ None ]
refused_marked mode saved statement = refused_inside mode [] statement

module _ (works : Works) where
  -- so many kept steps are taken back
  abbrev pub undo : ℕ → Todo → (EngineRefusal → Todo) → Todo
  undo zero next failed = next
  undo (suc n) next failed = asks act.UndoOne (undo_next (undo n next failed) failed)

  module _ (copy : Schema) (mode : Mode) (frame : Frame) where
    -- the engine refused a step of the work
    abbrev pub refused_so : ℕ → Refusal → EngineRefusal → Todo
    refused_so n told why = if is_stop (Fails why) then frame.stopped told else if is_deadlock_event why then frame.lost n told else frame.back n told

    abbrev pub failed : ℕ → Option GroupDelta → EngineRefusal → Todo
    failed n delta why = refused_so n (works.tell copy delta why) why

    -- what the escrow refuses is told with names, for which there may be no memory
    abbrev pub pay_failed : ℕ → GroupDelta → Bool → EngineRefusal → Todo
    pay_failed n d false (engine.Escrow column inf sup) = frame.back n NoMemory
    pay_failed n d memory why = failed n (Some d) why

    -- what a change owes is paid, one delta after the other
    abbrev pub pays : List GroupDelta → (ℕ → Todo) → ℕ → Todo
    pays [] next n = next n
    pays (d ∷ ds) next n = asks act.Pay (paid_next (pays ds next (n + 1)) (frame.back (n + 1) NoMemory) (pay_failed n d))

    abbrev pub runs : Work → ℕ → Todo
    runs (done listed count) n = frame.finish listed count n
    runs (refuses why) n = frame.back n why
    runs (fetches index interval lock f) n = asks (reads_by mode index interval lock) (rows_next (λ rows. runs (f rows) n) (frame.back n NoMemory) (failed n None))
    runs (puts table key new f) n = asks (act.Put table key new) (changed_next (λ before owed. pays owed (λ m. runs (f before) m) (n + 1)) (frame.back (n + 1) NoMemory) (failed n None))

  -- ---- inside a transaction

  -- the transaction stands as it did
  abbrev pub keeps_standing : Standing → EngineRefusal → Todo
  keeps_standing standing why = says (reply.Error (works.tell standing.copy None why) ∷ []) standing

  -- the whole transaction is taken back and ends
  abbrev pub rolls_back : Standing → ℕ → Todo → Todo
  rolls_back standing n next = undo n (asks act.End (end_next next (keeps_standing standing))) (keeps_standing standing)

  abbrev pub inside_frame : Standing → Frame
  inside_frame standing = record {
    finish = λ listed count n. says (map reply.Row listed ++ reply.Done count ∷ []) (record standing { kept = n + standing.kept });
    back = λ n why. undo n (says (reply.Error why ∷ []) standing) (keeps_standing standing);
    lost = λ n why. rolls_back standing (n + standing.kept) (says (reply.Error why ∷ []) (outside_with standing.copy));
    stopped = λ why. says (reply.Error why ∷ []) standing;
  }

  abbrev pub returns_to : Standing → List (List ℕ × ℕ) → Todo
  returns_to standing [] = unanswered
  returns_to standing (p ∷ ps) =
      undo (standing.kept - p.1) (says (reply.Done 0 ∷ []) (record standing { saved = p ∷ ps; kept = p.1 })) (keeps_standing standing)

  abbrev pub start_inside : Mode → Standing → StatementTree → Todo
  start_inside mode standing commit =
      asks act.Commit (commit_next (λ number. says (reply.Commit number ∷ []) (outside_with standing.copy)) (keeps_standing standing))
  start_inside mode standing (rollback None) = rolls_back standing standing.kept (says (reply.Done 0 ∷ []) (outside_with standing.copy))
  start_inside mode standing (rollback (Some name)) = returns_to standing (from_marked name standing.saved)
  start_inside mode standing (savepoint name) = says (reply.Done 0 ∷ []) (record standing { saved = (name, standing.kept) ∷ standing.saved })
  start_inside mode standing statement = runs standing.copy mode (inside_frame standing) (works.work mode standing.copy statement) 0

  -- ---- outside one

  abbrev pub stays_out : Schema → EngineRefusal → Todo
  stays_out copy why = says (reply.Error (works.tell copy None why) ∷ []) (outside_with copy)

  -- a transaction of one statement ends without a commit
  abbrev pub ends_with : Schema → Refusal → Todo
  ends_with copy why = asks act.End (end_next (says (reply.Error why ∷ []) (outside_with copy)) (stays_out copy))

  abbrev pub outside_frame : Schema → Frame
  outside_frame copy = record {
    finish = λ listed count n.
        asks act.Commit (commit_next (λ number. says (map reply.Row listed ++ reply.Done count ∷ reply.Commit number ∷ []) (outside_with copy)) (stays_out copy));
    back = λ n why. undo n (ends_with copy why) (stays_out copy);
    lost = λ n why. undo n (ends_with copy why) (stays_out copy);
    stopped = λ why. says (reply.Error why ∷ []) (outside_with copy);
  }

  -- after a refused Defs the transaction ends, unless the engine is stopped
  abbrev pub fails_defs : Schema → EngineRefusal → Todo
  fails_defs copy why = if is_stop (Fails why) then stays_out copy why else ends_with copy (works.tell copy None why)

  -- a transaction begins; where the session's copy has fewer definitions, it gets another
  abbrev pub begins_with : Mode → Schema → (Schema → ℕ → Todo) → Todo
  begins_with mode copy next =
      asks (act.Begin mode) (begun_next
      (λ number defs. if defs == length copy then next copy number else asks act.Defs (defs_next (λ objects. next objects number) (ends_with copy NoMemory) (fails_defs copy)))
      (ends_with copy NoMemory) (stays_out copy))

  abbrev pub creates_with : Schema → StatementTree → Todo
  creates_with copy statement = asks (act.Schema statement) (schema_next
      (λ number. says (reply.Done 0 ∷ reply.Commit number ∷ []) (outside_with copy))
      (λ why. says (reply.Error why ∷ []) (outside_with copy))
      (stays_out copy))

  abbrev pub start_outside : Schema → StatementTree → Todo
  start_outside copy (create_table name columns primary) = creates_with copy (create_table name columns primary)
  start_outside copy (create_index name of columns) = creates_with copy (create_index name of columns)
  start_outside copy (create_view name query) = creates_with copy (create_view name query)
  start_outside copy (begin mode) =
      begins_with mode copy (λ held number. says (begin_reply mode number ∷ []) (record { mode = Some mode; saved = []; kept = 0; copy = held }))
  start_outside copy statement = begins_with Serial copy (λ held number. runs held Serial (outside_frame held) (works.work Serial held statement) 0)

  -- ---- all statements

  abbrev pub programs_of : Programs
  programs_of = record {
    refuses = λ standing statement. elim standing.mode [ None ↦ refused_outside statement | Some mode ↦ refused_marked mode standing.saved statement ];
    start = λ standing statement. elim standing.mode [ None ↦ start_outside standing.copy statement | Some mode ↦ start_inside mode standing statement ];
  }
