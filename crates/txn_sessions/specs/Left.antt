-- No clause of `run` rests on this module: it serves contracts between crates.
--
-- What a session has still to do, as the programs of all statements have it.
use Rattle.std.specs.Prelude.{ℕ, ◌+◌, ◌==◌, Bool, List, [], ◌∷◌, ◌++◌, drop, length, Option, Some, None, if◌then◌else◌}
use Rattle.iv_types.specs.declared.statement.Mode.{Mode}
use Rattle.iv_types.specs.declared.statement.Mode.TheVariants.{Serial}
use Rattle.iv_types.specs.declared.lock.GroupDelta.{GroupDelta}
use Rattle.iv_types.specs.declared.refusal.Refusal.TheVariants as refusal
use Rattle.iv_types.specs.declared.refusal.EngineRefusal.{EngineRefusal}
use Rattle.iv_types.specs.declared.reply.Reply.{Reply}
use Rattle.iv_types.specs.declared.reply.Reply.TheVariants as reply
use Rattle.iv_types.specs.Trees.{statement_tree}
use Rattle.iv_meaning.specs.Transaction.{begin_reply}
use Rattle.iv_meaning.specs.Schema.{Schema}
use Rattle.txn_machine.specs.Acts as act
use Rattle.txn_machine.specs.Acts.{Act}
use Rattle.txn_machine.specs.Answers.{Answer}
use Rattle.script_law.specs.Seen.{Fails, is_stop}
use Rattle.script_law.specs.Programs.{Standing, outside_with, Todo, says, asks, ghosts}
use Rattle.script_law.specs.Works.{Work}
use Rattle.script_law.specs.Sessions.{Frame, unanswered, undo_next, end_next, commit_next, schema_next, rows_next, changed_next, paid_next, begun_next, defs_next, undo, failed, pay_failed, pays, runs, inside_frame, outside_frame}
use Rattle.statement_law.specs.Telling.{tell}
use Rattle.statement_law.specs.Statements.{statement_work, the_works}
use Rattle.task_parts.specs.declared.turn.Told.TheVariants.{Rows, Before}
use Rattle.statement_tasks.specs.Tasks.{left_when, mode_of}
use Rattle.txn_sessions.specs.declared.line.Opening.{Opening}
use Rattle.txn_sessions.specs.declared.line.Opening.TheVariants as opening
use Rattle.txn_sessions.specs.declared.line.After.{After}
use Rattle.txn_sessions.specs.declared.line.After.TheVariants as after
use Rattle.txn_sessions.specs.declared.line.Owing.{Owing}
use Rattle.txn_sessions.specs.declared.line.Stage.{Stage}
use Rattle.txn_sessions.specs.declared.line.Stage.TheVariants as stage

-- what follows a work, in the transaction that is open or in one of one statement
abbrev pub frame_in : Option Mode → Standing → Frame
frame_in None st = outside_frame the_works st.copy
frame_in (Some mode) st = inside_frame the_works st

-- it has these replies, and its transaction, if it is in one, stands as it did
abbrev pub says_in : Option Mode → Standing → List Reply → Todo
says_in None st replies = says replies (outside_with st.copy)
says_in (Some mode) st replies = says replies st

-- what follows once a transaction is open, with this copy of the definitions
abbrev pub opens : Option Mode → Standing → Opening → ℕ → Todo
opens m st (opening.Begin mode) number = says (begin_reply mode number ∷ []) (record { mode = Some mode; saved = []; kept = 0; copy = st.copy })
opens m st (opening.Alone statement) number = runs the_works st.copy Serial (frame_in m st) (statement_work Serial st.copy (statement_tree statement)) 0

abbrev pub with_copy : Standing → Schema → Standing
with_copy st copy = record st { copy = copy }

module _ (m : Option Mode) (st : Standing) where
  -- a step that nothing is taken back after is refused
  abbrev pub fails : EngineRefusal → Todo
  fails why = says_in m st (reply.Error (tell st.copy None why) ∷ [])

  abbrev pub end_follows : Reply → Answer → Bool → Todo
  end_follows reply = end_next (says (reply ∷ []) (outside_with st.copy)) fails

  -- what follows once all is taken back
  abbrev pub last_as : After → Todo
  last_as (after.Says reply) = says_in m st (reply ∷ [])
  last_as (after.Ends reply) = asks act.End (end_follows reply)
  last_as (after.Returns later kept) = says (reply.Done 0 ∷ []) (record st { saved = drop later st.saved; kept = kept })

  abbrev pub undo_as : ℕ → After → Todo
  undo_as n last = undo the_works n (last_as last) fails

  abbrev pub commit_follows : List Reply → Answer → Bool → Todo
  commit_follows replies = commit_next (λ number. says (replies ++ reply.Commit number ∷ []) (outside_with st.copy)) fails

  abbrev pub create_follows : List Reply → Answer → Bool → Todo
  create_follows replies =
      schema_next (λ number. says (replies ++ reply.Commit number ∷ []) (outside_with st.copy)) (λ why. says (reply.Error why ∷ []) (outside_with st.copy)) fails

  -- there was no memory to begin
  abbrev pub lacking : Todo
  lacking = (frame_in m st).back 0 refusal.NoMemory

  abbrev pub fails_defs : EngineRefusal → Todo
  fails_defs why = if is_stop (Fails why) then fails why else (frame_in m st).back 0 (tell st.copy None why)

  abbrev pub learn_follows : Opening → ℕ → Answer → Bool → Todo
  learn_follows o number = defs_next (λ objects. opens m (with_copy st objects) o number) lacking fails_defs

  abbrev pub open_follows : Opening → Answer → Bool → Todo
  open_follows o =
      begun_next (λ number defs. if defs == length st.copy then opens m st o number else asks act.Defs (learn_follows o number)) lacking fails

  abbrev pub runs_as : Mode → Work → ℕ → Todo
  runs_as mode w n = runs the_works st.copy mode (frame_in m st) w n

  -- the first of some deltas is paid
  abbrev pub pay_follows : Mode → List GroupDelta → (ℕ → Todo) → ℕ → Answer → Bool → Todo
  pay_follows mode [] next n = λ said memory. unanswered
  pay_follows mode (d ∷ ds) next n =
      paid_next (pays the_works st.copy mode (frame_in m st) ds next (n + 1)) ((frame_in m st).back (n + 1) refusal.NoMemory) (pay_failed the_works st.copy mode (frame_in m st) n d)

  abbrev pub owing_follows : Owing → Answer → Bool → Todo
  owing_follows o = pay_follows (mode_of o.task) (drop o.paid o.owed) (λ n. runs_as (mode_of o.task) (left_when (Before o.before) o.task) n) o.made

  -- the deltas that are left are paid, and then the task goes on
  abbrev pub owes : Owing → Todo
  owes o = pays the_works st.copy (mode_of o.task) (frame_in m st) (drop o.paid o.owed) (λ n. runs_as (mode_of o.task) (left_when (Before o.before) o.task) n) o.made

  -- what follows the answer of a stage's step
  abbrev pub follows : Stage → Answer → Bool → Todo
  follows (stage.Opening o) = open_follows o
  follows (stage.Learning o number) = learn_follows o number
  follows (stage.Fetching task made) =
      rows_next (λ rows. runs_as (mode_of task) (left_when (Rows rows) task) made) ((frame_in m st).back made refusal.NoMemory) (failed the_works st.copy (mode_of task) (frame_in m st) made None)
  follows (stage.Changing task made) =
      changed_next (λ before owed. pays the_works st.copy (mode_of task) (frame_in m st) owed (λ n. runs_as (mode_of task) (left_when (Before before) task) n) (made + 1))
      ((frame_in m st).back (made + 1) refusal.NoMemory) (failed the_works st.copy (mode_of task) (frame_in m st) made None)
  follows (stage.Paying o) = owing_follows o
  follows (stage.Lacking o) = owing_follows o
  follows (stage.Undoing n last) = undo_next (undo_as n last) fails
  follows (stage.Ending reply) = end_follows reply
  follows (stage.Committing replies) = commit_follows replies
  follows (stage.Creating replies) = create_follows replies

  -- at a stage whose step was asked for
  abbrev pub asked_as : Act → Stage → Todo
  asked_as a (stage.Lacking o) = ghosts (follows (stage.Lacking o))
  asked_as a s = asks a (follows s)
