-- No clause of `run` rests on this module: it serves contracts between crates.
--
-- Acts and answers of the code, as the step relation has them.
use Rattle.iv_types.specs.Trees.{statement_tree}
use Rattle.iv_meaning.specs.Objects.{schema_of}
use Rattle.txn_machine.specs.Acts as machine
use Rattle.txn_machine.specs.Answers as machine_answer
use Rattle.txn_machine.specs.State as machine_state
use Rattle.txn_book.specs.declared.step.Act.{Act}
use Rattle.txn_book.specs.declared.step.Act.TheVariants as act
use Rattle.txn_book.specs.declared.step.Answer.{Answer}
use Rattle.txn_book.specs.declared.step.Answer.TheVariants as answer
use Rattle.txn_book.specs.declared.step.LastRefusal.{LastRefusal}

abbrev pub act_of : Act → machine.Act
act_of (act.Begin mode) = machine.Begin mode
act_of act.Defs = machine.Defs
act_of (act.Fetch index interval mode) = machine.Fetch index interval mode
act_of (act.Peek index interval) = machine.Peek index interval
act_of (act.Put table key new) = machine.Put table key new
act_of act.Pay = machine.Pay
act_of act.Ghost = machine.Ghost
act_of act.UndoOne = machine.UndoOne
act_of act.End = machine.End
act_of act.Commit = machine.Commit
act_of (act.Schema statement) = machine.Schema (statement_tree statement)
act_of act.Clean = machine.Clean
act_of act.Prune = machine.Prune
act_of act.Checkpoint = machine.Checkpoint
act_of act.Cancel = machine.Cancel

abbrev pub answer_of : Answer → machine_answer.Answer
answer_of (answer.Begun number defs) = machine_answer.Begun number defs
answer_of (answer.Defs catalog) = machine_answer.Defs (schema_of catalog)
answer_of (answer.Rows rows) = machine_answer.Rows rows
answer_of (answer.Changed before owed) = machine_answer.Changed before owed
answer_of (answer.Paid left) = machine_answer.Paid left
answer_of answer.NeedsGhost = machine_answer.NeedsGhost
answer_of answer.Ghosted = machine_answer.Ghosted
answer_of (answer.Undone left) = machine_answer.Undone left
answer_of answer.Ended = machine_answer.Ended
answer_of (answer.Committed number) = machine_answer.Committed number
answer_of (answer.Cleaned count) = machine_answer.Cleaned count
answer_of answer.Pruned = machine_answer.Pruned
answer_of (answer.Saved number) = machine_answer.Saved number
answer_of answer.Cancelled = machine_answer.Cancelled
answer_of (answer.Blocked sessions) = machine_answer.Blocked sessions
answer_of (answer.Refused why) = machine_answer.Refused why
answer_of (answer.Denied why) = machine_answer.Denied why

abbrev pub last_refusal : LastRefusal → machine_state.LastRefusal
last_refusal r = record { step = r.step; refusal = r.refusal }
