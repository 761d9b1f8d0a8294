-- Acts and answers that give no record to the journal.
use Rattle.std.specs.Prelude.{◌≡◌, ℕ, List, []}
use mathlib.Core.Path.{refl, ap}
use Rattle.iv_types.specs.declared.refusal.EngineRefusal.TheVariants as refusal
use Rattle.txn_machine.specs.Acts as act
use Rattle.txn_machine.specs.Acts.{Act}
use Rattle.txn_machine.specs.Answers as answer
use Rattle.txn_machine.specs.Answers.{Answer}
use Rattle.txn_machine.specs.State.{State}
use Rattle.txn_machine.specs.Steps.{Says}
use Rattle.txn_machine.specs.Store.{Effect}
use Rattle.core_journal.specs.Records.{Records, recorded_all, records_after}
use Rattle.core_recording.proofs.Plain.{IsPlain}

-- these change nothing that a crash has to keep
abbrev pub IsQuiet : Act → Type 0
IsQuiet (act.Begin mode) = Unit {0}
IsQuiet act.Defs = Unit {0}
IsQuiet (act.Fetch index interval mode) = Unit {0}
IsQuiet (act.Peek index interval) = Unit {0}
IsQuiet act.Prune = Unit {0}
IsQuiet act.Cancel = Unit {0}
IsQuiet _ = ⊥

pub quiet_plain : (a : Act) → IsQuiet a → IsPlain a
quiet_plain act.Checkpoint q = q
quiet_plain a q = tt

module _ (s : State) (i : ℕ) (rs : Records) where
  abbrev all : Act → List Effect → Records
  all a es = recorded_all s.store i a es s.log rs

  pub quiet_records : (a : Act) (said : Answer) (es : List Effect) → IsQuiet a → Says s i a said es → records_after s i a said es rs ≡ rs
  quiet_records (act.Begin mode) (answer.Blocked sessions) es q says = absurd says.0
  quiet_records (act.Begin mode) (answer.Refused (refusal.Deadlock cycle)) es q says = absurd says.0
  quiet_records (act.Begin mode) (answer.Refused refusal.NoMemory) es q says = ap (all (act.Begin mode)) says.1
  quiet_records (act.Begin mode) (answer.Begun number defs) es q says = ap (all (act.Begin mode)) says.effects
  quiet_records (act.Begin mode) (answer.Refused (refusal.LogFull used reserved_bytes need)) es q says = ap (all (act.Begin mode)) says.0
  quiet_records (act.Begin mode) (answer.Refused (refusal.HistoryFull kept need)) es q says = ap (all (act.Begin mode)) says.3
  quiet_records (act.Begin mode) said es q says = absurd says
  quiet_records act.Defs (answer.Blocked sessions) es q says = absurd says.0
  quiet_records act.Defs (answer.Refused (refusal.Deadlock cycle)) es q says = absurd says.0
  quiet_records act.Defs (answer.Refused refusal.NoMemory) es q says = ap (all act.Defs) says.1
  quiet_records act.Defs (answer.Defs objects) es q says = ap (all act.Defs) says.1
  quiet_records act.Defs said es q says = absurd says
  quiet_records (act.Fetch index interval mode) (answer.Blocked sessions) es q says = ap (all (act.Fetch index interval mode)) says.2
  quiet_records (act.Fetch index interval mode) (answer.Refused (refusal.Deadlock cycle)) es q says = ap (all (act.Fetch index interval mode)) says.2
  quiet_records (act.Fetch index interval mode) (answer.Refused refusal.NoMemory) es q says = ap (all (act.Fetch index interval mode)) says.1
  quiet_records (act.Fetch index interval mode) (answer.Rows rows) es q says = ap (all (act.Fetch index interval mode)) says.effects
  quiet_records (act.Fetch index interval mode) (answer.Refused (refusal.TxnFull kept need)) es q says = ap (all (act.Fetch index interval mode)) says.1
  quiet_records (act.Fetch index interval mode) said es q says = absurd says
  quiet_records (act.Peek index interval) (answer.Blocked sessions) es q says = absurd says.0
  quiet_records (act.Peek index interval) (answer.Refused (refusal.Deadlock cycle)) es q says = absurd says.0
  quiet_records (act.Peek index interval) (answer.Refused refusal.NoMemory) es q says = ap (all (act.Peek index interval)) says.1
  quiet_records (act.Peek index interval) (answer.Rows rows) es q says = ap (all (act.Peek index interval)) says.1
  quiet_records (act.Peek index interval) said es q says = absurd says
  quiet_records act.Prune (answer.Blocked sessions) es q says = absurd says.0
  quiet_records act.Prune (answer.Refused (refusal.Deadlock cycle)) es q says = absurd says.0
  quiet_records act.Prune (answer.Refused refusal.NoMemory) es q says = absurd says.0
  quiet_records act.Prune answer.Pruned es q says = ap (all act.Prune) says
  quiet_records act.Prune said es q says = absurd says
  quiet_records act.Cancel (answer.Blocked sessions) es q says = absurd says.0
  quiet_records act.Cancel (answer.Refused (refusal.Deadlock cycle)) es q says = absurd says.0
  quiet_records act.Cancel (answer.Refused refusal.NoMemory) es q says = absurd says.0
  quiet_records act.Cancel answer.Cancelled es q says = ap (all act.Cancel) says
  quiet_records act.Cancel said es q says = absurd says
  quiet_records a said es q says = absurd q

  -- nor does an act for which there was no memory
  pub unmade_records : (a : Act) → records_after s i a (answer.Refused refusal.NoMemory) [] rs ≡ rs
  unmade_records (act.Begin mode) = refl
  unmade_records act.Defs = refl
  unmade_records (act.Fetch index interval mode) = refl
  unmade_records (act.Peek index interval) = refl
  unmade_records (act.Put index key new) = refl
  unmade_records act.Pay = refl
  unmade_records act.Ghost = refl
  unmade_records act.UndoOne = refl
  unmade_records act.End = refl
  unmade_records act.Commit = refl
  unmade_records (act.Schema statement) = refl
  unmade_records act.Clean = refl
  unmade_records act.Prune = refl
  unmade_records act.Checkpoint = refl
  unmade_records act.Cancel = refl

  -- nor a step that is told of a stop
  pub stopped_records : (a : Act) (number : ℕ) → records_after s i a (answer.Refused (refusal.Stopped number)) [] rs ≡ rs
  stopped_records (act.Begin mode) number = refl
  stopped_records act.Defs number = refl
  stopped_records (act.Fetch index interval mode) number = refl
  stopped_records (act.Peek index interval) number = refl
  stopped_records (act.Put index key new) number = refl
  stopped_records act.Pay number = refl
  stopped_records act.Ghost number = refl
  stopped_records act.UndoOne number = refl
  stopped_records act.End number = refl
  stopped_records act.Commit number = refl
  stopped_records (act.Schema statement) number = refl
  stopped_records act.Clean number = refl
  stopped_records act.Prune number = refl
  stopped_records act.Checkpoint number = refl
  stopped_records act.Cancel number = refl
