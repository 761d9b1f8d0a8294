-- No clause of `run` rests on this module: it serves contracts between crates.
--
-- That each step that may be asked for has an answer, and only one.
use Rattle.std.specs.Prelude.{◌≡◌, ℕ}
use Rattle.iv_types.specs.declared.refusal.EngineRefusal.TheVariants as refusal
use Rattle.iv_types.specs.Replies.{members}
use Rattle.iv_meaning.specs.Waits.{sessions_of}
use Rattle.txn_machine.specs.Acts.{Act}
use Rattle.txn_machine.specs.Answers as answer
use Rattle.txn_machine.specs.Answers.{Answer}
use Rattle.txn_machine.specs.State.{State}
use Rattle.txn_machine.specs.May.{May}
use Rattle.txn_machine.specs.Steps.{Step}
use Rattle.txn_machine.specs.Laws.{IsReached}

-- it tells what the state gives: neither was memory wanting, nor did the disk fail
abbrev pub IsOfState : Answer → Type 0
IsOfState (answer.Refused refusal.NoMemory) = ⊥
IsOfState (answer.Refused refusal.DiskFault) = ⊥
IsOfState said = Unit {0}

-- each step that may be asked for has such an answer, and a state after it
abbrev pub AnsweredLaw : Type 0
AnsweredLaw = (s : State) → IsReached s → (session : ℕ) (a : Act) → May s session a → (said : Answer) × (after : State) × IsOfState said × Step s session a said after

-- the same answer, or one that names the same sessions
abbrev pub AreAlike : Answer → Answer → Type 0
AreAlike (answer.Blocked one) (answer.Blocked other) = members one ≡ members other
AreAlike (answer.Refused (refusal.Deadlock one)) (answer.Refused (refusal.Deadlock other)) = sessions_of one ≡ sessions_of other
AreAlike one other = one ≡ other

-- two such answers of one step are alike and leave the same store, and the same answer leaves the same state
abbrev pub OnlyLaw : Type 0
OnlyLaw = (s : State) (session : ℕ) (a : Act) (one other : Answer) (after next : State) → IsOfState one → IsOfState other
    → Step s session a one after → Step s session a other next
    → AreAlike one other × (after.store ≡ next.store) × (one ≡ other → after ≡ next)
