-- Each step that may be asked for has an answer.
use Rattle.std.specs.Prelude.{◌≡◌, ℕ, Some, None}
use mathlib.Core.Path.{refl}
use mathlib.Core.Logic.{inl, inr}
use Rattle.iv_types.specs.declared.refusal.EngineRefusal.TheVariants as refusal
use Rattle.iv_meaning.specs.Escrow.{IsSession}
use Rattle.txn_machine.specs.Acts as act
use Rattle.txn_machine.specs.Acts.{Act}
use Rattle.txn_machine.specs.Answers as answer
use Rattle.txn_machine.specs.Answers.{Answer}
use Rattle.txn_machine.specs.Ghosts.{the_views}
use Rattle.txn_machine.specs.Store.{run}
use Rattle.txn_machine.specs.State.{State, Stop, counted, told_of_stop}
use Rattle.txn_machine.specs.May.{May, MayAct}
use Rattle.txn_machine.specs.Laws.{IsReached}
use Rattle.txn_machine.specs.Steps.{Step, asked, IsFree, MayWait, waits_after, definitions_after, log_after}
use Rattle.txn_machine.proofs.Moving.{may_of}
use Rattle.machine_answers.specs.Answered.{IsOfState, AnsweredLaw}
use Rattle.machine_answers.proofs.Saying.{HasAnswer}
use Rattle.machine_answers.proofs.Choosing.{some_or_none}
use Rattle.machine_answers.proofs.Cleaning.{cleans}
use Rattle.machine_answers.proofs.Defining.{defines_it}
use Rattle.machine_answers.proofs.Found.{finds}
use Rattle.machine_answers.proofs.Granted.{fetches, puts, pays}
use Rattle.machine_answers.proofs.Waiting.{free_or_answered}
use Rattle.machine_answers.proofs.Simple.{begins, learns, peeks, makes_ghost, takes_back, ends, commits, prunes, saves, cancels}

-- a stopped engine says so
told : (s : State) (session : ℕ) (a : Act) (stop : Stop) → s.stop ≡ Some stop → May s session a → (said : Answer) × (after : State) × IsOfState said × Step s session a said after
told s session a stop e may = (
  answer.Refused (refusal.Stopped stop.step),
  told_of_stop s session,
  tt,
  record { may = may; does = inr (record { stop = stop; stopped = e; says = refl; left = refl }) },
)

stepped : (s : State) (session : ℕ) (a : Act) → s.stop ≡ None → May s session a → HasAnswer s session a → (said : Answer) × (after : State) × IsOfState said × Step s session a said after
stepped s session a runs may h = (
  h.said,
  counted s session a h.said (run the_views s.store session h.effects) (waits_after s.store session a h.said) (definitions_after s.definitions a h.said) (log_after s session a h.said h.effects),
  h.of_state,
  record { may = may; does = inl (record { runs = runs; effects = h.effects; says = h.says; left = refl }) },
)

-- where a running engine has an answer, each has
by_running : (s : State) (session : ℕ) (a : Act) → May s session a → (MayAct s.store session a → HasAnswer s session a)
    → (said : Answer) × (after : State) × IsOfState said × Step s session a said after
by_running s session a may answers = elim (some_or_none s.stop) [
  | inl (stop, e) ↦ told s session a stop e may
  | inr runs ↦ stepped s session a runs may (answers (may_of s session a runs may.1))
]

-- a step that asks for locks
locked : (s : State) (session : ℕ) (a : Act) → IsSession session → MayWait a → (IsFree s.store session (asked s.store session a) → HasAnswer s session a) → HasAnswer s session a
locked s session a is locks answers = elim (free_or_answered s session a is locks) [ inl free ↦ answers free | inr answered ↦ answered ]

running : (s : State) → IsReached s → (session : ℕ) (a : Act) → MayAct s.store session a → HasAnswer s session a
running s r session (act.Begin mode) may = begins s session mode
running s r session act.Defs may = learns s session
running s r session (act.Fetch number interval mode) may =
    let found = finds s r number interval in
    locked s session (act.Fetch number interval mode) may.0.goes_on.of_session tt (fetches s session number interval mode found.0 found.1)
running s r session (act.Peek number interval) may = peeks s session number interval
running s r session (act.Put number key new) may = locked s session (act.Put number key new) may.0.goes_on.of_session tt (puts s session number key new)
running s r session act.Pay may = locked s session act.Pay may.goes_on.of_session tt (pays s session may)
running s r session act.Ghost may = makes_ghost s session may.0
running s r session act.UndoOne may = takes_back s session may.0 may.1
running s r session act.End may = ends s session
running s r session act.Commit may = commits s session
running s r session (act.Schema statement) may = defines_it s session statement may.2
running s r session act.Clean may = cleans s session
running s r session act.Prune may = prunes s session
running s r session act.Checkpoint may = saves s session
running s r session act.Cancel may = cancels s session

pub answered_law : AnsweredLaw
answered_law s r session a may = by_running s session a may (running s r session a)
