-- A text is given to a session.
use Rattle.std.specs.Prelude.{◌≡◌, Option, Some, None, Result, Ok, Err, OnSome}
use Rattle.std.specs.Result.{result_err}
use mathlib.Core.Path.{refl, sym, subst, ◌∙◌}
use mathlib.Core.Logic.{inl, inr}
use Rattle.iv_types.specs.declared.refusal.Refusal.{Refusal}
use Rattle.iv_types.specs.declared.refusal.Refusal.TheVariants as refusal
use Rattle.iv_types.specs.Syntax.{StatementTree}
use Rattle.txn_sessions.specs.declared.session.Session.{Session}
use Rattle.txn_sessions.specs.Sessions.{todo_of, stands, left_of, IsIdle, IsStarted}
use Rattle.session_table.specs.declared.slot.LineKind.{LineKind}
use Rattle.session_table.specs.declared.slot.LineKind.TheVariants.{Idle, Waiting, Stepping, Held}
use Rattle.session_table.specs.declared.slot.Slot.{Slot}
use Rattle.session_table.specs.Slots.{FitsLine, seat_in}
use Rattle.session_table.specs.Requests.{MayLack, refusal_of, Began, Gave}

pub started_began : (old new : Session) (tree : StatementTree) (r : Result (Unit {0}) Refusal) → IsIdle old → IsStarted old tree r new → Began old (Ok tree) (result_err r) new
started_began old new tree (Ok u) was_idle (goes, starts, busy) = (goes, starts, busy)
started_began old new tree (Err why) was_idle (because, stays) = (elim because [ inl lacks ↦ inl (lacks, tt) | inr e ↦ inr e ], (λ k. left_of (stays.standing k) (stays.line k)), stays.line ∙ was_idle)

pub refused_began : (session : Session) (why : Refusal) → IsIdle session → Began session (Err why) (Some why) session
refused_began session why was_idle = (inr refl, refl, was_idle)

-- a session that is idle is given it
pub began_gave : (slot slot' : Slot) (read : Result StatementTree Refusal) (r : Option Refusal) → slot.line ≡ Idle → slot'.line ≡ slot.line → Began slot.session read r slot'.session → Gave slot read r slot'
began_gave slot slot' read (Some why) is same (because, todo, idle) = (
  elim because [
    | inl lacks ↦ inl (lacks.0, subst (λ l. MayLack (seat_in l (todo_of slot.session)).line read) (sym is) lacks.1)
    | inr e ↦ inr (subst (λ l. refusal_of l (stands slot.session) read ≡ Some why) (sym is) e)
  ],
  same,
  todo,
)
began_gave slot slot' read None is same (goes, begins, busy) = (subst (λ l. refusal_of l (stands slot.session) read ≡ None) (sym is) goes, is, begins, busy)

pub began_fits : (slot slot' : Slot) (read : Result StatementTree Refusal) (r : Option Refusal) → slot.line ≡ Idle → slot'.line ≡ slot.line → Began slot.session read r slot'.session → OnSome r (FitsLine slot'.line slot'.session)
began_fits slot slot' read (Some why) is same (because, todo, idle) = subst (λ l. FitsLine l slot'.session) (sym (same ∙ is)) idle
began_fits slot slot' read None is same h = tt

-- one that has an unfinished line takes none
pub busy_gave : (slot : Slot) (read : Result StatementTree Refusal) → (slot.line ≡ Idle → ⊥) → Gave slot read (Some refusal.SessionWaiting) slot
busy_gave slot read busy = (inr (by slot.line busy), refl, refl)
  where
    by : (l : LineKind) → (l ≡ Idle → ⊥) → refusal_of l (stands slot.session) read ≡ Some refusal.SessionWaiting
    by Idle no_one = absurd (no_one refl)
    by Waiting no_one = refl
    by Stepping no_one = refl
    by Held no_one = refl
