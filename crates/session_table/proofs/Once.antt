-- One step of a session.
use Rattle.std.specs.Prelude.{◌≡◌, ℕ, Some, None, IsSome, Option}
use mathlib.Core.Path.{refl, sym, ap, subst}
use Rattle.iv_types.specs.declared.session.Sessions.{Sessions}
use Rattle.txn_machine.specs.State.{State}
use Rattle.txn_machine.specs.Alone.{Story}
use Rattle.script_law.specs.Seen.{Event, Waits, event}
use Rattle.script_law.specs.Programs.{Todo, says, asks, ghosts}
use Rattle.script_law.specs.RunLines.{Outcome, ended, stuck, stepped, act_of, next_of, IsNotBlocked, StepsOnce, had_ended, steps_once, outcome_at, outcome_of}
use Rattle.script_law.specs.Machine.{DoesOf}
use Rattle.txn_sessions.specs.declared.line.Replies.{Replies}
use Rattle.txn_sessions.specs.declared.session.Session.{Session}
use Rattle.txn_sessions.specs.Standings.{replies_of}
use Rattle.txn_sessions.specs.Sessions.{stands, todo_of, IsIdle}
use Rattle.txn_sessions.specs.Within.{IsWithin}
use Rattle.session_table.specs.declared.going.Came.TheVariants as came
use Rattle.session_asks.specs.Askable.{the_programs}
use Rattle.session_table.specs.Going.{StandsIn, the_tell, MayGo, DidStep, standing_in}
use Rattle.session_table.specs.Requests.{WentOnce}
use Rattle.session_table.proofs.Knowing.{so}
use Rattle.session_table.proofs.Gone.{idle_todo, next_goes, blocked_goes, taken_goes}

free_outcome : (e : Event) (stay next : Todo) → IsNotBlocked e → outcome_of e stay next ≡ outcome_at next
free_outcome (Waits sessions) stay next h = absurd h
free_outcome _ stay next h = refl

busy_outcome : (t : Todo) → IsSome (act_of t) → outcome_at t ≡ stepped t
busy_outcome (says replies standing) h = absurd (cc)
busy_outcome (asks a f) h = refl
busy_outcome (ghosts f) h = refl

abbrev Once : Story → Session → Outcome → Story → Type 0
Once s x o after = StepsOnce DoesOf the_programs the_tell x.number (todo_of x) s o after

-- it had ended
once_had : (s : Story) (x x' : Session) (replies : Replies) → MayGo x s → todo_of x ≡ says (replies_of replies) (stands x') → x'.number ≡ x.number → IsIdle x' → ((n : ℕ) → IsWithin n x → IsWithin n x')
    → WentOnce s x (came.Ended replies) x' s
once_had s x x' replies go is n idle within = record {
  once = subst (λ t. StepsOnce DoesOf the_programs the_tell x.number t s (ended (replies_of replies) (standing_in (todo_of x'))) s) (sym is)
      (subst (λ st. StepsOnce DoesOf the_programs the_tell x.number (says (replies_of replies) (stands x')) s (ended (replies_of replies) st) s) (sym (ap standing_in (idle_todo x' idle)))
      (had_ended (replies_of replies) (stands x') s));
  go = taken_goes s x x' replies go is n idle (within s.state.steps go.within);
}

once_stuck : (s : Story) (x x' : Session) (sessions : Sessions) (after : Story) → MayGo x s → DidStep s x (Some sessions) x' after → WentOnce s x (came.Stuck sessions) x' after
once_stuck s x x' sessions after go d = record {
  once = subst (λ (z : Session). Once s x (stuck sessions (todo_of z)) after) (sym d.goes.1)
      (subst (λ e. Once s x (outcome_of e (todo_of x) (next_of (todo_of x) d.said d.memory)) after) d.goes.0 (steps_once (todo_of x) d.act s after d.said d.memory d.asks d.does));
  go = blocked_goes s x x' sessions after go d;
}

-- the outcome of a step that was not blocked
once_at : (s : Story) (x y : Session) (after : Story) → DidStep s x None y after → Once s x (outcome_at (todo_of y)) after
once_at s x y after d = subst (λ t. Once s x (outcome_at t) after) (sym d.goes.1)
    (subst (λ o. Once s x o after) (free_outcome (event d.act d.said) (todo_of x) (next_of (todo_of x) d.said d.memory) d.goes.0) (steps_once (todo_of x) d.act s after d.said d.memory d.asks d.does))

once_stepped : (s : Story) (x x' : Session) (after : Story) → MayGo x s → x'.number ≡ x.number → IsSome (act_of (todo_of x')) → DidStep s x None x' after → WentOnce s x came.Stepped x' after
once_stepped s x x' after go n busy d = record {
  once = subst (λ o. Once s x o after) (busy_outcome (todo_of x') busy) (once_at s x x' after d);
  go = next_goes s x x' after go n d;
}

-- and then the replies are taken
once_ended : (s : Story) (x y x' : Session) (replies : Replies) (after : Story) → MayGo x s → y.number ≡ x.number → x'.number ≡ y.number → todo_of y ≡ says (replies_of replies) (stands x') → IsIdle x'
    → ((n : ℕ) → IsWithin n y → IsWithin n x') → DidStep s x None y after → WentOnce s x (came.Ended replies) x' after
once_ended s x y x' replies after go n n' is idle within d = record {
  once = subst (λ st. Once s x (ended (replies_of replies) st) after) (sym (ap standing_in (idle_todo x' idle))) (subst (λ t. Once s x (outcome_at t) after) is (once_at s x y after d));
  go = taken_goes after y x' replies (next_goes s x y after go n d) is n' idle (within after.state.steps d.within);
}

module _ (St0 : State → Type 0) (x : Session) where
  pub had_told : (x' : Session) (replies : Replies) → todo_of x ≡ says (replies_of replies) (stands x') → IsIdle x' → x'.number ≡ x.number → ((n : ℕ) → IsWithin n x → IsWithin n x')
      → (s : Story) → St0 s.state → MayGo x s → StandsIn St0 (WentOnce s x (came.Ended replies) x')
  had_told x' replies is idle n within s st go = record { story = s; stands = st; holds = once_had s x x' replies go is n idle within }

  module _ {St1 : State → Type 0} (y : Session) (waits : Option Sessions) (did : (s : Story) → St0 s.state → MayGo x s → StandsIn St1 (DidStep s x waits y)) where
    pub stuck_told : (sessions : Sessions) → waits ≡ Some sessions → (s : Story) → St0 s.state → MayGo x s → StandsIn St1 (WentOnce s x (came.Stuck sessions) y)
    stuck_told sessions e s st go = so (did s st go) (λ t d. once_stuck s x y sessions t go (subst (λ w. DidStep s x w y t) e d))

    pub ended_told : waits ≡ None → (x' : Session) (replies : Replies) → todo_of y ≡ says (replies_of replies) (stands x') → IsIdle x' → y.number ≡ x.number → x'.number ≡ y.number → ((n : ℕ) → IsWithin n y → IsWithin n x')
        → (s : Story) → St0 s.state → MayGo x s → StandsIn St1 (WentOnce s x (came.Ended replies) x')
    ended_told e x' replies is idle n n' within s st go = so (did s st go) (λ t d. once_ended s x y x' replies t go n n' is idle within (subst (λ w. DidStep s x w y t) e d))

    pub stepped_told : waits ≡ None → y.number ≡ x.number → IsSome (act_of (todo_of y)) → (s : Story) → St0 s.state → MayGo x s → StandsIn St1 (WentOnce s x came.Stepped y)
    stepped_told e n busy s st go = so (did s st go) (λ t d. once_stepped s x y t go n busy (subst (λ w. DidStep s x w y t) e d))
