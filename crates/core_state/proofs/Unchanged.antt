-- What is told of an act that changes nothing.
use Rattle.std.specs.Prelude.{◌≡◌, ℕ, ◌+◌, ◌≤◌, false, true, [], Option}
use mathlib.Core.Path.{sym, ap, subst, ◌∙◌}
use Rattle.std.proofs.Common.{arith}
use Rattle.iv_types.specs.Maps.{Map}
use Rattle.iv_types.specs.declared.session.Sessions.{Sessions}
use Rattle.txn_machine.specs.Acts.{Act}
use Rattle.txn_machine.specs.Answers as answer
use Rattle.txn_machine.specs.Answers.{Answer}
use Rattle.txn_machine.specs.Log.{Log}
use Rattle.txn_machine.specs.State.{State, is_fault}
use Rattle.txn_machine.specs.Steps.{Says, definitions_after, log_after}
use Rattle.core_state.specs.Stands.{Began, Told, Holds, Reserves, is_blocked, its_texts}
use Rattle.core_state.specs.declared.state.CoreState.{CoreState}

-- nobody is in the way of an answer that is not that
pub not_blocked : (m : Answer) (sessions : Sessions) → m ≡ answer.Blocked sessions → is_blocked m ≡ false → ⊥
not_blocked m sessions e none = let bad : true ≡ false = sym (ap is_blocked e) ∙ none in absurd (cc)

pub unchanged_told : {M : Type 0} (maps : M → ℕ → Map) (spare : M → ℕ → ℕ) (limit : M → Option ℕ) (core : CoreState M) (s : State) (i : ℕ) (a : Act) (said : Answer) → Began maps spare limit core s i → Says s i a said [] → log_after s i a said [] ≡ s.log → definitions_after s.definitions a said ≡ s.definitions
    → is_blocked said ≡ false → is_fault said ≡ false → Told maps spare limit s i a said core
unchanged_told maps spare limit core s i a said h says log_same definitions not fine = record {
  reached = h.reached;
  opening = h.opening;
  runs = h.runs;
  effects = [];
  says = says;
  holds = subst (λ ds. Holds maps spare limit core s.store (log_after s i a said []) (record { before = s.opening.definitions; since = ds })) (sym definitions) (subst (λ l. Holds maps spare limit core s.store l (its_texts s)) (sym log_same) h.holds);
  reserves = subst (λ l. Reserves maps spare limit core s.store l) (sym log_same) h.reserves;
  own = λ sessions b. absurd (not_blocked said sessions b not);
  none = λ _ is. h.own is;
  waiting = h.waiting;
  counts = h.counts;
  no_fault = fine;
  begins_one = subst (λ (l : Log). l.begun ≤ s.log.begun + 1) (sym log_same) (omega arith);
  appends_one = subst (λ (l : Log). l.next ≤ s.log.next + 1) (sym log_same) (omega arith);
}
