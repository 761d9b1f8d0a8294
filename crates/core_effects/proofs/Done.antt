-- What is told of an act whose effects are done.
use Rattle.std.specs.Prelude.{◌≡◌, ◌≢◌, ℕ, ◌+◌, ◌≤◌, false, List, [], Option}
use mathlib.Core.Path.{sym, ap, subst, ◌∙◌}
use Rattle.iv_types.specs.Maps.{Map}
use Rattle.iv_meaning.specs.Escrow.{IsSession}
use Rattle.lock_manager.specs.Table as table
use Rattle.txn_machine.specs.Acts.{Act}
use Rattle.txn_machine.specs.Answers.{Answer}
use Rattle.txn_machine.specs.Ghosts.{the_views}
use Rattle.txn_machine.specs.State.{State, is_fault}
use Rattle.txn_machine.specs.Steps.{Says, log_after}
use Rattle.txn_machine.specs.Store.{Effect, run}
use Rattle.core_state.specs.Seats.{machine_seat, machine_cleaner, seat_at}
use Rattle.core_state.specs.Stands.{Began, Told, Holds, Reserves, Counts, IsOpening, is_blocked, texts_after}
use Rattle.core_state.specs.declared.state.CoreState.{CoreState}
use Rattle.core_state.proofs.Unchanged.{not_blocked}
use Rattle.core_effects.specs.Underway.{IsUnderway}

-- nothing of this changes in a step before it is counted
pub record AreUncounted {M : Type 0} (core new : CoreState M) : Type 0 where
  pub steps : new.steps ≡ core.steps
  pub seats : new.seats ≡ core.seats
  pub cleaner : new.cleaner ≡ core.cleaner
  pub stop : new.stop ≡ core.stop
  pub limit : new.data_room.limit ≡ core.data_room.limit
  pub log_limit : new.log_room.limit ≡ core.log_room.limit

pub uncounted_twice : {M : Type 0} (one two three : CoreState M) → AreUncounted one two → AreUncounted two three → AreUncounted one three
uncounted_twice one two three a b = record { steps = b.steps ∙ a.steps; seats = b.seats ∙ a.seats; cleaner = b.cleaner ∙ a.cleaner; stop = b.stop ∙ a.stop; limit = b.limit ∙ a.limit; log_limit = b.log_limit ∙ a.log_limit }

-- so its limits stay
pub opening_as : {M : Type 0} {core new : CoreState M} {s : State} → AreUncounted core new → IsOpening core.log_room.limit core.data_room.limit s → IsOpening new.log_room.limit new.data_room.limit s
opening_as {M} {core} {new} {s} same h = subst (λ m. IsOpening new.log_room.limit m s) (sym same.limit) (subst (λ m. IsOpening m core.data_room.limit s) (sym same.log_limit) h)

module _ {M : Type 0} (maps : M → ℕ → Map) (spare : M → ℕ → ℕ) (limit : M → Option ℕ) (core new : CoreState M) (s : State) (i : ℕ) (h : Began maps spare limit core s i) where
  pub counts_as : AreUncounted core new → Counts maps spare limit new s
  counts_as same = record {
    steps = same.steps ∙ h.counts.steps;
    seats = λ j le. ap (λ ss. machine_seat (seat_at ss j)) same.seats ∙ h.counts.seats j le;
    few = h.counts.few;
    cleaner = ap machine_cleaner same.cleaner ∙ h.counts.cleaner;
    removed = h.counts.removed;
    running = h.counts.running;
    begun = h.counts.begun;
    next = h.counts.next;
    stop = same.stop ∙ h.counts.stop;
  }

  unfoldable pub done_told : (a : Act) (said : Answer) (es : List Effect) → Says s i a said es → Holds maps spare limit new (run the_views s.store i es) (log_after s i a said es) (texts_after s a said)
      → Reserves maps spare limit new (run the_views s.store i es) (log_after s i a said es)
      → AreUncounted core new → (IsSession i → table.waiting_of new.locks i ≡ []) → ((j : ℕ) → IsSession j → j ≢ i → table.waiting_of new.locks j ≡ s.waiting j)
      → is_blocked said ≡ false → is_fault said ≡ false → (log_after s i a said es).begun ≤ s.log.begun + 1 → (log_after s i a said es).next ≤ s.log.next + 1
      → Told maps spare limit s i a said new
  done_told a said es says holds reserves same own others not fine begins appends = record {
    reached = h.reached;
    opening = opening_as same h.opening;
    runs = h.runs;
    effects = es;
    says = says;
    holds = holds;
    reserves = reserves;
    own = λ sessions b. absurd (not_blocked said sessions b not);
    none = λ _ is. own is;
    waiting = others;
    counts = counts_as same;
    no_fault = fine;
    begins_one = begins;
    appends_one = appends;
  }

-- a step that has begun is under way
pub begun_underway : {M : Type 0} (maps : M → ℕ → Map) (spare : M → ℕ → ℕ) (limit : M → Option ℕ) (core : CoreState M) (s : State) (i : ℕ) → Began maps spare limit core s i → IsUnderway maps spare limit s i core
begun_underway maps spare limit core s i h = record { reached = h.reached; opening = h.opening; runs = h.runs; own = h.own; waiting = h.waiting; counts = h.counts }

-- and it is where others wait as before
pub still_underway : {M : Type 0} (maps : M → ℕ → Map) (spare : M → ℕ → ℕ) (limit : M → Option ℕ) (core new : CoreState M) (s : State) (i : ℕ) → IsUnderway maps spare limit s i core → AreUncounted core new
    → (IsSession i → table.waiting_of new.locks i ≡ []) → ((j : ℕ) → j ≢ i → table.waiting_of new.locks j ≡ table.waiting_of core.locks j) → IsUnderway maps spare limit s i new
still_underway maps spare limit core new s i u same own others = record {
  reached = u.reached;
  opening = opening_as same u.opening;
  runs = u.runs;
  own = own;
  waiting = λ j js n. others j n ∙ u.waiting j js n;
  counts = record {
    steps = same.steps ∙ u.counts.steps;
    seats = λ j le. ap (λ ss. machine_seat (seat_at ss j)) same.seats ∙ u.counts.seats j le;
    few = u.counts.few;
    cleaner = ap machine_cleaner same.cleaner ∙ u.counts.cleaner;
    removed = u.counts.removed;
    running = u.counts.running;
    begun = u.counts.begun;
    next = u.counts.next;
    stop = same.stop ∙ u.counts.stop;
  };
}

pub told_by : {M : Type 0} (maps : M → ℕ → Map) (spare : M → ℕ → ℕ) (limit : M → Option ℕ) (new : CoreState M) (s : State) (i : ℕ) → IsUnderway maps spare limit s i new → (a : Act) (said : Answer) (es : List Effect) → Says s i a said es
    → Holds maps spare limit new (run the_views s.store i es) (log_after s i a said es) (texts_after s a said)
    → Reserves maps spare limit new (run the_views s.store i es) (log_after s i a said es)
    → is_blocked said ≡ false → is_fault said ≡ false → (log_after s i a said es).begun ≤ s.log.begun + 1 → (log_after s i a said es).next ≤ s.log.next + 1
    → Told maps spare limit s i a said new
told_by maps spare limit new s i u a said es says holds reserves not fine begins appends = record {
  reached = u.reached;
  opening = u.opening;
  runs = u.runs;
  effects = es;
  says = says;
  holds = holds;
  reserves = reserves;
  own = λ sessions b. absurd (not_blocked said sessions b not);
  none = λ _ is. u.own is;
  waiting = u.waiting;
  counts = u.counts;
  no_fault = fine;
  begins_one = begins;
  appends_one = appends;
}
