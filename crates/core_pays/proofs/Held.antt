-- The lock of a Pay is held, or waited for.
use Rattle.std.specs.Prelude.{◌≡◌, ◌≢◌, ℕ, ◌+◌, ◌≤◌, List, [], ◌∷◌, map, length, Option, Some, refl}
use Rattle.std.specs.List.{Contains}
use mathlib.Core.Path.{sym, ap, subst, ◌∙◌}
use mathlib.Core.Logic.{inl, inr}
use Rattle.std.proofs.Common.{arith}
use Rattle.iv_types.specs.Maps.{Map}
use Rattle.iv_types.specs.declared.lock.Want.{Want}
use Rattle.iv_types.specs.declared.session.Sessions.{Sessions}
use Rattle.lock_manager.specs.Table as table
use Rattle.lock_manager.specs.Table.{Table, SessionLocks, AddAtMost, IsGranted, IsRecorded}
use Rattle.lock_desk.specs.Asking.{HasToWait}
use Rattle.lock_desk.specs.PayWants.{wants_at}
use Rattle.txn_machine.specs.Acts as act
use Rattle.txn_machine.specs.Answers as answer
use Rattle.txn_machine.specs.Ghosts.{the_views}
use Rattle.txn_machine.specs.Log.{logs}
use Rattle.txn_machine.specs.May.{Owes}
use Rattle.txn_machine.specs.State.{State}
use Rattle.txn_machine.specs.Steps.{IsFree, group_want}
use Rattle.txn_machine.specs.Store.{Takes, does, locks_of}
use Rattle.txn_machine.proofs.Reached.{locks_law}
use Rattle.txn_book.specs.Opens.{open_at}
use Rattle.txn_book.specs.Txns.{txn_of}
use Rattle.txn_book.specs.declared.open_table.Open.{Open as BookOpen}
use Rattle.core_state.specs.Rooms.{AreWanted, HasRooms, still_owed}
use Rattle.core_state.specs.Stands.{Began, Told, Holds, its_texts}
use Rattle.core_state.specs.declared.state.CoreState.{CoreState}
use Rattle.core_state.proofs.Rooms.{rooms_with}
use Rattle.core_locks.specs.Asks.{Asks, others_wait}
use Rattle.core_locks.proofs.Asked.{waits_told}
use Rattle.core_effects.proofs.Deltas.{mine, still_there}
use Rattle.core_effects.proofs.Done.{begun_underway, still_underway}
use Rattle.core_effects.proofs.Taken.{taken_holds}
use Rattle.core_pays.specs.Holding.{IsHolding}
use Rattle.core_pays.proofs.Firsts.{only_one, the_open, owes_first, asked_is, wanted_there}

module _ {M : Type 0} (maps : M → ℕ → Map) (spare : M → ℕ → ℕ) (limit : M → Option ℕ) (core : CoreState M) (s : State) (i : ℕ) (h : Began maps spare limit core s i) (o : Owes s.store i) where
  abbrev want : Want
  want = group_want o.first

  pub asks_first : Asks s i act.Pay (want ∷ [])
  asks_first = (tt, asked_is maps spare limit core s i h o)

  -- what the book has still to be paid
  still_all : (t : BookOpen) → open_at core.book.opens i ≡ Some t → still_owed (txn_of t) ≡ o.first ∷ o.others
  still_all t there =
      let own = mine maps spare limit core s.store s.log (its_texts s) i h.holds (owes_first maps spare limit core s i h o) in
      let one : Some t ≡ Some own.txn = sym there ∙ own.there in
      let same : t ≡ own.txn = cc in
      ap (λ x. still_owed (txn_of x)) same ∙ still_there maps spare limit core s.store s.log (its_texts s) i h.holds (owes_first maps spare limit core s i h o)

  -- what stands ready where the first wants are taken out
  rooms_after : (after : Table) (back : List (List (List Want))) → ((j : ℕ) → j ≢ i → table.of_session after j ≡ table.of_session core.locks j) → ((j : ℕ) → j ≢ i → wants_at back j ≡ wants_at core.wants j)
      → AreWanted (table.room_of after i) (table.locks_of after i) (table.waiting_of after i) (wants_at back i) (o.first ∷ o.others)
      → HasRooms (spare core.store.tables) core.store.catalog core.store.views core.book.opens after back
  rooms_after after back of_locks of_wants wanted =
      rooms_with (spare core.store.tables) (spare core.store.tables) core.store.catalog core.store.views core.store.views core.book.opens core.book.opens core.locks after core.wants back i (open_at core.book.opens i) h.holds.rooms h.holds.rooms.undo refl (λ j n. refl)
      (record { of_locks = of_locks; of_wants = of_wants; of_buffers = λ j n. omega arith; of_seats = λ j place n has. has })
      (λ t is js. let c = h.holds.rooms.each i js t is in record {
        wanted = subst (AreWanted (table.room_of after i) (table.locks_of after i) (table.waiting_of after i) (wants_at back i)) (sym (still_all t is)) wanted;
        buffers = c.buffers;
        seats = c.seats;
        kept = c.kept;
        small = c.small;
      })

  module _ (lacks : Contains (table.locks_of core.locks i) want → ⊥) (taken : List Want) (back : List (List (List Want)))
      (own : (w : List Want) (ws : List (List Want)) → wants_at core.wants i ≡ w ∷ ws → (taken ≡ w) × (wants_at back i ≡ [] ∷ ws)) (others : (j : ℕ) → j ≢ i → wants_at back j ≡ wants_at core.wants j) where
    abbrev first_there : (more : List (List Want)) × (wants_at core.wants i ≡ (want ∷ []) ∷ more) × (length o.others + 1 ≤ table.room_of core.locks i) × (more ≡ map (λ d. group_want d ∷ []) o.others)
    first_there = wanted_there maps spare limit core s i h o lacks

    pub taken_is : taken ≡ want ∷ []
    taken_is = (own (want ∷ []) first_there.0 first_there.1).0

    left_is : wants_at back i ≡ [] ∷ first_there.0
    left_is = (own (want ∷ []) first_there.0 first_there.1).1

    -- it waits
    pub wait_told : (after : Table) (sessions : Sessions) → IsRecorded core.locks after i taken → HasToWait (locks_of s.store) (others_wait s.waiting i) i (want ∷ []) sessions → Told maps spare limit s i act.Pay (answer.Blocked sessions) (record core { locks = after; wants = back })
    wait_told after sessions recorded waits =
        let recorded_it : IsRecorded core.locks after i (want ∷ []) = subst (IsRecorded core.locks after i) taken_is recorded in
        waits_told maps spare limit core s i h (the_open maps spare limit core s i h o) act.Pay (want ∷ []) asks_first after back sessions recorded_it
        (rooms_after after back recorded_it.others others
        (subst (λ (p : SessionLocks). AreWanted p.room p.locks p.waiting (wants_at back i) (o.first ∷ o.others)) (sym recorded_it.changed)
        (subst (λ b. AreWanted (table.room_of core.locks i) (table.locks_of core.locks i) (want ∷ []) b (o.first ∷ o.others)) (sym left_is) (inr (inr (refl, refl, first_there.2)), first_there.3)))) waits

    pub can_add : AddAtMost (table.room_of core.locks i) (table.locks_of core.locks i) taken
    can_add = record { new = taken; few = let one : length taken ≡ 1 = ap length taken_is in let room = first_there.2 in omega (arith, one, room); others = λ w c. inr c }

    pub is_free : IsFree s.store i (want ∷ []) → table.IsFree (table.locks_of core.locks) i taken
    is_free free other way = free other (record {
      of_session = way.of_session;
      not_itself = way.not_itself;
      meet = record { lock = way.meet.lock; held = (h.holds.locks other way.of_session way.meet.lock).0 way.meet.held; want = way.meet.want; wanted = subst (λ ws. Contains ws way.meet.want) taken_is way.meet.wanted; conflict = way.meet.conflict };
    })

    -- it takes the lock
    pub take_holding : (after : Table) → IsGranted core.locks after i taken → IsFree s.store i (want ∷ []) → IsHolding maps spare limit s i (record core { locks = after; wants = back })
    take_holding after granted free =
        let granted_it : IsGranted core.locks after i (want ∷ []) = subst (IsGranted core.locks after i) taken_is granted in
        let room = granted_it.room in
        let had = first_there.2 in
        record {
          underway = still_underway maps spare limit core (record core { locks = after; wants = back }) s i (begun_underway maps spare limit core s i h) (record { steps = refl; seats = refl; cleaner = refl; stop = refl; limit = refl; log_limit = refl })
              (λ _. granted_it.waiting) (λ j n. ap (λ (x : SessionLocks). x.waiting) (granted_it.others j n));
          owes = o;
          free = subst (IsFree s.store i) (sym (asked_is maps spare limit core s i h o)) free;
          holds = subst (λ ws. Holds maps spare limit (record core { locks = after; wants = back }) (does the_views s.store i (Takes ws)) (logs s.store i act.Pay (Takes ws) s.log) (its_texts s)) (sym (asked_is maps spare limit core s i h o))
              (taken_holds maps spare limit core s.store s.log (its_texts s) i h.holds (the_open maps spare limit core s i h o) act.Pay (want ∷ []) after back granted_it
              (rooms_after after back granted_it.others others
              (subst (λ b. AreWanted (table.room_of after i) (table.locks_of after i) (table.waiting_of after i) b (o.first ∷ o.others)) (sym left_is)
              (inr (inl (refl, granted_it.waiting, (granted_it.locks want).1 (inr (0, omega arith, refl)), omega (arith, room, had))), first_there.3))));
          reserves = record { data_room = h.reserves.data_room; log_room = h.reserves.log_room };
        }

  -- ---- it has the lock already

  module _ (has : Contains (table.locks_of core.locks i) want) where
    again : IsGranted core.locks core.locks i (want ∷ [])
    again = record {
      locks = λ w. (λ c. inl c, λ e. elim e [ inl c ↦ c | inr c ↦ subst (Contains (table.locks_of core.locks i)) (sym (only_one want w c)) has ]);
      waiting = h.own o.goes_on.of_session;
      used = (0, record { enough = record { new = []; few = omega arith; others = λ w c. inl (subst (Contains (table.locks_of core.locks i)) (sym (only_one want w c)) has) }; least = λ m x. omega arith }, omega arith);
      room = omega arith;
      others = λ j n. refl;
    }

    free_already : IsFree s.store i (want ∷ [])
    free_already other way =
        locks_law s h.reached other i way.of_session o.goes_on.of_session way.not_itself
        (record { lock = way.meet.lock; held = way.meet.held; want = way.meet.want; wanted = subst (Contains (locks_of s.store i)) (sym (only_one want way.meet.want way.meet.wanted)) ((h.holds.locks i o.goes_on.of_session want).0 has); conflict = way.meet.conflict })

    pub already_holding : IsHolding maps spare limit s i core
    already_holding = record {
      underway = begun_underway maps spare limit core s i h;
      owes = o;
      free = subst (IsFree s.store i) (sym (asked_is maps spare limit core s i h o)) free_already;
      holds = subst (λ ws. Holds maps spare limit core (does the_views s.store i (Takes ws)) (logs s.store i act.Pay (Takes ws) s.log) (its_texts s)) (sym (asked_is maps spare limit core s i h o))
          (taken_holds maps spare limit core s.store s.log (its_texts s) i h.holds (the_open maps spare limit core s i h o) act.Pay (want ∷ []) core.locks core.wants again h.holds.rooms);
      reserves = h.reserves;
    }
