-- The first delta that a session owes, and its wants.
use Rattle.std.specs.Prelude.{◌≡◌, ◌≢◌, ℕ, Bool, zero, suc, ◌+◌, ◌≤◌, List, [], ◌∷◌, map, length, slice_get, Option, None, Some, refl}
use Rattle.std.specs.Option.{unwrap_or}
use Rattle.std.specs.List.{Contains, All}
use mathlib.Core.Path.{sym, ap, subst, ◌∙◌}
use mathlib.Core.Logic.{inl, inr}
use Rattle.std.proofs.Common.{arith}
use Rattle.iv_types.specs.Maps.{Map}
use Rattle.iv_types.specs.declared.lock.GroupDelta.{GroupDelta}
use Rattle.iv_types.specs.declared.lock.Want.{Want}
use Rattle.lock_manager.specs.Table as table
use Rattle.lock_desk.specs.PayWants.{wants_at, first_of}
use Rattle.txn_machine.specs.Acts as act
use Rattle.txn_machine.specs.Keeping.{idle}
use Rattle.txn_machine.specs.KeptLaws.{IsDelta}
use Rattle.txn_machine.specs.May.{IsOpen, Owes}
use Rattle.txn_machine.specs.State.{State}
use Rattle.txn_machine.specs.Steps.{asked, group_want, first_want}
use Rattle.txn_machine.specs.Store.{now, schema_of}
use Rattle.txn_machine.proofs.Shapes.{delta_law}
use Rattle.core_state.specs.Rooms.{IsWanted, AreWanted}
use Rattle.core_state.specs.Stands.{Began, its_texts}
use Rattle.core_state.specs.declared.state.CoreState.{CoreState}
use Rattle.log_room.specs.Rooms as log
use Rattle.core_effects.specs.Owing.{OwesFirst}
use Rattle.core_effects.proofs.Deltas.{covered, still_there}
use Rattle.core_pays.specs.Holding.{IsNextWant}

-- only itself is in a list of one
pub only_one : {X : Type 0} (x y : X) → Contains (x ∷ []) y → y ≡ x
only_one x y (zero, lt, e) = sym e
only_one x y (suc k, lt, e) = absurd (omega (arith, lt))

-- the wants of the first of some deltas: they are there, or its lock is held
pub data AreFirst (room : ℕ) (locks : List Want) (wants : List (List Want)) (d : GroupDelta) (others : List GroupDelta) : Type 0 where
  there : (more : List (List Want)) → wants ≡ (group_want d ∷ []) ∷ more → length others + 1 ≤ room → more ≡ map (λ d. group_want d ∷ []) others → AreFirst room locks wants d others
  held : (more : List (List Want)) → wants ≡ [] ∷ more → Contains locks (group_want d) → length others ≤ room → more ≡ map (λ d. group_want d ∷ []) others → AreFirst room locks wants d others

are_first : (room : ℕ) (locks : List Want) (wants : List (List Want)) (d : GroupDelta) (others : List GroupDelta) → AreWanted room locks [] wants (d ∷ others) → AreFirst room locks wants d others
are_first room locks [] d others h = absurd h
are_first room locks (w ∷ ws) d others h = by h.0
  where
    by : IsWanted room locks [] w d (length others) → AreFirst room locks (w ∷ ws) d others
    by (inl full) = there ws (ap (λ x. x ∷ ws) full.0) full.1 h.1
    by (inr (inl has)) = held ws (ap (λ x. x ∷ ws) has.0) has.2 has.3 h.1
    by (inr (inr waits)) = let bad : [] ≡ group_want d ∷ [] = waits.1 in absurd cc

module _ {M : Type 0} (maps : M → ℕ → Map) (spare : M → ℕ → ℕ) (limit : M → Option ℕ) (core : CoreState M) (s : State) (i : ℕ) (h : Began maps spare limit core s i) (o : Owes s.store i) where
  abbrev pub the_open : IsOpen s.store i
  the_open = record { of_session = o.goes_on.of_session; transaction = o.goes_on.transaction; is_open = o.goes_on.is_open }

  pub owed_now : (now s.store i).owed ≡ o.first ∷ o.others
  owed_now = ap (λ x. (unwrap_or x idle).owed) o.goes_on.is_open ∙ o.owed_is

  pub a_delta : IsDelta (schema_of s.store) o.first
  a_delta = (subst (All (IsDelta (schema_of s.store))) owed_now (delta_law s h.reached i o.goes_on.of_session).0) 0 o.first (omega arith)

  abbrev pub owes_first : OwesFirst s.store i
  owes_first = record { is_open = the_open; first = o.first; others = o.others; owed_is = owed_now; none_back = ap (λ x. (unwrap_or x idle).back) o.goes_on.is_open ∙ o.none_back; delta = a_delta }

  -- the same of the log
  pub logged_first : (ghosted : Bool) → (s.log.logged i).ghosted ≡ ghosted → log.OwesFirst s.store s.log i o.first ghosted
  logged_first ghosted is = record {
    serial = record {
      of_session = o.goes_on.of_session;
      is_open = o.goes_on.is_open ∙ ap Some (sym (ap (λ x. unwrap_or x idle) o.goes_on.is_open));
      mode_is = ap (λ x. (unwrap_or x idle).mode) o.goes_on.is_open ∙ o.goes_on.mode_is;
    };
    others = o.others;
    owed_is = owed_now;
    none_back = ap (λ x. (unwrap_or x idle).back) o.goes_on.is_open ∙ o.none_back;
    ghosted_is = is;
  }

  pub asked_is : asked s.store i act.Pay ≡ group_want o.first ∷ []
  asked_is = ap first_want owed_now

  pub firsts : AreFirst (table.room_of core.locks i) (table.locks_of core.locks i) (wants_at core.wants i) o.first o.others
  firsts =
      let c = covered maps spare limit core s.store s.log (its_texts s) i h.holds owes_first in
      let still = still_there maps spare limit core s.store s.log (its_texts s) i h.holds owes_first in
      are_first (table.room_of core.locks i) (table.locks_of core.locks i) (wants_at core.wants i) o.first o.others
      (subst (λ ws. AreWanted (table.room_of core.locks i) (table.locks_of core.locks i) ws (wants_at core.wants i) (o.first ∷ o.others)) (h.own o.goes_on.of_session)
      (subst (AreWanted (table.room_of core.locks i) (table.locks_of core.locks i) (table.waiting_of core.locks i) (wants_at core.wants i)) still c.wanted))

  -- there are wants, if perhaps none of the first
  pub has_wants : wants_at core.wants i ≢ []
  has_wants none = by firsts
    where
      by : AreFirst (table.room_of core.locks i) (table.locks_of core.locks i) (wants_at core.wants i) o.first o.others → ⊥
      by (there more e room rest) = let bad : [] ≡ (group_want o.first ∷ []) ∷ more = sym none ∙ e in absurd cc
      by (held more e has room rest) = let bad : [] ≡ [] ∷ more = sym none ∙ e in absurd cc

  pub no_none : None ≡ first_of (wants_at core.wants i) → ⊥
  no_none none = by firsts
    where
      by : AreFirst (table.room_of core.locks i) (table.locks_of core.locks i) (wants_at core.wants i) o.first o.others → ⊥
      by (there more e room rest) = let bad : None ≡ Some (group_want o.first ∷ []) = none ∙ ap first_of e in absurd cc
      by (held more e has room rest) = let bad : None ≡ Some [] = none ∙ ap first_of e in absurd cc

  pub next_is : (w : List Want) → Some w ≡ first_of (wants_at core.wants i) → IsNextWant (table.locks_of core.locks i) o.first (slice_get w 0)
  next_is w is = by firsts
    where
      by : AreFirst (table.room_of core.locks i) (table.locks_of core.locks i) (wants_at core.wants i) o.first o.others → IsNextWant (table.locks_of core.locks i) o.first (slice_get w 0)
      by (there more e room rest) =
          let same : Some w ≡ Some (group_want o.first ∷ []) = is ∙ ap first_of e in
          let one : w ≡ group_want o.first ∷ [] = cc in
          subst (λ x. IsNextWant (table.locks_of core.locks i) o.first (slice_get x 0)) (sym one) refl
      by (held more e has room rest) =
          let same : Some w ≡ Some [] = is ∙ ap first_of e in
          let none : w ≡ [] = cc in
          subst (λ x. IsNextWant (table.locks_of core.locks i) o.first (slice_get x 0)) (sym none) has

  -- where the lock is not held, the wants are there
  pub wanted_there : (Contains (table.locks_of core.locks i) (group_want o.first) → ⊥) → (more : List (List Want)) × (wants_at core.wants i ≡ (group_want o.first ∷ []) ∷ more) × (length o.others + 1 ≤ table.room_of core.locks i) × (more ≡ map (λ d. group_want d ∷ []) o.others)
  wanted_there lacks = by firsts
    where
      by : AreFirst (table.room_of core.locks i) (table.locks_of core.locks i) (wants_at core.wants i) o.first o.others
          → (more : List (List Want)) × (wants_at core.wants i ≡ (group_want o.first ∷ []) ∷ more) × (length o.others + 1 ≤ table.room_of core.locks i) × (more ≡ map (λ d. group_want d ∷ []) o.others)
      by (there more e room rest) = (more, e, room, rest)
      by (held more e has room rest) = absurd (lacks has)
