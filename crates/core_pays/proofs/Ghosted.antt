-- What is told of a Ghost.
use Rattle.std.specs.Prelude.{◌≡◌, ◌≢◌, ℕ, ◌+◌, ◌-◌, ◌<◌, ◌^◌, min, true, false, [], ◌∷◌, length, is_some, Option, None, Some, refl}
use Rattle.std.specs.FinMap.{get}
use mathlib.Core.Path.{sym, ap, subst, ◌∙◌}
use mathlib.Core.Logic.{inl, inr}
use Rattle.std.proofs.Common.{arith}
use Rattle.iv_types.specs.Maps.{Map}
use Rattle.txn_machine.specs.Acts as act
use Rattle.txn_machine.specs.Answers as answer
use Rattle.txn_machine.specs.Deltas.{place_of, columns_of}
use Rattle.txn_machine.specs.Ghosts.{the_views}
use Rattle.txn_machine.specs.Keeping.{Open}
use Rattle.txn_machine.specs.Locks.{with_one}
use Rattle.txn_machine.specs.Log.{Log, Logged, logs, room_kept}
use Rattle.txn_machine.specs.May.{Owes}
use Rattle.txn_machine.specs.State.{State}
use Rattle.txn_machine.specs.Steps.{with_ghost}
use Rattle.txn_machine.specs.Store.{Ghosts, does, schema_of}
use Rattle.ghost_rows.specs.Kept.{width}
use Rattle.ghost_rows.specs.State.{CanStore}
use Rattle.data_room.specs.Reserved.{share_at, first_bytes, IsReserved}
use Rattle.data_room.specs.declared.room.DataRoom.{DataRoom}
use Rattle.data_room.proofs.Kept.{same_again, reserved_back}
use Rattle.data_room.proofs.Transactions.{ghosted_room}
use Rattle.core_state.specs.Stands.{Began, Told, Holds, Reserves, its_texts}
use Rattle.core_state.specs.declared.state.CoreState.{CoreState}
use Rattle.core_effects.specs.Underway.{IsUnderway}
use Rattle.lock_manager.specs.Table as table
use Rattle.core_effects.proofs.Done.{told_by, begun_underway, still_underway}
use Rattle.core_pays.proofs.Firsts.{owed_now, a_delta}
use Rattle.core_pays.proofs.Reserving.{can_store_it, first_fits, never_ghosted}

pub none_of : {X : Type 0} (o : Option X) → is_some o ≡ false → o ≡ None
none_of None e = refl
none_of (Some x) e = absurd cc

module _ {M : Type 0} (maps : M → ℕ → Map) (spare : M → ℕ → ℕ) (limit : M → Option ℕ) (core : CoreState M) (s : State) (i : ℕ) (h : Began maps spare limit core s i) (o : Owes s.store i) where
  -- there is room for its row where it is absent
  pub can_store_first : CanStore (maps core.store.tables) (limit core.store.tables) (place_of o.first) (width o.first)
  can_store_first =
      can_store_it maps spare limit core s i (begun_underway maps spare limit core s i h) h.reserves s.store s.log h.holds refl refl refl o.first (a_delta maps spare limit core s i h o)
      (first_fits maps spare limit core s i (begun_underway maps spare limit core s i h) h.reserves o.goes_on.of_session o.goes_on.transaction o.goes_on.is_open o.first o.others o.owed_is o.none_back)

  -- which had no Ghost then
  pub no_ghost : get s.store.view (place_of o.first) ≡ None → (s.log.logged i).ghosted ≡ false
  no_ghost = never_ghosted maps spare limit core s i (begun_underway maps spare limit core s i h) h.reserves o.goes_on.of_session o.goes_on.transaction o.goes_on.is_open o.first o.others o.owed_is o.none_back

  -- with what was kept for it given back
  pub ghosted_reserved : (l : Log) → l.logged ≡ with_one s.log.logged i (s.log.logged i) → (room was : DataRoom) (bytes : ℕ) → was ≡ core.data_room → room.limit ≡ was.limit → bytes ≡ min (first_bytes (s.log.logged i).ghosted o.first) (2 ^ 64 - 1)
      → share_at was.shares i < 2 ^ 64 → share_at room.shares i ≡ share_at was.shares i - bytes → ((j : ℕ) → j ≢ i → share_at room.shares j ≡ share_at was.shares j) → room.total ≡ was.total - (share_at was.shares i - share_at room.shares i)
      → IsReserved room (schema_of s.store) s.store.open_of (with_ghost l i).logged
  ghosted_reserved l same_logged room was bytes same same_limit bytes_are small mine others total =
      let logged_is : l.logged ≡ s.log.logged = same_logged ∙ same_again s.log.logged i in
      subst (λ (f : ℕ → Option Open). IsReserved room (schema_of s.store) f (with_ghost l i).logged) (same_again s.store.open_of i)
      (reserved_back (schema_of s.store) s.store.open_of s.log.logged (with_ghost l i).logged i (s.store.open_of i) (record (s.log.logged i) { ghosted = true }) (λ j. ap (λ (f : ℕ → Logged). with_one f i (record (f i) { ghosted = true }) j) logged_is)
      core.data_room was room o.goes_on.of_session h.reserves.data_room same same_limit bytes (first_bytes (s.log.logged i).ghosted o.first) bytes_are
      (subst (λ (x : Option Open). room_kept (schema_of s.store) x true + first_bytes (s.log.logged i).ghosted o.first ≡ room_kept (schema_of s.store) x (s.log.logged i).ghosted) (sym o.goes_on.is_open)
      (ghosted_room (schema_of s.store) o.goes_on.transaction (s.log.logged i).ghosted o.first o.others o.owed_is o.none_back))
      small mine others total)

module _ {M : Type 0} (maps : M → ℕ → Map) (spare : M → ℕ → ℕ) (limit : M → Option ℕ) (core new : CoreState M) (s : State) (i : ℕ) (h : Began maps spare limit core s i) (o : Owes s.store i) (u : IsUnderway maps spare limit s i new) where
  pub there_told : is_some (get s.store.view (place_of o.first)) ≡ true → Holds maps spare limit new s.store (with_ghost s.log i) (its_texts s) → Reserves maps spare limit new s.store (with_ghost s.log i) → Told maps spare limit s i act.Ghost answer.Ghosted new
  there_told there holds reserves =
      told_by maps spare limit new s i u act.Ghost answer.Ghosted [] (record { first = o.first; others = o.others; owed_is = owed_now maps spare limit core s i h o; effects = inr (there, refl) }) holds reserves refl refl (omega arith) (omega arith)

  pub made_told : get s.store.view (place_of o.first) ≡ None
      → Holds maps spare limit new (does the_views s.store i (Ghosts (place_of o.first) (length (columns_of o.first)))) (with_ghost (logs s.store i act.Ghost (Ghosts (place_of o.first) (length (columns_of o.first))) s.log) i) (its_texts s)
      → Reserves maps spare limit new (does the_views s.store i (Ghosts (place_of o.first) (length (columns_of o.first)))) (with_ghost (logs s.store i act.Ghost (Ghosts (place_of o.first) (length (columns_of o.first))) s.log) i)
      → Told maps spare limit s i act.Ghost answer.Ghosted new
  made_told none holds reserves =
      told_by maps spare limit new s i u act.Ghost answer.Ghosted (Ghosts (place_of o.first) (length (columns_of o.first)) ∷ []) (record { first = o.first; others = o.others; owed_is = owed_now maps spare limit core s i h o; effects = inl (none, refl) }) holds reserves refl refl (omega arith) (omega arith)

pub ghosted_underway : {M : Type 0} (maps : M → ℕ → Map) (spare : M → ℕ → ℕ) (limit : M → Option ℕ) (core middle new : CoreState M) (s : State) (i : ℕ) → Began maps spare limit core s i
    → middle ≡ record core { store = middle.store; next = middle.next } → new ≡ record middle { book = new.book } → IsUnderway maps spare limit s i new
ghosted_underway maps spare limit core middle new s i h one two =
    still_underway maps spare limit core new s i (begun_underway maps spare limit core s i h)
    (record { steps = ap (λ x. x.steps) two ∙ ap (λ x. x.steps) one; seats = ap (λ x. x.seats) two ∙ ap (λ x. x.seats) one; cleaner = ap (λ x. x.cleaner) two ∙ ap (λ x. x.cleaner) one; stop = ap (λ x. x.stop) two ∙ ap (λ x. x.stop) one; limit = ap (λ x. x.data_room.limit) two ∙ ap (λ x. x.data_room.limit) one; log_limit = ap (λ x. x.log_room.limit) two ∙ ap (λ x. x.log_room.limit) one })
    (λ js. (ap (λ x. table.waiting_of x.locks i) two ∙ ap (λ x. table.waiting_of x.locks i) one) ∙ h.own js) (λ j n. ap (λ x. table.waiting_of x.locks j) two ∙ ap (λ x. table.waiting_of x.locks j) one)

-- a step that is under way, of a core that holds what it held, has begun
pub began_by : {M : Type 0} (maps : M → ℕ → Map) (spare : M → ℕ → ℕ) (limit : M → Option ℕ) (new : CoreState M) (s : State) (i : ℕ) → IsUnderway maps spare limit s i new → Holds maps spare limit new s.store s.log (its_texts s) → Reserves maps spare limit new s.store s.log → Began maps spare limit new s i
began_by maps spare limit new s i u holds reserves = record { reached = u.reached; opening = u.opening; runs = u.runs; holds = holds; reserves = reserves; own = u.own; waiting = u.waiting; counts = u.counts }
