-- What a Put appends to the log and reserves there.
use Rattle.std.specs.Prelude.{◌≡◌, ℕ, ◌+◌, false, List, ◌++◌, Option, None, Some, refl}
use Rattle.std.specs.Option.{unwrap_or}
use mathlib.Core.Path.{sym, ap, subst, ◌∙◌}
use Rattle.std.proofs.Common.{arith}
use Rattle.iv_types.specs.Maps.{Map}
use Rattle.iv_types.specs.declared.lock.Want.{Want}
use Rattle.iv_types.specs.declared.statement.Mode.TheVariants.{Serial}
use Rattle.iv_meaning.specs.Database.{Row}
use Rattle.table_laws.specs.Place.{Place}
use Rattle.txn_machine.specs.Acts.{Act}
use Rattle.txn_machine.specs.Counts.{told_need}
use Rattle.txn_machine.specs.Deltas.{RowChange}
use Rattle.txn_machine.specs.Ghosts.{the_views}
use Rattle.txn_machine.specs.Keeping.{Open, idle}
use Rattle.txn_machine.specs.Log.{Log, Within, logs, reserved, owed_bytes}
use Rattle.txn_machine.specs.May.{IsReady}
use Rattle.txn_machine.specs.Records.{write_bytes}
use Rattle.txn_machine.specs.State.{State}
use Rattle.txn_machine.specs.Steps.{FitsLog, put_owed, log_need}
use Rattle.txn_machine.specs.Store.{Store, Takes, Writes, change_at, does, now, schema_of}
use Rattle.txn_machine.proofs.Basics.{one_same}
use Rattle.log_room.specs.Rooms.{AreCountedIn, IsRoomOf, OwesNothing, SameRoomLaw}
use Rattle.log_room.specs.declared.room.LogRoom.{LogRoom}
use Rattle.core_state.specs.Stands.{Began}
use Rattle.core_state.specs.declared.state.CoreState.{CoreState}
use Rattle.core_state.proofs.Logged.{log_limit_of}

-- where as much is used and reserved as before, as much more is within the limit
still_within : (most : Option ℕ) (used_bytes kept : ℕ) (s t : Store) (l m : Log) (need : ℕ) → AreCountedIn most used_bytes kept s l → AreCountedIn most used_bytes kept t m → Within most (l.used + reserved s l + need) → Within most (m.used + reserved t m + need)
still_within None used_bytes kept s t l m need was are fits = tt
still_within (Some most) used_bytes kept s t l m need was are fits =
    let used_was = was.used_are in
    let kept_was = was.reserved_are in
    let used_is = are.used_are in
    let kept_is = are.reserved_are in
    omega (arith, used_was, kept_was, used_is, kept_is, fits)

-- its locks are taken, and its change is made
module _ {M : Type 0} (maps : M → ℕ → Map) (spare : M → ℕ → ℕ) (limit : M → Option ℕ) (core : CoreState M) (s : State) (i : ℕ) (h : Began maps spare limit core s i) (ready : IsReady s.store i Serial) (law : SameRoomLaw) (wants : List Want) (a : Act) (place : Place) (row : Option Row) where
  abbrev between : Store
  between = does the_views s.store i (Takes wants)

  abbrev first : Log
  first = logs s.store i a (Takes wants) s.log

  abbrev made : RowChange
  made = change_at s.store place row

  abbrev with_locks : Open
  with_locks = record (now s.store i) { locks = wants ++ (now s.store i).locks }

  then_open : between.open_of i ≡ Some with_locks
  then_open = one_same s.store.open_of i (Some with_locks) i refl

  then_now : now between i ≡ with_locks
  then_now = ap (λ (x : Option Open). unwrap_or x idle) then_open

  owes_nothing : OwesNothing between i
  owes_nothing = record {
    serial = record {
      of_session = ready.goes_on.of_session;
      is_open = then_open ∙ ap Some (sym then_now);
      mode_is = ap (λ (x : Open). x.mode) then_now ∙ (ap (λ (x : Option Open). (unwrap_or x idle).mode) ready.goes_on.is_open ∙ ready.goes_on.mode_is);
    };
    owed_is = ap (λ (x : Open). x.owed) then_now ∙ (ap (λ (x : Option Open). (unwrap_or x idle).owed) ready.goes_on.is_open ∙ ready.owes_nothing);
  }

  then_room : IsRoomOf core.log_room between first
  then_room = law.locks core.log_room s.store s.log i a wants ready.goes_on.of_session (ready.goes_on.is_open ∙ ap Some (sym (ap (λ (x : Option Open). unwrap_or x idle) ready.goes_on.is_open))) h.reserves.log_room

  pub put_logged : (old new : LogRoom) (written owes : ℕ) → old ≡ core.log_room → written ≡ told_need (write_bytes (schema_of s.store) made) → owes ≡ told_need (owed_bytes false (put_owed s.store made)) → FitsLog s (log_need s.store made)
      → (OwesNothing between i → IsRoomOf old between first → written ≡ told_need (write_bytes (schema_of between) (change_at between place row)) → owes ≡ told_need (owed_bytes false (put_owed between (change_at between place row)))
      → Within old.limit (first.used + reserved between first + log_need between (change_at between place row)) → IsRoomOf new (does the_views between i (Writes place row)) (logs between i a (Writes place row) first))
      → IsRoomOf new (does the_views between i (Writes place row)) (logs between i a (Writes place row) first)
  put_logged old new written owes same written_is owes_are fits moves =
      moves owes_nothing (subst (λ (r : LogRoom). IsRoomOf r between first) (sym same) then_room) written_is owes_are
      (subst (λ (r : LogRoom). Within r.limit (first.used + reserved between first + log_need s.store made)) (sym same)
      (still_within core.log_room.limit core.log_room.used core.log_room.reserved s.store between s.log first (log_need s.store made) h.reserves.log_room then_room
      (subst (λ m. Within m (s.log.used + reserved s.store s.log + log_need s.store made)) (log_limit_of maps spare limit core s i h) fits)))
