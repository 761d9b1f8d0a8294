-- The step that a Put and a Pay keep last.
use Rattle.std.specs.Prelude.{◌≡◌, ℕ, List, [], ◌∷◌, ◌++◌, Option, Some}
use Rattle.std.specs.Option.{unwrap_or}
use mathlib.Core.Path.{refl, sym, ap, subst, ◌∙◌}
use Rattle.iv_types.specs.declared.lock.GroupDelta.{GroupDelta}
use Rattle.iv_types.specs.declared.lock.Want.{Want}
use Rattle.iv_types.specs.declared.statement.Mode.TheVariants.{Serial}
use Rattle.table_laws.specs.Place.{Place}
use Rattle.iv_meaning.specs.Database.{Row}
use Rattle.iv_meaning.specs.Escrow.{IsSession}
use Rattle.txn_machine.specs.Acts.{Act}
use Rattle.txn_machine.specs.Deltas.{RowChange}
use Rattle.txn_machine.specs.Ghosts.{the_views}
use Rattle.txn_machine.specs.Keeping.{KeptStep, Put, Pay, Open, idle}
use Rattle.txn_machine.specs.Log.{Log, Logged, logs, log_all, keeps, appended, pay_record, with_logged}
use Rattle.txn_machine.specs.May.{IsOpenIn}
use Rattle.txn_machine.specs.Store.{Store, Effect, Takes, Writes, Pays, schema_of, now, change_at, does, run, paid_first}
use Rattle.txn_machine.proofs.Basics.{one_same}
use Rattle.log_room.specs.Rooms.{IsSerial, KeepsLatest}

abbrev serial_as : (u : Store) (i : ℕ) → IsSession i → (t : Open) → u.open_of i ≡ Some t → t.mode ≡ Serial → IsSerial u i
serial_as u i is t e m =
    let n : now u i ≡ t = ap (λ x. unwrap_or x idle) e in
    record { of_session = is; is_open = e ∙ ap Some (sym n); mode_is = ap (λ (x : Open). x.mode) n ∙ m }

abbrev keeps_as : (u : Store) (l : Log) (i : ℕ) → IsSession i → (t : Open) → u.open_of i ≡ Some t → t.mode ≡ Serial → (k : KeptStep) (ks : List KeptStep) → t.kept ≡ k ∷ ks → (n : ℕ) (ns : List ℕ) → (l.logged i).kept ≡ n ∷ ns
    → KeepsLatest u l i k
keeps_as u l i is t e m k ks kept n ns logged =
    record { serial = serial_as u i is t e m; earlier = ks; kept_is = ap (λ x. (unwrap_or x idle).kept) e ∙ kept; number = n; numbers = ns; logged_is = logged }

-- after these effects, the session keeps this step last, whose record has the number that was next
pub record HasKept (s : Store) (l : Log) (i : ℕ) (a : Act) (k : KeptStep) (es : List Effect) : Type 0 where
  pub latest : KeepsLatest (run the_views s i es) (log_all s i a es l) i k
  pub number_is : latest.number ≡ l.next
  pub objects : schema_of (run the_views s i es) ≡ schema_of s
  pub transaction_is : ((log_all s i a es l).logged i).transaction ≡ (l.logged i).transaction

module _ (s : Store) (l : Log) (i : ℕ) (a : Act) (open_ : IsOpenIn s i Serial) (wants : List Want) where
  abbrev own : Open
  own = record (now s i) { locks = wants ++ (now s i).locks }

  abbrev locked : Store
  locked = does the_views s i (Takes wants)

  abbrev locked_log : Log
  locked_log = logs s i a (Takes wants) l

  serial : (now s i).mode ≡ Serial
  serial = ap (λ (x : Option Open). (unwrap_or x idle).mode) open_.is_open ∙ open_.mode_is

  own_is : now locked i ≡ own
  own_is = ap (λ (x : Option Open). unwrap_or x idle) (one_same s.open_of i (Some own) i refl)

  still_serial : (now locked i).mode ≡ Serial
  still_serial = ap (λ (x : Open). x.mode) own_is ∙ serial

  still_logged : locked_log.logged i ≡ l.logged i
  still_logged = one_same l.logged i (l.logged i) i refl

  -- a change
  module _ (place : Place) (new : Option Row) where
    abbrev pub change : RowChange
    change = change_at s place new

    abbrev pub owed : List GroupDelta
    owed = Rattle.txn_machine.specs.Store.Views.owed the_views (schema_of s) s.rows change

    pub put_kept : HasKept s l i a (Put change owed) (Takes wants ∷ Writes place new ∷ [])
    put_kept =
        let t : Open = record (now locked i) { kept = Put change owed ∷ (now locked i).kept; owed = owed; back = 0 } in
        let x : Logged = keeps (locked_log.logged i) l.next in
        let logged : (log_all s i a (Takes wants ∷ Writes place new ∷ []) l).logged i ≡ x = one_same locked_log.logged i x i refl in
        record {
          latest = keeps_as (run the_views s i (Takes wants ∷ Writes place new ∷ [])) (log_all s i a (Takes wants ∷ Writes place new ∷ []) l) i open_.of_session t (one_same locked.open_of i (Some t) i refl) still_serial
              (Put change owed) (now locked i).kept refl l.next (locked_log.logged i).kept (ap (λ (y : Logged). y.kept) logged);
          number_is = refl;
          objects = refl;
          transaction_is = ap (λ (y : Logged). y.transaction) logged ∙ ap (λ (y : Logged). y.transaction) still_logged;
        }

  -- a pay
  module _ (d : GroupDelta) (ds : List GroupDelta) (owed_is : (now s i).owed ≡ d ∷ ds) where
    abbrev x : Logged
    x = keeps (locked_log.logged i) l.next

    abbrev paid : List GroupDelta → Store
    paid owed = paid_first locked i (now locked i) owed

    abbrev paid_log : List GroupDelta → Log
    paid_log owed = record (appended (schema_of locked) (pay_record (locked_log.logged i) owed) (with_logged locked_log i x)) { begun = l.begun }

    record HasPaid (owed : List GroupDelta) : Type 0 where
      pub latest : KeepsLatest (paid owed) (paid_log owed) i (Pay d)
      pub number_is : latest.number ≡ l.next
      pub objects : schema_of (paid owed) ≡ schema_of s
      pub transaction_is : ((paid_log owed).logged i).transaction ≡ (l.logged i).transaction

    has_paid : HasPaid (d ∷ ds)
    has_paid =
        let t : Open = record (now locked i) { kept = Pay d ∷ (now locked i).kept; owed = ds } in
        let logged : (paid_log (d ∷ ds)).logged i ≡ x = one_same locked_log.logged i x i refl in
        record {
          latest = keeps_as (paid (d ∷ ds)) (paid_log (d ∷ ds)) i open_.of_session t (one_same locked.open_of i (Some t) i refl) still_serial
              (Pay d) (now locked i).kept refl l.next (locked_log.logged i).kept (ap (λ (y : Logged). y.kept) logged);
          number_is = refl;
          objects = refl;
          transaction_is = ap (λ (y : Logged). y.transaction) logged ∙ ap (λ (y : Logged). y.transaction) still_logged;
        }

    paid_here : HasPaid (now locked i).owed
    paid_here = subst HasPaid (sym (ap (λ (y : Open). y.owed) own_is ∙ owed_is)) has_paid

    pub pay_kept : HasKept s l i a (Pay d) (Takes wants ∷ Pays ∷ [])
    pay_kept = record { latest = paid_here.latest; number_is = paid_here.number_is; objects = paid_here.objects; transaction_is = paid_here.transaction_is }
