use Rattle.std.specs.Prelude.{◌++◌, ◌∷◌, Option, Some, None, true, cond}
use mathlib.Core.Path.{refl, sym, ap, ◌∙◌}
use Rattle.iv_types.specs.declared.statement.Mode.TheVariants.{Snapshot}
use Rattle.txn_machine.specs.Keeping.{Open, begun}
use Rattle.txn_machine.specs.Log.{reserved_by, appended, with_logged, not_logged}
use Rattle.txn_machine.specs.Records.{Abort}
use Rattle.txn_machine.specs.Store.{Opens, Takes, Notes, Loses, Ends, now, committed, schema_of}
use Rattle.txn_machine.proofs.Basics.{one_same}
use Rattle.log_room.proofs.Moving.{stays_room, prunes_room, snapshot_reserved}
use Rattle.log_room.proofs.law.same_room_law.Goals as goal

pub returns : goal.returns
returns c = record {
  locks = λ room s l i a wants is open_now k.
      let u : Open = record (now s i) { locks = wants ++ (now s i).locks } in
      stays_room room s l i a (Takes wants) (Some u) is (one_same s.open_of i (Some u) i refl) refl (sym (ap (λ (o : Option Open). reserved_by o (l.logged i).ghosted) open_now)) k;
  notes = λ room s l i a note is open_now k.
      let u : Open = record (now s i) { notes = note ∷ (now s i).notes } in
      stays_room room s l i a (Notes note) (Some u) is (one_same s.open_of i (Some u) i refl) refl (sym (ap (λ (o : Option Open). reserved_by o (l.logged i).ghosted) open_now)) k;
  deadlocks = λ room s l i a is open_now k.
      let u : Open = record (now s i) { is_lost = true } in
      stays_room room s l i a Loses (Some u) is (one_same s.open_of i (Some u) i refl) refl (sym (ap (λ (o : Option Open). reserved_by o (l.logged i).ghosted) open_now)) k;
  snapshots_begin = λ room s l i a is none k.
      let u : Open = begun Snapshot (committed s).number in
      stays_room room s l i a (Opens Snapshot) (Some u) is (one_same s.open_of i (Some u) i refl) refl (sym (ap (λ (o : Option Open). reserved_by o (l.logged i).ghosted) none)) k;
  snapshots_end = λ room s l i a h k.
      stays_room room s l i a Ends None h.of_session (one_same s.open_of i None i refl)
      (ap (λ b. (appended (schema_of s) (cond b (Some (Abort (l.logged i).transaction)) None) (with_logged l i not_logged)).used) h.wrote_nothing)
      (sym (ap (λ (o : Option Open). reserved_by o (l.logged i).ghosted) h.is_open ∙ snapshot_reserved (now s i) (l.logged i).ghosted h.mode_is)) k;
  prunes = λ room s l i a k. prunes_room room s l i a k;
}
