-- What open transactions keep is of tables and views that are there, after each effect.
use Rattle.std.specs.Prelude.{ℕ, List, [], ◌∷◌, Option, Some, None}
use Rattle.std.specs.List.{AllByRecursion}
use mathlib.Core.Path.{sym, subst}
use Rattle.iv_types.specs.declared.lock.GroupDelta.{GroupDelta}
use Rattle.iv_meaning.specs.Schema.{Schema}
use Rattle.iv_meaning.specs.Database.{Database}
use Rattle.iv_meaning.specs.Escrow.{IsSession}
use Rattle.txn_machine.specs.Locks.{with_one}
use Rattle.txn_machine.specs.Keeping.{KeptStep, Put, Pay, Open}
use Rattle.txn_machine.specs.Fresh.{fresh}
use Rattle.txn_machine.specs.Store.{Store, schema_of, now, paid_first, undone, Effect, Opens, Takes, Notes, Writes, Pays, Ghosts, Undoes, Loses, Ends, Commits, Defines, Cleans, Prunes, does}
use Rattle.txn_machine.specs.Ghosts.{the_views}
use Rattle.txn_machine.proofs.Basics.{one_same, one_other}
use Rattle.txn_machine.proofs.Good.{the_open}
use Rattle.txn_machine.proofs.Looking.{view_laws}
use Rattle.txn_machine.proofs.Reached.{Holds'}
use Rattle.txn_machine.proofs.Runs.{Can, committed_after}
use Rattle.txn_log.specs.Replay.{Added}
use Rattle.txn_log.specs.Fitting.{IsKnown}
use Rattle.txn_log.proofs.Finding.{by_number}
use Rattle.txn_log.proofs.Knowing.{all_owed}
use Rattle.txn_log.proofs.Tying.{whats_in, AllWhats}
use Rattle.txn_log.proofs.KeptTied.{Finds}

abbrev pub AreKnown : Schema → Option Open → Type 0
AreKnown objects o = AllWhats (IsKnown objects) (whats_in (the_open o).kept)

abbrev pub AllKept : Store → Type 0
AllKept s = (j : ℕ) → IsSession j → AreKnown (schema_of s) (s.open_of j)

module _ (s : Store) (i : ℕ) (k : AllKept s) where
  -- one session's transaction is replaced
  known_set : (o : Option Open) → AreKnown (schema_of s) o → (j : ℕ) → IsSession j → AreKnown (schema_of s) (with_one s.open_of i o j)
  known_set o this j js = by_number j i
      (λ e. subst (AreKnown (schema_of s)) (sym (one_same s.open_of i o j e)) this)
      (λ n. subst (AreKnown (schema_of s)) (sym (one_other s.open_of i o j n)) (k j js))

  known_paid : IsSession i → (owed : List GroupDelta) → AllByRecursion (λ d. IsKnown (schema_of s) (Added d)) owed → AllKept (paid_first s i (now s i) owed)
  known_paid is [] h = k
  known_paid is (d ∷ ds) h = known_set (Some (record (now s i) { kept = Pay d ∷ (now s i).kept; owed = ds })) (h.0, k i is)

  known_undone : IsSession i → (ks : List KeptStep) → AllWhats (IsKnown (schema_of s)) (whats_in ks) → AllKept (undone s i (now s i) ks)
  known_undone is [] h = k
  known_undone is (Put c ds ∷ ks) h = known_set _ h.1
  known_undone is (Pay d ∷ ks) h = known_set _ h.1

pub kept_does : (s : Store) (i : ℕ) (e : Effect) → Holds' s → Can the_views fresh view_laws s i e → Finds s i e → AllKept s → AllKept (does the_views s i e)
kept_does s i (Opens mode) g can h k = known_set s i k _ tt
kept_does s i (Takes wants) g can h k = known_set s i k _ (k i can.0)
kept_does s i (Notes n) g can h k = known_set s i k _ (k i can)
kept_does s i (Writes place new) g can h k = known_set s i k _ (h, k i can.0)
kept_does s i Pays g can h k = known_paid s i k can.0 (now s i).owed (all_owed s g i can.0)
kept_does s i (Ghosts p n) g can h k = k
kept_does s i Undoes g can h k = known_undone s i k can (now s i).kept (k i can)
kept_does s i Loses g can h k = known_set s i k _ (k i can)
kept_does s i Ends g can h k = known_set s i k None tt
kept_does s i Commits g can h k =
    subst (λ (db : Database). (j : ℕ) → IsSession j → AreKnown db.schema (with_one s.open_of i None j)) (sym (committed_after the_views fresh view_laws s i)) (known_set s i k None tt)
kept_does s i (Defines o) g can h k = λ j js.
    subst (AreKnown (schema_of (does the_views s i (Defines o)))) (sym (can.none_open j js)) tt
kept_does s i (Cleans p) g can h k = k
kept_does s i Prunes g can h k = k
