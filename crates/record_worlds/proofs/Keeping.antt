-- How a journal keeps the records of the machine's disk, as one is appended, as they are flushed and as a checkpoint is saved.
use Rattle.std.proofs.Common.{◌≡◌, ℕ, suc, List, [], ◌∷◌, ◌++◌, map, length, Option, Some, None, refl, sym, ap, subst, ◌∙◌}
use Rattle.iv_meaning.specs.Schema.{Schema}
use Rattle.txn_machine.specs.Records.{Record}
use Rattle.txn_machine.specs.State.{State}
use Rattle.txn_machine.specs.Store.{Store, Effect, Commits, Defines}
use Rattle.txn_log.specs.Replay.{Deed, Pages}
use Rattle.txn_log.specs.Appended.{Numbered, written}
use Rattle.txn_log.specs.Moments.{Disk, image_of, opened_disk, with_record, pages_now, published}
use Rattle.txn_log.proofs.Lifting.{settled}
use Rattle.log_records.specs.Area.{Entry}
use Rattle.log_disk.specs.Spelled.{spelled, IsSpellable, AreSpelled, LeadTo}
use Rattle.core_journal.specs.Records.{Saved, Records, with_one, with_perhaps, flushed_all, flushed_after}
use Rattle.core_journal.specs.Cuts.{cut_of}
use Rattle.record_worlds.specs.Tied.{IsCutOf, AreOf, SavesAll}

spelled_both : (objects : Schema) (ds : List Deed) → map (λ d. spelled objects (written d)) ds ≡ map (spelled objects) (map written ds)
spelled_both objects [] = refl
spelled_both objects (d ∷ ds) = ap (λ (es : List Entry). spelled objects (written d) ∷ es) (spelled_both objects ds)

-- what an effect leaves on the disk beside its record: a commit and a definition are flushed, and acknowledged
abbrev pub settled_by : Effect → Store → Disk → Disk
settled_by Commits after d = settled after d
settled_by (Defines object) after d = settled after d
settled_by _ after d = d

module _ (Holds : Saved → Pages → Type 0) where
  -- none, behind the checkpoint of an opening
  pub opened_of : (p : Pages) (rs : Records) → Holds rs.saved p → rs.saved.carried ≡ [] → rs.flushed ≡ [] → rs.waiting ≡ [] → AreOf Holds rs (opened_disk p)
  opened_of p rs holds carried flushed waiting = record {
    cut = record { pages = holds; carried = carried; fit = tt; after = subst (AreSpelled p.db.schema []) (sym flushed) tt };
    long = ap length waiting;
    spelled_all = subst (λ (es : List Entry). AreSpelled p.db.schema [] (es ++ rs.flushed)) (sym waiting) (subst (AreSpelled p.db.schema []) (sym flushed) tt);
  }

  -- one record more waits
  one_more : (objects : Schema) (r : Numbered) (d : Disk) (rs : Records) → AreOf Holds rs d → LeadTo d.pages.db.schema (d.waiting ++ d.flushed) objects → IsSpellable objects r.of
      → AreOf Holds (with_one objects r rs) (record d { waiting = r ∷ d.waiting })
  one_more objects r d rs is leads fit = record {
    cut = record { pages = is.cut.pages; carried = is.cut.carried; fit = is.cut.fit; after = is.cut.after };
    long = ap suc is.long;
    spelled_all = (is.spelled_all, (objects, leads, fit, refl));
  }

  pub perhaps_more : (objects : Schema) (o : Option Record) (number : ℕ) (d : Disk) (rs : Records) → AreOf Holds rs d → LeadTo d.pages.db.schema (d.waiting ++ d.flushed) objects
      → ((r : Record) → o ≡ Some r → IsSpellable objects r) → AreOf Holds (with_perhaps objects number o rs) (with_record o number d)
  perhaps_more objects None number d rs is leads fit = is
  perhaps_more objects (Some r) number d rs is leads fit = one_more objects (record { number = number; of = r }) d rs is leads (fit r refl)

  -- a crash that leaves all that waits
  pub cut_flushed : (d : Disk) (rs : Records) → AreOf Holds rs d → IsCutOf Holds (cut_of (flushed_all rs)) (image_of d d.waiting)
  cut_flushed d rs is = record { pages = is.cut.pages; carried = is.cut.carried; fit = is.cut.fit; after = is.spelled_all }

  settled_of : (after : Store) (d : Disk) (rs : Records) → AreOf Holds rs d → AreOf Holds (flushed_all rs) (settled after d)
  settled_of after d rs is = record {
    cut = record { pages = is.cut.pages; carried = is.cut.carried; fit = is.cut.fit; after = is.spelled_all };
    long = refl;
    spelled_all = is.spelled_all;
  }

  pub settled_after : (e : Effect) (after : Store) (d : Disk) (rs : Records) → AreOf Holds rs d → AreOf Holds (flushed_after e rs) (settled_by e after d)
  settled_after Commits after d rs is = settled_of after d rs is
  settled_after (Defines object) after d rs is = settled_of after d rs is
  settled_after e after d rs is = is

  -- a crash that leaves what a checkpoint saved
  pub cut_saved : (s : State) (saved : Saved) (saves : SavesAll Holds s saved) (d : Disk) → IsCutOf Holds (record { saved = saved; records = [] }) (image_of (published (pages_now s.store) saves.carried d) [])
  cut_saved s saved saves d = record {
    pages = saves.pages;
    carried = saves.spelled_so ∙ spelled_both (pages_now s.store).db.schema saves.carried;
    fit = saves.fit;
    after = tt;
  }
