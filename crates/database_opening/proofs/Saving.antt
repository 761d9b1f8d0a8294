-- What the checkpoint of the opening saves is what a checkpoint saves where steps begin.
use Rattle.std.proofs.Common.{◌≡◌, inl, ℕ, List, [], None, refl, sym, subst, append-nil, arith}
use Rattle.txn_machine.specs.State.{opened_state}
use Rattle.txn_machine.specs.Store.{opened}
use Rattle.txn_machine.specs.Laws.{IsOpened}
use Rattle.txn_machine.specs.Log.{Opening}
use Rattle.txn_machine.specs.State.{State}
use Rattle.txn_machine.specs.Steps.{texts_of}
use Rattle.txn_log.specs.Replay.{Pages}
use Rattle.txn_log.specs.Moments.{opened_world, here}
use Rattle.txn_log.specs.Stored.{AllCreate}
use Rattle.txn_log.proofs.Happening.{proper}
use Rattle.txn_log.proofs.Printed.{prints_again}
use Rattle.txn_book.specs.Crashes.{committed_to}
use Rattle.definition_parts.specs.Parts.{HasTexts}
use Rattle.data_store.specs.declared.store.DataStore.{DataStore}
use Rattle.ordered_index.specs.Tree.{Tree, map_of}
use Rattle.core_recording.specs.Carried as carried
use Rattle.core_journal.specs.Records.{Records, begun, restarted}
use Rattle.core_journal.specs.Cuts.{cut_of}
use Rattle.core_recording.specs.Giving.{IsSaved}
use Rattle.log_journal.specs.Cuts.{IsBorne}
use Rattle.log_journal.specs.Standing.{Has, disk_of}
use Rattle.log_journal.specs.declared.journal.LogJournal.{LogJournal}
use Rattle.log_journal.proofs.Cuts.{stands_now}
use Rattle.record_worlds.specs.Pages.{HoldsPages}
use Rattle.record_worlds.specs.Tied.{IsTied, Recovers}
use Rattle.record_worlds.proofs.Going.{opened_tied}
use Rattle.record_worlds.proofs.Stopping.{cut_recovers}
use Rattle.engine_core.specs.Crashes.{Lasts, ReadsBack}
use Rattle.engine_core.specs.CrashLaws.{read_back}
use Rattle.image_finding.specs.declared.header.LiveHeader.{LiveHeader}
use Rattle.database_opening.specs.Opened.{CanBegin, opening_of, saved_of}

pub saved_by : (store : DataStore Tree) (h : LiveHeader) (commits next : ℕ) (p : Pages) (can : CanBegin store h commits next p) (faults moment : ℕ)
    → IsSaved (opened_state (opening_of h can.texts next faults moment) (opened p.db p.view)) (saved_of store commits next)
saved_by store h commits next p can faults moment =
    let opens = can.opens faults moment in
    record {
      rows = store.views;
      held = opens.has.stored;
      texts = subst (λ (ts : List (List ℕ)). HasTexts (map_of store.tables 0) store.catalog ts) (sym (append-nil can.texts)) opens.has.texts;
      number = opens.number_is;
      next_number = refl;
      opens = [];
      same = λ session is. tt;
      records = record { done = λ session. 0; carried = carried.none (λ session. 0) (λ session. refl); all = λ session is. refl };
    }

-- ---- a crash then

-- what was saved then recovers what was opened
module _ (opening : Opening) (p : Pages) (was : IsOpened p.db p.view) (create : AllCreate [] opening.definitions p.db.schema) (rs : Records) (saved : IsSaved (opened_state opening (opened p.db p.view)) rs.saved)
    (carried : rs.saved.carried ≡ []) (flushed : rs.flushed ≡ []) (waiting : rs.waiting ≡ []) where
  abbrev s : State
  s = opened_state opening (opened p.db p.view)

  texts_create : AllCreate [] (texts_of (opened_state opening (opened p.db p.view))) p.db.schema
  texts_create = subst (λ (ts : List (List ℕ)). AllCreate [] ts p.db.schema) (sym (append-nil opening.definitions)) create

  holds : HoldsPages rs.saved p
  holds = record {
    objects = saved.held.objects;
    tables = saved.held.tables;
    views = saved.held.views;
    texts = texts_of (opened_state opening (opened p.db p.view));
    has_texts = saved.texts;
    create = texts_create;
    proper = proper prints_again p was opening (opened_world opening p) (here (opened_world opening p));
    number = saved.number;
  }

  tied : IsTied HoldsPages p opening (opened_state opening (opened p.db p.view)) rs
  tied = opened_tied p was opening HoldsPages rs holds carried flushed waiting

  pub recovers : Recovers HoldsPages p opening (cut_of rs) p.db
  recovers = cut_recovers p was opening HoldsPages s rs tied

  -- it recovers what was opened
  pub lasts_from : {D : Type 0} (is_told : Type 0) (size_of : D → ℕ) (seen : D → List ℕ) (may_leave : D → List ℕ → Type 0) (moment : D → ℕ) (left_since : D → ℕ → List ℕ → Type 0) (faults : D → ℕ)
      → ((disk : D) (c : List ℕ) → left_since disk (moment disk) c → may_leave disk c) → (journal : LogJournal D) → opening.moment ≡ moment (disk_of journal) → (has : Has is_told size_of seen may_leave journal rs)
      → Lasts is_told may_leave moment left_since faults p journal (opened_state opening (opened p.db p.view)) rs
  lasts_from is_told size_of seen may_leave moment left_since faults only_now journal now has = record {
    was_opened = was;
    creates = λ runs. texts_create;
    tied = λ runs. tied;
    later = λ told. omega (arith, now);
    images = λ told c left.
        let may = only_now (disk_of journal) c (subst (λ (t : ℕ). left_since (disk_of journal) t c) now left) in
        record {
          cut = cut_of rs;
          borne = borne told c may;
          db = p.db;
          recovers = recovers;
          prefix = committed_to p.db.number (omega arith) refl;
          exact = inl (p.db.number, omega arith, refl);
        };
    now = λ told c may. record { cut = cut_of rs; borne = borne told c may; db = p.db; recovers = recovers; all = inl refl; exact = inl refl };
  }
    where
      borne : is_told → (c : List ℕ) → may_leave (disk_of journal) c → IsBorne c (cut_of rs)
      borne told c may =
          let same = (has.kept.header told).durable c may in
          subst (λ (bytes : List ℕ). IsBorne bytes (cut_of rs)) (sym same) (journal.log.size, journal.pages, stands_now is_told size_of seen may_leave journal rs has told)

-- bytes with that cut bear an image that recovers to what was opened
pub bears_opened : (store : DataStore Tree) (h : LiveHeader) (commits next : ℕ) (p : Pages) → CanBegin store h commits next p → (c : List ℕ) → IsBorne c (record { saved = saved_of store commits next; records = [] }) → ReadsBack (λ db. db ≡ p.db) c
bears_opened store h commits next p can c borne =
    let rs : Records = restarted (begun None (saved_of store commits next) 0) (saved_of store commits next) 0 in
    let opening = opening_of h can.texts next 0 0 in
    read_back p opening c (cut_of rs) p.db (λ db. db ≡ p.db) borne (recovers opening p (can.opens 0 0).was_opened can.create rs (saved_by store h commits next p can 0 0) refl refl refl) refl
