-- No clause of `run` rests on this module: it serves contracts between crates.
--
-- What a crash recovers of a core on a disk is what was committed.
use Rattle.std.specs.Prelude.{◌≡◌, ℕ, ◌≤◌, List}
use Rattle.std.proofs.Common.{⊎_elim, sym, subst, ◌∙◌, arith}
use Rattle.iv_types.specs.Faults.{Rose}
use Rattle.iv_meaning.specs.Database.{Database}
use Rattle.txn_machine.specs.Laws.{IsOpened}
use Rattle.txn_machine.specs.Log.{Opening}
use Rattle.txn_machine.specs.State.{State}
use Rattle.txn_machine.specs.Store.{committed}
use Rattle.txn_log.specs.Replay.{Pages, recovered}
use Rattle.txn_log.specs.Moments.{left_by}
use Rattle.txn_book.specs.Crashes.{IsWhole, IsPrefix}
use Rattle.ordered_index.specs.Tree.{Tree}
use Rattle.core_journal.specs.Records.{Records}
use Rattle.core_journal.specs.Cuts.{Cut, cut_of}
use Rattle.log_journal.specs.Cuts.{IsBorne}
use Rattle.log_journal.specs.Standing.{Has, disk_of}
use Rattle.log_journal.specs.declared.journal.LogJournal.{LogJournal}
use Rattle.log_journal.proofs.Cuts.{stands_now}
use Rattle.record_worlds.specs.Pages.{HoldsPages}
use Rattle.record_worlds.specs.Tied.{IsTied, Recovers}
use Rattle.record_worlds.proofs.Stopping.{cut_recovers}
use Rattle.saved_pages.proofs.Bearing.{bears}
use Rattle.engine_core.specs.Crashes.{RecoverTo, ReadsBack, IsUpTo, MayRecover, RecoveredSince}
use Rattle.engine_core.specs.Standing.{IsOnDisk}
use Rattle.engine_core.specs.declared.engine.Core.{Core}

pub below : (u t n : ℕ) → u ≤ t → t ≤ n → u ≤ n
below u t n less le = omega (arith, less, le)

pub no_later : (n : ℕ) → n ≤ n
no_later n = omega arith

-- bytes that have a cut recover to what it does
pub only_to : (p : Pages) (o : Opening) (c : List ℕ) (x : Cut) (db other : Database) → IsBorne c x → Recovers HoldsPages p o x db → RecoverTo c other → other ≡ db
only_to p o c x db other b r to =
    let i = left_by r.world r.without in
    sym (to b.0 b.1 i r.reading (bears b.0 b.1 c x b.2 i r.is) r.is_read) ∙ r.database

-- they bear an image, which recovers to it
pub read_back : (p : Pages) (o : Opening) (c : List ℕ) (x : Cut) (db : Database) (P : Database → Type 0) → IsBorne c x → Recovers HoldsPages p o x db → P db → ReadsBack P c
read_back p o c x db P b r holds = record {
  room = b.0;
  count = b.1;
  image = left_by r.world r.without;
  reading = r.reading;
  bears = bears b.0 b.1 c x b.2 (left_by r.world r.without) r.is;
  is_read = r.is_read;
  holds = subst P (sym r.database) holds;
}

pub reads_weaker : (P Q : Database → Type 0) → ((db : Database) → P db → Q db) → (c : List ℕ) → ReadsBack P c → ReadsBack Q c
reads_weaker P Q weaker c r = record { room = r.room; count = r.count; image = r.image; reading = r.reading; bears = r.bears; is_read = r.is_read; holds = weaker (recovered r.reading).db r.holds }

module _ {D : Type 0} (is_told : Type 0) (size_of : D → ℕ) (seen : D → List ℕ) (may_leave : D → List ℕ → Type 0) (moment : D → ℕ) (left_since : D → ℕ → List ℕ → Type 0) (faults : D → ℕ) where
  -- what a journal has of what is committed
  pub recovers_now : (journal : LogJournal D) (p : Pages) → IsOpened p.db p.view → (s : State) (rs : Records) → Has is_told size_of seen may_leave journal rs → IsTied HoldsPages p s.opening s rs
      → (db : Database) (c : List ℕ) → is_told → may_leave (disk_of journal) c → RecoverTo c db → db ≡ committed s.store
  recovers_now journal p was s rs has tied db c told left to =
      only_to p s.opening c (cut_of rs) (committed s.store) db
      (subst (λ (bytes : List ℕ). IsBorne bytes (cut_of rs)) (sym ((has.kept.header told).durable c left)) (journal.log.size, journal.pages, stands_now is_told size_of seen may_leave journal rs has told))
      (cut_recovers p was s.opening HoldsPages s rs tied) to

  pub keeps_committed : (core : Core Tree (LogJournal D)) (s : State) (db : Database) → IsOnDisk is_told size_of seen may_leave moment left_since faults core s → MayRecover is_told left_since may_leave core db → IsWhole s db
  keeps_committed core s db h may =
      let l = h.lasts.now may.0 may.1.0 may.1.1 in
      subst (IsWhole s) (sym (only_to h.pages s.opening may.1.0 l.cut l.db db l.borne l.recovers may.1.2)) l.all

  pub keeps_prefix : is_told → (core : Core Tree (LogJournal D)) (s : State) (db : Database) → IsOnDisk is_told size_of seen may_leave moment left_since faults core s → RecoveredSince is_told left_since core s.opening.moment db → IsPrefix s db
  keeps_prefix told core s db h since =
      let l = h.lasts.images told since.1.0 (since.1.1 s.opening.moment (omega arith)) in
      subst (IsPrefix s) (sym (only_to h.pages s.opening since.1.0 l.cut l.db db l.borne l.recovers since.1.2)) l.prefix

  -- what a crash at any moment since the opening left bears an image, and so does what one may leave now
  pub images_read : is_told → (core : Core Tree (LogJournal D)) (s : State) (c : List ℕ) → IsOnDisk is_told size_of seen may_leave moment left_since faults core s → left_since (disk_of core.journal) s.opening.moment c → ReadsBack (IsPrefix s) c
  images_read told core s c h left =
      let l = h.lasts.images told c left in
      read_back h.pages s.opening c l.cut l.db (IsPrefix s) l.borne l.recovers l.prefix

  pub last_read : is_told → (core : Core Tree (LogJournal D)) (s : State) (c : List ℕ) → IsOnDisk is_told size_of seen may_leave moment left_since faults core s → may_leave (disk_of core.journal) c → ReadsBack (IsWhole s) c
  last_read told core s c h left =
      let l = h.lasts.now told c left in
      read_back h.pages s.opening c l.cut l.db (IsWhole s) l.borne l.recovers l.all

  -- where the disk has not failed, to no entry more
  module _ (core : Core Tree (LogJournal D)) (s : State) (c : List ℕ) (h : IsOnDisk is_told size_of seen may_leave moment left_since faults core s) (sound : Rose s.opening.faults (faults (disk_of core.journal)) → ⊥) where
    pub images_sound : is_told → left_since (disk_of core.journal) s.opening.moment c → ReadsBack (IsUpTo s) c
    images_sound told left =
        let l = h.lasts.images told c left in
        read_back h.pages s.opening c l.cut l.db (IsUpTo s) l.borne l.recovers (⊎_elim (λ up. up) (λ rose. absurd (sound rose)) l.exact)

    pub last_sound : is_told → may_leave (disk_of core.journal) c → ReadsBack (λ db. db ≡ committed s.store) c
    last_sound told left =
        let l = h.lasts.now told c left in
        read_back h.pages s.opening c l.cut l.db (λ db. db ≡ committed s.store) l.borne l.recovers (⊎_elim (λ same. same) (λ rose. absurd (sound rose)) l.exact)
