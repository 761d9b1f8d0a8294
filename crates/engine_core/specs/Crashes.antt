-- No clause of `run` rests on this module: it serves contracts between crates.
--
-- What a crash recovers of a core on a disk.
use Rattle.std.specs.Prelude.{◌≡◌, ◌⊎◌, ℕ, ◌≤◌, List, [], None}
use Rattle.iv_types.specs.Faults.{Rose}
use Rattle.iv_meaning.specs.Database.{Database}
use Rattle.iv_meaning.specs.History.{state_at}
use Rattle.txn_machine.specs.Laws.{IsOpened}
use Rattle.txn_machine.specs.State.{State}
use Rattle.txn_machine.specs.Steps.{texts_of}
use Rattle.txn_machine.specs.Store.{committed, schema_of}
use Rattle.txn_log.specs.Replay.{Pages, Reading, recovered}
use Rattle.txn_log.specs.Appended.{Image, IsRead}
use Rattle.txn_log.specs.Stored.{AllCreate}
use Rattle.txn_book.specs.Crashes.{IsWhole, IsPrefix}
use Rattle.log_disk.specs.Bears.{Bears}
use Rattle.ordered_index.specs.Tree.{Tree}
use Rattle.core_journal.specs.Records.{Records}
use Rattle.core_journal.specs.Cuts.{Cut}
use Rattle.log_journal.specs.Cuts.{IsBorne}
use Rattle.log_journal.specs.Standing.{disk_of}
use Rattle.log_journal.specs.declared.journal.LogJournal.{LogJournal}
use Rattle.record_worlds.specs.Pages.{HoldsPages}
use Rattle.record_worlds.specs.Tied.{IsTied, Recovers}
use Rattle.engine_core.specs.declared.engine.Core.{Core}

-- bytes recover to this database, whatever image they bear
abbrev pub RecoverTo : List ℕ → Database → Type 0
RecoverTo c db = (room count : ℕ) (i : Image) (r : Reading) → Bears room count c i → IsRead i r → (recovered r).db ≡ db

-- bytes bear an image that recovers to a database of which this holds
pub record ReadsBack (P : Database → Type 0) (c : List ℕ) : Type 0 where
  pub room : ℕ
  pub count : ℕ
  pub image : Image
  pub reading : Reading
  pub bears : Bears room count c image
  pub is_read : IsRead image reading
  pub holds : P (recovered reading).db

-- what was committed up to some number
abbrev pub IsUpTo : State → Database → Type 0
IsUpTo s db = (number : ℕ) × (number ≤ (committed s.store).number) × (db ≡ state_at s.store.origin s.store.history number)

-- These bytes have what a checkpoint saved, and records behind it, of an engine that was opened on these pages; they recover to what was
-- committed up to some number, or with the entry that stopped it where the disk, whose count of faults is this one, has failed.
pub record IsLeft (p : Pages) (s : State) (count : ℕ) (c : List ℕ) : Type 0 where
  pub cut : Cut
  pub borne : IsBorne c cut
  pub db : Database
  pub recovers : Recovers HoldsPages p s.opening cut db
  pub prefix : IsPrefix s db
  pub exact : IsUpTo s db ⊎ Rose s.opening.faults count

-- The same of bytes that may be left now: they recover to all that was committed, or with one entry more.
pub record IsLast (p : Pages) (s : State) (count : ℕ) (c : List ℕ) : Type 0 where
  pub cut : Cut
  pub borne : IsBorne c cut
  pub db : Database
  pub recovers : Recovers HoldsPages p s.opening cut db
  pub all : IsWhole s db
  pub exact : (db ≡ committed s.store) ⊎ Rose s.opening.faults count

-- a crash might have left these bytes since that moment, and so since each earlier one
abbrev pub LeftSince : {D : Type 0} → (left_since : D → ℕ → List ℕ → Type 0) → D → ℕ → List ℕ → Type 0
LeftSince left_since disk t c = (u : ℕ) → u ≤ t → left_since disk u c

-- A core was opened on these pages, of which its journal has the records, unless it is stopped; what a crash at any moment since then left
-- recovers so, and what one may leave now to all that was committed.
pub record Lasts {D : Type 0} (is_told : Type 0) (may_leave : D → List ℕ → Type 0) (moment : D → ℕ) (left_since : D → ℕ → List ℕ → Type 0) (faults : D → ℕ) (p : Pages) (journal : LogJournal D) (s : State) (rs : Records) : Type 0 where
  pub was_opened : IsOpened p.db p.view
  pub creates : s.stop ≡ None → AllCreate [] (texts_of s) (schema_of s.store)
  pub tied : s.stop ≡ None → IsTied HoldsPages p s.opening s rs
  pub later : is_told → s.opening.moment ≤ moment (disk_of journal)
  pub images : is_told → (c : List ℕ) → left_since (disk_of journal) s.opening.moment c → IsLeft p s (faults (disk_of journal)) c
  pub now : is_told → (c : List ℕ) → may_leave (disk_of journal) c → IsLast p s (faults (disk_of journal)) c

module _ {D : Type 0} (is_told : Type 0) (left_since : D → ℕ → List ℕ → Type 0) where
  -- the databases that a crash recovers: now, and since a moment
  abbrev pub MayRecover : (may_leave : D → List ℕ → Type 0) → Core Tree (LogJournal D) → Database → Type 0
  MayRecover may_leave core db = is_told × ((c : List ℕ) × may_leave (disk_of core.journal) c × RecoverTo c db)

  abbrev pub RecoveredSince : Core Tree (LogJournal D) → ℕ → Database → Type 0
  RecoveredSince core t db = is_told × ((c : List ℕ) × LeftSince left_since (disk_of core.journal) t c × RecoverTo c db)
