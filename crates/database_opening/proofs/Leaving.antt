-- What a crash leaves while a database is opened.
use Rattle.std.proofs.Common.{◌≡◌, ◌⊎◌, inl, inr, ⊎_elim, ℕ, ◌+◌, ◌*◌, ◌≤◌, List, [], Some, sym, ap, subst, arith}
use Rattle.std.specs.Prelude.{Result, Ok, Err, MatchResult}
use Rattle.disk_io.specs.Disk.{Elapses, LeavesOnly}
use Rattle.disk_io.proofs.Moments.{started, goes_on, then_on, weaker_on}
use Rattle.page_store.specs.Image.{image}
use Rattle.txn_log.specs.Damaged.{Header, FitsDevice}
use Rattle.txn_log.specs.Replay.{Pages, Reading, recovered}
use Rattle.txn_log.specs.Refused.{PlacedImage, ReversesAs}
use Rattle.core_journal.specs.Records.{Saved}
use Rattle.log_journal.specs.Cuts.{BearsCut, ImageOrCut}
use Rattle.log_journal.specs.Standing.{HasParts, disk_of}
use Rattle.ordered_index.specs.Tree.{Tree}
use Rattle.data_store.specs.declared.store.DataStore.{DataStore}
use Rattle.image_finding.specs.Headers.{as_header, StandsUpTo}
use Rattle.image_finding.specs.Reads.{IsOnlyRead}
use Rattle.image_finding.specs.declared.header.LiveHeader.{LiveHeader}
use Rattle.database_opening.specs.Crashes.{disk_in, IsAsBefore, KeepsImage, OpensSafely, unsynced, synced}
use Rattle.database_opening.specs.Opened.{CanBegin, DiskCore, saved_of}
use Rattle.database_opening.specs.declared.refused.OpenRefused.{OpenRefused}
use Rattle.database_opening.proofs.Saving.{bears_opened}

pub disk_in_is : {D : Type 0} (result : Result (DiskCore D) (OpenRefused D)) (disk : D) → MatchResult result (λ core. disk_of core.journal ≡ disk) (λ refused. refused.disk ≡ disk) → disk_in result ≡ disk
disk_in_is (Ok core) disk same = same
disk_in_is (Err refused) disk same = same

-- ---- the checkpoint of the opening

-- the image that stood there, or the checkpoint
module _ (h : LiveHeader) (store : DataStore Tree) (commits next : ℕ) (p : Pages) (can : CanBegin store h commits next p) (saved : Saved) (saved_is : saved ≡ saved_of store commits next) (room count : ℕ) (area : room ≡ h.area_bytes) (pages : count ≡ h.pages) where
  or_saved : (s c : List ℕ) → ImageOrCut room count s (record { saved = saved; records = [] }) c → IsAsBefore (as_header h) p.db s c
  or_saved s c (inl same) = inl (subst (λ (n : ℕ). image h.area_bytes n c ≡ image h.area_bytes n s) pages (subst (λ (n : ℕ). image n count c ≡ image n count s) area same))
  or_saved s c (inr bears) = inr (bears_opened store h commits next p can c (room, count, subst (λ (x : Saved). BearsCut room count c (record { saved = x; records = [] })) saved_is bears))

  pub saved_leaves : {D : Type 0} (moment : D → ℕ) (left_since : D → ℕ → List ℕ → Type 0) (seen : D → List ℕ) (old new disk : D) → old ≡ disk
      → LeavesOnly moment left_since old new (ImageOrCut room count (seen old) (record { saved = saved; records = [] })) → LeavesOnly moment left_since disk new (IsAsBefore (as_header h) p.db (seen disk))
  saved_leaves moment left_since seen old new disk same run =
      subst (λ d. LeavesOnly moment left_since d new (IsAsBefore (as_header h) p.db (seen d))) same
      (weaker_on moment left_since old new (IsAsBefore (as_header h) p.db (seen old)) (ImageOrCut room count (seen old) (record { saved = saved; records = [] })) run (or_saved (seen old)))

-- an area of a log is as long as the header says
pub area_is : (room size bytes : ℕ) → Some room ≡ Some size → size ≡ bytes → room ≡ bytes
area_is room size bytes one other = cc

-- a disk's size gives how many pages it has
pub pages_are : (h : Header) (size room count : ℕ) → FitsDevice h size → HasParts room count size → room ≡ h.area_bytes → count ≡ h.pages
pages_are h size room count fits parts area = let one = fits.size in let other = parts.whole in omega (arith, one, other, area)

-- ---- the whole opening

module _ {D : Type 0} (is_told : Type 0) (size_of : D → ℕ) (seen : D → List ℕ) (may_leave : D → List ℕ → Type 0) (moment : D → ℕ) (left_since : D → ℕ → List ℕ → Type 0)
    (only_now : (disk : D) (c : List ℕ) → left_since disk (moment disk) c → may_leave disk c) where
  -- an image is only read
  pub read_leaves : (s : List ℕ) (i : PlacedImage) (old new : D) → ((c : List ℕ) → may_leave old c → c ≡ s) → IsOnlyRead is_told size_of seen may_leave moment left_since old new → LeavesOnly moment left_since old new (KeepsImage s i)
  read_leaves s i old new settled read =
      goes_on moment left_since old old new (KeepsImage s i) (may_leave new)
      (started moment left_since old (KeepsImage s i) (λ c left. inl (settled c (only_now old c left))))
      read.time (λ c may. inl (settled c (read.crash c may)))

  -- and what it recovers to is saved
  pub opened_leaves : (s : List ℕ) (i : PlacedImage) (r : Reading) → ReversesAs i r → (h : Header) → StandsUpTo 12 s h → (old mid new : D) → seen mid ≡ s → LeavesOnly moment left_since old mid (KeepsImage s i)
      → LeavesOnly moment left_since mid new (IsAsBefore h (recovered r).db (seen mid)) → LeavesOnly moment left_since old new (KeepsImage s i)
  opened_leaves s i r reverses h stands old mid new same one two =
      then_on moment left_since old mid new (KeepsImage s i) (IsAsBefore h (recovered r).db (seen mid)) one two
      (λ c leaves. inr (h, stands, (r, reverses, subst (λ (bytes : List ℕ). IsAsBefore h (recovered r).db bytes c) same leaves)))

  -- behind the first sync
  pub synced_leaves : (s : List ℕ) (i : PlacedImage) (old mid new : D) → ((c : List ℕ) → may_leave mid c → c ≡ s) → Elapses (moment old) (moment mid) (left_since old) (left_since mid) (may_leave mid)
      → LeavesOnly moment left_since mid new (KeepsImage s i) → OpensSafely may_leave moment left_since s i old new
  synced_leaves s i old mid new durable time run =
      synced (moment mid) time.later run.later
      (λ c left. ⊎_elim
      (λ before. ⊎_elim (λ past. inl (only_now old c past)) (λ now. inr (inl (durable c now))) (time.nothing_else (moment old) c (omega arith) before))
      (λ keeps. inr keeps)
      (run.before (moment old) c time.later left))
      run.each

  -- and where that failed
  pub unsynced_leaves : (s : List ℕ) (i : PlacedImage) (old new : D) → ((c : List ℕ) → may_leave new c → may_leave old c) → Elapses (moment old) (moment new) (left_since old) (left_since new) (may_leave new)
      → OpensSafely may_leave moment left_since s i old new
  unsynced_leaves s i old new crash time = unsynced time.later (λ c left. ⊎_elim (only_now old c) (crash c) (time.nothing_else (moment old) c (omega arith) left))

  -- so what a crash may leave in the end is what it might have left before, or keeps the image
  pub safe_then : ((disk : D) (t : ℕ) (c : List ℕ) → t ≤ moment disk → may_leave disk c → left_since disk t c) → (s : List ℕ) (i : PlacedImage) (old new : D) → OpensSafely may_leave moment left_since s i old new
      → (c : List ℕ) → may_leave new c → may_leave old c ⊎ KeepsImage s i c
  safe_then counts_now s i old new (unsynced later left) c may = inl (left c (counts_now new (moment old) c later may))
  safe_then counts_now s i old new (synced at later past before since) c may = inr (since c (counts_now new at c past may))
