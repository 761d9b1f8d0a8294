-- No clause of `run` rests on this module: it serves contracts between crates.
--
-- What a crash leaves of a disk while its database is opened.
use Rattle.std.specs.Prelude.{◌≡◌, ◌⊎◌, ℕ, ◌≤◌, List, Result, Ok, Err}
use Rattle.iv_meaning.specs.Database.{Database}
use Rattle.page_store.specs.Image.{image}
use Rattle.txn_log.specs.Damaged.{Header}
use Rattle.txn_log.specs.Replay.{Reading, recovered}
use Rattle.txn_log.specs.Refused.{PlacedImage, ReversesAs}
use Rattle.image_finding.specs.Headers.{StandsUpTo}
use Rattle.log_journal.specs.Standing.{disk_of}
use Rattle.engine_core.specs.Crashes.{ReadsBack}
use Rattle.database_opening.specs.Opened.{DiskCore}
use Rattle.database_opening.specs.declared.refused.OpenRefused.{OpenRefused}

-- the disk of what an opening answers
abbrev pub disk_in : {D : Type 0} → Result (DiskCore D) (OpenRefused D) → D
disk_in (Ok core) = disk_of core.journal
disk_in (Err refused) = refused.disk

-- By the sizes in this header the same image stands in these bytes as in those, or they bear one that recovers to this database.
abbrev pub IsAsBefore : Header → Database → List ℕ → List ℕ → Type 0
IsAsBefore h db s c = (image h.area_bytes h.pages c ≡ image h.area_bytes h.pages s) ⊎ ReadsBack (λ other. other ≡ db) c

-- These bytes are those in which this image stands; or so by their live header and what the image recovers to.
abbrev pub KeepsImage : List ℕ → PlacedImage → List ℕ → Type 0
KeepsImage s i c = (c ≡ s) ⊎ ((h : Header) × StandsUpTo 12 s h × ((r : Reading) × ReversesAs i r × IsAsBefore h (recovered r).db s c))

-- Up to the first sync a crash leaves what it might have left before, and from then on what keeps the image that stood there.
pub data OpensSafely {D : Type 0} (may_leave : D → List ℕ → Type 0) (moment : D → ℕ) (left_since : D → ℕ → List ℕ → Type 0) (s : List ℕ) (i : PlacedImage) (old new : D) : Type 0 where
  -- the sync failed
  unsynced : moment old ≤ moment new → ((c : List ℕ) → left_since new (moment old) c → may_leave old c) → OpensSafely may_leave moment left_since s i old new
  synced : (at : ℕ) → moment old ≤ at → at ≤ moment new → ((c : List ℕ) → left_since new (moment old) c → may_leave old c ⊎ KeepsImage s i c) → ((c : List ℕ) → left_since new at c → KeepsImage s i c)
      → OpensSafely may_leave moment left_since s i old new
