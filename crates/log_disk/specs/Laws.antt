-- No clause of `run` rests on this module: it serves contracts between crates.
--
-- What a crash at any moment of any call leaves on the disk.
use Rattle.std.specs.Prelude.{◌≡◌, ◌⊎◌, ℕ, ◌+◌, ◌*◌, ◌≤◌, Bool, List, [], length, Some, None}
use Rattle.disk_io.specs.Disk.{part, Only}
use Rattle.page_store.specs.declared.facts.HeaderFacts.{HeaderFacts}
use Rattle.page_store.specs.Image as page
use Rattle.page_store.specs.Image.{image}
use Rattle.wal_log.specs.Log.{LogState, used_by, IsOutside}
use Rattle.txn_machine.specs.Acts.{Act}
use Rattle.txn_machine.specs.Log.{Log, Opening, block_bytes, reserved}
use Rattle.txn_machine.specs.State.{State}
use Rattle.txn_machine.specs.Store.{Store, Effect, committed}
use Rattle.txn_machine.specs.Laws.{IsOpened}
use Rattle.txn_log.specs.Replay.{Pages, Reading, recovered}
use Rattle.txn_log.specs.Fitting.{IsFit}
use Rattle.txn_log.specs.Appended.{Image, IsRead}
use Rattle.txn_log.specs.Moments.{Disk, World, At, Amid, Writes, disk_of, store_of, left_by, Run, opened_world, IsRight}
use Rattle.log_disk.specs.Bears.{Bears}
use Rattle.log_disk.specs.Calls.{DiskTells, Stage, Saves, PublishCalled, Published, first_block, Calls, IsInStep, AreTwins}

-- bytes written in the log areas change the log alone: header, page map and stored pages mean what they did
abbrev pub AreasLaw : Type 0
AreasLaw = (room count : ℕ) (s c : List ℕ) (here : page.Image) → length s ≡ 278528 + 2 * room + 16384 * count → count ≤ 131072 → image room count s ≡ Some here
    → IsOutside 278528 (2 * room) s c → image room count c ≡ Some (record here { log = part (page.area_at room here.area) room c })

-- A world on the way from one to another, or what a fault of the disk may have left in place of that other: it stopped the machine on
-- the same store, and the publish that failed may have come to pass or not.
abbrev pub OnTheWay : World → World → World → Type 0
OnTheWay u v w = (Run u w × Run w v) ⊎ AreTwins v w

module _ {D : Type 0} (t : DiskTells D) where
  -- while an opening publishes what it recovered, a crash leaves the image that it found or the one that it publishes
  abbrev pub OpeningLaw : Type 0
  OpeningLaw = (room count : ℕ) (i : Image) (p : Pages) (former log : LogState) (facts : HeaderFacts) (stored : List Bool) (bytes : List ℕ) (old new : D)
      → Bears room count (t.seen old) i → Only (t.seen old) (t.may_leave old) → Saves room count p [] facts.next_entry former log facts stored bytes
      → PublishCalled t room facts (first_block log) stored bytes old new
      → (c : List ℕ) → t.left_since new (t.moment old) c → Bears room count c i ⊎ Bears room count c (record { pages = p; carried = []; after = [] })

  -- where the checkpoint of an opening is published, an engine may be begun on it
  abbrev pub OpenedLaw : Type 0
  OpenedLaw = (room count : ℕ) (p : Pages) (opening : Opening) (former log : LogState) (facts : HeaderFacts) (stored : List Bool) (bytes : List ℕ) (old new : D)
      → t.size_of new ≡ 278528 + 2 * room + 16384 * count → count ≤ 131072 → former.size ≡ room → former.reserved ≡ 0
      → Saves room count p [] opening.next former log facts stored bytes → Published t room facts (first_block log) stored bytes old new
      → IsInStep t room count (record { world = opened_world opening p; log = log; disk = new })

  -- after any calls a machine that no fault of the disk stopped has on the disk what its moments say
  abbrev pub StandingLaw : Type 0
  StandingLaw = (room count : ℕ) (p : Pages) → IsOpened p.db p.view → (opening : Opening) (first : Stage D) → first.world ≡ opened_world opening p → IsInStep t room count first
      → (a : Stage D) → Calls t room count first a → Run (opened_world opening p) a.world × (Writes a.world → IsInStep t room count a)

  -- whatever a crash may leave at any moment since one of the calls bears what a crash of the machine leaves, without some of its waiting
  -- records, in a world that the calls since then pass
  abbrev pub CallsLaw : Type 0
  CallsLaw = (room count : ℕ) (p : Pages) → IsOpened p.db p.view → (opening : Opening) (first : Stage D) → first.world ≡ opened_world opening p → IsInStep t room count first
      → (a b : Stage D) → Calls t room count first a → Calls t room count a b → (c : List ℕ) → t.left_since b.disk (t.moment a.disk) c
      → (w : World) × (k : ℕ) × Run (opened_world opening p) w × OnTheWay a.world b.world w × Bears room count c (left_by w k)

  -- so it is right, and it has every commit that was acknowledged before that call
  abbrev pub PrefixLaw : Type 0
  PrefixLaw = (room count : ℕ) (p : Pages) → IsOpened p.db p.view → (opening : Opening) (first : Stage D) → first.world ≡ opened_world opening p → IsInStep t room count first
      → (a b : Stage D) → Calls t room count first a → Calls t room count a b → (c : List ℕ) → t.left_since b.disk (t.moment a.disk) c
      → (w : World) × (k : ℕ) × OnTheWay a.world b.world w × Bears room count c (left_by w k) × IsRight (store_of w) (left_by w k) (disk_of a.world).acknowledged

  -- and where one step, or none, was committed since, it recovers to what was committed before it or to what is committed after it
  abbrev pub OneStepLaw : Type 0
  OneStepLaw = (room count : ℕ) (p : Pages) → IsOpened p.db p.view → (opening : Opening) (first : Stage D) → first.world ≡ opened_world opening p → IsInStep t room count first
      → (a b : Stage D) → Calls t room count first a → Calls t room count a b → (s : State) (d : Disk) → a.world ≡ At s d
      → (committed (store_of b.world)).number ≤ (committed s.store).number + 1 → (c : List ℕ) → t.left_since b.disk (t.moment a.disk) c
      → (i : Image) × Bears room count c i × (r : Reading) × IsRead i r × IsFit r × (((recovered r).db ≡ committed s.store) ⊎ ((recovered r).db ≡ committed (store_of b.world)))

  -- At each moment the log in memory has used and reserved as many bytes as the machine has: the end of a block that waits is reserved
  -- until its flush. Between two steps they lie in its area, of which a block and a gate take the first.
  abbrev pub RoomLaw : Type 0
  RoomLaw = (room count : ℕ) (p : Pages) → IsOpened p.db p.view → (opening : Opening) → opening.log_limit ≡ Some room → block_bytes + 1 ≤ room
      → (first : Stage D) → first.world ≡ opened_world opening p → IsInStep t room count first → (a : Stage D) → Calls t room count first a
      → ((after : State) (session : ℕ) (x : Act) (s : Store) (l : Log) (es : List Effect) (d : Disk) → a.world ≡ Amid after session x s l es d → used_by a.log + a.log.reserved ≡ l.used + reserved s l)
      × ((s : State) (d : Disk) → a.world ≡ At s d → (used_by a.log + a.log.reserved ≡ s.log.used + reserved s.store s.log) × (s.stop ≡ None → used_by a.log + a.log.reserved ≤ a.log.size))
