-- No clause of `run` rests on this module: it serves contracts between crates.
--
-- A machine with the log and the disk on which its records are: what each call says, calls one after another, and how the disk stands
-- between two of them.
use Rattle.std.specs.Prelude.{◌≡◌, ◌≢◌, ◌⊎◌, ℕ, ◌+◌, ◌*◌, ◌<◌, ◌≤◌, ◌^◌, Bool, List, [], ◌∷◌, ◌++◌, map, length, reverse, Some}
use Rattle.std.specs.List.{AllByRecursion}
use Rattle.disk_io.specs.Disk.{Only, Elapses, LeavesOnly}
use Rattle.page_store.specs.declared.facts.HeaderFacts.{HeaderFacts}
use Rattle.page_store.specs.Image as page
use Rattle.page_store.specs.Image.{image}
use Rattle.page_store.specs.Publish.{IsNew, OldOrNew, stored_pages}
use Rattle.log_records.specs.Spelling.{spelling}
use Rattle.log_records.specs.Area.{Entry, group, block, IsSmall, FitsBlock}
use Rattle.wal_log.specs.Log.{LogState, used_by, after_flush, restarted, Holds, FlushLeaves, IsOutside}
use Rattle.txn_machine.specs.Acts as act
use Rattle.txn_machine.specs.Records as machine
use Rattle.txn_machine.specs.Records.{Record}
use Rattle.txn_machine.specs.Log.{Log, block_bytes, reserved}
use Rattle.txn_machine.specs.Store.{Store, committed, schema_of}
use Rattle.txn_machine.specs.State.{State}
use Rattle.txn_log.specs.Replay.{Deed, Pages}
use Rattle.txn_log.specs.Fitting.{DoNumbersFall}
use Rattle.txn_log.specs.Appended.{Numbered, written}
use Rattle.txn_log.specs.Groups.{after_of}
use Rattle.txn_log.specs.Moments.{AreCarried, txn_at, Disk, World, At, Amid, Halted, Happens, Writes, store_of, disk_of, with_disk, image_of, with_record, flushed_all, pages_now, published}
use Rattle.log_disk.specs.Spelled.{spelled, AreSpelled}
use Rattle.log_disk.specs.Bears.{AreStoredAs, IsSavedAs, HasRecords}

-- what disks of a type tell, by the members of their trait
pub record DiskTells (D : Type 0) : Type 1 where
  pub size_of : D → ℕ
  pub seen : D → List ℕ
  pub may_leave : D → List ℕ → Type 0
  pub moment : D → ℕ
  pub left_since : D → ℕ → List ℕ → Type 0

-- ---- the log in memory

-- a record waits
abbrev pub with_waiting : LogState → Entry → LogState
with_waiting log e = record log { waiting = log.waiting ++ spelling e.number e.entry; next = log.next + 1 }

-- so many bytes are reserved
abbrev pub with_reserved : LogState → ℕ → LogState
with_reserved log bytes = record log { reserved = bytes }

-- the first block has these records more
abbrev pub with_carried : LogState → List Entry → LogState
with_carried log [] = log
with_carried log (e ∷ es) = with_carried (record log { first = log.first ++ spelling e.number e.entry; gate = log.gate + length (spelling e.number e.entry) }) es

-- carried records as the first block has them
abbrev pub first_entries : Pages → List Deed → List Entry
first_entries p carried = reverse (map (λ d. spelled p.db.schema (written d)) carried)

-- the first block, and the closed gate behind it
abbrev pub first_block : LogState → List ℕ
first_block log = block log.first ++ 0 ∷ []

-- ---- between two calls

-- the bytes of a disk, and a log in memory, have the pages and the records of the machine's disk
pub record IsOn (room count : ℕ) (d : Disk) (log : LogState) (s : List ℕ) : Type 0 where
  pub size : length s ≡ 278528 + 2 * room + 16384 * count
  pub few : count ≤ 131072
  pub here : page.Image
  pub means : image room count s ≡ Some here
  pub pages : IsSavedAs room count here d.pages
  pub first : List Entry
  pub others : List (List Entry)
  pub records : HasRecords here (image_of d []) first others
  pub fits : AllByRecursion FitsBlock (first ∷ others)
  pub area_size : log.size ≡ room
  pub start : log.start ≡ page.area_at room here.area
  pub holds : Holds log.start log.gate log.size s (first ∷ others)
  pub waits : List Entry
  pub small : AllByRecursion IsSmall waits
  pub waiting : log.waiting ≡ group waits
  pub spelled_all : AreSpelled d.pages.db.schema (d.waiting ++ d.flushed) (reverse waits ++ after_of others)

-- a commit and a definition each end a block
abbrev pub end_of_block : Record → ℕ
end_of_block (machine.Commit transaction number session) = block_bytes
end_of_block (machine.Definition number session text) = block_bytes
end_of_block _ = 0

-- the bytes that end the blocks of these records, which wait
abbrev pub ends_of : List Numbered → ℕ
ends_of [] = 0
ends_of (r ∷ rs) = ends_of rs + end_of_block r.of

-- The log in memory has the machine's next number and used bytes. The machine counts the end of a block with the record that ends it.
abbrev pub IsCounted : World → LogState → Type 0
IsCounted (At s d) log = (log.next ≡ s.log.next) × (used_by log ≡ s.log.used)
IsCounted (Amid after session a s l es d) log = (log.next ≡ l.next) × (used_by log + ends_of d.waiting ≡ l.used)
IsCounted (Halted s next d) log = Unit {0}

-- it has reserved what the machine reserves, and the ends of blocks that wait
abbrev pub Reserves : World → LogState → Type 0
Reserves (At s d) log = log.reserved ≡ reserved s.store s.log
Reserves (Amid after session a s l es d) log = log.reserved ≡ reserved s l + ends_of d.waiting
Reserves (Halted s next d) log = Unit {0}

-- ---- what calls say

module _ {D : Type 0} (t : DiskTells D) where
  -- a call that writes nothing
  pub record Read (old new : D) : Type 0 where
    pub seen : t.seen new ≡ t.seen old
    pub crash : (c : List ℕ) → t.may_leave new c → t.may_leave old c
    pub time : Elapses (t.moment old) (t.moment new) (t.left_since old) (t.left_since new) (t.may_leave new)
    pub size : t.size_of new ≡ t.size_of old

  -- a flush, whatever it answers
  pub record FlushCalled (log : LogState) (old new : D) : Type 0 where
    pub short : length log.waiting < 2 ^ 28
    pub any_moment : (groups : List (List Entry)) (rs : List Entry) → Holds log.start log.gate log.size (t.seen old) groups → log.waiting ≡ group rs
        → Only (t.seen old) (t.may_leave old) → LeavesOnly t.moment t.left_since old new (FlushLeaves log (t.seen old) groups rs)
    pub size : t.size_of new ≡ t.size_of old

  -- and one that answers Ok
  pub record Flushed (log after : LogState) (old new : D) : Type 0 where
    pub called : FlushCalled log old new
    pub ok : after ≡ after_flush log
    pub holds : (groups : List (List Entry)) (rs : List Entry) → Holds log.start log.gate log.size (t.seen old) groups → log.waiting ≡ group rs
        → Holds log.start (log.gate + (5 + length log.waiting)) log.size (t.seen new) (groups ++ rs ∷ [])
    pub outside : IsOutside log.start log.size (t.seen old) (t.seen new)
    pub durable : Only (t.seen new) (t.may_leave new)

  -- a publish
  pub record PublishCalled (room : ℕ) (facts : HeaderFacts) (block : List ℕ) (stored : List Bool) (bytes : List ℕ) (old new : D) : Type 0 where
    pub any_moment : Only (t.seen old) (t.may_leave old) → LeavesOnly t.moment t.left_since old new (OldOrNew room facts block stored bytes (t.seen old))
    pub size : t.size_of new ≡ t.size_of old

  pub record Published (room : ℕ) (facts : HeaderFacts) (block : List ℕ) (stored : List Bool) (bytes : List ℕ) (old new : D) : Type 0 where
    pub called : PublishCalled room facts block stored bytes old new
    pub published : IsNew room facts block stored bytes (t.seen new)
    pub durable : Only (t.seen new) (t.may_leave new)

-- ---- calls one after another

-- the machine with its log and its disk
pub record Stage (D : Type 0) : Type 0 where
  pub world : World
  pub log : LogState
  pub disk : D

-- but for what is acknowledged
pub record SameRecords (d e : Disk) : Type 0 where
  pub pages : e.pages ≡ d.pages
  pub carried : e.carried ≡ d.carried
  pub flushed : e.flushed ≡ d.flushed
  pub waiting : e.waiting ≡ d.waiting

-- What a checkpoint of these pages publishes: the store's stored pages hold them, the header names them, and the log went to the
-- header's area with these carried records, before the record of this number.
pub record Saves (room count : ℕ) (p : Pages) (carried : List Deed) (next : ℕ) (old log : LogState) (facts : HeaderFacts) (stored : List Bool) (bytes : List ℕ) : Type 0 where
  pub format : facts.format ≡ 1
  pub area : facts.area ≤ 1
  pub commits : facts.commits ≡ p.db.number
  pub next_entry : facts.next_entry ≡ next
  pub many : length stored ≡ count
  pub pages : AreStoredAs (stored_pages stored bytes) p
  pub log_is : log ≡ with_carried (restarted facts.area facts.next_entry old) (first_entries p carried)
  pub small : AllByRecursion IsSmall (first_entries p carried)
  pub short : length log.first < 2 ^ 28
  pub block_fits : length (first_block log) ≤ room

-- a record is appended to the machine's disk, and to the log, which then has reserved what the machine reserves
pub record Appends (v w : World) (log after : LogState) : Type 0 where
  pub of : Record
  pub number : ℕ
  pub disk : disk_of w ≡ with_record (Some of) number (disk_of v)
  pub small : IsSmall (spelled (schema_of (store_of v)) (record { number = number; of = of }))
  pub bytes : ℕ
  pub log_is : after ≡ with_reserved (with_waiting log (spelled (schema_of (store_of v)) (record { number = number; of = of }))) bytes
  pub reserves : Reserves w after

-- stopped on the same store: the disk is the same, or a checkpoint of that store is published on it
abbrev pub AreTwins : World → World → Type 0
AreTwins (Halted s next d) (Halted u other e) = (other ≡ next) × ((e ≡ d) ⊎ ((carried : List Deed) × (e ≡ published (pages_now next) carried d)))
AreTwins _ _ = ⊥

-- no checkpoint ends here and no fault stops the machine, since these are calls on the disk
abbrev pub IsQuiet : World → World → Type 0
IsQuiet (Amid after session a s l es d) (At t e) = a ≢ act.Checkpoint
IsQuiet (At s d) (Halted t next e) = ⊥
IsQuiet _ _ = Unit {0}

module _ {D : Type 0} (t : DiskTells D) (room count : ℕ) where
  pub data Call : Stage D → Stage D → Type 0 where
    -- the machine goes on, and nothing is appended
    goes_on : (a : Stage D) (w : World) (bytes : ℕ) → Happens a.world w → SameRecords (disk_of a.world) (disk_of w) → IsQuiet a.world w → Reserves w (with_reserved a.log bytes)
        → Call a (record a { world = w; log = with_reserved a.log bytes })
    reads : (a : Stage D) (new : D) → Read t a.disk new → Call a (record a { disk = new })
    appends : (a : Stage D) (w : World) (log : LogState) → Happens a.world w → Appends a.world w a.log log → Call a (record { world = w; log = log; disk = a.disk })
    -- the block of a commit or a definition is flushed
    flushes : (a : Stage D) (log : LogState) (new : D) → Writes a.world → ends_of (disk_of a.world).waiting ≡ block_bytes → Flushed t a.log log a.disk new
        → Call a (record { world = with_disk a.world (flushed_all (disk_of a.world)); log = log; disk = new })
    -- a checkpoint is published, with which its step ends
    publishes : (after : State) (session : ℕ) (s : Store) (l : Log) (d : Disk) (old log : LogState) (disk new : D) (carried : List Deed) (kept : ℕ) (facts : HeaderFacts) (stored : List Bool) (bytes : List ℕ)
        → AreCarried (txn_at s l) carried → DoNumbersFall carried → d.acknowledged ≡ (committed s).number
        → Saves room count (pages_now s) carried old.next old log facts stored bytes → Published t room facts (first_block log) stored bytes disk new
        → Reserves (At after (published (pages_now s) carried d)) (with_reserved log kept)
        → Call (record { world = Amid after session act.Checkpoint s l [] d; log = old; disk = disk }) (record { world = At after (published (pages_now s) carried d); log = with_reserved log kept; disk = new })
    -- a commit or a definition is appended, and its flush fails, which stops the machine
    fails_flush : (a : Stage D) (w : World) (log after : LogState) (new : D) → Happens a.world w → Writes a.world → (Writes w → ⊥) → Appends a.world w a.log log → FlushCalled t log a.disk new
        → Call a (record { world = w; log = after; disk = new })
    -- the publish of a checkpoint fails, which stops the machine on one of two disks
    fails_publish : (a : Stage D) (before after : World) (carried : List Deed) (log last : LogState) (facts : HeaderFacts) (stored : List Bool) (bytes : List ℕ) (new : D)
        → Happens a.world before → Happens a.world after → Writes a.world → AreTwins before after → SameRecords (disk_of a.world) (disk_of before)
        → disk_of after ≡ published (pages_now (store_of a.world)) carried (disk_of a.world) → Saves room count (pages_now (store_of a.world)) carried a.log.next a.log log facts stored bytes
        → PublishCalled t room facts (first_block log) stored bytes a.disk new → Call a (record { world = before; log = last; disk = new })

  pub data Calls (a : Stage D) : Stage D → Type 0 where
    none : Calls a a
    then_call : (b c : Stage D) → Calls a b → Call b c → Calls a c

  -- the disk has what the machine's disk has, no write waits, and the log in memory counts as the machine does
  pub record IsInStep (a : Stage D) : Type 0 where
    pub is_on : IsOn room count (disk_of a.world) a.log (t.seen a.disk)
    pub settled : Only (t.seen a.disk) (t.may_leave a.disk)
    pub counted : IsCounted a.world a.log
    pub reserves : Reserves a.world a.log
