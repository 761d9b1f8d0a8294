-- No clause of `run` rests on this module: it serves contracts between crates.
--
-- The log, and what an area of a disk holds of it.
use Rattle.std.specs.Prelude.{◌≡◌, ◌≢◌, ◌⊎◌, ℕ, suc, zero, ◌+◌, ◌-◌, ◌<◌, ◌≤◌, List, [], ◌∷◌, ◌++◌, length, take, drop, get_or}
use Rattle.byteorder.specs.Endian.{big_bytes}
use Rattle.disk_io.specs.Disk.{part, splice, Torn}
use Rattle.log_records.specs.Area.{Entry, group, block, blocks, Begins}

-- the log without where it lies in memory; records are their bytes
pub record LogState : Type 0 where
  -- the bytes of a log area
  pub size : ℕ
  -- where the area in use begins on the disk
  pub start : ℕ
  -- the place in the area of the next block's gate
  pub gate : ℕ
  -- the records of the first block
  pub first : List ℕ
  -- the records that wait for a flush
  pub waiting : List ℕ
  -- the next record's number
  pub next : ℕ
  -- the bytes that are reserved
  pub reserved : ℕ

-- where the log areas begin on the disk
abbrev pub areas_at : ℕ
areas_at = 278528

-- where an area begins
abbrev pub area_at : ℕ → ℕ → ℕ
area_at size zero = areas_at
area_at size (suc area) = areas_at + size

-- a log in area 0 with an empty first block
abbrev pub new_log : ℕ → LogState
new_log bytes = record { size = bytes; start = areas_at; gate = 5; first = []; waiting = []; next = 1; reserved = 0 }

-- the bytes of the area that are used: up to the next gate, that gate, and what waits
abbrev pub used_by : LogState → ℕ
used_by log = log.gate + 1 + length log.waiting

-- the log after its waiting records became a block
abbrev pub after_flush : LogState → LogState
after_flush log = record log { gate = log.gate + (5 + length log.waiting); waiting = []; reserved = log.reserved - 5 }

-- the log in this area, with an empty first block
abbrev pub restarted : ℕ → ℕ → LogState → LogState
restarted area number log = record log { start = area_at log.size area; gate = 5; first = []; waiting = []; next = number }

-- what the log keeps of its fields: the waiting records stand behind a length of four bytes, the first block is whole
pub record FieldsFit (size start gate reserved fill : ℕ) (buffer : List ℕ) (first_fill : ℕ) (first : List ℕ) : Type 0 where
  pub small : size ≤ 268435456
  pub place : start ≤ areas_at + size
  pub begun : 4 ≤ fill
  pub room : gate + fill + reserved ≤ size + 3
  pub buffer_room : length buffer ≡ size
  pub least : 5 ≤ first_fill
  pub before : first_fill ≤ gate
  pub first_room : length first ≡ size
  pub whole : take (first_fill + 1) first ≡ block (drop 5 (take first_fill first)) ++ 0 ∷ []

-- a disk whose area at start begins with these blocks, the next gate at this place of the area
pub record Holds (start gate size : ℕ) (disk : List ℕ) (groups : List (List Entry)) : Type 0 where
  pub on_disk : start + size ≤ length disk
  pub inside : gate < size
  pub length : gate ≡ length (blocks groups)
  pub before : part start gate disk ≡ blocks groups
  pub shut : get_or disk (start + gate) 0 ≢ 165

-- an area begins with the blocks that it holds
abbrev pub HeldBegins : Type 0
HeldBegins = (start gate size : ℕ) (disk : List ℕ) (groups : List (List Entry)) → Holds start gate size disk groups → Begins groups (part start size disk)

-- what changes nothing in an area leaves the blocks that it holds
abbrev pub HeldStays : Type 0
HeldStays = (start gate size : ℕ) (old new : List ℕ) (groups : List (List Entry)) → Holds start gate size old groups → length new ≡ length old
    → ((i : ℕ) → start ≤ i → i < start + size → get_or new i 0 ≡ get_or old i 0) → Holds start gate size new groups

-- a disk whose area begins with the log's first block holds it
abbrev pub BegunHolds : LogState → Type 0
BegunHolds log = (disk : List ℕ) (es : List Entry) → log.first ≡ group es → log.gate ≡ 5 + length log.first → log.start + log.size ≤ length disk
    → part log.start (log.gate + 1) disk ≡ block log.first ++ 0 ∷ [] → Holds log.start log.gate log.size disk (es ∷ [])

-- the bytes outside a range are the same
pub record IsOutside (at n : ℕ) (old new : List ℕ) : Type 0 where
  pub size : length new ≡ length old
  pub before : (i : ℕ) → i < at → get_or new i 0 ≡ get_or old i 0
  pub after : (i : ℕ) → at + n ≤ i → get_or new i 0 ≡ get_or old i 0

-- after a crash in a flush: the area has the block or it has not, and nothing outside the area has changed
pub record FlushLeaves (log : LogState) (disk : List ℕ) (groups : List (List Entry)) (rs : List Entry) (c : List ℕ) : Type 0 where
  pub others : IsOutside log.start log.size disk c
  pub area : Begins groups (part log.start log.size c) ⊎ Begins (groups ++ rs ∷ []) (part log.start log.size c)

-- a block behind its gate, and the closed gate after it
abbrev pub body : List ℕ → List ℕ
body bytes = big_bytes 4 (length bytes) ++ (bytes ++ 0 ∷ [])

-- after a crash while a block is written: its body in part, or the body and its gate in part
abbrev pub InPart : ℕ → List ℕ → List ℕ → List ℕ → Type 0
InPart gate body disk c = Torn (gate + 1) (length body) disk c ⊎ Torn gate 1 (splice (gate + 1) body disk) c
