-- No clause of `run` rests on this module: it serves contracts between crates.
--
-- The record of a disk in memory: its calls, and the bytes that they wrote, one after another.
use Rattle.std.specs.Prelude.{◌≤◌, ℕ, ◌+◌, ◌*◌, Bool, true, false, List, map, length, All}
use Rattle.disk_io.specs.declared.call.Call.{Call}
use Rattle.disk_io.specs.declared.call.Call.TheVariants as call
use Rattle.std.proofs.Props.{props}
use Rattle.disk_io.specs.Disk.{part}
use Rattle.disk_io.specs.Events.{Event, Wrote, Synced}

abbrev pub event_in : List ℕ → Call → Event
event_in bytes (call.Wrote at start n) = Wrote at (part start n bytes)
event_in bytes call.Synced = Synced

abbrev pub events : List ℕ → List Call → List Event
events bytes calls = map (event_in bytes) calls

-- what a call wrote stands among these n bytes
abbrev pub IsWithin : ℕ → Call → Type 0
IsWithin n (call.Wrote at start length) = start + length ≤ n
IsWithin n call.Synced = Unit {0}

-- the place and length of what it wrote lie within a disk of that size
abbrev pub FitsOnto : ℕ → Call → Type 0
FitsOnto size (call.Wrote at start length) = at + length ≤ size
FitsOnto size call.Synced = Unit {0}

abbrev pub is_sync_call : Call → Bool
is_sync_call (call.Wrote at start length) = false
is_sync_call call.Synced = true

-- the room that a record takes: 32 bytes a call, and what was written
abbrev pub room_taken : List ℕ → List Call → ℕ
room_taken bytes calls = 32 * length calls + length bytes

one_within_prop : (n : ℕ) (c : Call) → IsProp (IsWithin n c)
one_within_prop n (call.Wrote at start length) = hlevel props
one_within_prop n call.Synced = hlevel props

pub within_prop : (n : ℕ) (calls : List Call) → IsProp (All (IsWithin n) calls)
within_prop n calls = hlevel (props, one_within_prop n)
