-- No clause of `run` rests on this module: it serves contracts between crates.
--
-- What a disk in memory shows.
use Rattle.std.specs.Prelude.{◌≡◌, ℕ, ◌==◌, Bool, if◌then◌else◌, List, []}
use Rattle.std.specs.List.{list_any}
use Rattle.disk_io.specs.declared.memory.MemoryDisk.{MemoryDisk}
use Rattle.disk_io.specs.Counts.{one_up}
use Rattle.disk_io.specs.Disk.{Follows, Torn}
use Rattle.disk_io.specs.Events.{Event, MayLeave, LeftSince}
use Rattle.disk_io.specs.Recorded as kept

-- what it held when it was made
abbrev pub first_of : MemoryDisk → List ℕ
first_of d = d.first.items

-- what a read gives
abbrev pub bytes_of : MemoryDisk → List ℕ
bytes_of d = d.bytes.items

-- the calls that it recorded
abbrev pub record_of : MemoryDisk → List Event
record_of d = kept.recorded d.kept

-- the room that is left for its record
abbrev pub room_of : MemoryDisk → ℕ
room_of d = kept.room_left d.kept

-- the numbers of the calls that are to fail
abbrev pub failing_of : MemoryDisk → List ℕ
failing_of d = d.failing

-- how many calls were made, and how many of them failed
abbrev pub calls_of : MemoryDisk → ℕ
calls_of d = d.made

abbrev pub faults_of : MemoryDisk → ℕ
faults_of d = d.faults

-- whether the next call is one that is to fail
abbrev pub fails_next : MemoryDisk → Bool
fails_next d = list_any (λ n. n == one_up (calls_of d)) (failing_of d)

-- a new disk over these bytes
pub record IsNew (bytes : List ℕ) (room : ℕ) (failing : List ℕ) (d : MemoryDisk) : Type 0 where
  pub holds : bytes_of d ≡ bytes
  pub held : first_of d ≡ bytes
  pub nothing : record_of d ≡ []
  pub room_left : room_of d ≡ room
  pub to_fail : failing_of d ≡ failing
  pub no_calls : calls_of d ≡ 0
  pub no_faults : faults_of d ≡ 0

-- A call after which a read gives these bytes, the record holds these calls and has that room, where it was done; where
-- it failed they are as before.
pub record IsCall (bytes : List ℕ) (calls : List Event) (room : ℕ) (done : Bool) (old new : MemoryDisk) : Type 0 where
  pub counted : calls_of new ≡ one_up (calls_of old)
  pub faults : faults_of new ≡ (if done then faults_of old else one_up (faults_of old))
  pub holds : bytes_of new ≡ (if done then bytes else bytes_of old)
  pub recorded : record_of new ≡ (if done then calls else record_of old)
  pub room_left : room_of new ≡ (if done then room else room_of old)
  pub to_fail : failing_of new ≡ failing_of old
  pub held : first_of new ≡ first_of old

-- what a crash may leave
abbrev pub Images : MemoryDisk → List ℕ → Type 0
Images d c = MayLeave (record_of d) (first_of d) (λ b. b ≡ first_of d) c

-- what a crash at some moment from t on might have left
abbrev pub ImagesSince : MemoryDisk → ℕ → List ℕ → Type 0
ImagesSince d t c = LeftSince (record_of d) (first_of d) t c

-- a write of n bytes that a crash cuts short
abbrev pub Tears : ℕ → ℕ → MemoryDisk → MemoryDisk → Type 0
Tears at n old new = Follows (Torn at n) (Images old) (Images new)
