-- What comes of a script on the database of a disk.
use Rattle.std.specs.Prelude.{◌≡◌, ◌≢◌, ◌⊎◌, ◌<◌, ◌≤◌, ℕ, List, ◌++◌, Option, Some, Result, Ok, Err}
use Rattle.iv_types.specs.Faults.{Rose}
use Rattle.iv_types.specs.declared.fault.Failed.{Failed}
use Rattle.iv_meaning.specs.Database.{Database}
use Rattle.iv_meaning.specs.History.{Entry, fold, state_at}
use Rattle.iv_meaning.specs.Objects.{schema_of}
use Rattle.line_wire.specs.Wire.{WroteFront}
use Rattle.txn_log.specs.Replay.{Reading, recovered}
use Rattle.txn_log.specs.Refused.{PlacedImage, ReversesAs, IsFine}
use Rattle.image_finding.specs.Rules.{PassesUpTo}
use Rattle.image_opening.specs.Images.{IsImageIn}
use Rattle.image_opening.specs.Telling.{Refuses}
use Rattle.image_opening.specs.declared.fault.OpenFault.{OpenFault}
use Rattle.image_opening.specs.declared.fault.OpenFault.TheVariants as why
use Rattle.engine_core.specs.Crashes.{ReadsBack}
use Rattle.image_refusals.specs.Lines.{rule_line, row_line}
use Rattle.database_opening.specs.Crashes.{KeepsImage}
use Rattle.script_run.specs.Recovered.{HasEntryMore, Committed, history_of}
use Rattle.script_run.specs.Run.{Output, Taken}
use Rattle.script_run.specs.declared.status.Status.{Status}
use Rattle.script_run.specs.declared.status.Status.TheVariants.{Done, Usage, WriteFault, DiskFault, BadImage, NoMemory}

-- a disk lay there that reads so, and both are told
pub record IsThere {D : Type 0} (outside_tells disk_tells : Type 0) (seen : D → List ℕ) (lay : Option D) (bytes : List ℕ) : Type 0 where
  pub told : outside_tells
  pub tells : disk_tells
  pub disk : D
  pub there : lay ≡ Some disk
  pub reads : seen disk ≡ bytes

-- A run ends with the status of its lines; where they were all run and the disk has failed, with a fault of the disk.
abbrev pub EndsWith : Status → Status → Type 0
EndsWith lines status = (status ≡ lines) ⊎ ((lines ≡ Done) × (status ≡ DiskFault))

-- the same by what closing the disk tells
abbrev pub EndsSo : Status → Result (Unit {0}) Failed → Status → Type 0
EndsSo lines (Ok u) status = status ≡ lines
EndsSo lines (Err failed) status = ((lines ≡ Done) × (status ≡ DiskFault)) ⊎ ((lines ≡ Done → ⊥) × (status ≡ lines))

-- the line was printed, or a front of it where the sink failed
abbrev pub ToldBad : Status → List ℕ → List ℕ → Option (List ℕ) → Type 0
ToldBad BadImage line before written = written ≡ Some (before ++ line)
ToldBad WriteFault line before written = WroteFront before line written
ToldBad _ line before written = ⊥

-- the line that tells why an image is refused
abbrev pub IsTold : OpenFault → List ℕ → Type 0
IsTold (why.BadImage bad) line = line ≡ rule_line bad
IsTold (why.BadView wrong) line = line ≡ row_line (schema_of wrong.catalog) wrong.row
IsTold why.DiskFault line = ⊥
IsTold why.NoMemory line = ⊥

-- the line was told, unless there was no memory for it
abbrev pub TellsIt : Status → List ℕ → List ℕ → Option (List ℕ) → Type 0
TellsIt status line before written = ToldBad status line before written ⊎ ((status ≡ NoMemory) × (written ≡ Some before))

-- the image was not refused, and the status tells why it was not opened
abbrev pub IsStop : OpenFault → Status → Type 0
IsStop (why.BadImage bad) status = ⊥
IsStop (why.BadView wrong) status = ⊥
IsStop why.DiskFault status = status ≡ DiskFault
IsStop why.NoMemory status = status ≡ NoMemory

-- what is told, or that nothing is, where the disk or memory failed
abbrev pub IsToldOf : OpenFault → Status → List ℕ → Option (List ℕ) → Type 0
IsToldOf fault status before written = ((line : List ℕ) × IsTold fault line × TellsIt status line before written) ⊎ (IsStop fault status × (written ≡ Some before))

-- a line was told, or the sink failed, or there was no memory for it
abbrev pub TellsBad : Status → Type 0
TellsBad status = (status ≡ BadImage) ⊎ ((status ≡ WriteFault) ⊎ (status ≡ NoMemory))

-- lines end with no fault of a disk or of an image, and they were a command
pub record IsOfLines (status : Status) : Type 0 where
  pub command : status ≢ Usage
  pub disks : status ≢ DiskFault
  pub images : status ≢ BadImage

-- all of these entries, or with one more where a disk has failed so often
abbrev pub KeepsAll : ℕ → Database → List Entry → Database → Type 0
KeepsAll faults origin history db = (db ≡ fold history origin) ⊎ ((0 < faults) × HasEntryMore origin history db)

-- those up to some number, or all with one more where it has failed
abbrev pub KeepsFront : ℕ → Database → List Entry → Database → Type 0
KeepsFront faults origin history db =
    ((number : ℕ) × (number ≤ (fold history origin).number) × (db ≡ state_at origin history number)) ⊎ ((0 < faults) × HasEntryMore origin history db)

-- What was committed by lines that were run on a database is kept on this disk: what a crash at any moment since one behind the opening
-- left bears an image, which recovers to what was committed up to some number; and what one may leave now to all of it.
pub record IsKeptOn {D : Type 0} (may_leave : D → List ℕ → Type 0) (moment : D → ℕ) (left_since : D → ℕ → List ℕ → Type 0) (faults : D → ℕ) (disk : D) (db : Database) (of : Status) (input before : List ℕ) (written : Option (List ℕ)) : Type 0 where
  pub committed : Committed db of input before written
  pub opened : ℕ
  pub past : opened ≤ moment disk
  pub since : (c : List ℕ) → left_since disk opened c → ReadsBack (KeepsFront (faults disk) committed.world.origin (history_of committed)) c
  pub now : (c : List ℕ) → may_leave disk c → ReadsBack (KeepsAll (faults disk) committed.world.origin (history_of committed)) c

-- such a disk lies there; it has not failed where the run ends with status 0
pub record LiesKept {D : Type 0} (may_leave : D → List ℕ → Type 0) (moment : D → ℕ) (left_since : D → ℕ → List ℕ → Type 0) (faults : D → ℕ) (lies : Option D) (status : Status) (input before : List ℕ) (written : Option (List ℕ)) (of : Status) (db : Database) : Type 0 where
  pub disk : D
  pub there : lies ≡ Some disk
  pub sound : status ≡ Done → faults disk ≡ 0
  pub kept : IsKeptOn may_leave moment left_since faults disk db of input before written

-- where the outside and its disks are told
abbrev pub Keeps : {D : Type 0} (outside_tells disk_tells : Type 0) (may_leave : D → List ℕ → Type 0) (moment : D → ℕ) (left_since : D → ℕ → List ℕ → Type 0) (faults : D → ℕ) (lies : Option D) (status : Status) (input before : List ℕ) (written : Option (List ℕ)) → Status → Database → Type 0
Keeps outside_tells disk_tells may_leave moment left_since faults lies status input before written of db = outside_tells → disk_tells → LiesKept may_leave moment left_since faults lies status input before written of db

-- a disk lies there that reads so, where the outside is told
pub record LiesAs {D : Type 0} (seen : D → List ℕ) (lies : Option D) (c : List ℕ) : Type 0 where
  pub disk : D
  pub there : lies ≡ Some disk
  pub reads : seen disk ≡ c

abbrev pub Stays : {D : Type 0} (outside_tells : Type 0) (seen : D → List ℕ) (lies : Option D) → List ℕ → Type 0
Stays outside_tells seen lies c = outside_tells → LiesAs seen lies c

-- what a crash might leave of a disk that lies there
pub record MightLeave {D : Type 0} (may_leave : D → List ℕ → Type 0) (lies : Option D) (c : List ℕ) : Type 0 where
  pub disk : D
  pub there : lies ≡ Some disk
  pub left : may_leave disk c

-- A disk lies there of which a crash leaves what it might have left before, or what keeps this image.
pub record LiesSafe {D : Type 0} (may_leave : D → List ℕ → Type 0) (earlier : List ℕ → Type 0) (lies : Option D) (s : List ℕ) (i : PlacedImage) : Type 0 where
  pub disk : D
  pub there : lies ≡ Some disk
  pub safe : (c : List ℕ) → may_leave disk c → earlier c ⊎ KeepsImage s i c

abbrev pub StaysSafe : {D : Type 0} (outside_tells : Type 0) (may_leave : D → List ℕ → Type 0) (earlier : List ℕ → Type 0) (lies : Option D) → List ℕ → PlacedImage → Type 0
StaysSafe outside_tells may_leave earlier lies s i = outside_tells → LiesSafe may_leave earlier lies s i

-- What a run on the disk with these bytes has done, and what it leaves. The count of faults goes with the status where no line was read.
pub data RanOn (There Same : List ℕ → Type 0) (Safe : List ℕ → PlacedImage → Type 0) (Unopened : Type 0) (Leaves : Status → Database → Type 0) (Counts : Status → Type 0) (status : Status) (input before : List ℕ) (left written : Option (List ℕ)) : Type 0 where
  -- The lines were run on some database: the bytes fail no rule up to 12, so that an image stands there, and it was that which the image
  -- recovers to, which is refused for nothing. What they committed is kept.
  lines : (of : Status) → EndsWith of status → Taken of input left → (db : Database) → Output db of input before left written
      → ((c : List ℕ) → There c → PassesUpTo 12 c × ((i : PlacedImage) → IsImageIn c i → IsFine i × ((r : Reading) × ReversesAs i r × Output (recovered r).db of input before left written × Leaves of (recovered r).db)))
      → RanOn There Same Safe Unopened Leaves Counts status input before left written
  -- The bytes bear no database, for what was told, unless there was no memory for the line, and stay as they are; no line was read.
  refused : (fault : OpenFault) → ((c : List ℕ) → There c → Refuses c fault × Same c) → (line : List ℕ) → IsTold fault line → left ≡ Some input → TellsIt status line before written
      → RanOn There Same Safe Unopened Leaves Counts status input before left written
  -- The disk failed as its database was opened, or there was no memory for it, and the image that stood there is kept; no line was read and
  -- nothing was told.
  stopped : (status ≡ DiskFault) ⊎ (status ≡ NoMemory) → Counts status → ((c : List ℕ) → There c → (i : PlacedImage) → IsImageIn c i → Safe c i) → left ≡ Some input → written ≡ Some before
      → RanOn There Same Safe Unopened Leaves Counts status input before left written
  -- The disk could not be opened, or there was no memory for that; no line was read and nothing was told.
  unopened : (status ≡ DiskFault) ⊎ (status ≡ NoMemory) → Counts status → Unopened → left ≡ Some input → written ≡ Some before → RanOn There Same Safe Unopened Leaves Counts status input before left written

-- the outside's count of disks rises with a fault of the disk, and it may have risen where another cause is told
abbrev pub FaultsOnDisk : Status → ℕ → ℕ → Type 0
FaultsOnDisk Done before now = now ≡ before
FaultsOnDisk BadImage before now = now ≡ before
FaultsOnDisk DiskFault before now = Rose before now
FaultsOnDisk _ before now = (now ≡ before) ⊎ Rose before now
