-- No clause of `run` rests on this module: it serves contracts between crates.
--
-- The laws of the log over every run of the machine, and of what its images mean.
use Rattle.std.specs.Prelude.{◌≡◌, ◌⊎◌, ℕ, ◌+◌, List, [], ◌∷◌, ◌++◌, map, Some}
use Rattle.std.specs.FinMap.{get}
use Rattle.table_laws.specs.Place.{Place}
use Rattle.iv_meaning.specs.Schema.{Object}
use Rattle.iv_meaning.specs.Statement.{Kept, defines}
use Rattle.iv_meaning.specs.History.{Entry, fold}
use Rattle.txn_machine.specs.Stored.{stored_number}
use Rattle.txn_machine.specs.Fresh.{fresh}
use Rattle.txn_machine.specs.Acts as act
use Rattle.txn_machine.specs.Acts.{Act}
use Rattle.txn_machine.specs.Store.{Store, committed, now, entry_changes}
use Rattle.txn_machine.specs.Steps.{Makes}
use Rattle.txn_machine.specs.Log.{Opening}
use Rattle.txn_machine.specs.State.{State, Stop}
use Rattle.txn_machine.specs.Laws.{IsOpened}
use Rattle.txn_log.specs.Replay.{Deed, Pages, Reading, recovered}
use Rattle.txn_log.specs.Fitting.{DoNumbersFall, IsFit}
use Rattle.txn_log.specs.Meaning.{base_row, view_number, greatest, definitions}
use Rattle.txn_log.specs.Appended.{Image, closed, IsRead}
use Rattle.txn_log.specs.Moments.{Disk, Keeps, Writes, World, At, Halted, store_of, disk_of, left_by, Run, opened_world, IsRight, Life}
use Rattle.txn_log.specs.Stored.{in_parts}
use Rattle.txn_log.specs.Refused.{PlacedImage, IsFine, IsPlaced, texts_in}

-- whatever a crash may leave at any moment is right
abbrev pub CrashLaw : Type 0
CrashLaw = (p : Pages) → IsOpened p.db p.view → (opening : Opening) (w : World) → Run (opened_world opening p) w → (k : ℕ)
    → IsRight (store_of w) (left_by w k) (disk_of w).acknowledged

-- and between two steps it has all that is committed: a step that is answered has lost nothing
abbrev pub CommittedLaw : Type 0
CommittedLaw = (p : Pages) → IsOpened p.db p.view → (opening : Opening) (s : State) (d : Disk) → Run (opened_world opening p) (At s d)
    → (k : ℕ) (r : Reading) → IsRead (left_by (At s d) k) r → (recovered r).db ≡ committed s.store

-- whatever its moment, a machine that no fault of the disk stopped finds what a checkpoint carries
abbrev pub CheckpointLaw : Type 0
CheckpointLaw = (p : Pages) → IsOpened p.db p.view → (opening : Opening) (w : World) → Run (opened_world opening p) w → Writes w
    → (carried : List Deed) × Keeps w carried × DoNumbersFall carried

-- an image is read in one way
abbrev pub ReadingLaw : Type 0
ReadingLaw = (i : Image) (one other : Reading) → IsRead i one → IsRead i other → one ≡ other

-- an opening may be stopped and repeated: what its checkpoint publishes, with the texts of all definitions, is not refused either and
-- recovers to the same
abbrev pub RepeatLaw : Type 0
RepeatLaw = (i j : PlacedImage) (f : IsFine i) → IsPlaced j (closed f.reading) → j.data_limit ≡ i.data_limit → j.texts ≡ i.texts ++ map in_parts (texts_in i.after)
    → (g : IsFine j) × (recovered g.reading ≡ recovered f.reading)

-- to replay and then reverse gives what an image means: its base rows, its view rows, its number and its definitions
abbrev pub MeaningLaw : Type 0
MeaningLaw = (r : Reading) → IsFit r
    → ((q : Place) → get (recovered r).db.rows q ≡ base_row r q)
    × ((p : Place) (column : ℕ) → stored_number (recovered r).view p column ≡ view_number r p column)
    × ((recovered r).db.number ≡ greatest r.pages.db.number r.after)
    × ((recovered r).db.schema ≡ definitions r.pages.db.schema r.after)

-- so of each image that a crash may leave, the view rows by the records are those of the views evaluated afresh on the base rows
-- by the records
abbrev pub RecoveredViewsLaw : Type 0
RecoveredViewsLaw = (p : Pages) → IsOpened p.db p.view → (opening : Opening) (w : World) → Run (opened_world opening p) w
    → (k : ℕ) (r : Reading) → IsRead (left_by w k) r
    → (place : Place) (column : ℕ) → view_number r place column ≡ fresh (definitions r.pages.db.schema r.after) (recovered r).db.rows place column

-- Over any number of openings and crashes: what an opening finds can be opened, and it is the first database after the commits that
-- the crashes left, those of each opening a beginning of its own.
abbrev pub LivesLaw : Type 0
LivesLaw = (first : Pages) → IsOpened first.db first.view → (p : Pages) (es : List Entry) → Life first p es
    → IsOpened p.db p.view × (p.db ≡ fold es first.db)

-- what a commit of this session, or its definition, keeps in the history
abbrev pub IsKeptBy : Store → ℕ → Act → List Kept → Type 0
IsKeptBy s session act.Commit kept = kept ≡ entry_changes (now s session).kept
IsKeptBy s session (act.Schema statement) kept = (o : Object) × Makes s statement o × (kept ≡ defines o ∷ [])
IsKeptBy s session _ kept = ⊥

-- the entry that the step was making that stopped the machine
pub record WasMaking (s : State) (stop : Stop) (e : Entry) : Type 0 where
  pub stops : s.stop ≡ Some stop
  pub session : (s.seat_of e.session).last ≡ stop.step
  pub number : e.number ≡ (committed s.store).number + 1
  pub kept : IsKeptBy s.store e.session stop.act e.kept

-- where a fault of the disk stopped the machine, its store is the log's, or lacks the one entry that the step was making
abbrev pub StopLaw : Type 0
StopLaw = (p : Pages) (opening : Opening) (s : State) (next : Store) (d : Disk) → Run (opened_world opening p) (Halted s next d)
    → (next.origin ≡ s.store.origin)
    × ((next.history ≡ s.store.history) ⊎ ((stop : Stop) × (e : Entry) × WasMaking s stop e × (next.history ≡ s.store.history ++ e ∷ [])))
