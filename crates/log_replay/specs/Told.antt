-- No clause of `run` rests on this module: it serves contracts between crates.
--
-- What is told of the records of an image.
use Rattle.std.specs.Prelude.{◌≡◌, ◌↔◌, ℕ, suc, ◌<◌, ◌≤◌, nat_lt, List, [], ◌∷◌, ◌++◌, reverse, Option, if◌then◌else◌}
use Rattle.std.specs.List.{All}
use Rattle.iv_types.specs.Maps.{Map}
use Rattle.txn_log.specs.Replay.{Deed, Event, Pages, Reading, recovered}
use Rattle.txn_log.specs.Fitting.{AreBelow}
use Rattle.txn_log.specs.Refused.{Placed, PlacedImage, CarriedBreaks, RecordBreaks, ReversesAs}
use Rattle.log_records.specs.declared.record.Scanned.{Scanned}
use Rattle.log_disk.specs.Placed.{AreCarriedAt, AreFurtherAt}
use Rattle.record_replay.specs.Past.{carrying}
use Rattle.record_replay.specs.Standing.{Has, HasReplayed}
use Rattle.record_replay.specs.declared.answer.Replayed.{Replayed}
use Rattle.record_replay.specs.declared.answer.Replayed.TheVariants.{Passed, Broken}
use Rattle.record_replay.specs.declared.replay.Replay.{Replay}
use Rattle.log_replay.specs.Through.{AreOnDevice}

-- so many of these stand before the redo place, up to the first that does not
abbrev pub count_before : ℕ → List Scanned → ℕ
count_before redo [] = 0
count_before redo (s ∷ ss) = if nat_lt s.place redo then suc (count_before redo ss) else 0

-- the records of an image as they were scanned in order, in a log area that begins at this place: those before the redo place, and those
-- behind it
pub record AreScanned (at redo : ℕ) (records : List Scanned) (i : PlacedImage) : Type 0 where
  pub first : List Scanned
  pub others : List Scanned
  pub split : records ≡ first ++ others
  pub before : All (λ s. s.place < redo) first
  pub behind : All (λ s. redo ≤ s.place) others
  pub carried : AreCarriedAt at i.pages.db.schema i.carried (reverse first)
  pub after : AreFurtherAt at i.pages.db.schema i.after (reverse others)
  pub carried_on : AreOnDevice i.carried
  pub after_on : AreOnDevice i.after

module _ {M : Type 0} (maps : M → ℕ → Map) (limit : M → Option ℕ) where
  -- an image of which no record is replayed yet, with these records
  pub record IsImageOf (at redo : ℕ) (records : List Scanned) (r : Replay M) (i : PlacedImage) : Type 0 where
    pub begins : HasReplayed maps limit r (carrying i.pages [] [])
    pub scanned : AreScanned at redo records i

  -- all carried records passed; or the first that does not breaks rule 13
  abbrev pub TellsEachCarried : Replay M → Pages → List Placed → Replayed → Type 0
  TellsEachCarried new p all Passed = (ds : List Deed) × HasReplayed maps limit new (carrying p all ds)
  TellsEachCarried new p all (Broken bad) = (bad.rule ≡ 13) × CarriedBreaks p.db.schema all bad.place

  -- all further ones passed; or the first that does not breaks a rule
  abbrev pub TellsEach : Replay M → Pages → List Placed → List Deed → List Placed → Replayed → Type 0
  TellsEach new p first ds all Passed = (es : List Event) × HasReplayed maps limit new (record { pages = p; first = first; carried = ds; after = all; events = es })
  TellsEach new p first ds all (Broken bad) = RecordBreaks p first ds all bad.rule bad.place

  -- The store has what is recovered of the image: its records passed, and what was left was taken back.
  pub record IsRecovered (new : Replay M) (i : PlacedImage) : Type 0 where
    pub reading : Reading
    pub reverses : ReversesAs i reading
    pub has : Has maps limit new.store (recovered reading)
    pub commits : new.commits ≡ (recovered reading).db.number
    -- the next number is the least above those of all records
    pub next : (number : ℕ) → AreBelow number reading.carried reading.after ↔ (new.next ≤ number)
