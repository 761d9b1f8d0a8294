-- No clause of `run` rests on this module: it serves contracts between crates.
--
-- Scanned records in order, as they come to stand before those that were placed so far. Lists of placed records have the latest first.
use Rattle.std.specs.Prelude.{◌≡◌, ℕ, ◌+◌, ◌<◌, ◌^◌, List, [], ◌∷◌}
use Rattle.log_records.specs.declared.record.Scanned.{Scanned}
use Rattle.log_records.specs.Area.{unplaced}
use Rattle.iv_meaning.specs.Schema.{Schema}
use Rattle.txn_log.specs.Refused.{Placed}
use Rattle.log_disk.specs.Spelled.{LeadTo}
use Rattle.log_disk.specs.Placed.{StandsFor, known}

-- they stand on a device of fewer than 2^64 bytes
abbrev pub AreOnDevice : List Placed → Type 0
AreOnDevice [] = Unit {0}
AreOnDevice (r ∷ rs) = (r.place < 2 ^ 64) × AreOnDevice rs

-- a scanned record in an area that begins at this place
pub record IsCarriedAt (at : ℕ) (objects : Schema) (s : Scanned) (r : Placed) : Type 0 where
  pub place : r.place ≡ at + s.place
  pub low : r.place < 2 ^ 64
  pub stands_for : StandsFor objects (unplaced s) r.entry

-- behind these, whatever definitions they lead to
pub record IsFurtherAt (at : ℕ) (objects : Schema) (before : List Placed) (s : Scanned) (r : Placed) : Type 0 where
  pub place : r.place ≡ at + s.place
  pub low : r.place < 2 ^ 64
  pub stands_for : (there : Schema) → LeadTo objects (known before) there → StandsFor there (unplaced s) r.entry

-- each of these is placed in such a way behind those that were placed so far, and then they are all
abbrev pub PlacedOn : (List Placed → Scanned → Placed → Type 0) → List Placed → List Scanned → List Placed → Type 0
PlacedOn Is rs [] all = all ≡ rs
PlacedOn Is rs (s ∷ ss) all = (r : Placed) × Is rs s r × PlacedOn Is (r ∷ rs) ss all

abbrev pub CarryTo : ℕ → Schema → List Placed → List Scanned → List Placed → Type 0
CarryTo at objects = PlacedOn (λ (rs : List Placed). IsCarriedAt at objects)

abbrev pub GoTo : ℕ → Schema → List Placed → List Scanned → List Placed → Type 0
GoTo at objects = PlacedOn (IsFurtherAt at objects)
