-- No clause of `run` rests on this module: it serves contracts between crates.
--
-- Records that are left, in the order of their numbers.
use Rattle.std.specs.Prelude.{◌≡◌, ℕ, ◌==◌, List, [], ◌∷◌, Option, Some, None, if◌then◌else◌}
use Rattle.std.specs.Option.{option_map}
use Rattle.iv_types.specs.Maps.{Map}
use Rattle.txn_log.specs.Replay.{Deed, Stored}
use Rattle.txn_log.specs.Fitting.{AllDeeds, IsKnown, DoNumbersFall}
use Rattle.txn_log.specs.Refused.{Placed, place_by}
use Rattle.data_store.specs.declared.store.DataStore.{DataStore}
use Rattle.live_records.specs.declared.kept.OrderedRecords.{OrderedRecords}
use Rattle.live_records.specs.declared.record.LiveRecord.{LiveRecord}
use Rattle.live_records.specs.Live.{deed_of, record_at}
use Rattle.record_replay.specs.Past.{pages_in}
use Rattle.record_replay.specs.Standing.{Has}

-- the one of this number
abbrev pub numbered : ℕ → List Deed → Option Deed
numbered number [] = None
numbered number (x ∷ xs) = if number == x.number then Some x else numbered number xs

-- just these are left, each with the place where its record stands
pub record AreLeft (left : OrderedRecords) (rs : List Placed) (xs : List Deed) : Type 0 where
  pub same : (number : ℕ) → option_map deed_of (record_at left number) ≡ numbered number xs
  pub places : (number : ℕ) (r : LiveRecord) → record_at left number ≡ Some r → r.place ≡ place_by number rs

-- what is left of records that were replayed on a store
pub record CanReverse {M : Type 0} (maps : M → ℕ → Map) (limit : M → Option ℕ) (store : DataStore M) (records : OrderedRecords) (rs : List Placed) (s : Stored) : Type 0 where
  pub has : Has maps limit store (pages_in s)
  pub left : AreLeft records rs s.live
  pub known : AllDeeds (IsKnown s.db.schema) s.live
  pub fall : DoNumbersFall s.live
