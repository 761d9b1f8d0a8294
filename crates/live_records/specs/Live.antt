-- No clause of `run` rests on this module: it serves contracts between crates.
--
-- What transactions keep while records are replayed.
use Rattle.std.specs.Prelude.{◌≡◌, ◌≢◌, ℕ, ◌≤◌, ◌==◌, Bool, true, ◌↔◌, Option, Some, None, IsSome, if◌then◌else◌}
use Rattle.std.specs.Ordering.{nat_cmp, is_eq}
use Rattle.std.specs.BTreeMap as tree
use Rattle.std.specs.BTreeSet.{contains}
use Rattle.txn_machine.specs.RowChanges.{row_change}
use Rattle.txn_log.specs.Replay.{What, Wrote, Added, Deed}
use Rattle.live_records.specs.declared.kept.LiveRecords.{LiveRecords}
use Rattle.live_records.specs.declared.kept.OrderedRecords.{OrderedRecords}
use Rattle.live_records.specs.declared.record.LiveChange.{LiveChange}
use Rattle.live_records.specs.declared.record.LiveChange.TheVariants as change
use Rattle.live_records.specs.declared.record.LiveRecord.{LiveRecord}
use Rattle.live_records.specs.Keyed.{key_cmp}

-- ---- one record

abbrev pub what_of : LiveChange → What
what_of (change.Wrote c) = Wrote (row_change c)
what_of (change.Added d) = Added d

-- what the record says
abbrev pub deed_of : LiveRecord → Deed
deed_of r = record { number = r.number; transaction = r.transaction; what = what_of r.change }

-- ---- what transactions keep

-- the record of this number that the transaction keeps, if it does
abbrev pub kept_at : LiveRecords → ℕ → ℕ → Option LiveRecord
kept_at live transaction number = tree.get key_cmp live.records (transaction, number)

abbrev pub has_ended : LiveRecords → ℕ → Bool
has_ended live transaction = contains nat_cmp live.ended transaction

-- transactions keep what they kept
abbrev pub KeepsAll : LiveRecords → LiveRecords → Type 0
KeepsAll old new = (transaction number : ℕ) → kept_at new transaction number ≡ kept_at old transaction number

-- of this record alone, this is kept now
abbrev pub SetsOne : LiveRecords → ℕ → ℕ → Option LiveRecord → LiveRecords → Type 0
SetsOne old transaction number kept new =
    (t n : ℕ) → kept_at new t n ≡ (if is_eq (key_cmp (transaction, number) (t, n)) then kept else kept_at old t n)

-- the latest record that the transaction keeps
pub record IsLatest (live : LiveRecords) (transaction : ℕ) (r : LiveRecord) : Type 0 where
  pub of_it : r.transaction ≡ transaction
  pub kept : kept_at live transaction r.number ≡ Some r
  pub latest : (number : ℕ) → IsSome (kept_at live transaction number) → number ≤ r.number

-- it keeps nothing
abbrev pub KeepsNothing : LiveRecords → ℕ → Type 0
KeepsNothing live transaction = (number : ℕ) → kept_at live transaction number ≡ None

-- the transaction has ended and keeps nothing, and all others are as they were
pub record HasEndedNow (old : LiveRecords) (transaction : ℕ) (new : LiveRecords) : Type 0 where
  pub nothing : KeepsNothing new transaction
  pub ended : (t : ℕ) → has_ended new t ≡ (if t == transaction then true else has_ended old t)
  pub others : (t number : ℕ) → t ≢ transaction → kept_at new t number ≡ kept_at old t number

-- ---- all records in order

-- no two transactions keep records of one number
abbrev pub AreApart : LiveRecords → Type 0
AreApart live = (t u number : ℕ) → IsSome (kept_at live t number) → IsSome (kept_at live u number) → t ≡ u

-- the record of a number
abbrev pub record_at : OrderedRecords → ℕ → Option LiveRecord
record_at all number = tree.get nat_cmp all.records number

-- the records that transactions keep, and no others
abbrev pub HasAll : LiveRecords → OrderedRecords → Type 0
HasAll live all = (number : ℕ) (r : LiveRecord) → (record_at all number ≡ Some r) ↔ (kept_at live r.transaction number ≡ Some r)
