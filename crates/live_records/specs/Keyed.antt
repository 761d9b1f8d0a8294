-- No clause of `run` rests on this module: it serves contracts between crates.
--
-- Where records stand.
use Rattle.std.specs.Prelude.{◌≡◌, ℕ, ◌<◌, ◌^◌, Some}
use Rattle.std.specs.Ordering.{nat_cmp, ordering_then}
use Rattle.std.specs.declared.cmp.Ordering.{Ordering}
use Rattle.std.specs.BTreeMap as tree
use Rattle.std.specs.BTreeMap.{BTreeMap}
use Rattle.live_records.specs.declared.record.LiveRecord.{LiveRecord}

-- by transactions, and those of one by their numbers
abbrev pub key_cmp : ℕ × ℕ → ℕ × ℕ → Ordering
key_cmp x y = ordering_then (nat_cmp x.0 y.0) (nat_cmp x.1 y.1)

-- each record stands under its transaction and its number, which is a `u64`
abbrev pub AreKeyed : BTreeMap (ℕ × ℕ) LiveRecord → Type 0
AreKeyed records = (transaction number : ℕ) (r : LiveRecord) → tree.get key_cmp records (transaction, number) ≡ Some r → (r.transaction ≡ transaction) × (r.number ≡ number) × (number < 2 ^ 64)

-- each record stands under its number
abbrev pub AreNumbered : BTreeMap ℕ LiveRecord → Type 0
AreNumbered records = (number : ℕ) (r : LiveRecord) → tree.get nat_cmp records number ≡ Some r → r.number ≡ number
