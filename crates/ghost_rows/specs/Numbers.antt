-- No clause of `run` rests on this module: it serves contracts between crates.
--
-- The numbers of a stored row.
use Rattle.std.specs.Prelude.{ℕ, suc, ℤ, neg_ℤ, ◌+ℤ◌, List, [], ◌∷◌, FitsSigned, Bool, if◌then◌else◌}
use Rattle.std.specs.Int.{w128}
use Rattle.std.specs.List.{flat_map, AllByRecursion}
use Rattle.iv_types.specs.declared.lock.GroupDelta.{GroupDelta}
use Rattle.iv_types.specs.declared.value.Kind.TheVariants.{Huge}
use Rattle.iv_types.specs.declared.value.Value.TheVariants.{Number}
use Rattle.iv_types.specs.Encoding.{value_bytes}
use Rattle.txn_machine.specs.Deltas.{worth}

-- the bytes of a stored row: 16 for the count and 16 for each sum
abbrev pub numbers_bytes : List ℤ → List ℕ
numbers_bytes ns = flat_map (λ n. value_bytes Huge (Number n)) ns

-- each fits 128 bits
abbrev pub Fits128 : List ℤ → Type 0
Fits128 ns = AllByRecursion (λ n. FitsSigned w128 n) ns

-- what a delta adds to a column, or takes from it again
abbrev pub step : Bool → ℕ → GroupDelta → ℤ
step back column d = if back then neg_ℤ (worth column d) else worth column d

-- the numbers from a column on with a delta added, or taken back
abbrev pub moved : Bool → ℕ → List ℤ → GroupDelta → List ℤ
moved back column [] d = []
moved back column (n ∷ ns) d = (n +ℤ step back column d) ∷ moved back (suc column) ns d
