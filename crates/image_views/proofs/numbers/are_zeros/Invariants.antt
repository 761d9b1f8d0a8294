use Rattle.std.proofs.Common.{◌≡◌, ◌*◌, ℕ, ℤ, List, length}
use Rattle.ghost_rows.specs.Numbers.{numbers_bytes, Fits128}
use Rattle.image_views.proofs.Alike.{AreZerosUpTo}
use Rattle.image_views.proofs.numbers.are_zeros.Given as goal

abbrev pub invariant-loop-rest : goal.invariant-loop-rest
invariant-loop-rest l = record {
  many : (many : ℕ) × (length l.rest ≡ 16 * many);
  told : (numbers : List ℤ) → Fits128 numbers → l.value ≡ numbers_bytes numbers → AreZerosUpTo l.rest numbers;
}

abbrev pub decreases-loop-rest : goal.decreases-loop-rest
decreases-loop-rest l = length l.rest
