use Rattle.std.proofs.Common.{◌≡◌, ◌+◌, ◌*◌, ℕ, ℤ, List, length}
use Rattle.ghost_rows.specs.Numbers.{numbers_bytes, Fits128}
use Rattle.ghost_rows.proofs.NumberSteps.{IsLeft}
use Rattle.ghost_rows.proofs.numbers.numbers_of.Given as goal

abbrev pub invariant-loop-rest : goal.invariant-loop-rest
invariant-loop-rest l = record {
  many : (k : ℕ) × (length l.rest ≡ 16 * k) × (length l.found.items + k ≡ l.many);
  told : (numbers : List ℤ) → Fits128 numbers → l.stored ≡ numbers_bytes numbers → IsLeft l.found.items l.rest numbers;
}

abbrev pub decreases-loop-rest : goal.decreases-loop-rest
decreases-loop-rest l = length l.rest
