use Rattle.std.proofs.Common.{◌≡◌, ◌*◌, ℕ, ℤ, List, ◌++◌, length, map}
use Rattle.iv_types.specs.declared.value.Value.TheVariants.{Number}
use Rattle.ghost_rows.specs.Numbers.{numbers_bytes, Fits128}
use Rattle.data_store.proofs.ShownRows.{IsLeft}
use Rattle.data_store.proofs.shown.push_numbers.Given as goal

abbrev pub invariant-loop-rest : goal.invariant-loop-rest
invariant-loop-rest l = record {
  many : (many : ℕ) × (length l.rest ≡ 16 * many);
  told : (numbers : List ℤ) → Fits128 numbers → l.value ≡ numbers_bytes numbers → IsLeft l.row l.rest (l.initial.row ++ map Number numbers);
}

abbrev pub decreases-loop-rest : goal.decreases-loop-rest
decreases-loop-rest l = length l.rest
