use Rattle.std.proofs.Common.{◌≡◌, ◌+◌, ◌*◌, ◌≤◌, ◌++◌, ℤ, List, length, vec_len, vec_capacity}
use Rattle.ghost_rows.specs.Numbers.{numbers_bytes, Fits128, moved}
use Rattle.ghost_rows.proofs.NumberSteps.{IsMoving}
use Rattle.ghost_rows.proofs.numbers.put_moved.Given as goal

abbrev pub invariant-loop-column : goal.invariant-loop-column
invariant-loop-column l = record {
  left : length l.rest + 16 * l.column ≡ 16 * l.many;
  room : vec_len l.out + 16 * l.many ≤ vec_capacity l.out + 16 * l.column;
  told : (numbers : List ℤ) → Fits128 numbers → Fits128 (moved l.back 0 numbers l.delta) → l.stored ≡ numbers_bytes numbers
      → IsMoving l.back l.column l.delta l.rest l.out.items (l.fn.out.items ++ numbers_bytes (moved l.back 0 numbers l.delta));
}
