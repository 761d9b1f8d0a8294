use Rattle.std.proofs.Common.{◌≡◌, ◌+◌, ◌*◌, ◌≤◌, ℤ, List, length}
use Rattle.ghost_rows.specs.Numbers.{numbers_bytes, Fits128}
use Rattle.version_chain.specs.Trees.{items}
use Rattle.version_chain.specs.Deltas.{due, less}
use Rattle.version_chain.proofs.Dues.{IsLessening}
use Rattle.version_chain.proofs.deltas.row_less.Given as goal

abbrev pub invariant-loop-rest : goal.invariant-loop-rest
invariant-loop-rest l = record {
  left : length l.rest + 16 * l.column ≤ length l.stored;
  told : (numbers : List ℤ) → Fits128 numbers → Fits128 (less (λ column. due l.number (l.index, l.key) column (items l.tree)) 0 numbers) → l.stored ≡ numbers_bytes numbers
      → IsLessening (λ column. due l.number (l.index, l.key) column (items l.tree)) l.column l.rest l.out.items (numbers_bytes (less (λ column. due l.number (l.index, l.key) column (items l.tree)) 0 numbers));
}

abbrev pub decreases-loop-rest : goal.decreases-loop-rest
decreases-loop-rest l = length l.rest
