use Rattle.std.proofs.Common.{◌≡◌, ◌<◌, ℕ, length, slice_index}
use Rattle.engine_refusals.proofs.numbers.front.Given as goal

abbrev pub invariant-loop-place : goal.invariant-loop-place
invariant-loop-place l = (length l.front ≡ 16) × ((i : ℕ) → i < l.place → slice_index l.front i ≡ slice_index l.bytes i)
