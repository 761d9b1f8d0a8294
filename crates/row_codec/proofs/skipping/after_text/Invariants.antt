use Rattle.std.proofs.Common.{◌≡◌, ◌++◌, ℕ, List, length}
use Rattle.std.specs.List.{flat_map}
use Rattle.iv_types.specs.Encoding.{key_byte}
use Rattle.row_codec.proofs.skipping.after_text.Given as goal

abbrev pub invariant-loop-after : goal.invariant-loop-after
invariant-loop-after l = (done : List ℕ) × (l.bytes ≡ flat_map key_byte done ++ l.left)

abbrev pub decreases-loop-after : goal.decreases-loop-after
decreases-loop-after l = length l.left
