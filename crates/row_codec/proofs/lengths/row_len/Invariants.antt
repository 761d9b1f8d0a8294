use Rattle.row_codec.proofs.LengthLemmas.{IsMeasured}
use Rattle.row_codec.proofs.lengths.row_len.Given as goal

abbrev pub invariant-loop-place : goal.invariant-loop-place
invariant-loop-place l = IsMeasured l.kinds l.values l.place l.sum
