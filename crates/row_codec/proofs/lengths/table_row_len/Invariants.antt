use Rattle.iv_types.specs.Encoding.{kinds_of}
use Rattle.row_codec.proofs.LengthLemmas.{IsMeasured}
use Rattle.row_codec.proofs.lengths.table_row_len.Given as goal

abbrev pub invariant-loop-place : goal.invariant-loop-place
invariant-loop-place l = IsMeasured (kinds_of l.table) l.values l.place l.sum
