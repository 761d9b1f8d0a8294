use Rattle.iv_types.specs.Encoding.{kinds_of}
use Rattle.row_codec.proofs.Columns.{Fitting}
use Rattle.row_codec.proofs.fitting.row_fits.Given as goal

abbrev pub invariant-loop-place : goal.invariant-loop-place
invariant-loop-place l = Fitting (kinds_of l.table) l.values l.place
