use Rattle.row_codec.proofs.Columns.{Fitting}
use Rattle.row_codec.proofs.fitting.key_fits.Given as goal

abbrev pub invariant-loop-place : goal.invariant-loop-place
invariant-loop-place l = Fitting l.kinds l.values l.place
