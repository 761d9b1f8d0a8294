use Rattle.std.proofs.Common.{length}
use Rattle.store_cases.proofs.versions.write_view_row.Given as goal

abbrev pub decreases-loop-rest : goal.decreases-loop-rest
decreases-loop-rest l = length l.rest
