use Rattle.escrow_bounds.proofs.LawLemmas.{lies_between, ending_narrows, stays_between, calls_stay_between}
use Rattle.escrow_bounds.proofs.law.escrow_law.Goals as goal

pub returns : goal.returns
returns c = record { left = lies_between; step = ending_narrows; steps = stays_between; calls = calls_stay_between }
