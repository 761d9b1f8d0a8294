use Rattle.lock_manager.proofs.Steps.{no_cycle_kept, no_conflict_kept, calls_keep_both, sets_tell}
use Rattle.lock_manager.proofs.law.lock_law.Goals as goal

pub returns : goal.returns
returns c = record { cycle = no_cycle_kept; conflict = no_conflict_kept; calls = calls_keep_both; sets = sets_tell }
