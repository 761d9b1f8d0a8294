use Rattle.lock_manager.proofs.Marks.{has_without}
use Rattle.lock_manager.proofs.suspects.without.Goals as goal

pub returns : goal.returns
returns c other = has_without c.args.set c.args.session other c.requires
