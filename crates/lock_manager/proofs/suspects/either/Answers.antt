use Rattle.lock_manager.proofs.Marks.{has_either}
use Rattle.lock_manager.proofs.suspects.either.Goals as goal

pub returns : goal.returns
returns c = has_either c.args.a c.args.b
