use Rattle.lock_manager.proofs.HeldKeys.{none_of}
use Rattle.lock_manager.proofs.held.Held.new.Goals as goal

pub returns : goal.returns
returns c = none_of c.new.result.entries c.new-2.result.items c.new.ensures.entries c.new-2.ensures.items
