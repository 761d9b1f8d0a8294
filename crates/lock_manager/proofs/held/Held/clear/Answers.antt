use Rattle.lock_manager.proofs.HeldKeys.{none_of}
use Rattle.lock_manager.proofs.held.Held.clear.Goals as goal

pub returns : goal.returns
returns c = record { locks = none_of c.new.result.entries c.clear.new.self.items c.new.ensures.entries c.clear.ensures.items }
