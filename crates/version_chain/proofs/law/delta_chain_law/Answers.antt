use Rattle.version_chain.proofs.Dues.{due_law}
use Rattle.version_chain.proofs.law.delta_chain_law.Goals as goal

pub returns : goal.returns
returns c = due_law
