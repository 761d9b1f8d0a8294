use Rattle.version_chain.proofs.Histories as histories
use Rattle.version_chain.proofs.law.state_law.Goals as goal

pub returns : goal.returns
returns c = histories.state_law
