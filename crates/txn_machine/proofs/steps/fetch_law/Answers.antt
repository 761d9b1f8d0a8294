use Rattle.txn_machine.proofs.Fetching.{fetch_law}
use Rattle.txn_machine.proofs.steps.fetch_law.Goals as goal

pub returns : goal.returns
returns c = fetch_law
