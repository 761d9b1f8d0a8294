use Rattle.data_store.proofs.NoVersions as laws
use Rattle.data_store.proofs.law.no_version_law.Goals as goal

pub returns : goal.returns
returns c = laws.no_version_law
