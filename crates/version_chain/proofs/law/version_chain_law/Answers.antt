use Rattle.version_chain.proofs.LawLemmas.{chain_law, empty_law, at_law, prune_law}
use Rattle.version_chain.proofs.law.version_chain_law.Goals as goal

pub returns : goal.returns
returns g c = record { chains = chain_law; empty = empty_law; at = at_law; prune = prune_law }
