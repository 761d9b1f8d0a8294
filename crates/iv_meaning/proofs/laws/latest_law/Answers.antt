use Rattle.iv_meaning.proofs.HistoryLemmas.{latest_law}
use Rattle.iv_meaning.proofs.laws.latest_law.Goals as goal

pub returns : goal.returns
returns c = latest_law
