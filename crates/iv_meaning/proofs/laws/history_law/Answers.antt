use Rattle.iv_meaning.proofs.HistoryLemmas.{history_law}
use Rattle.iv_meaning.proofs.laws.history_law.Goals as goal

pub returns : goal.returns
returns c = history_law
