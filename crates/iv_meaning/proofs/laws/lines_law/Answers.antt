use Rattle.iv_meaning.proofs.LineLemmas.{are_lines}
use Rattle.iv_meaning.proofs.laws.lines_law.Goals as goal

pub returns : goal.returns
returns c = are_lines
