use Rattle.iv_meaning.proofs.Saying.{lines_say}
use Rattle.iv_meaning.proofs.example.lines_say.Goals as goal

pub returns : goal.returns
returns c = lines_say
