use Rattle.iv_meaning.proofs.CopyLemmas.{copies_law}
use Rattle.iv_meaning.proofs.laws.copies_law.Goals as goal

pub returns : goal.returns
returns c = copies_law
