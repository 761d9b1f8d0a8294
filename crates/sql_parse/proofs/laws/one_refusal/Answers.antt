use Rattle.sql_parse.proofs.Lines.{not_stated, refused_once}
use Rattle.sql_parse.proofs.laws.one_refusal.Goals as goal

pub returns : goal.returns
returns c = (λ text r s h d. not_stated text r s h d, λ text one other h k. refused_once text one other h k)
