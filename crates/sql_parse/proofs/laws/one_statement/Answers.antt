use Rattle.sql_parse.proofs.Lines.{unique}
use Rattle.sql_parse.proofs.laws.one_statement.Goals as goal

pub returns : goal.returns
returns c = λ text a b h k. unique text a b h k
