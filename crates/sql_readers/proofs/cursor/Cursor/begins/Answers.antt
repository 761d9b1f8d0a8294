use Rattle.std.proofs.Common.{ap, ◌∙◌}
use Rattle.text_grammar.specs.Readers.{is, starts}
use Rattle.iv_types.specs.Expressions.{the}
use Rattle.iv_types.proofs.Spellings.{same_is}
use Rattle.sql_readers.proofs.Firsts.{fixed_first}
use Rattle.sql_readers.proofs.cursor.Cursor.begins.Goals as goal

pub returns-in-Fixed-clause-value : goal.returns-in-Fixed-clause-value
returns-in-Fixed-clause-value c =
    c.eq.ensures
    ∙ same_is c.in-Fixed.j c.args.k
    ∙ fixed_first c.self.inside.text.now c.self.inside.tokens.now _ c.in-Fixed.j c.args.k c.in-len1-up.len_at_least c.in-Fixed.is
    ∙ ap (starts (is (the c.args.k))) c.self.view_is
