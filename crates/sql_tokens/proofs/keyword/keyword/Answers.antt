use Rattle.std.proofs.Common.{◌∙◌}
use Rattle.sql_tokens.proofs.Keywords.{keyword_at, not_keyword_at}
use Rattle.iv_types.specs.Terminals.{keywords}
use Rattle.sql_tokens.proofs.keyword.keyword.Goals as goal

pub returns-then-eq_ignore_ascii_case : goal.returns-then-eq_ignore_ascii_case
returns-then-eq_ignore_ascii_case c = keyword_at keywords c.loop-k.k-index c.args.word.now _ _ _ c.loop-k-test.true (c.as_bytes.ensures.value ∙ c.spelling.ensures) c.eq_ignore_ascii_case.ensures.test c.if-eq_ignore_ascii_case.true ∙ c.loop-k.invariant

pub loop-k-preserved : goal.loop-k-preserved
loop-k-preserved c = not_keyword_at keywords c.loop-k.k-index c.args.word.now _ _ _ c.loop-k-test.true (c.as_bytes.ensures.value ∙ c.spelling.ensures) c.eq_ignore_ascii_case.ensures.test c.if-eq_ignore_ascii_case.false ∙ c.loop-k.invariant
