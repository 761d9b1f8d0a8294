use Rattle.std.proofs.Common.{◌≡◌, drop}
use Rattle.iv_types.specs.Terminals.{keywords}
use Rattle.iv_types.specs.Tokens.{keyword_among}
use Rattle.sql_tokens.proofs.keyword.keyword.Given as goal

abbrev pub invariant-loop-k : goal.invariant-loop-k
invariant-loop-k l = keyword_among (drop l.k-index l.k-items) l.word ≡ keyword_among keywords l.word
