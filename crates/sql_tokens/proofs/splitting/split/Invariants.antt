use Rattle.std.proofs.Common.{length, ◌-◌, ◌≡◌, ◌≤◌, ◌++◌, drop, map}
use Rattle.std.specs.List.{AllByRecursion}
use Rattle.iv_types.specs.Tokens.{tokens, tokens_from}
use Rattle.sql_tokens.specs.View.{placed, Spans}
use Rattle.sql_tokens.proofs.splitting.split.Given as goal

-- the tokens so far and those of what is left are all
abbrev pub invariant-loop-at : goal.invariant-loop-at
invariant-loop-at l = record {
  within : l.at ≤ length l.text;
  spans : AllByRecursion (Spans l.text) l.tokens.items;
  same : map (placed l.text) l.tokens.items ++ tokens_from (length l.text) l.at (drop l.at l.text) ≡ tokens l.text;
}

abbrev pub decreases-loop-at : goal.decreases-loop-at
decreases-loop-at l = length l.text - l.at
