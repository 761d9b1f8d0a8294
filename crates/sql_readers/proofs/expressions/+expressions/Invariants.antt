use Rattle.std.proofs.Common.{◌≡◌, ◌<◌, length, ℕ, ◌+◌, ◌*◌}
use Rattle.text_grammar.specs.Readers.{folded, is}
use Rattle.iv_types.specs.Limits.{the_limits}
use Rattle.iv_types.specs.Trees.{tree}
use Rattle.iv_types.specs.Expressions.{operations, paired}
use Rattle.sql_readers.specs.declared.expressions.Level.{Level}
use Rattle.sql_readers.specs.declared.expressions.Level.TheVariants as level
use Rattle.sql_readers.specs.Ladder.{inner, operand}
use Rattle.sql_readers.specs.Levels.{pick_of, operands, chain_at}
use Rattle.sql_readers.proofs.expressions.+expressions.Given as goal

abbrev rank : Level → ℕ
rank level.Or = 12
rank level.And = 10
rank level.Comparison = 8
rank level.Sum = 6
rank level.Product = 4

abbrev pub decreases-chain_of : goal.decreases-chain_of
decreases-chain_of l = l.depth * 16 + (rank l.level + 1)

abbrev pub decreases-comparison_of : goal.decreases-comparison_of
decreases-comparison_of l = l.depth * 16 + 8

abbrev pub decreases-inversion_of : goal.decreases-inversion_of
decreases-inversion_of l = l.depth * 16 + 9

abbrev pub decreases-negated_of : goal.decreases-negated_of
decreases-negated_of l = l.depth * 16 + 2

abbrev pub decreases-operand_of : goal.decreases-operand_of
decreases-operand_of l = l.depth * 16 + rank l.level

abbrev pub decreases-signed_of : goal.decreases-signed_of
decreases-signed_of l = l.depth * 16 + 1

abbrev pub decreases-unary_of : goal.decreases-unary_of
decreases-unary_of l = l.depth * 16 + 2

-- what is left, folded onto what was made so far, is the chain
abbrev pub invariant-chain_of-loop-op : goal.invariant-chain_of-loop-op
invariant-chain_of-loop-op l = record {
  same : folded (is (pick_of l.level)) paired (operand (pick_of l.level) (operands the_limits (inner the_limits l.depth) l.level) l.fn.left) (tree l.made) l.cursor ≡ chain_at the_limits (inner the_limits l.depth) l.level l.fn.left l.fn.cursor;
  spent : l.left + operations (tree l.made) ≡ l.fn.left;
  shorter : length l.cursor < length l.fn.cursor;
}

abbrev pub decreases-chain_of-loop-op : goal.decreases-chain_of-loop-op
decreases-chain_of-loop-op l = length l.cursor
