use Rattle.std.proofs.Common.{arith}
use Rattle.sql_pieces.proofs.Counting.{length_digit, length_wide, length_step_wide}
use Rattle.sql_pieces.proofs.writing.digits_of.Goals as goal

pub loop-left-preserved : goal.loop-left-preserved
loop-left-preserved c =
    let step = length_step_wide c.loop-left.left c.loop-left-test.true (omega arith) in
    let wide = length_wide c.args.number (omega arith) in
    record {
      rest = omega arith;
      below = omega arith;
      few = omega arith;
    }

pub returns : goal.returns
returns c = let one = length_digit c.loop-left.left (omega arith) in record { digits = omega arith; few = omega arith }
