use Rattle.std.proofs.Common.{◌+◌, ◌*◌, ◌-◌, get_or, drop, arith}
use Rattle.std.proofs.lemmas.Bool.Decides.{nat_tests}
use Rattle.line_requests.proofs.Digits.{value_more, value_grows}
use Rattle.line_requests.proofs.numbers.value.Goals as goal

pub returns-then-value-most : goal.returns-then-value-most
returns-then-value-most c =
    let ds = c.args.digits.now in let i = c.loop-digit.digit-index in let v = c.loop-digit.value in
    let more = value_more ds i v c.loop-digit-test.true in
    let grows = value_grows (v * 10 + (get_or ds i 0 - 48)) (drop (i + 1) ds) in
    grind (arith, nat_tests, more, grows, c.loop-digit.invariant.1)

pub returns-then-value-most-2 : goal.returns-then-value-most-2
returns-then-value-most-2 c =
    let ds = c.args.digits.now in let i = c.loop-digit.digit-index in let v = c.loop-digit.value in
    let more = value_more ds i v c.loop-digit-test.true in
    let grows = value_grows (v * 10 + (get_or ds i 0 - 48)) (drop (i + 1) ds) in
    grind (arith, nat_tests, more, grows, c.loop-digit.invariant.1)
