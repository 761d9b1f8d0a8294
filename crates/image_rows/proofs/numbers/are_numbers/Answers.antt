use Rattle.std.proofs.Common.{◌≡◌, ◌-◌, false, suc, refl, arith, subst}
use Rattle.image_rows.proofs.NumberBytes.{AreLeft, numbers_first, left_first, left_next, left_short, never}
use Rattle.image_rows.proofs.numbers.are_numbers.Goals as goal

pub returns-in-None : goal.returns-in-None
returns-in-None c = never false refl (λ are. c.in-None.ensures.none (numbers_first c.args.sums c.args.bytes.now are))

pub loop-init : goal.loop-init
loop-init c =
    let all : c.args.sums ≡ c.args.sums - 0 = omega arith in
    subst (λ n. AreLeft (suc c.args.sums) c.args.bytes.now n c.in-Some.rest.now) all (left_first c.args.sums c.args.bytes.now c.in-Some.rest.now c.in-Some.ensures.some)

pub returns-in-None-after_number : goal.returns-in-None-after_number
returns-in-None-after_number c =
    never false refl (left_short (suc c.args.sums) c.args.bytes.now c.loop.counter c.args.sums c.loop.rest.now c.loop-test.true c.in-None-after_number.ensures.none c.loop.invariant)

pub loop-preserved : goal.loop-preserved
loop-preserved c =
    left_next (suc c.args.sums) c.args.bytes.now c.loop.counter c.args.sums c.loop.rest.now c.in-Some-after_number.after.now c.loop-test.true c.in-Some-after_number.ensures.some c.loop.invariant
