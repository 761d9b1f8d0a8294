use Rattle.std.proofs.Common.{◌≡◌, ◌+◌, ◌∙◌, ap, ℤ, length, ◌++◌, ◌∷◌, [], arith, length-append}
use Rattle.std.proofs.lemmas.Int.{to_z-of_z}
use Rattle.std.specs.Int.{w128}
use Rattle.ghost_rows.proofs.NumberSteps.{left_more, left_none, empty_is, one_fewer, long}
use Rattle.ghost_rows.proofs.numbers.numbers_of.Goals as goal

pub loop-rest-preserved : goal.loop-rest-preserved
loop-rest-preserved c =
    let n = c.front-number.result.0 in
    let found = c.loop-rest.found.items in
    let pushed : c.push.new.self.items ≡ found ++ n ∷ [] = c.in_ok-push.ensures.items ∙ ap (λ (z : ℤ). found ++ z ∷ []) (to_z-of_z w128 n c.front-number.ensures.fits) in
    let more : length c.push.new.self.items ≡ length found + 1 = ap length pushed ∙ length-append found (n ∷ []) in
    let left = one_fewer (length c.loop-rest.rest.now) (length c.front-number.result.1.now) c.loop-rest.invariant.many.0 c.args.many (length found) c.loop-rest.invariant.many.1
    (ap length c.front-number.ensures.bytes ∙ long n c.front-number.result.1.now) c.loop-rest.invariant.many.2 in
    record {
      many = (left.0, left.1, omega (arith, more, left.2));
      told = λ numbers fits is. left_more found c.push.new.self.items c.loop-rest.rest.now c.front-number.result.1.now numbers n c.front-number.ensures.fits c.front-number.ensures.bytes pushed
          (c.loop-rest.invariant.told numbers fits is);
    }

pub returns-clause-value : goal.returns-clause-value
returns-clause-value c = λ numbers fits is.
    left_none c.loop-rest.found.items c.loop-rest.rest.now numbers (empty_is c.loop-rest.rest.now c.loop-rest-test.ensures) (c.loop-rest.invariant.told numbers fits is)
