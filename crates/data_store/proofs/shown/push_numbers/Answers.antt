use Rattle.std.proofs.Common.{◌≡◌, ◌∙◌, ap, length, ◌++◌, ◌∷◌, [], rules}
use Rattle.iv_types.specs.declared.value.Value.TheVariants.{Number}
use Rattle.ghost_rows.proofs.NumberSteps.{empty_is, long}
use Rattle.data_store.proofs.ShownRows.{left_more, left_none, fewer}
use Rattle.data_store.proofs.shown.push_numbers.Goals as goal

pub loop-rest-preserved : goal.loop-rest-preserved
loop-rest-preserved c =
    let n = c.front-number.result.0 in
    let pushed : c.push.new.self ≡ c.loop-rest.row ++ Number n ∷ [] = search rules in
    record {
      many = fewer (length c.loop-rest.rest.now) (length c.front-number.result.1.now) c.loop-rest.invariant.many.0 c.loop-rest.invariant.many.1
          (ap length c.front-number.ensures.bytes ∙ long n c.front-number.result.1.now);
      told = λ numbers fits is. left_more c.loop-rest.row c.push.new.self c.loop-rest.rest.now c.front-number.result.1.now _ n c.front-number.ensures.fits c.front-number.ensures.bytes pushed
          (c.loop-rest.invariant.told numbers fits is);
    }

pub returns : goal.returns
returns c = λ numbers fits is.
    left_none c.loop-rest.row c.loop-rest.rest.now _ (empty_is c.loop-rest.rest.now c.loop-rest-test.ensures) (c.loop-rest.invariant.told numbers fits is)
