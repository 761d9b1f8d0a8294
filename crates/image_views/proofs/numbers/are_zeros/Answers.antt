use Rattle.std.proofs.Common.{rules, ◌≡◌, ◌≢◌, ◌∙◌, ap, pos, length}
use Rattle.std.proofs.lemmas.Bool.{false≢true}
use Rattle.ghost_rows.proofs.NumberSteps.{empty_is, long}
use Rattle.data_store.proofs.ShownRows.{fewer}
use Rattle.image_views.proofs.Alike.{bytes_long, zeros_begin, zeros_go_on, zeros_break, zeros_end}
use Rattle.image_views.proofs.numbers.are_zeros.Goals as goal

pub loop-rest-init : goal.loop-rest-init
loop-rest-init c = record {
  many = bytes_long c.args.value.now c.requires;
  told = λ numbers fits is. zeros_begin c.args.value.now numbers fits is;
}

pub returns-then-number-ne0 : goal.returns-then-number-ne0
returns-then-number-ne0 c = λ numbers fits is.
    let other : c.front-number.result.0 ≢ pos 0 = search rules in (
      λ t. absurd (false≢true t),
      λ all. absurd (zeros_break c.loop-rest.rest.now c.front-number.result.1.now numbers c.front-number.result.0 c.front-number.ensures.fits c.front-number.ensures.bytes other (c.loop-rest.invariant.told numbers fits is) all),
    )

pub loop-rest-preserved : goal.loop-rest-preserved
loop-rest-preserved c =
    let n = c.front-number.result.0 in
    let same : n ≡ pos 0 = search rules in
    record {
      many = fewer (length c.loop-rest.rest.now) (length c.front-number.result.1.now) c.loop-rest.invariant.many.0 c.loop-rest.invariant.many.1
          (ap length c.front-number.ensures.bytes ∙ long n c.front-number.result.1.now);
      told = λ numbers fits is. zeros_go_on c.loop-rest.rest.now c.front-number.result.1.now numbers n c.front-number.ensures.fits c.front-number.ensures.bytes same (c.loop-rest.invariant.told numbers fits is);
    }

pub returns : goal.returns
returns c = λ numbers fits is. (
  λ t. zeros_end c.loop-rest.rest.now numbers (empty_is c.loop-rest.rest.now c.loop-rest-test.ensures) (c.loop-rest.invariant.told numbers fits is),
  λ all. Rattle.std.proofs.Common.refl,
)
