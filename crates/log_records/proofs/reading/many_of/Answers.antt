use Rattle.std.proofs.Common.{◌≡◌, ◌++◌, ◌∷◌, [], ℤ, ap, ◌∙◌}
use Rattle.std.proofs.lemmas.Int.{to_z-of_z}
use Rattle.std.specs.Int.{w128}
use Rattle.std.proofs.lemmas.Result.{err_from_is_err_and}
use Rattle.log_records.specs.Reading.{many_at}
use Rattle.log_records.proofs.Many.{goes_on, ends, is_done, fits_read}
use Rattle.log_records.proofs.reading.many_of.Goals as goal

pub returns-in_err-sum : goal.returns-in_err-sum
returns-in_err-sum c =
    let p = err_from_is_err_and c.from_residual.result c.from_residual.ensures.1 in
    rw (p.1, p.2) (ends c.in_err-sum.field-0.0 c.loop.sums.items c.args.count c.loop.counter c.loop.rest.now (many_at c.args.count c.args.bytes.now) c.loop-test.true c.in_err-sum.ensures c.loop.invariant)

pub loop-preserved : goal.loop-preserved
loop-preserved c =
    let n = c.in_ok-sum.sum in
    let e : c.push.new.self.items ≡ c.loop.sums.items ++ n ∷ [] =
    c.in_ok-push.ensures.items ∙ ap (λ (z : ℤ). c.loop.sums.items ++ z ∷ []) (to_z-of_z w128 n (fits_read w128 c.loop.rest.now n c.in_ok-sum.after.now c.in_ok-sum.ensures)) in
    rw e (goes_on c.loop.sums.items c.args.count c.loop.counter c.loop.rest.now n c.in_ok-sum.after.now (many_at c.args.count c.args.bytes.now) c.loop-test.true c.in_ok-sum.ensures c.loop.invariant)

pub returns : goal.returns
returns c = is_done c.loop.sums.items c.args.count c.loop.counter c.loop.rest.now (many_at c.args.count c.args.bytes.now) c.loop-test.false c.loop.invariant
