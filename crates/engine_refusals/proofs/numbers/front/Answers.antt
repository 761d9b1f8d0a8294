use Rattle.std.proofs.Common.{◌<◌, length, arith}
use Rattle.std.proofs.Math.ListN.{length-set}
use mathlib.Core.Path.{◌∙◌}
use Rattle.engine_refusals.proofs.Bytes.{one_more}
use Rattle.engine_refusals.proofs.numbers.front.Goals as goal

pub loop-place-preserved : goal.loop-place-preserved
loop-place-preserved c =
    let front = c.loop-place.front in
    let place = c.loop-place.place in
    let lt : place < length front = omega (arith, c.loop-place.invariant.0, c.loop-place-test.true) in
    (length-set front place c.byte_at.result ∙ c.loop-place.invariant.0, one_more front c.args.bytes.now place c.byte_at.result lt c.loop-place.invariant.1 c.byte_at.ensures)
