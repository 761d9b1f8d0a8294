use Rattle.std.proofs.Common.{◌<◌, length, get_or, arith}
use Rattle.std.proofs.lemmas.Option.{slice_get-get_or}
use Rattle.escrow_bounds.specs.Column.{settled}
use Rattle.ghost_rows.proofs.Steps.{halfway_more, halfway_last}
use Rattle.ghost_rows.proofs.row.settle_all.Goals as goal

pub loop-index-preserved : goal.loop-index-preserved
loop-index-preserved c =
    let columns = c.loop-index.columns in
    let index = c.loop-index.index in
    let lt : index < length columns = omega (arith, c.loop-index-test.true, c.loop-index.auto.columns) in
    halfway_more (λ i c'. settled c' c.args.session) c.args.columns.now columns index (get_or columns index c.index-columns-index.result) c.settle.new.self lt
    (slice_get-get_or columns index c.index-columns-index.result lt) c.settle.ensures.value c.loop-index.invariant

pub returns : goal.returns
returns c = halfway_last (λ i c'. settled c' c.args.session) c.args.columns.now c.loop-index.columns c.loop-index.index c.loop-index-test.false c.loop-index.invariant
