use Rattle.std.proofs.Common.{◌<◌, length, get_or, arith, ap, ◌∙◌}
use Rattle.std.proofs.lemmas.Option.{slice_get-get_or}
use Rattle.iv_types.specs.declared.lock.Prefix.{Prefix}
use Rattle.escrow_bounds.specs.Column.{with_part, none}
use Rattle.ghost_rows.proofs.Steps.{halfway_more, halfway_last}
use Rattle.ghost_rows.proofs.row.take_back_all.Goals as goal

pub loop-index-preserved : goal.loop-index-preserved
loop-index-preserved c =
    let columns = c.loop-index.columns in
    let index = c.loop-index.index in
    let lt : index < length columns = omega (arith, c.loop-index-test.true, c.loop-index.auto.columns) in
    halfway_more (λ i c'. with_part c' c.args.session (get_or c.args.before.now i none)) c.args.columns.now columns index (get_or columns index c.index-columns-index.result) c.take_back.new.self lt
    (slice_get-get_or columns index c.index-columns-index.result lt) (c.take_back.ensures.value ∙ ap (λ (p : Prefix). with_part (get_or columns index c.index-columns-index.result) c.args.session p) c.prefix_at.ensures) c.loop-index.invariant

pub returns : goal.returns
returns c = record { moves = halfway_last (λ i c'. with_part c' c.args.session (get_or c.args.before.now i none)) c.args.columns.now c.loop-index.columns c.loop-index.index c.loop-index-test.false c.loop-index.invariant }
