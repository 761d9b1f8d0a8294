use Rattle.std.proofs.Common.{◌<◌, ◌≤◌, length, get_or, arith}
use Rattle.std.proofs.lemmas.Option.{slice_get-get_or}
use Rattle.escrow_bounds.specs.Column.{IsReserved}
use Rattle.ghost_rows.proofs.Steps.{each_set, each_last}
use Rattle.ghost_rows.proofs.RowSteps.{widens_set}
use Rattle.ghost_rows.proofs.row.reserve_all.Goals as goal

pub loop-index-preserved : goal.loop-index-preserved
loop-index-preserved c =
    let columns = c.loop-index.columns in
    let index = c.loop-index.index in
    let lt : index < length columns = omega (arith, c.loop-index-test.true, c.loop-index.auto.columns) in
    let at = slice_get-get_or columns index c.index-columns-index.result lt in
    record {
      widens = widens_set c.args.columns.now columns index c.args.session (get_or columns index c.index-columns-index.result) c.reserve.new.self lt at c.in_ok-reserve.ensures.ok c.loop-index.invariant.widens;
      reserved = each_set (λ i c'. IsReserved c' c.args.session) columns index c.reserve.new.self lt c.in_ok-reserve.ensures.reserved c.loop-index.invariant.reserved;
    }

pub returns-clause-ok : goal.returns-clause-ok
returns-clause-ok c =
    let le : length c.loop-index.columns ≤ c.loop-index.index = omega (arith, c.loop-index-test.false, c.loop-index.auto.columns) in
    each_last (λ i c'. IsReserved c' c.args.session) c.loop-index.columns c.loop-index.index le c.loop-index.invariant.reserved
