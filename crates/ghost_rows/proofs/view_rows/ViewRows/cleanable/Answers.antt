use Rattle.std.proofs.Common.{◌≡◌, pos, false, true}
use Rattle.ghost_rows.specs.State.{stored_at}
use Rattle.ghost_rows.proofs.UnpaidLemmas.{not_clean, clean}
use Rattle.ghost_rows.proofs.view_rows.ViewRows.cleanable.Goals as goal

pub returns-then-not-is_unpaid-clause-exact : goal.returns-then-not-is_unpaid-clause-exact
returns-then-not-is_unpaid-clause-exact g c = λ free still many pays kept count v there counts.
    let paid : c.is_unpaid.result ≡ false = cc in
    not_clean c.is_unpaid.result (count ≡ pos 0) pays paid (c.is_unpaid.ensures (stored_at (g.M.SortedMaps.maps c.args.maps.now) (c.args.view, c.args.group.now)) many pays kept counts)

pub returns-clause-exact : goal.returns-clause-exact
returns-clause-exact g c = λ free still many pays kept count v there counts.
    let unpaid : c.is_unpaid.result ≡ true = cc in
    clean c.is_unpaid.result c.is_ghost.result (count ≡ pos 0) pays unpaid (c.is_unpaid.ensures (stored_at (g.M.SortedMaps.maps c.args.maps.now) (c.args.view, c.args.group.now)) many pays kept counts)
    (c.is_ghost.ensures.count many pays kept count v there)
