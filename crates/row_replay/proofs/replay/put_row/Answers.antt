use Rattle.std.proofs.Common.{◌≡◌, Some, sym, ap, subst, ◌∙◌}
use Rattle.std.specs.FinMap.{get}
use Rattle.iv_meaning.specs.Schema.{numbered, table}
use Rattle.row_replay.specs.Exchanged.{AreRowsUnder}
use Rattle.row_replay.proofs.Standing.{of_change, stands_there, by_answer}
use Rattle.row_replay.proofs.replay.put_row.Goals as goal

pub row-requires-after_bounds : goal.row-requires-after_bounds
row-requires-after_bounds g c κs within =
    let q = c.requires.held in
    (q.0, q.1, (c.requires.change.of, subst (λ objects. numbered objects c.args.change.now.table ≡ Some (table c.requires.change.of)) q.1.objects c.requires.change.table_is))

pub exchange-requires-clause-under : goal.exchange-requires-clause-under
exchange-requires-clause-under g c κs within =
    let q = c.requires.held in
    let ds = c.args.store.now.catalog in
    let maps = g.M.SortedMaps.maps c.args.store.now.tables in
    let state = c.args.store.now.views in
    let change = c.args.change.now in
    let t = of_change ds maps state q.0 q.1 _ c.requires.change in
    let there : get q.0.rows (change.table, change.key) ≡ c.in_ok-there.there = ap (λ key. get q.0.rows (change.table, key)) (sym c.as_slice.ensures) ∙ c.in_ok-there.ensures q.0 q.1 in (
      t.0,
      t.1,
      record {
        one_stands = stands_there ds maps state q.0 q.1 c.number_law.ensures change.table change.key t.0 t.1 c.in_ok-there.there there;
        other_stands = t.2.other_stands;
      },
    )

pub returns-clause-put : goal.returns-clause-put
returns-clause-put g c x held =
    let change = c.args.change.now in
    let there : get x.rows (change.table, change.key) ≡ c.in_ok-there.there = ap (λ key. get x.rows (change.table, key)) (sym c.as_slice.ensures) ∙ c.in_ok-there.ensures x held in
    by_answer c.in_ok-exchange.field-0 there (λ e. c.in_ok-exchange.ensures.stands e x held) (λ e. c.in_ok-exchange.ensures.other e x held)
