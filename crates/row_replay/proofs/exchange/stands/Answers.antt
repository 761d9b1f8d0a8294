use Rattle.std.proofs.Common.{◌≡◌, sym, subst, ◌∙◌}
use Rattle.std.specs.FinMap.{get}
use Rattle.std.specs.Prelude.{IfSome}
use Rattle.std.proofs.lemmas.Result.{IfOk-weaker}
use Rattle.iv_types.specs.Encoding.{kinds_of, FitAll}
use Rattle.data_store.proofs.Were.{same_table}
use Rattle.row_replay.proofs.Standing.{row_is}
use Rattle.row_replay.proofs.exchange.stands.Goals as goal

pub returns-clause-stands : goal.returns-clause-stands
returns-clause-stands g c = IfOk-weaker c.are_bytes_of.result _ _ (λ same bytes yes x held.
    let ds = c.args.store.now.catalog in
    let q = c.requires.fits in
    let fits = subst (λ t. IfSome c.args.row.now (FitAll (kinds_of t))) (same_table ds c.args.table q.0 c.table_of.result.now q.1 c.table_of.ensures.table) q.2 in
    let here : get (g.M.SortedMaps.maps c.args.store.now.tables c.args.table) c.args.key.now ≡ get (g.M.SortedMaps.maps c.maps.result.now c.args.table) c.as_slice.result.now
    = λ i. get (g.M.SortedMaps.maps (sym c.maps.ensures i) c.args.table) (sym c.as_slice.ensures i) in
    row_is ds (g.M.SortedMaps.maps c.args.store.now.tables) c.args.store.now.views x held c.number_law.ensures c.args.table c.args.key.now c.table_of.result.now c.table_of.ensures.table
    c.args.row.now c.row_law.ensures.spelling fits (here ∙ (sym c.get.ensures ∙ bytes yes))) c.are_bytes_of.ensures.same
