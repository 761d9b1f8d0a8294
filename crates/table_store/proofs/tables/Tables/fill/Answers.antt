use Rattle.std.proofs.Common.{◌≡◌, sym, subst}
use Rattle.table_store.specs.Filling.{CanFill, filled}
use Rattle.table_store.proofs.Filled.{can_put_all, fill_holds}
use Rattle.table_store.proofs.tables.Tables.fill.Goals as goal

pub put_all-requires-after_bounds : goal.put_all-requires-after_bounds
put_all-requires-after_bounds g c κs within =
    let S = g.M.SortedMaps in
    let i = c.args.index.now in
    let es = c.args.entries in
    let t = c.requires.0 in
    let m = c.self.inside.maps in
    let can : CanFill i (S.maps m) (S.spare m i.number) (S.limit m) es t = subst (λ x. CanFill i (S.maps x) (S.spare x i.number) (S.limit x) es t) (sym c.self.view_is) c.requires.1 in
    can_put_all c.row_law.ensures.spelling c.key_law.ensures.spelling t i (S.maps m) (S.spare m i.number) (S.limit m) es can

pub returns-clause-index : goal.returns-clause-index
returns-clause-index g c = λ t rows are holds.
    let S = g.M.SortedMaps in
    let i = c.args.index.now in
    let es = c.args.entries in
    let old = c.args.self.now in
    let new = c.put_all.new.maps in
    let is : S.maps new i.number ≡ filled (S.maps old i.number) es = subst (λ x. S.maps new i.number ≡ filled (S.maps x i.number) es) c.self.view_is c.put_all.ensures.map in
    fill_holds c.row_law.ensures.spelling c.key_law.ensures.spelling t i rows (S.maps old t.number) (S.maps old i.number) (S.maps new i.number) es holds are c.requires.1.none is
