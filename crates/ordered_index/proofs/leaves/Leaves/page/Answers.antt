use Rattle.ordered_index.proofs.Rows.{store_place, store_spot}
use Rattle.ordered_index.proofs.leaves.Leaves.page.Goals as goal

pub page-requires : goal.page-requires
page-requires c =
    let a = c.self.inside in
    store_place a.store a.order.items a.free.items c.args.self.now c.args.k _ c.self.invariant.row c.self.view_is c.requires c.index-p.ensures

pub returns-clause-page : goal.returns-clause-page
returns-clause-page c =
    let a = c.self.inside in
    (store_spot a.store a.order.items a.free.items c.args.self.now c.args.k _ _ c.self.invariant.row c.self.view_is c.requires c.index-p.ensures c.page.ensures).holds

pub returns-clause-leaf : goal.returns-clause-leaf
returns-clause-leaf c =
    let a = c.self.inside in
    (store_spot a.store a.order.items a.free.items c.args.self.now c.args.k _ _ c.self.invariant.row c.self.view_is c.requires c.index-p.ensures c.page.ensures).leaf
