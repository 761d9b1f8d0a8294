use Rattle.std.proofs.Common.{◌≡◌, ◌≤◌, length, take, get_or, refl, sym, ap, subst, arith}
use Rattle.ordered_index.specs.Row.{Leaf, no_leaf, leaf_of}
use Rattle.ordered_index.proofs.Rows.{store_place, store_spot, store_written}
use Rattle.ordered_index.proofs.leaves.Leaves.truncate.Goals as goal

pub change-requires : goal.change-requires
change-requires c =
    let a = c.self.inside in
    store_place a.store a.order.items a.free.items c.args.self.now c.args.k _ c.self.invariant.row c.self.view_is c.requires.leaf c.index-p.ensures

pub truncate-requires-clause-page : goal.truncate-requires-clause-page
truncate-requires-clause-page c =
    let a = c.self.inside in
    (store_spot a.store a.order.items a.free.items c.args.self.now c.args.k _ _ c.self.invariant.row c.self.view_is c.requires.leaf c.index-p.ensures c.change.ensures.page).holds

pub truncate-requires-clause-inside : goal.truncate-requires-clause-inside
truncate-requires-clause-inside c =
    let a = c.self.inside in
    let s = store_spot a.store a.order.items a.free.items c.args.self.now c.args.k _ _ c.self.invariant.row c.self.view_is c.requires.leaf c.index-p.ensures c.change.ensures.page in
    subst (λ (x : Leaf). c.args.n ≤ length x.1) (sym s.leaf) c.requires.inside

pub invariant_of-self : goal.invariant_of-self
invariant_of-self c =
    let a = c.self.inside in
    let s = store_spot a.store a.order.items a.free.items c.args.self.now c.args.k _ _ c.self.invariant.row c.self.view_is c.requires.leaf c.index-p.ensures c.change.ensures.page in
    let w = store_written a.store a.order.items a.free.items c.args.self.now c.args.k c.index-p.result.now c.truncate.new.page _ c.self.invariant.row c.self.view_is s.place c.truncate.ensures.page refl in
    record {
      row = w.row;
      order_room = omega (arith, c.self.invariant.order_room, w.count);
      free_room = omega (arith, c.self.invariant.free_room, w.count);
    }

pub returns : goal.returns
returns c =
    let a = c.self.inside in
    let s = store_spot a.store a.order.items a.free.items c.args.self.now c.args.k _ _ c.self.invariant.row c.self.view_is c.requires.leaf c.index-p.ensures c.change.ensures.page in
    let l = get_or c.args.self.now.leaves c.args.k no_leaf in
    let e : leaf_of c.truncate.new.page ≡ (l.0, take c.args.n l.1) =
    rw (c.truncate.ensures.entries, c.truncate.ensures.index) (ap (λ (x : Leaf). let y : Leaf = (x.0, take c.args.n x.1) in y) s.leaf) in
    let w = store_written a.store a.order.items a.free.items c.args.self.now c.args.k c.index-p.result.now c.truncate.new.page _ c.self.invariant.row c.self.view_is s.place c.truncate.ensures.page e in
    w.is
