use Rattle.std.proofs.Common.{◌≡◌, ◌<◌, length, get_or, set, refl, sym, ap, subst, arith}
use Rattle.slot_page.specs.Page.{no_entry}
use Rattle.ordered_index.specs.Row.{Leaf, no_leaf, leaf_of}
use Rattle.ordered_index.proofs.Rows.{store_place, store_spot, store_written}
use Rattle.ordered_index.proofs.leaves.Leaves.set_value.Goals as goal

pub change-requires : goal.change-requires
change-requires c =
    let a = c.self.inside in
    store_place a.store a.order.items a.free.items c.args.self.now c.args.k _ c.self.invariant.row c.self.view_is c.requires.leaf c.index-p.ensures

pub set_value-requires-clause-page : goal.set_value-requires-clause-page
set_value-requires-clause-page c =
    let a = c.self.inside in
    (store_spot a.store a.order.items a.free.items c.args.self.now c.args.k _ _ c.self.invariant.row c.self.view_is c.requires.leaf c.index-p.ensures c.change.ensures.page).holds

pub set_value-requires-clause-inside : goal.set_value-requires-clause-inside
set_value-requires-clause-inside c =
    let a = c.self.inside in
    let s = store_spot a.store a.order.items a.free.items c.args.self.now c.args.k _ _ c.self.invariant.row c.self.view_is c.requires.leaf c.index-p.ensures c.change.ensures.page in
    subst (λ (x : Leaf). c.args.i < length x.1) (sym s.leaf) c.requires.inside

pub set_value-requires-clause-size : goal.set_value-requires-clause-size
set_value-requires-clause-size c =
    let a = c.self.inside in
    let s = store_spot a.store a.order.items a.free.items c.args.self.now c.args.k _ _ c.self.invariant.row c.self.view_is c.requires.leaf c.index-p.ensures c.change.ensures.page in
    subst (λ (x : Leaf). length c.args.value.now ≡ length (get_or x.1 c.args.i no_entry).1) (sym s.leaf) c.requires.size

pub invariant_of-self : goal.invariant_of-self
invariant_of-self c =
    let a = c.self.inside in
    let s = store_spot a.store a.order.items a.free.items c.args.self.now c.args.k _ _ c.self.invariant.row c.self.view_is c.requires.leaf c.index-p.ensures c.change.ensures.page in
    let w = store_written a.store a.order.items a.free.items c.args.self.now c.args.k c.index-p.result.now c.set_value.new.page _ c.self.invariant.row c.self.view_is s.place c.set_value.ensures.page refl in
    record {
      row = w.row;
      order_room = omega (arith, c.self.invariant.order_room, w.count);
      free_room = omega (arith, c.self.invariant.free_room, w.count);
    }

pub returns : goal.returns
returns c =
    let a = c.self.inside in
    let s = store_spot a.store a.order.items a.free.items c.args.self.now c.args.k _ _ c.self.invariant.row c.self.view_is c.requires.leaf c.index-p.ensures c.change.ensures.page in
    let l = get_or c.args.self.now.leaves c.args.k no_leaf in
    let e : leaf_of c.set_value.new.page ≡ (l.0, set l.1 c.args.i ((get_or l.1 c.args.i no_entry).0, c.args.value.now)) =
    rw (c.set_value.ensures.entries, c.set_value.ensures.index) (ap (λ (x : Leaf). let y : Leaf = (x.0, set x.1 c.args.i ((get_or x.1 c.args.i no_entry).0, c.args.value.now)) in y) s.leaf) in
    let w = store_written a.store a.order.items a.free.items c.args.self.now c.args.k c.index-p.result.now c.set_value.new.page _ c.self.invariant.row c.self.view_is s.place c.set_value.ensures.page e in
    w.is
