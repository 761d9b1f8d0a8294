use Rattle.std.proofs.Common.{◌≡◌, ◌+◌, ◌≤◌, [], ◌∷◌, ◌++◌, length, get_or, refl, sym, ap, subst, arith}
use Rattle.slot_page.specs.Page.{space, page_body, entry_head}
use Rattle.ordered_index.specs.Row.{Leaf, no_leaf, leaf_of}
use Rattle.ordered_index.proofs.Rows.{store_place, store_spot, store_written}
use Rattle.ordered_index.proofs.leaves.Leaves.append.Goals as goal

pub change-requires : goal.change-requires
change-requires c =
    let a = c.self.inside in
    store_place a.store a.order.items a.free.items c.args.self.now c.args.k _ c.self.invariant.row c.self.view_is c.requires.leaf c.index-p.ensures

pub append-requires-clause-page : goal.append-requires-clause-page
append-requires-clause-page c =
    let a = c.self.inside in
    (store_spot a.store a.order.items a.free.items c.args.self.now c.args.k _ _ c.self.invariant.row c.self.view_is c.requires.leaf c.index-p.ensures c.change.ensures.page).holds

pub append-requires-clause-room : goal.append-requires-clause-room
append-requires-clause-room c =
    let a = c.self.inside in
    let s = store_spot a.store a.order.items a.free.items c.args.self.now c.args.k _ _ c.self.invariant.row c.self.view_is c.requires.leaf c.index-p.ensures c.change.ensures.page in
    subst (λ (x : Leaf). space x.1 + entry_head + length c.args.key.now + length c.args.value.now ≤ page_body) (sym s.leaf) c.requires.room

pub invariant_of-self : goal.invariant_of-self
invariant_of-self c =
    let a = c.self.inside in
    let s = store_spot a.store a.order.items a.free.items c.args.self.now c.args.k _ _ c.self.invariant.row c.self.view_is c.requires.leaf c.index-p.ensures c.change.ensures.page in
    let w = store_written a.store a.order.items a.free.items c.args.self.now c.args.k c.index-p.result.now c.append.new.page _ c.self.invariant.row c.self.view_is s.place c.append.ensures.page refl in
    record {
      row = w.row;
      order_room = omega (arith, c.self.invariant.order_room, w.count);
      free_room = omega (arith, c.self.invariant.free_room, w.count);
    }

pub returns : goal.returns
returns c =
    let a = c.self.inside in
    let s = store_spot a.store a.order.items a.free.items c.args.self.now c.args.k _ _ c.self.invariant.row c.self.view_is c.requires.leaf c.index-p.ensures c.change.ensures.page in
    let l = get_or c.args.self.now.leaves c.args.k no_leaf in
    let e : leaf_of c.append.new.page ≡ (l.0, l.1 ++ (c.args.key.now, c.args.value.now) ∷ []) =
    rw (c.append.ensures.entries, c.append.ensures.index) (ap (λ (x : Leaf). let y : Leaf = (x.0, x.1 ++ (c.args.key.now, c.args.value.now) ∷ []) in y) s.leaf) in
    let w = store_written a.store a.order.items a.free.items c.args.self.now c.args.k c.index-p.result.now c.append.new.page _ c.self.invariant.row c.self.view_is s.place c.append.ensures.page e in
    w.is
