use Rattle.std.proofs.Common.{ℕ, ◌≡◌, ◌≤◌, [], length, get_or, ap, arith}
use Rattle.std.specs.List.{insert, remove}
use Rattle.ordered_index.specs.Row.{Row, leaf_of, pages_of}
use Rattle.ordered_index.proofs.Rows.{place_of, row_close, map-remove}
use Rattle.ordered_index.proofs.leaves.Leaves.close.Goals as goal

pub invariant_of-self : goal.invariant_of-self
invariant_of-self c =
    let a = c.self.inside in
    let at = place_of (pages_of a.store) a.order.items a.free.items c.args.self.now c.args.k _ c.self.invariant.row c.self.view_is c.requires c.remove-p.ensures.value in
    let free : c.insert.new.self.items ≡ insert a.free.items c.len-last.result c.remove-p.result = rw c.unwrap.ensures at c.insert.ensures.items in
    let last : c.len-last.result ≤ length a.free.items = omega (arith, c.len-last.ensures, a.free.ok.0) in
    record {
      row = rw (c.remove-p.ensures.items, free) (row_close (pages_of a.store) a.order.items a.free.items c.args.k c.len-last.result c.remove-p.result c.self.invariant.row at.here at.at last);
      order_room = omega (arith, c.self.invariant.order_room, c.remove-p.ensures.capacity);
      free_room = omega (arith, c.self.invariant.free_room, c.insert.ensures.capacity);
    }

pub returns : goal.returns
returns c =
    let a = c.self.inside in
    rw c.remove-p.ensures.items (rw (map-remove (λ (p : ℕ). leaf_of (get_or (pages_of a.store) p [])) a.order.items c.args.k) (ap (λ (r : Row). record r { leaves = remove r.leaves c.args.k }) c.self.view_is))
