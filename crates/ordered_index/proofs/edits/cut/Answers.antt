use Rattle.std.proofs.Common.{ℕ, ◌≡◌, ◌+◌, ◌≤◌, List, [], ◌++◌, length, take, drop, get_or, sym, ap, ◌∙◌, arith}
use Rattle.std.specs.List.{between}
use Rattle.slot_page.specs.Page.{Entry, space, entries, index_of}
use Rattle.ordered_index.specs.Row.{Row, Leaf, no_leaf}
use Rattle.ordered_index.proofs.EditSteps.{with_leaf, with_new, count_after, new_after, new_twice, rest_of, space_split, page_size}
use Rattle.ordered_index.proofs.edits.cut.Goals as goal

pub copy_from_slice-requires : goal.copy_from_slice-requires
copy_from_slice-requires c = c.requires.buffer ∙ sym (page_size _ c.page.ensures.page)

pub append_from-requires-clause-room : goal.append_from-requires-clause-room
append_from-requires-clause-room c =
    let r = c.args.leaves.now in
    let l = get_or r.leaves c.args.k no_leaf in
    let n = count_after r _ c.args.k (l.0, take c.args.i l.1) c.truncate.ensures in
    let one = new_after c.truncate.new.self _ (c.args.k + 1) (c.index-of.result, []) (omega (arith, c.requires.leaf)) c.open.ensures in
    let rest = rest_of _ _ l c.args.i c.count-n.result c.page.ensures.leaf c.copy_from_slice.ensures.after c.count-n.ensures in
    let fits : space [] + space (drop c.args.i l.1) ≤ 8176 = omega (arith, space_split l.1 c.args.i, c.requires.fits) in
    rw (one, rest) fits

pub returns : goal.returns
returns c =
    let r = c.args.leaves.now in
    let l = get_or r.leaves c.args.k no_leaf in
    let n = count_after r _ c.args.k (l.0, take c.args.i l.1) c.truncate.ensures in
    let low : c.args.k + 1 ≤ length c.truncate.new.self.leaves = omega (arith, c.requires.leaf) in
    let one = new_after c.truncate.new.self _ (c.args.k + 1) (c.index-of.result, []) low c.open.ensures in
    let rest = rest_of _ _ l c.args.i c.count-n.result c.page.ensures.leaf c.copy_from_slice.ensures.after c.count-n.ensures in
    let of : c.index-of.result ≡ l.0 = c.index-of.ensures ∙ ap index_of c.copy_from_slice.ensures.after ∙ ap (λ (x : Leaf). x.0) c.page.ensures.leaf in
    let last = new_twice c.truncate.new.self _ _ (c.args.k + 1) (c.index-of.result, []) (l.0, drop c.args.i l.1) low c.open.ensures
    (c.append_from.ensures
    ∙ ap (λ (x : Leaf). with_leaf c.open.new.self (c.args.k + 1) (x.0, x.1 ++ between c.args.i c.count-n.result (entries c.copy_from_slice.new.self))) one
    ∙ ap (λ (x : List Entry). with_leaf c.open.new.self (c.args.k + 1) (c.index-of.result, x)) rest
    ∙ ap (λ (x : ℕ). with_leaf c.open.new.self (c.args.k + 1) (x, drop c.args.i l.1)) of) in
    last ∙ ap (λ (x : Row). with_new x (c.args.k + 1) (l.0, drop c.args.i l.1)) c.truncate.ensures
