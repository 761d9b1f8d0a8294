use Rattle.std.proofs.Common.{ℕ, ◌≡◌, ◌+◌, ◌≤◌, List, ◌++◌, take, drop, get_or, sym, ap, ◌∙◌, arith, add-one}
use Rattle.std.specs.List.{between}
use Rattle.slot_page.specs.Page.{Entry, space, entries}
use Rattle.ordered_index.specs.Row.{Leaf, no_leaf}
use Rattle.ordered_index.proofs.EditSteps.{with_leaf, leaf_after, twice, rest_of, space_split, page_size}
use Rattle.ordered_index.proofs.edits.remove_at.Goals as goal

pub copy_from_slice-requires : goal.copy_from_slice-requires
copy_from_slice-requires c = c.requires.buffer ∙ sym (page_size _ c.page.ensures.page)

drop_less : (es : List Entry) (i : ℕ) → space (drop (i + 1) es) ≤ space (drop i es)
drop_less es i =
    let e : drop (i + 1) es ≡ drop 1 (drop i es) = sym (Rattle.std.proofs.lemmas.List.drop-drop 1 i es) in
    omega (arith, ap space e, space_split (drop i es) 1)

pub append_from-requires-clause-room : goal.append_from-requires-clause-room
append_from-requires-clause-room c =
    let r = c.args.leaves.now in
    let l = get_or r.leaves c.args.k no_leaf in
    let one = leaf_after r _ c.args.k (l.0, take c.args.i l.1) c.requires.leaf c.truncate.ensures in
    let rest = rest_of _ _ l (c.args.i + 1) c.count-n.result c.page.ensures.leaf c.copy_from_slice.ensures.after c.count-n.ensures in
    let fits : space (take c.args.i l.1) + space (drop (c.args.i + 1) l.1) ≤ 8176 = omega (arith, space_split l.1 c.args.i, drop_less l.1 c.args.i, c.requires.fits) in
    rw (one, rest) fits

pub returns : goal.returns
returns c =
    let r = c.args.leaves.now in
    let l = get_or r.leaves c.args.k no_leaf in
    let one = leaf_after r _ c.args.k (l.0, take c.args.i l.1) c.requires.leaf c.truncate.ensures in
    let rest = rest_of _ _ l (c.args.i + 1) c.count-n.result c.page.ensures.leaf c.copy_from_slice.ensures.after c.count-n.ensures in
    twice r _ _ c.args.k (l.0, take c.args.i l.1) _ c.truncate.ensures
    (c.append_from.ensures
    ∙ ap (λ (x : Leaf). with_leaf c.truncate.new.self c.args.k (x.0, x.1 ++ between (c.args.i + 1) c.count-n.result (entries c.copy_from_slice.new.self))) one
    ∙ ap (λ (x : List Entry). with_leaf c.truncate.new.self c.args.k (l.0, take c.args.i l.1 ++ x)) rest
    ∙ ap (λ n. with_leaf c.truncate.new.self c.args.k (l.0, take c.args.i l.1 ++ drop n l.1)) (add-one c.args.i))
