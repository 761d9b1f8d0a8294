use Rattle.std.proofs.Common.{◌≡◌, ◌+◌, List, ◌++◌, get_or, sym, ap, ◌∙◌, arith}
use Rattle.std.specs.List.{between}
use Rattle.std.proofs.lemmas.List.Edits.{get_or-remove_below}
use Rattle.slot_page.specs.Page.{Entry, entries}
use Rattle.ordered_index.specs.Row.{Row, Leaf, no_leaf}
use Rattle.ordered_index.proofs.EditSteps.{with_leaf, rest_of, page_size}
use Rattle.ordered_index.proofs.edits.join.Goals as goal

pub copy_from_slice-requires : goal.copy_from_slice-requires
copy_from_slice-requires c = c.requires.buffer ∙ sym (page_size _ c.page.ensures.page)

pub append_from-requires-clause-room : goal.append_from-requires-clause-room
append_from-requires-clause-room c =
    let r = c.args.leaves.now in
    let k = c.args.k in
    let one : get_or c.close.new.self.leaves k no_leaf ≡ get_or r.leaves k no_leaf = ap (λ (x : Row). get_or x.leaves k no_leaf) c.close.ensures ∙ get_or-remove_below r.leaves (k + 1) no_leaf k (omega arith) c.requires.leaf in
    let rest = rest_of _ _ (get_or r.leaves (k + 1) no_leaf) 0 c.count-n.result c.page.ensures.leaf c.copy_from_slice.ensures.after c.count-n.ensures in
    rw (one, rest) c.requires.room

pub returns : goal.returns
returns c =
    let r = c.args.leaves.now in
    let k = c.args.k in
    let l = get_or r.leaves k no_leaf in
    let one : get_or c.close.new.self.leaves k no_leaf ≡ l = ap (λ (x : Row). get_or x.leaves k no_leaf) c.close.ensures ∙ get_or-remove_below r.leaves (k + 1) no_leaf k (omega arith) c.requires.leaf in
    let rest = rest_of _ _ (get_or r.leaves (k + 1) no_leaf) 0 c.count-n.result c.page.ensures.leaf c.copy_from_slice.ensures.after c.count-n.ensures in
    c.append_from.ensures
    ∙ ap (λ (x : Leaf). with_leaf c.close.new.self k (x.0, x.1 ++ between 0 c.count-n.result (entries c.copy_from_slice.new.self))) one
    ∙ ap (λ (x : List Entry). with_leaf c.close.new.self k (l.0, l.1 ++ x)) rest
    ∙ ap (λ (x : Row). with_leaf x k (l.0, l.1 ++ (get_or r.leaves (k + 1) no_leaf).1)) c.close.ensures
