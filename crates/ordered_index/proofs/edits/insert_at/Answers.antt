use Rattle.std.proofs.Common.{ℕ, ◌≡◌, ◌+◌, ◌<◌, ◌≤◌, List, [], ◌∷◌, ◌++◌, length, take, drop, get_or, sym, ap, ◌∙◌, subst, arith, append_assoc}
use Rattle.std.specs.List.{between, insert}
use Rattle.std.proofs.lemmas.List.{take_all, drop_all}
use Rattle.slot_page.specs.Page.{Entry, space, entries}
use Rattle.slot_page.proofs.Pages.{space_take, space_push}
use Rattle.ordered_index.specs.Row.{Row, Leaf, no_leaf, leaf_of}
use Rattle.ordered_index.proofs.EditSteps.{with_leaf, leaf_after, twice, rest_of, space_split, page_size}
use Rattle.ordered_index.proofs.edits.insert_at.Goals as goal

pub count-n-requires : goal.count-n-requires
count-n-requires c = page_size _ c.page.ensures.page

-- an entry after all others
at_end : (es : List Entry) (i : ℕ) (e : Entry) → i ≡ length es → insert es i e ≡ es ++ e ∷ []
at_end es i e is = ap (λ (x : List Entry). x ++ e ∷ drop i es) (take_all i es (omega arith)) ∙ ap (λ (x : List Entry). es ++ e ∷ x) (drop_all i es (omega arith))

pub returns-then-i-n : goal.returns-then-i-n
returns-then-i-n c =
    let l = get_or c.args.leaves.now.leaves c.args.k no_leaf in
    let e : Entry = (c.args.key.now, c.args.value.now) in
    let many : c.count-n.result ≡ length l.1 = c.count-n.ensures ∙ ap (λ (x : Leaf). length x.1) c.page.ensures.leaf in
    c.append.ensures ∙ ap (λ (x : List Entry). with_leaf c.args.leaves.now c.args.k (l.0, x)) (sym (at_end l.1 c.args.i e (omega arith)))

pub copy_from_slice-requires : goal.copy_from_slice-requires
copy_from_slice-requires c = c.requires.buffer ∙ sym (page_size _ c.page-2.ensures.page)

pub append-requires-2-clause-room : goal.append-requires-2-clause-room
append-requires-2-clause-room c =
    let l = get_or c.args.leaves.now.leaves c.args.k no_leaf in
    let one = leaf_after c.args.leaves.now _ c.args.k (l.0, take c.args.i l.1) c.requires.leaf c.truncate.ensures in
    let fits : space (take c.args.i l.1) + 6 + length c.args.key.now + length c.args.value.now ≤ 8176 = omega (arith, space_take l.1 c.args.i, c.requires.room) in
    subst (λ (x : Leaf). space x.1 + 6 + length c.args.key.now + length c.args.value.now ≤ 8176) (sym one) fits

two : (r s t : Row) (k i : ℕ) (e : Entry) → k < length r.leaves → s ≡ with_leaf r k ((get_or r.leaves k no_leaf).0, take i (get_or r.leaves k no_leaf).1) → t ≡ with_leaf s k ((get_or s.leaves k no_leaf).0, (get_or s.leaves k no_leaf).1 ++ e ∷ [])
    → t ≡ with_leaf r k ((get_or r.leaves k no_leaf).0, take i (get_or r.leaves k no_leaf).1 ++ e ∷ [])
two r s t k i e h f g =
    let l = get_or r.leaves k no_leaf in
    let one = leaf_after r s k (l.0, take i l.1) h f in
    let m : Leaf = (l.0, take i l.1 ++ e ∷ []) in
    twice r s t k (l.0, take i l.1) m f (g ∙ ap (λ (x : Leaf). with_leaf s k (x.0, x.1 ++ e ∷ [])) one)

-- a page and the copy of its leaf have as many entries
counted : (page again copy : List ℕ) (l : Leaf) (n : ℕ) → leaf_of page ≡ l → leaf_of again ≡ l → copy ≡ again → n ≡ length (entries page) → n ≡ length (entries copy)
counted page again copy l n e f same is = is ∙ ap (λ (x : Leaf). length x.1) (e ∙ sym f) ∙ ap (λ (x : List ℕ). length (entries x)) (sym same)

pub append_from-requires-clause-room : goal.append_from-requires-clause-room
append_from-requires-clause-room c =
    let l = get_or c.args.leaves.now.leaves c.args.k no_leaf in
    let e : Entry = (c.args.key.now, c.args.value.now) in
    let m : Leaf = (l.0, take c.args.i l.1 ++ e ∷ []) in
    let t = two c.args.leaves.now _ _ c.args.k c.args.i e c.requires.leaf c.truncate.ensures c.append-2.ensures in
    let now = leaf_after c.args.leaves.now _ c.args.k m c.requires.leaf t in
    let rest = rest_of _ _ l c.args.i c.count-n.result c.page-2.ensures.leaf c.copy_from_slice.ensures.after (counted c.page.result.now c.page-2.result.now c.copy_from_slice.new.self l c.count-n.result c.page.ensures.leaf c.page-2.ensures.leaf c.copy_from_slice.ensures.after c.count-n.ensures) in
    let fits : space (take c.args.i l.1 ++ e ∷ []) + space (drop c.args.i l.1) ≤ 8176 = omega (arith, space_split l.1 c.args.i, space_push (take c.args.i l.1) e, c.requires.room) in
    rw (now, rest) fits

pub returns : goal.returns
returns c =
    let l = get_or c.args.leaves.now.leaves c.args.k no_leaf in
    let e : Entry = (c.args.key.now, c.args.value.now) in
    let m : Leaf = (l.0, take c.args.i l.1 ++ e ∷ []) in
    let t = two c.args.leaves.now _ _ c.args.k c.args.i e c.requires.leaf c.truncate.ensures c.append-2.ensures in
    let now = leaf_after c.args.leaves.now _ c.args.k m c.requires.leaf t in
    let rest = rest_of _ _ l c.args.i c.count-n.result c.page-2.ensures.leaf c.copy_from_slice.ensures.after (counted c.page.result.now c.page-2.result.now c.copy_from_slice.new.self l c.count-n.result c.page.ensures.leaf c.page-2.ensures.leaf c.copy_from_slice.ensures.after c.count-n.ensures) in
    twice c.args.leaves.now _ _ c.args.k m _ t
    (c.append_from.ensures
    ∙ ap (λ (x : Leaf). with_leaf c.append-2.new.self c.args.k (x.0, x.1 ++ between c.args.i c.count-n.result (entries c.copy_from_slice.new.self))) now
    ∙ ap (λ (x : List Entry). with_leaf c.append-2.new.self c.args.k (l.0, (take c.args.i l.1 ++ e ∷ []) ++ x)) rest
    ∙ ap (λ (x : List Entry). with_leaf c.append-2.new.self c.args.k (l.0, x)) (append_assoc (take c.args.i l.1) (e ∷ []) (drop c.args.i l.1)))
