use Rattle.std.proofs.Common.{◌+◌, ◌≤◌, [], ◌∷◌, ◌++◌, length, sym, ap, ◌∙◌, subst, arith}
use Rattle.slot_page.specs.Page.{space}
use Rattle.ordered_index.specs.Row.{Leaf}
use Rattle.ordered_index.proofs.EditSteps.{with_leaf, new_after, new_twice}
use Rattle.ordered_index.proofs.edits.new_leaf.Goals as goal

pub append-requires-clause-room : goal.append-requires-clause-room
append-requires-clause-room c =
    let one = new_after c.args.leaves.now _ c.args.k (c.args.of, []) c.requires.place c.open.ensures in
    subst (λ (x : Leaf). space x.1 + 6 + length c.args.key.now + length c.args.value.now ≤ 8176) (sym one) (omega (arith, c.requires.room))

pub returns : goal.returns
returns c =
    let one = new_after c.args.leaves.now _ c.args.k (c.args.of, []) c.requires.place c.open.ensures in
    new_twice c.args.leaves.now _ _ c.args.k (c.args.of, []) (c.args.of, (c.args.key.now, c.args.value.now) ∷ []) c.requires.place c.open.ensures
    (c.append.ensures ∙ ap (λ (x : Leaf). with_leaf c.open.new.self c.args.k (x.0, x.1 ++ (c.args.key.now, c.args.value.now) ∷ [])) one)
