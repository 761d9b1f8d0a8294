use Rattle.std.proofs.Common.{rules, ◌≡◌, ◌-ℤ◌, ◌++◌, ◌∷◌, true, false, sym, ap, ◌∙◌, to_z, of_z}
use Rattle.std.specs.Int.{w128, int_wrap}
use Rattle.table_laws.specs.Place.{Place}
use Rattle.version_chain.specs.Versions.{is_from}
use Rattle.version_chain.specs.Chains.{is_of}
use Rattle.version_chain.specs.Trees.{items, own}
use Rattle.version_chain.specs.Deltas.{worth, due}
use Rattle.version_chain.proofs.Around.{fewer_left, fewer_right, sorted_left, sorted_right}
use Rattle.version_chain.proofs.Dues.{due_right, due_left, due_both, steps_less}
use Rattle.version_chain.proofs.deltas.+lessened.Goals as goal

pub lessened-requires : goal.lessened-requires
lessened-requires t c =
    let n = c.args.number in
    let p : Place = (c.args.index, c.args.key.now) in
    let all = items c.args.tree.now in
    let e = c.deref-node.result.now in
    let l = items e.left in
    let r = items e.right in
    let is : items c.args.tree.now ≡ items e.left ++ own e ∷ items e.right = search rules in
    (search (rules, fewer_right all l r (own e) is), sorted_right all l r (own e) is c.requires.sorted)

pub returns-then-not-is_from : goal.returns-then-not-is_from
returns-then-not-is_from t c =
    let n = c.args.number in
    let p : Place = (c.args.index, c.args.key.now) in
    let all = items c.args.tree.now in
    let e = c.deref-node.result.now in
    let l = items e.left in
    let r = items e.right in
    let is : items c.args.tree.now ≡ items e.left ++ own e ∷ items e.right = search rules in
    let fails : is_from true (p, n) (own e) ≡ false = search rules in
    let here : to_z w128 (of_z w128 c.lessened.result) ≡ int_wrap w128 (c.args.from -ℤ due n p c.args.column (items e.right)) = search rules in
    here ∙ ap (λ z. int_wrap w128 (c.args.from -ℤ z)) (sym (due_right n p c.args.column all l r (own e) is c.requires.sorted fails))

pub lessened-before-requires : goal.lessened-before-requires
lessened-before-requires t c =
    let n = c.args.number in
    let p : Place = (c.args.index, c.args.key.now) in
    let all = items c.args.tree.now in
    let e = c.deref-node.result.now in
    let l = items e.left in
    let r = items e.right in
    let is : items c.args.tree.now ≡ items e.left ++ own e ∷ items e.right = search rules in
    (search (rules, fewer_left all l r (own e) is), sorted_left all l r (own e) is c.requires.sorted)

pub returns-then-not-is_of : goal.returns-then-not-is_of
returns-then-not-is_of t c =
    let n = c.args.number in
    let p : Place = (c.args.index, c.args.key.now) in
    let all = items c.args.tree.now in
    let e = c.deref-node.result.now in
    let l = items e.left in
    let r = items e.right in
    let is : items c.args.tree.now ≡ items e.left ++ own e ∷ items e.right = search rules in
    let from : is_from true (p, n) (own e) ≡ true = search rules in
    let other : is_of p (own e) ≡ false = search rules in
    let here : to_z w128 (of_z w128 c.lessened-before.result) ≡ int_wrap w128 (c.args.from -ℤ due n p c.args.column (items e.left)) = search rules in
    here ∙ ap (λ z. int_wrap w128 (c.args.from -ℤ z)) (sym (due_left n p c.args.column all l r (own e) is c.requires.sorted from other))

pub lessened-requires-in-Fork : goal.lessened-requires-in-Fork
lessened-requires-in-Fork t c =
    let n = c.args.number in
    let p : Place = (c.args.index, c.args.key.now) in
    let all = items c.args.tree.now in
    let e = c.deref-node.result.now in
    let l = items e.left in
    let r = items e.right in
    let is : items c.args.tree.now ≡ items e.left ++ own e ∷ items e.right = search rules in
    (search (rules, fewer_right all l r (own e) is), sorted_right all l r (own e) is c.requires.sorted)

pub returns-else-not-is_of : goal.returns-else-not-is_of
returns-else-not-is_of t c =
    let n = c.args.number in
    let p : Place = (c.args.index, c.args.key.now) in
    let all = items c.args.tree.now in
    let e = c.deref-node.result.now in
    let l = items e.left in
    let r = items e.right in
    let is : items c.args.tree.now ≡ items e.left ++ own e ∷ items e.right = search rules in
    let from : is_from true (p, n) (own e) ≡ true = search rules in
    let of : is_of p (own e) ≡ true = search rules in
    let before : c.lessened-before.result ≡ int_wrap w128 (c.args.from -ℤ due n p c.args.column (items e.left)) = search rules in
    let here : c.wrapped_less-here.result ≡ int_wrap w128 (c.lessened-before.result -ℤ worth c.args.column e.held) = search rules in
    let after : to_z w128 (of_z w128 c.lessened-in-Fork.result) ≡ int_wrap w128 (c.wrapped_less-here.result -ℤ due n p c.args.column (items e.right)) = search rules in
    steps_less c.args.from c.lessened-before.result c.wrapped_less-here.result _ (due n p c.args.column (items e.left)) (worth c.args.column e.held) (due n p c.args.column (items e.right)) before here after
    ∙ ap (λ z. int_wrap w128 (c.args.from -ℤ z)) (sym (due_both n p c.args.column all l r (own e) is c.requires.sorted from of))
