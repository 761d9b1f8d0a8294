use Rattle.std.proofs.Common.{rules, ◌≡◌, ◌≢◌, ◌++◌, ◌∷◌, sym, ap, ◌∙◌, Less}
use Rattle.version_chain.specs.Versions.{moment_cmp}
use Rattle.version_chain.specs.Trees.{items, own, moment}
use Rattle.version_chain.proofs.Around.{fewer_left, fewer_right, sorted_left, sorted_right, put_left, put_right}
use Rattle.version_chain.proofs.change.+put_in.Goals as goal

pub put_in-requires : goal.put_in-requires
put_in-requires g t c κs within =
    let l = c.parted-left.result.0 in
    let e = c.parted-left.result.1.value in
    let r = c.parted-left.result.2 in
    let is : items c.args.tree ≡ items l ++ own e ∷ items r = search rules in (
      search (rules, fewer_left (items c.args.tree) (items l) (items r) (own e) is),
      (within, (sorted_left (items c.args.tree) (items l) (items r) (own e) is c.requires.sorted, c.parted-left.ensures.left)),
    )

pub put_in-requires-in_default : goal.put_in-requires-in_default
put_in-requires-in_default g t c κs within =
    let l = c.parted-left.result.0 in
    let e = c.parted-left.result.1.value in
    let r = c.parted-left.result.2 in
    let is : items c.args.tree ≡ items l ++ own e ∷ items r = search rules in (
      search (rules, fewer_right (items c.args.tree) (items l) (items r) (own e) is),
      (within, (sorted_right (items c.args.tree) (items l) (items r) (own e) is c.requires.sorted, c.parted-left.ensures.right)),
    )

pub returns-in-Less-clause-items : goal.returns-in-Less-clause-items
returns-in-Less-clause-items g t c =
    let l = c.parted-left.result.0 in
    let e = c.parted-left.result.1.value in
    let r = c.parted-left.result.2 in
    let v = own c.args.node.value in
    let is : items c.args.tree ≡ items l ++ own e ∷ items r = search rules in
    let lt : moment_cmp (moment c.args.node.value) (moment e) ≡ Less = search rules in
    c.balanced.ensures.items ∙ (ap (λ x. x ++ own e ∷ items r) c.put_in.ensures.items ∙ sym (put_left (items c.args.tree) (items l) (items r) (own e) is v lt))

pub returns-in_default : goal.returns-in_default
returns-in_default g t c =
    let l = c.parted-left.result.0 in
    let e = c.parted-left.result.1.value in
    let r = c.parted-left.result.2 in
    let v = own c.args.node.value in
    let is : items c.args.tree ≡ items l ++ own e ∷ items r = search rules in
    let from : moment_cmp (moment c.args.node.value) (moment e) ≢ Less = search rules in
    record {
      items = c.balanced-in_default.ensures.items ∙ (ap (λ x. items l ++ own e ∷ x) c.put_in-in_default.ensures.items ∙ sym (put_right (items c.args.tree) (items l) (items r) (own e) is c.requires.sorted v from));
      marked = c.balanced-in_default.ensures.marked;
    }
