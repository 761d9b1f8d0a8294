use Rattle.std.proofs.Common.{rules, ◌≡◌, ◌++◌, ◌∷◌, sym, ap, ◌∙◌, Less, Equal, Greater}
use Rattle.table_laws.specs.Place.{place_cmp}
use Rattle.spare_map.specs.Trees.{items, own, place}
use Rattle.spare_map.proofs.Around.{fewer_left, fewer_right, sorted_left, sorted_right, find_left, find_right, find_here, put_left, put_right}
use Rattle.spare_map.proofs.change.+put_in.Goals as goal

pub put_in-requires : goal.put_in-requires
put_in-requires g t c κs within =
    let k = place c.args.node.value in
    let l = c.parted-left.result.0 in
    let e = c.parted-left.result.1.value in
    let r = c.parted-left.result.2 in
    let is : items c.args.tree ≡ items l ++ own e ∷ items r = search rules in
    let lt : place_cmp k (place e) ≡ Less = search rules in (
      search (rules, fewer_left k (items c.args.tree) (items l) (items r) (own e) is),
      (within, (sorted_left k (items c.args.tree) (items l) (items r) (own e) is c.requires.sorted, sym (find_left k (items c.args.tree) (items l) (items r) (own e) is c.requires.sorted lt) ∙ c.requires.new)),
    )

pub put_in-requires-in-Greater : goal.put_in-requires-in-Greater
put_in-requires-in-Greater g t c κs within =
    let k = place c.args.node.value in
    let l = c.parted-left.result.0 in
    let e = c.parted-left.result.1.value in
    let r = c.parted-left.result.2 in
    let is : items c.args.tree ≡ items l ++ own e ∷ items r = search rules in
    let gt : place_cmp k (place e) ≡ Greater = search rules in (
      search (rules, fewer_right k (items c.args.tree) (items l) (items r) (own e) is),
      (within, (sorted_right k (items c.args.tree) (items l) (items r) (own e) is c.requires.sorted, sym (find_right k (items c.args.tree) (items l) (items r) (own e) is c.requires.sorted gt) ∙ c.requires.new)),
    )

pub unreachable-requires : goal.unreachable-requires
unreachable-requires g t c =
    let k = place c.args.node.value in
    let l = c.parted-left.result.0 in
    let e = c.parted-left.result.1.value in
    let r = c.parted-left.result.2 in
    let is : items c.args.tree ≡ items l ++ own e ∷ items r = search rules in
    let same : place_cmp k (place e) ≡ Equal = search rules in
    cc (sym (find_here k (items c.args.tree) (items l) (items r) (own e) is c.requires.sorted same) ∙ c.requires.new)

pub returns-in-Less : goal.returns-in-Less
returns-in-Less g t c =
    let k = place c.args.node.value in
    let l = c.parted-left.result.0 in
    let e = c.parted-left.result.1.value in
    let r = c.parted-left.result.2 in
    let is : items c.args.tree ≡ items l ++ own e ∷ items r = search rules in
    let lt : place_cmp k (place e) ≡ Less = search rules in
    c.balanced.ensures ∙ (ap (λ x. x ++ own e ∷ items r) c.put_in.ensures ∙ sym (put_left k (items c.args.tree) (items l) (items r) (own e) is c.requires.sorted c.args.node.value.held lt))

pub returns-in-Greater : goal.returns-in-Greater
returns-in-Greater g t c =
    let k = place c.args.node.value in
    let l = c.parted-left.result.0 in
    let e = c.parted-left.result.1.value in
    let r = c.parted-left.result.2 in
    let is : items c.args.tree ≡ items l ++ own e ∷ items r = search rules in
    let gt : place_cmp k (place e) ≡ Greater = search rules in
    c.balanced-in-Greater.ensures ∙ (ap (λ x. items l ++ own e ∷ x) c.put_in-in-Greater.ensures ∙ sym (put_right k (items c.args.tree) (items l) (items r) (own e) is c.requires.sorted c.args.node.value.held gt))
