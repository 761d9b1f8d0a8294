use Rattle.std.proofs.Common.{rules, ◌≡◌, ◌++◌, ◌∷◌, Some, IsSome, sym, ap, ◌∙◌, subst, Less, Equal, Greater}
use Rattle.table_laws.specs.Place.{Place, place_cmp}
use Rattle.spare_map.specs.Trees.{items, own, place}
use Rattle.spare_map.proofs.Around.{fewer_left, fewer_right, sorted_left, sorted_right, find_left, find_right, find_here, put_left, put_right, put_here}
use Rattle.spare_map.proofs.change.+swap.Goals as goal

pub swap-requires : goal.swap-requires
swap-requires g n c κs within =
    let k : Place = (c.args.index, c.args.key.now) in
    let t = items c.args.tree.now in
    let e = c.deref_mut.result.now in
    let is : items c.args.tree.now ≡ items e.left ++ own e ∷ items e.right = search rules in
    let found : place_cmp k (place e) ≡ Less = search rules in (
      search (rules, fewer_left k t (items e.left) (items e.right) (own e) is),
      (within, (sorted_left k t (items e.left) (items e.right) (own e) is c.requires.sorted, subst IsSome (find_left k t (items e.left) (items e.right) (own e) is c.requires.sorted found) c.requires.held)),
    )

pub swap-requires-in-Greater : goal.swap-requires-in-Greater
swap-requires-in-Greater g n c κs within =
    let k : Place = (c.args.index, c.args.key.now) in
    let t = items c.args.tree.now in
    let e = c.deref_mut-in-Greater.result.now in
    let is : items c.args.tree.now ≡ items e.left ++ own e ∷ items e.right = search rules in
    let found : place_cmp k (place e) ≡ Greater = search rules in (
      search (rules, fewer_right k t (items e.left) (items e.right) (own e) is),
      (within, (sorted_right k t (items e.left) (items e.right) (own e) is c.requires.sorted, subst IsSome (find_right k t (items e.left) (items e.right) (own e) is c.requires.sorted found) c.requires.held)),
    )

pub returns-in-Less-clause-put : goal.returns-in-Less-clause-put
returns-in-Less-clause-put g n c =
    let k : Place = (c.args.index, c.args.key.now) in
    let t = items c.args.tree.now in
    let e = c.deref_mut.result.now in
    let is : items c.args.tree.now ≡ items e.left ++ own e ∷ items e.right = search rules in
    let found : place_cmp k (place e) ≡ Less = search rules in
    ap (λ x. x ++ own e ∷ items e.right) c.swap.ensures.put ∙ sym (put_left k t (items e.left) (items e.right) (own e) is c.requires.sorted c.args.value found)

pub returns-in-Less-clause-found : goal.returns-in-Less-clause-found
returns-in-Less-clause-found g n c =
    let k : Place = (c.args.index, c.args.key.now) in
    let t = items c.args.tree.now in
    let e = c.deref_mut.result.now in
    let is : items c.args.tree.now ≡ items e.left ++ own e ∷ items e.right = search rules in
    let found : place_cmp k (place e) ≡ Less = search rules in
    find_left k t (items e.left) (items e.right) (own e) is c.requires.sorted found ∙ c.swap.ensures.found

pub returns-in-Greater-clause-put : goal.returns-in-Greater-clause-put
returns-in-Greater-clause-put g n c =
    let k : Place = (c.args.index, c.args.key.now) in
    let t = items c.args.tree.now in
    let e = c.deref_mut-in-Greater.result.now in
    let is : items c.args.tree.now ≡ items e.left ++ own e ∷ items e.right = search rules in
    let found : place_cmp k (place e) ≡ Greater = search rules in
    ap (λ x. items e.left ++ own e ∷ x) c.swap-in-Greater.ensures.put ∙ sym (put_right k t (items e.left) (items e.right) (own e) is c.requires.sorted c.args.value found)

pub returns-in-Greater-clause-found : goal.returns-in-Greater-clause-found
returns-in-Greater-clause-found g n c =
    let k : Place = (c.args.index, c.args.key.now) in
    let t = items c.args.tree.now in
    let e = c.deref_mut-in-Greater.result.now in
    let is : items c.args.tree.now ≡ items e.left ++ own e ∷ items e.right = search rules in
    let found : place_cmp k (place e) ≡ Greater = search rules in
    find_right k t (items e.left) (items e.right) (own e) is c.requires.sorted found ∙ c.swap-in-Greater.ensures.found

pub returns-in-Equal-clause-put : goal.returns-in-Equal-clause-put
returns-in-Equal-clause-put g n c =
    let k : Place = (c.args.index, c.args.key.now) in
    let t = items c.args.tree.now in
    let e = c.deref_mut-in-Equal.result.now in
    let is : items c.args.tree.now ≡ items e.left ++ own e ∷ items e.right = search rules in
    let found : place_cmp k (place e) ≡ Equal = search rules in
    ap (λ v. items e.left ++ (place e, v) ∷ items e.right) c.replace.ensures.after ∙ sym (put_here k t (items e.left) (items e.right) (own e) is c.requires.sorted c.args.value found)

pub returns-in-Equal-clause-found : goal.returns-in-Equal-clause-found
returns-in-Equal-clause-found g n c =
    let k : Place = (c.args.index, c.args.key.now) in
    let t = items c.args.tree.now in
    let e = c.deref_mut-in-Equal.result.now in
    let is : items c.args.tree.now ≡ items e.left ++ own e ∷ items e.right = search rules in
    let found : place_cmp k (place e) ≡ Equal = search rules in
    find_here k t (items e.left) (items e.right) (own e) is c.requires.sorted found ∙ ap Some (sym c.replace.ensures.value)
