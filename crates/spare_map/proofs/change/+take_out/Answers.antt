use Rattle.std.proofs.Common.{rules, ◌≡◌, ◌++◌, ◌∷◌, sym, ap, ◌∙◌, Less, Equal, Greater}
use Rattle.table_laws.specs.Place.{Place, place_cmp}
use Rattle.table_laws.proofs.Place.{place_cmp-IsAntisymmetric}
use Rattle.spare_map.specs.Trees.{items, own, place}
use Rattle.spare_map.proofs.Around.{fewer_left, fewer_right, sorted_left, sorted_right, find_left, find_right, find_here, without_left, without_right, without_here}
use Rattle.spare_map.proofs.change.+take_out.Goals as goal

pub take_out-left-requires : goal.take_out-left-requires
take_out-left-requires g n c κs within =
    let k : Place = (c.args.index, c.args.key.now) in
    let t = items c.args.tree in
    let l = c.parted-left.result.0 in
    let e = c.parted-left.result.1.value in
    let r = c.parted-left.result.2 in
    let is : items c.args.tree ≡ items l ++ own e ∷ items r = search rules in (
      search (rules, fewer_left k t (items l) (items r) (own e) is),
      (within, sorted_left k t (items l) (items r) (own e) is c.requires.sorted),
    )

pub take_out-right-requires : goal.take_out-right-requires
take_out-right-requires g n c κs within =
    let k : Place = (c.args.index, c.args.key.now) in
    let t = items c.args.tree in
    let l = c.parted-left.result.0 in
    let e = c.parted-left.result.1.value in
    let r = c.parted-left.result.2 in
    let is : items c.args.tree ≡ items l ++ own e ∷ items r = search rules in (
      search (rules, fewer_right k t (items l) (items r) (own e) is),
      (within, sorted_right k t (items l) (items r) (own e) is c.requires.sorted),
    )

pub returns-in-Less-clause-rest : goal.returns-in-Less-clause-rest
returns-in-Less-clause-rest g n c =
    let k : Place = (c.args.index, c.args.key.now) in
    let t = items c.args.tree in
    let l = c.parted-left.result.0 in
    let e = c.parted-left.result.1.value in
    let r = c.parted-left.result.2 in
    let is : items c.args.tree ≡ items l ++ own e ∷ items r = search rules in
    let found : place_cmp k (place e) ≡ Less = search rules in
    c.balanced.ensures ∙ (ap (λ x. x ++ own e ∷ items r) c.take_out-left.ensures.rest ∙ sym (without_left k t (items l) (items r) (own e) is c.requires.sorted found))

pub returns-in-Less-clause-taken : goal.returns-in-Less-clause-taken
returns-in-Less-clause-taken g n c =
    let k : Place = (c.args.index, c.args.key.now) in
    let t = items c.args.tree in
    let l = c.parted-left.result.0 in
    let e = c.parted-left.result.1.value in
    let r = c.parted-left.result.2 in
    let is : items c.args.tree ≡ items l ++ own e ∷ items r = search rules in
    let found : place_cmp k (place e) ≡ Less = search rules in
    c.take_out-left.ensures.taken ∙ sym (find_left k t (items l) (items r) (own e) is c.requires.sorted found)

pub returns-in-Greater-clause-rest : goal.returns-in-Greater-clause-rest
returns-in-Greater-clause-rest g n c =
    let k : Place = (c.args.index, c.args.key.now) in
    let t = items c.args.tree in
    let l = c.parted-left.result.0 in
    let e = c.parted-left.result.1.value in
    let r = c.parted-left.result.2 in
    let is : items c.args.tree ≡ items l ++ own e ∷ items r = search rules in
    let found : place_cmp k (place e) ≡ Greater = search rules in
    c.balanced-in-Greater.ensures ∙ (ap (λ x. items l ++ own e ∷ x) c.take_out-right.ensures.rest ∙ sym (without_right k t (items l) (items r) (own e) is c.requires.sorted found))

pub returns-in-Greater-clause-taken : goal.returns-in-Greater-clause-taken
returns-in-Greater-clause-taken g n c =
    let k : Place = (c.args.index, c.args.key.now) in
    let t = items c.args.tree in
    let l = c.parted-left.result.0 in
    let e = c.parted-left.result.1.value in
    let r = c.parted-left.result.2 in
    let is : items c.args.tree ≡ items l ++ own e ∷ items r = search rules in
    let found : place_cmp k (place e) ≡ Greater = search rules in
    c.take_out-right.ensures.taken ∙ sym (find_right k t (items l) (items r) (own e) is c.requires.sorted found)

pub returns-in-Equal-clause-rest : goal.returns-in-Equal-clause-rest
returns-in-Equal-clause-rest g n c =
    let k : Place = (c.args.index, c.args.key.now) in
    let t = items c.args.tree in
    let l = c.parted-left.result.0 in
    let e = c.parted-left.result.1.value in
    let r = c.parted-left.result.2 in
    let is : items c.args.tree ≡ items l ++ own e ∷ items r = search rules in
    let found : place_cmp k (place e) ≡ Equal = search rules in
    c.merged.ensures ∙ sym (without_here k t (items l) (items r) (own e) is c.requires.sorted found)

pub returns-in-Equal-clause-taken : goal.returns-in-Equal-clause-taken
returns-in-Equal-clause-taken g n c =
    let k : Place = (c.args.index, c.args.key.now) in
    let t = items c.args.tree in
    let l = c.parted-left.result.0 in
    let e = c.parted-left.result.1.value in
    let r = c.parted-left.result.2 in
    let is : items c.args.tree ≡ items l ++ own e ∷ items r = search rules in
    let found : place_cmp k (place e) ≡ Equal = search rules in
    sym (find_here k t (items l) (items r) (own e) is c.requires.sorted found)

pub returns-in-Equal-clause-at : goal.returns-in-Equal-clause-at
returns-in-Equal-clause-at g n c =
    let e = c.parted-left.result.1.value in
    let same : place_cmp (c.args.index, c.args.key.now) (place e) ≡ Equal = search rules in
    sym (place_cmp-IsAntisymmetric (c.args.index, c.args.key.now) (place e) same)
