use Rattle.std.proofs.Common.{ℕ, ◌≡◌, List, subst, arith}
use Rattle.ordered_index.specs.Tree.{Tree}
use Rattle.ordered_index.proofs.Maps.{Grown, grown}
use Rattle.ordered_index.proofs.page_maps.PageMapsSortedMaps.insert.Goals as goal

more : (t u : Tree) (i : ℕ) (k v a b : List ℕ) → Grown t u i a b → a ≡ k → b ≡ v → Grown t u i k v
more t u i k v a b g e f = subst (λ (x : List ℕ). Grown t u i k x) f (subst (λ (x : List ℕ). Grown t u i x b) e g)

pub returns-clause-entry : goal.returns-clause-entry
returns-clause-entry c =
    let e = c.put.ensures in
    (more _ _ c.args.index c.args.key c.args.value _ _ (grown c.args.self.now c.put.new.self c.args.index c.as_slice.result.now c.as_slice-2.result.now e.was e.is e.pages e.all) c.as_slice.ensures c.as_slice-2.ensures).map

pub returns-clause-others : goal.returns-clause-others
returns-clause-others c =
    let e = c.put.ensures in
    (grown c.args.self.now c.put.new.self c.args.index c.as_slice.result.now c.as_slice-2.result.now e.was e.is e.pages e.all).others

pub returns-clause-spare : goal.returns-clause-spare
returns-clause-spare c =
    let e = c.put.ensures in
    let g = grown c.args.self.now c.put.new.self c.args.index c.as_slice.result.now c.as_slice-2.result.now e.was e.is e.pages e.all in
    omega (arith, g.spare)

pub returns-clause-other_spares : goal.returns-clause-other_spares
returns-clause-other_spares c = λ i ne.
    let e = c.put.ensures in
    let g = grown c.args.self.now c.put.new.self c.args.index c.as_slice.result.now c.as_slice-2.result.now e.was e.is e.pages e.all in
    omega (arith, g.other_spares i ne)
