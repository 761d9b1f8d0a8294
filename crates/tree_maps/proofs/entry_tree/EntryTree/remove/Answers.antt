use Rattle.std.proofs.Common.{◌≡◌, ◌-◌, ◌^◌, min, None, is_some, ◌∙◌, sym, ap, subst, arith, IsSome}
use mathlib.Core.Logic.{inl, inr}
use Rattle.std.proofs.lemmas.Bool.{cases_lt}
use Rattle.std.specs.FinMap as map
use Rattle.std.specs.Vec.{vec_len, vec_capacity}
use Rattle.table_store.specs.Lists.{Listed}
use Rattle.tree_maps.specs.Keyed.{Held, map_of, AreOwn}
use Rattle.tree_maps.proofs.Trees.{got, some, own_removed, removed, most, popped}
use Rattle.tree_maps.proofs.entry_tree.EntryTree.remove.Goals as goal

pub unreachable-requires : goal.unreachable-requires
unreachable-requires c =
    let key = c.args.key.now in
    let is : map.get c.self.inside.tree.entries (0, key) ≡ map.get c.args.self.now.map key =
    got c.self.inside.tree.entries (vec_len c.self.inside.count) c.self.invariant key ∙ ap (λ (l : Listed). map.get l.map key) c.self.view_is in
    let none : map.get c.args.self.now.map key ≡ None = sym is ∙ (sym c.remove.ensures.taken ∙ c.in-None.is) in
    let there = sym (ap is_some none) ∙ c.requires in
    cc

pub invariant_of-self : goal.invariant_of-self
invariant_of-self c =
    let held = c.self.inside.tree.entries in
    let count = vec_len c.self.inside.count in
    let key = c.args.key.now in
    let there : IsSome (map.get (map_of held) key) = subst (λ (l : Listed). IsSome (map.get l.map key)) (sym c.self.view_is) c.requires in
    subst (λ (h : Held). AreOwn h (vec_len c.pop.new.self)) (sym c.remove.ensures.entries)
    (subst (AreOwn (map.remove held (0, key))) (sym (popped c.pop.result count (vec_len c.pop.new.self) c.pop.ensures.cases)) (own_removed held count c.self.invariant key there))

pub returns-clause-was : goal.returns-clause-was
returns-clause-was c =
    let key = c.args.key.now in
    sym (got c.self.inside.tree.entries (vec_len c.self.inside.count) c.self.invariant key ∙ ap (λ (l : Listed). map.get l.map key) c.self.view_is)
    ∙ (sym c.remove.ensures.taken ∙ c.in-Some.is)

pub returns-clause-entry : goal.returns-clause-entry
returns-clause-entry c =
    let key = c.args.key.now in
    ap map_of c.remove.ensures.entries
    ∙ (removed c.self.inside.tree.entries (vec_len c.self.inside.count) c.self.invariant key ∙ ap (λ (l : Listed). map.remove l.map key) c.self.view_is)

pub returns-clause-most : goal.returns-clause-most
returns-clause-most c =
    let held = c.self.inside.tree.entries in
    let count = vec_len c.self.inside.count in
    let key = c.args.key.now in
    let there : IsSome (map.get (map_of held) key) = subst (λ (l : Listed). IsSome (map.get l.map key)) (sym c.self.view_is) c.requires in
    most c.remove.new.self.entries (count - 1) (subst (λ (h : Held). AreOwn h (count - 1)) (sym c.remove.ensures.entries) (own_removed held count c.self.invariant key there))
    (omega (arith, c.self.inside.count.ok, c.self.inside.count.small))

pub returns-clause-spare : goal.returns-clause-spare
returns-clause-spare c =
    let held = c.self.inside.tree.entries in
    let was = c.self.inside.count in
    let key = c.args.key.now in
    let there : IsSome (map.get (map_of held) key) = subst (λ (l : Listed). IsSome (map.get l.map key)) (sym c.self.view_is) c.requires in
    let spare : c.args.self.now.spare ≡ min c.self.inside.tree.room (vec_capacity was - vec_len was) = ap (λ (l : Listed). l.spare) (sym c.self.view_is) in
    let more = c.remove.ensures.more (ap is_some c.in-Some.is) in
    let left = popped c.pop.result (vec_len was) (vec_len c.pop.new.self) c.pop.ensures.cases in
    let one = some held (vec_len was) c.self.invariant key there in
    elim (cases_lt c.self.inside.tree.room (2 ^ 64 - 1)) [
      | inl lt ↦ omega (arith, was.ok, spare, more lt, c.pop.ensures.capacity, left, one)
      | inr ge ↦ omega (arith, was.ok, was.small, spare, c.remove.ensures.room, c.pop.ensures.capacity, left, one)
    ]
