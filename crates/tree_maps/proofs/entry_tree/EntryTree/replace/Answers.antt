use Rattle.std.proofs.Common.{◌≡◌, ◌∙◌, sym, ap, subst, arith, IsSome}
use Rattle.std.specs.FinMap as map
use Rattle.std.specs.Vec.{vec_len}
use Rattle.table_store.specs.Lists.{Listed}
use Rattle.tree_maps.specs.Keyed.{Held, map_of, AreOwn}
use Rattle.tree_maps.proofs.Trees.{got, own_replaced, put, most}
use Rattle.tree_maps.proofs.entry_tree.EntryTree.replace.Goals as goal

pub replace-requires : goal.replace-requires
replace-requires c =
    let held = c.self.inside.tree.entries in
    let key = c.args.key.now in
    let is : map.get held (0, key) ≡ map.get c.args.self.now.map key = got held (vec_len c.self.inside.count) c.self.invariant key ∙ ap (λ (l : Listed). map.get l.map key) c.self.view_is in
    record { held = subst IsSome (sym is) c.requires.there }

pub invariant_of-self : goal.invariant_of-self
invariant_of-self c =
    let held = c.self.inside.tree.entries in
    let key = c.args.key.now in
    let there : IsSome (map.get (map_of held) key) = subst (λ (l : Listed). IsSome (map.get l.map key)) (sym c.self.view_is) c.requires.there in
    subst (λ (h : Held). AreOwn h (vec_len c.self.inside.count)) (sym c.replace.ensures.entries)
    (own_replaced held (vec_len c.self.inside.count) c.self.invariant key c.args.value c.requires.size there)

pub returns-clause-was : goal.returns-clause-was
returns-clause-was c =
    let held = c.self.inside.tree.entries in
    let key = c.args.key.now in
    sym (got held (vec_len c.self.inside.count) c.self.invariant key ∙ ap (λ (l : Listed). map.get l.map key) c.self.view_is) ∙ c.replace.ensures.old

pub returns-clause-entry : goal.returns-clause-entry
returns-clause-entry c =
    let held = c.self.inside.tree.entries in
    let key = c.args.key.now in
    ap map_of c.replace.ensures.entries
    ∙ (put held (vec_len c.self.inside.count) c.self.invariant key c.args.value c.requires.size ∙ ap (λ (l : Listed). map.insert l.map key c.args.value) c.self.view_is)

pub returns-clause-most : goal.returns-clause-most
returns-clause-most c =
    let held = c.self.inside.tree.entries in
    let key = c.args.key.now in
    let there : IsSome (map.get (map_of held) key) = subst (λ (l : Listed). IsSome (map.get l.map key)) (sym c.self.view_is) c.requires.there in
    let new = own_replaced held (vec_len c.self.inside.count) c.self.invariant key c.args.value c.requires.size there in
    most c.replace.new.self.entries (vec_len c.self.inside.count) (subst (λ (h : Held). AreOwn h (vec_len c.self.inside.count)) (sym c.replace.ensures.entries) new)
    (omega (arith, c.self.inside.count.ok, c.self.inside.count.small))
