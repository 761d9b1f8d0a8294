use Rattle.std.proofs.Common.{◌≡◌, ◌+◌, ◌∙◌, sym, ap, subst, arith, None}
use Rattle.std.specs.FinMap as map
use Rattle.std.specs.Vec.{vec_len}
use Rattle.table_store.specs.Lists.{Listed}
use Rattle.tree_maps.specs.Keyed.{Held, map_of, AreOwn}
use Rattle.tree_maps.proofs.Trees.{got, own_new, put, most}
use Rattle.tree_maps.proofs.entry_tree.EntryTree.insert.Goals as goal

pub insert-requires-clause-new : goal.insert-requires-clause-new
insert-requires-clause-new c =
    let held = c.self.inside.tree.entries in
    got held (vec_len c.self.inside.count) c.self.invariant c.args.key ∙ (ap (λ (l : Listed). map.get l.map c.args.key) c.self.view_is ∙ c.requires.absent)

pub invariant_of-self : goal.invariant_of-self
invariant_of-self c =
    let held = c.self.inside.tree.entries in
    let absent : map.get (map_of held) c.args.key ≡ None = ap (λ (l : Listed). map.get l.map c.args.key) c.self.view_is ∙ c.requires.absent in
    let new = own_new held (vec_len c.self.inside.count) c.self.invariant c.args.key c.args.value c.requires.size absent in
    subst (λ (h : Held). AreOwn h (vec_len c.push.new.self)) (sym c.insert.ensures.entries)
    (subst (AreOwn (map.insert held (0, c.args.key) c.args.value)) (sym c.in-Ok.ensures.len) new)

pub returns-clause-entry : goal.returns-clause-entry
returns-clause-entry c =
    let held = c.self.inside.tree.entries in
    ap map_of c.insert.ensures.entries
    ∙ (put held (vec_len c.self.inside.count) c.self.invariant c.args.key c.args.value c.requires.size ∙ ap (λ (l : Listed). map.insert l.map c.args.key c.args.value) c.self.view_is)

pub returns-clause-most : goal.returns-clause-most
returns-clause-most c =
    let held = c.self.inside.tree.entries in
    let absent : map.get (map_of held) c.args.key ≡ None = ap (λ (l : Listed). map.get l.map c.args.key) c.self.view_is ∙ c.requires.absent in
    let new = own_new held (vec_len c.self.inside.count) c.self.invariant c.args.key c.args.value c.requires.size absent in
    most c.insert.new.self.entries (vec_len c.self.inside.count + 1) (subst (λ (h : Held). AreOwn h (vec_len c.self.inside.count + 1)) (sym c.insert.ensures.entries) new)
    (omega (arith, c.self.inside.count.ok, c.self.inside.count.small))
