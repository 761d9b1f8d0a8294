use Rattle.std.proofs.Common.{Some, ◌∙◌, sym, ap}
use Rattle.std.specs.FinMap as map
use Rattle.std.specs.Option.{option_copied}
use Rattle.std.specs.Vec.{vec_len}
use Rattle.table_store.specs.Lists.{Listed}
use Rattle.tree_maps.proofs.Trees.{got}
use Rattle.tree_maps.proofs.entry_tree.EntryTree.get.Goals as goal

pub returns-in-Some : goal.returns-in-Some
returns-in-Some c =
    let held = c.self.inside.tree.entries in
    let key = c.args.key.now in
    ap Some c.as_slice.ensures
    ∙ (ap option_copied (sym c.in-Some.is)
    ∙ (c.get.ensures ∙ (got held (vec_len c.self.inside.count) c.self.invariant key ∙ ap (λ (l : Listed). map.get l.map key) c.self.view_is)))

pub returns-in-None : goal.returns-in-None
returns-in-None c =
    let held = c.self.inside.tree.entries in
    let key = c.args.key.now in
    ap option_copied (sym c.in-None.is)
    ∙ (c.get.ensures ∙ (got held (vec_len c.self.inside.count) c.self.invariant key ∙ ap (λ (l : Listed). map.get l.map key) c.self.view_is))
