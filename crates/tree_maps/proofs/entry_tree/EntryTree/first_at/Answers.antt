use Rattle.std.proofs.Common.{◌≡◌, false, Some, ◌∙◌, ap}
use Rattle.std.specs.FinMap.{entries}
use Rattle.std.specs.Option.{option_map}
use Rattle.std.specs.Vec.{vec_len}
use Rattle.spare_map.specs.Trees.{first_where, is_from}
use Rattle.iv_types.specs.Maps.{entry_at}
use Rattle.table_store.specs.Lists.{Listed}
use Rattle.tree_maps.specs.Keyed.{keyed}
use Rattle.tree_maps.proofs.Trees.{at, told, told_none, told_never}
use Rattle.tree_maps.proofs.entry_tree.EntryTree.first_at.Goals as goal

pub returns-in_err-number : goal.returns-in_err-number
returns-in_err-number c =
    let held = c.self.inside.tree.entries in
    let key = c.args.key.now in
    let first : option_map keyed (first_where (is_from false (0, key)) (entries held)) ≡ entry_at c.args.self.now.map key =
    at held (vec_len c.self.inside.count) c.self.invariant key ∙ ap (λ (l : Listed). entry_at l.map key) c.self.view_is in
    ap (option_map (λ e. (e.0.now, e.1.now))) c.from_residual.ensures ∙ (told_none held (is_from false (0, key)) c.in_err-number.ensures ∙ first)

pub returns-in_err-value : goal.returns-in_err-value
returns-in_err-value c =
    absurd (told_never c.self.inside.tree.entries (is_from false (0, c.args.key.now)) (c.in_ok-number.number, c.in_ok-number.found.now) c.in_ok-number.ensures c.in_err-value.ensures)

pub returns : goal.returns
returns c =
    let held = c.self.inside.tree.entries in
    let key = c.args.key.now in
    let first : option_map keyed (first_where (is_from false (0, key)) (entries held)) ≡ entry_at c.args.self.now.map key =
    at held (vec_len c.self.inside.count) c.self.invariant key ∙ ap (λ (l : Listed). entry_at l.map key) c.self.view_is in
    ap (λ v. Some (c.in_ok-number.found.now, v)) c.as_slice.ensures
    ∙ (told held (is_from false (0, key)) (c.in_ok-number.number, c.in_ok-number.found.now) c.in_ok-value.value.now c.in_ok-number.ensures c.in_ok-value.ensures ∙ first)
