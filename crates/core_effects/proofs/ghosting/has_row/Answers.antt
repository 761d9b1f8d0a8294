use Rattle.std.proofs.Common.{◌≡◌, Bool, Bor, Option, Some, None, ap, ◌∙◌}
use Rattle.std.specs.Prelude.{is_some}
use Rattle.std.specs.Option.{option_copied}
use Rattle.std.specs.FinMap.{get}
use Rattle.iv_types.specs.declared.lock.GroupDelta.{GroupDelta}
use Rattle.core_effects.proofs.Deltas.{first_is}
use Rattle.core_effects.proofs.Ghosted.{row_there}
use Rattle.core_effects.proofs.ghosting.has_row.Goals as goal

pub returns : goal.returns
returns g c = λ s l texts o h.
    let core = c.args.core.now in
    let is = first_is g.M.SortedMaps.maps g.M.SortedMaps.spare g.M.SortedMaps.limit core s l texts c.args.session h o c.open_of.result.now c.open_of.ensures c.first_owed-delta.result.now c.first_owed-delta.ensures in
    let at : get (g.M.SortedMaps.maps core.store.tables c.first_owed-delta.result.now.view) c.as_slice.result.now ≡ get (g.M.SortedMaps.maps core.store.tables o.first.view) o.first.group =
    (λ x. get (g.M.SortedMaps.maps core.store.tables (is x).view) ((c.as_slice.ensures ∙ ap (λ (d : GroupDelta). d.group) is) x)) in
    copied_some c.get.result c.is_some.result c.is_some.ensures ∙ (ap is_some (c.get.ensures ∙ (ap (λ m. get (g.M.SortedMaps.maps m c.first_owed-delta.result.now.view) c.as_slice.result.now) c.maps.ensures ∙ at)) ∙ row_there g.M.SortedMaps.maps g.M.SortedMaps.spare g.M.SortedMaps.limit core s l texts c.args.session h o)
  where
    copied_some : {X : Type 0} (r : Option (Bor X)) (b : Bool) → b ≡ is_some r → b ≡ is_some (option_copied r)
    copied_some None b e = e
    copied_some (Some x) b e = e
