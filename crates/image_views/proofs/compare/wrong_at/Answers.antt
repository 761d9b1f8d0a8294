use Rattle.std.proofs.Common.{◌≡◌, ◌≢◌, List, ℕ, Some, sym, ap, subst, ◌∙◌}
use Rattle.std.proofs.lemmas.Bool.{true≢false}
use Rattle.std.specs.FinMap.{get}
use Rattle.std.specs.Option.{option_copied}
use Rattle.image_views.specs.Rows.{entry_of}
use Rattle.image_views.proofs.Merging.{Says, same_at, wrong_at}
use Rattle.image_views.proofs.compare.wrong_at.Goals as goal

pub returns-then-is_stored : goal.returns-then-is_stored
returns-then-is_stored g c = λ width stored fresh s f counted.
    let k = c.args.row.now.group in
    let o = get (g.M.SortedMaps.maps c.args.maps.now c.args.view) k in
    let bytes : List ℕ = (entry_of c.args.row.now).1 in
    let there : option_copied c.get-stored.result ≡ o = c.get-stored.ensures ∙ ap (get (g.M.SortedMaps.maps c.args.maps.now c.args.view)) c.as_slice-group.ensures in
    let its : c.as_slice.result.now ≡ bytes = c.as_slice.ensures ∙ c.in_ok-fresh.ensures in
    let same : o ≡ Some bytes = sym there ∙ (c.is_stored.ensures.0 c.if-is_stored.true ∙ ap Some its) in
    same_at c.args.view k width o bytes stored fresh same s f

pub returns : goal.returns
returns g c = λ width stored fresh s f counted.
    let k = c.args.row.now.group in
    let o = get (g.M.SortedMaps.maps c.args.maps.now c.args.view) k in
    let bytes : List ℕ = (entry_of c.args.row.now).1 in
    let there : option_copied c.get-stored.result ≡ o = c.get-stored.ensures ∙ ap (get (g.M.SortedMaps.maps c.args.maps.now c.args.view)) c.as_slice-group.ensures in
    let its : c.as_slice.result.now ≡ bytes = c.as_slice.ensures ∙ c.in_ok-fresh.ensures in
    let also : c.as_slice-2.result.now ≡ bytes = c.as_slice-2.ensures ∙ c.in_ok-fresh.ensures in
    let other : o ≢ Some bytes = λ e. true≢false (sym (c.is_stored.ensures.1 (there ∙ (e ∙ ap Some (sym its)))) ∙ c.if-is_stored.false) in
    let wrong = c.in_ok-wrong_row in
    wrong_at c.args.view k width o bytes stored fresh other s f counted wrong.field-0 wrong.ensures.of.0 (wrong.ensures.of.1 ∙ c.as_slice-group.ensures)
    (subst (λ b. Says b wrong.field-0.stored) there wrong.ensures.stored) (subst (λ b. Says (Some b) wrong.field-0.fresh) also wrong.ensures.fresh)
