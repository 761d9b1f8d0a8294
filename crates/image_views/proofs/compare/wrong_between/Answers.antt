use Rattle.std.proofs.Common.{subst}
use Rattle.std.specs.Option.{option_copied}
use Rattle.iv_types.specs.Maps.{Entry}
use Rattle.image_views.specs.Rows.{IsBytesOf, Between}
use Rattle.image_views.proofs.Merging.{wrong_between}
use Rattle.image_views.proofs.compare.wrong_between.Goals as goal

pub wrong_row-requires-clause-stored : goal.wrong_row-requires-clause-stored
wrong_row-requires-clause-stored g c =
    let e : Entry = (c.in-Some.group.now, c.in-Some.value.now) in
    let stands = c.in-Some.ensures c.requires.0 c.requires.1 c.requires.2 in
    (c.requires.0, c.requires.1 e.0, subst (λ o. IsBytesOf c.requires.0 o (c.requires.1 e.0)) stands.there (c.requires.2 e.0))

pub returns-in_ok-wrong_row-in-Some : goal.returns-in_ok-wrong_row-in-Some
returns-in_ok-wrong_row-in-Some g c = λ width stored fresh are none.
    let m = g.M.SortedMaps.maps c.args.maps.now c.args.view in
    let wrong = c.in_ok-wrong_row-in-Some in
    wrong_between (Between (option_copied c.args.last) (option_copied c.args.next)) c.args.view m width stored fresh are (c.in-Some.group.now, c.in-Some.value.now) (c.in-Some.ensures width stored are) none
    wrong.field-0 wrong.ensures.of.0 wrong.ensures.of.1 wrong.ensures.stored wrong.ensures.fresh
