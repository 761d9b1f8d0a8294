use Rattle.std.proofs.Common.{◌≡◌, ℕ, ap, ◌∙◌}
use Rattle.iv_types.specs.Maps.{Map}
use Rattle.table_laws.specs.Place.{Place}
use Rattle.ghost_rows.specs.State.{stored_at}
use Rattle.ghost_rows.proofs.StateLemmas.{stored_here, stored_elsewhere}
use Rattle.image_store.proofs.groups.put_value.Goals as goal

pub returns-clause-stored : goal.returns-clause-stored
returns-clause-stored g c =
    let place : Place = (c.args.view, c.args.group) in
    stored_here (g.M.SortedMaps.maps c.reserve.new.self) (g.M.SortedMaps.maps c.insert.new.self) place c.args.value c.insert.ensures.entry

pub returns-clause-others : goal.returns-clause-others
returns-clause-others g c = λ q n.
    let place : Place = (c.args.view, c.args.group) in
    let same : g.M.SortedMaps.maps c.reserve.new.self ≡ g.M.SortedMaps.maps c.args.maps.now = λ i x. c.reserve.ensures.maps x i in
    stored_elsewhere (g.M.SortedMaps.maps c.reserve.new.self) (g.M.SortedMaps.maps c.insert.new.self) place q c.args.value c.insert.ensures.entry c.insert.ensures.others n
    ∙ ap (λ (m : ℕ → Map). stored_at m q) same
