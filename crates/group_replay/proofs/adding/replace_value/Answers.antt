use Rattle.table_laws.specs.Place.{Place}
use Rattle.ghost_rows.proofs.StateLemmas.{stored_here, stored_elsewhere}
use Rattle.group_replay.proofs.adding.replace_value.Goals as goal

pub returns-clause-stored : goal.returns-clause-stored
returns-clause-stored g c =
    let place : Place = (c.args.view, c.args.group.now) in
    stored_here (g.M.SortedMaps.maps c.args.maps.now) (g.M.SortedMaps.maps c.replace.new.self) place c.args.value c.replace.ensures.entry

pub returns-clause-others : goal.returns-clause-others
returns-clause-others g c = λ q n.
    let place : Place = (c.args.view, c.args.group.now) in
    stored_elsewhere (g.M.SortedMaps.maps c.args.maps.now) (g.M.SortedMaps.maps c.replace.new.self) place q c.args.value c.replace.ensures.entry c.replace.ensures.others n
