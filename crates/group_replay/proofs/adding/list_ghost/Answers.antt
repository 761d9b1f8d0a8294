use Rattle.std.proofs.Common.{sym, subst}
use Rattle.std.proofs.lemmas.Result.{on_ok_weaker}
use Rattle.table_laws.specs.Place.{Place}
use Rattle.ghost_rows.specs.Candidates.{Places, IsAmong}
use Rattle.ghost_rows.proofs.CandidateLemmas.{added_here}
use Rattle.group_replay.proofs.adding.list_ghost.Goals as goal

pub returns-clause-candidate : goal.returns-clause-candidate
returns-clause-candidate c =
    let place : Place = (c.args.view, c.args.group.now) in
    on_ok_weaker c.add_candidate.result (λ is count sums fits bytes zero. subst (λ (m : Places). IsAmong m place) (sym is) (added_here c.args.views.now.candidates place)) c.add_candidate.ensures.ok
