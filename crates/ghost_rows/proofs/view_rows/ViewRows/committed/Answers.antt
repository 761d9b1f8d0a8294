use Rattle.std.proofs.Common.{◌∙◌, suc}
use Rattle.ghost_rows.specs.Rows.{row_at}
use Rattle.ghost_rows.specs.State.{stored_at}
use Rattle.ghost_rows.proofs.StateLemmas.{has_length}
use Rattle.ghost_rows.proofs.GhostLemmas.{are_committed}
use Rattle.ghost_rows.proofs.view_rows.ViewRows.committed.Goals as goal

pub numbers_less-requires : goal.numbers_less-requires
numbers_less-requires g c =
    let kept = c.requires.2 in
    (suc c.requires.0, has_length (stored_at (g.M.SortedMaps.maps c.args.maps.now) (c.args.view, c.args.group.now)) c.in-Some.stored.now (suc c.requires.0) kept.numbers c.in-Some.ensures kept.has)

pub returns-clause-numbers : goal.returns-clause-numbers
returns-clause-numbers g c =
    are_committed (row_at c.args.self.now.rows (c.args.view, c.args.group.now)) (stored_at (g.M.SortedMaps.maps c.args.maps.now) (c.args.view, c.args.group.now)) c.in-Some.stored.now c.from_vec.result c.in-Some.ensures
    (λ row there. c.from_vec.ensures ∙ c.in_ok-numbers.ensures.here row there)
    (λ none numbers fits is. c.from_vec.ensures ∙ c.in_ok-numbers.ensures.closed none numbers fits is)
