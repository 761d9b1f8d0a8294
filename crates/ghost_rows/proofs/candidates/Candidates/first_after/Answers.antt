use Rattle.std.proofs.Common.{true, ap, ◌∙◌}
use Rattle.std.specs.Option.{option_map}
use Rattle.std.specs.FinMap.{entries}
use Rattle.spare_map.specs.Trees.{first_where, is_from}
use Rattle.ghost_rows.specs.Candidates.{Places}
use Rattle.ghost_rows.proofs.CandidateLemmas.{first_found, first_none}
use Rattle.ghost_rows.proofs.candidates.Candidates.first_after.Goals as goal

pub returns-clause-some : goal.returns-clause-some
returns-clause-some c =
    first_found true (c.args.view, c.args.group.now) c.args.self.now c.first_after.result (λ place. (place.0, place.1.now))
    (c.first_after.ensures ∙ ap (λ (m : Places). option_map (λ e. e.0) (first_where (is_from true (c.args.view, c.args.group.now)) (entries m))) c.self.view_is)

pub returns-clause-none : goal.returns-clause-none
returns-clause-none c =
    first_none true (c.args.view, c.args.group.now) c.args.self.now c.first_after.result (λ place. (place.0, place.1.now))
    (c.first_after.ensures ∙ ap (λ (m : Places). option_map (λ e. e.0) (first_where (is_from true (c.args.view, c.args.group.now)) (entries m))) c.self.view_is)
