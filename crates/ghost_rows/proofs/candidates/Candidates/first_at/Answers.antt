use Rattle.std.proofs.Common.{false, ap, ◌∙◌}
use Rattle.std.specs.Option.{option_map}
use Rattle.std.specs.FinMap.{entries}
use Rattle.spare_map.specs.Trees.{first_where, is_from}
use Rattle.ghost_rows.specs.Candidates.{Places}
use Rattle.ghost_rows.proofs.CandidateLemmas.{first_found, first_none}
use Rattle.ghost_rows.proofs.candidates.Candidates.first_at.Goals as goal

pub returns-clause-some : goal.returns-clause-some
returns-clause-some c =
    first_found false (c.args.view, c.args.group.now) c.args.self.now c.first_at.result (λ place. (place.0, place.1.now))
    (c.first_at.ensures ∙ ap (λ (m : Places). option_map (λ e. e.0) (first_where (is_from false (c.args.view, c.args.group.now)) (entries m))) c.self.view_is)

pub returns-clause-none : goal.returns-clause-none
returns-clause-none c =
    first_none false (c.args.view, c.args.group.now) c.args.self.now c.first_at.result (λ place. (place.0, place.1.now))
    (c.first_at.ensures ∙ ap (λ (m : Places). option_map (λ e. e.0) (first_where (is_from false (c.args.view, c.args.group.now)) (entries m))) c.self.view_is)
