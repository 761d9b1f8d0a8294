use Rattle.std.specs.Int.{w128}
use Rattle.std.specs.Prelude.{FitsSigned}
use Rattle.std.proofs.Common.{rules, ◌∙◌, ap, ℤ}
use Rattle.std.proofs.lemmas.Int.{to_z-of_z}
use Rattle.ghost_rows.specs.Rows.{row_at}
use Rattle.ghost_rows.specs.State.{stored_at}
use Rattle.ghost_rows.specs.Kept.{account}
use Rattle.iv_meaning.specs.Escrow.{value}
use Rattle.ghost_rows.proofs.GhostLemmas.{room_for_one, count_stands}
use Rattle.ghost_rows.proofs.view_rows.ViewRows.committed_count.Goals as goal

pub count_of-requires : goal.count_of-requires
count_of-requires g c =
    let kept = c.requires.2 in
    room_for_one (stored_at (g.M.SortedMaps.maps c.args.maps.now) (c.args.view, c.args.group.now)) c.in-Some.stored.now c.requires.0 kept.numbers c.in-Some.ensures kept.has

pub returns-in-Some-clause-count : goal.returns-in-Some-clause-count
returns-in-Some-clause-count g c = λ many pays kept.
    let r : ℤ = c.count_of.result in
    let fit : FitsSigned w128 r = search rules in
    ap (λ z. value (account z 0 pays)) (to_z-of_z w128 r fit)
    ∙ count_stands (row_at c.args.self.now.rows (c.args.view, c.args.group.now)) (stored_at (g.M.SortedMaps.maps c.args.maps.now) (c.args.view, c.args.group.now)) c.in-Some.stored.now many pays r kept
    c.in-Some.ensures c.count_of.ensures.here c.count_of.ensures.closed
