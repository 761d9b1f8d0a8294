use Rattle.std.specs.Int.{w128}
use Rattle.std.specs.Prelude.{FitsSigned}
use Rattle.std.proofs.Common.{rules, ◌≡◌, sym, ap, ◌∙◌, ℤ, pos, Some, None}
use Rattle.table_laws.specs.Place.{Place}
use Rattle.iv_meaning.specs.Escrow.{value}
use Rattle.ghost_rows.specs.Kept.{account}
use Rattle.ghost_rows.specs.State.{stored_at}
use Rattle.ghost_rows.proofs.StateLemmas.{some_there}
use Rattle.ghost_rows.proofs.GhostLemmas.{same_value, zero_is, is_zero}
use Rattle.ghost_rows.proofs.view_rows.ViewRows.is_ghost.Goals as goal

pub returns-in-Some-clause-count : goal.returns-in-Some-clause-count
returns-in-Some-clause-count g c = λ many pays kept count v there.
    let r : ℤ = c.in-Some.count in
    let is : r ≡ count = same_value 0 r count pays _ (c.in-Some.ensures.count many pays kept) v in
    let fit : FitsSigned w128 r = search rules in
    (λ e. sym is ∙ zero_is r fit e, λ e. is_zero r (is ∙ e))

pub returns-in-Some-clause-answer : goal.returns-in-Some-clause-answer
returns-in-Some-clause-answer g c =
    let place : Place = (c.args.view, c.args.group.now) in
    let stored = stored_at (g.M.SortedMaps.maps c.args.maps.now) place in
    let r : ℤ = c.in-Some.count in
    let fit : FitsSigned w128 r = search rules in
    let kept = c.requires.2 in (
      λ e. record {
        many = c.requires.0;
        pays = c.requires.1;
        kept = kept;
        there = some_there stored (λ none. let no : Some r ≡ None = sym c.in-Some.is ∙ c.committed_count.ensures.none.1 none in cc);
        count = ap (λ z. value (account z 0 c.requires.1)) (sym (zero_is r fit e)) ∙ c.in-Some.ensures.count c.requires.0 c.requires.1 kept;
      },
      λ ghost. is_zero r (same_value 0 r (pos 0) ghost.pays _ (c.in-Some.ensures.count ghost.many ghost.pays ghost.kept) ghost.count),
    )
