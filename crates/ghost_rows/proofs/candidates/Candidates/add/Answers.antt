use Rattle.std.proofs.Common.{◌≡◌, sym, ap, ◌∙◌, Some}
use Rattle.std.specs.FinMap.{get}
use Rattle.table_laws.specs.Place.{Place}
use Rattle.ghost_rows.specs.Candidates.{Places}
use Rattle.ghost_rows.proofs.CandidateLemmas.{added_again, unit_there}
use Rattle.ghost_rows.proofs.candidates.Candidates.add.Goals as goal

pub returns-else-is_none : goal.returns-else-is_none
returns-else-is_none c =
    let p : Place = (c.seat.inside.view, c.as_slice.result.now) in
    let is : p ≡ c.args.seat = ap (λ k. (c.seat.inside.view, k)) c.as_slice.ensures ∙ c.seat.view_is in
    let there : get c.args.self.now p ≡ Some tt = sym (ap (λ (m : Places). get m p) c.self.view_is) ∙ (sym c.get.ensures ∙ unit_there c.get.result c.if-is_none.ensures) in
    sym (added_again c.args.self.now c.args.seat (ap (get c.args.self.now) (sym is) ∙ there))
