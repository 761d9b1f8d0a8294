use Rattle.std.proofs.Common.{◌≡◌, sym, ap, subst, ◌∙◌, refl}
use Rattle.std.proofs.lemmas.Bool.{true≢false}
use Rattle.table_laws.specs.Place.{Place}
use Rattle.ghost_rows.specs.Rows.{OpenRows, row_at}
use Rattle.ghost_rows.specs.State.{State, stored_at}
use Rattle.ghost_rows.specs.Ghosts.{IsGhostRow}
use Rattle.ghost_rows.proofs.ListedLemmas.{listed_as, gone_listed}
use Rattle.ghost_rows.proofs.view_rows.ViewRows.drop_unless_ghost.Goals as goal

pub returns-then-is_ghost-clause-answer : goal.returns-then-is_ghost-clause-answer
returns-then-is_ghost-clause-answer g c = (λ e. c.is_ghost.ensures.answer.0 c.if-is_ghost.true, λ ghost. refl)

pub returns-clause-answer : goal.returns-clause-answer
returns-clause-answer g c = (λ e. absurd (true≢false (sym e)), λ ghost. absurd (true≢false (sym (c.is_ghost.ensures.answer.1 ghost) ∙ c.if-is_ghost.false)))

pub returns-clause-listed : goal.returns-clause-listed
returns-clause-listed g c = λ q listed ghost.
    let place : Place = (c.args.view, c.args.group.now) in
    let maps = g.M.SortedMaps.maps c.args.maps.now in
    let rows : c.args.self.now.rows ≡ c.self.inside.rows = sym (ap (λ (s : State). s.rows) c.self.view_is) in
    let candidates : c.args.self.now.candidates ≡ c.self.inside.candidates = sym (ap (λ (s : State). s.candidates) c.self.view_is) in
    gone_listed place c.self.inside.rows maps maps c.self.inside.candidates c.forget.new.self (λ x n. refl) c.forget.ensures (λ here.
    true≢false (sym (c.is_ghost.ensures.answer.1 (subst (λ (l : OpenRows). IsGhostRow (row_at l place) (stored_at maps place)) (sym rows) here)) ∙ c.if-is_ghost.false))
    q (listed_as rows candidates maps q listed) ghost
