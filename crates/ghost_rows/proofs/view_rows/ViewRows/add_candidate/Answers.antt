use Rattle.std.proofs.Common.{◌≡◌, sym, ap, ◌∙◌, refl}
use Rattle.std.specs.FinMap.{insert}
use Rattle.table_laws.specs.Place.{Place}
use Rattle.ghost_rows.specs.State.{State}
use Rattle.ghost_rows.proofs.ListedLemmas.{listed_as, made_listed}
use Rattle.ghost_rows.proofs.view_rows.ViewRows.add_candidate.Goals as goal

pub returns-clause-listed : goal.returns-clause-listed
returns-clause-listed c = λ maps q listed ghost.
    let rows : c.args.self.now.rows ≡ c.self.inside.rows = sym (ap (λ (s : State). s.rows) c.self.view_is) in
    let candidates : c.args.self.now.candidates ≡ c.self.inside.candidates = sym (ap (λ (s : State). s.candidates) c.self.view_is) in
    made_listed (c.args.view, c.args.group.now) c.self.inside.rows maps maps c.self.inside.candidates c.add.new.self (λ x n. refl) (c.add.ensures ∙ ap (λ (p : Place). insert c.self.inside.candidates p tt) c.in_ok-seat.ensures)
    q (listed_as rows candidates maps q listed) ghost
