use Rattle.std.proofs.Common.{◌≡◌, sym, ap, subst, ◌∙◌, Some, None}
use Rattle.std.specs.FinMap.{get, remove}
use Rattle.table_laws.specs.Place.{Place}
use Rattle.ghost_rows.specs.Rows.{row_at, settled_at}
use Rattle.ghost_rows.specs.Candidates.{Places, IsAmong}
use Rattle.ghost_rows.proofs.CandidateLemmas.{added_here, added_other, forgotten_other}
use Rattle.ghost_rows.proofs.settling.settle_seat.Goals as goal

pub returns-then-count-eq0-clause-here : goal.returns-then-count-eq0-clause-here
returns-then-count-eq0-clause-here c =
    let p : Place = (c.seat.inside.view, c.as_slice.result.now) in
    let is : p ≡ c.args.seat = ap (λ k. (c.seat.inside.view, k)) c.as_slice.ensures ∙ c.seat.view_is in
    record {
      row = subst (λ x. row_at c.settle.new.self x ≡ settled_at c.args.session (row_at c.args.rows.now x)) is c.settle.ensures.here;
      ghost = λ row there no_count. subst (λ (m : Places). IsAmong m c.args.seat) (sym c.add.ensures) (added_here c.args.candidates.now c.args.seat);
      other = λ none.
          let nothing : c.settle.result ≡ None = c.settle.ensures.none.1 (ap (row_at c.args.rows.now) is ∙ none) in
          absurd (let no : Some c.in-Some.count ≡ None = sym c.in-Some.is ∙ nothing in cc);
    }

pub returns-then-count-eq0-clause-candidates : goal.returns-then-count-eq0-clause-candidates
returns-then-count-eq0-clause-candidates c = λ q n. ap (λ (m : Places). get m q) c.add.ensures ∙ added_other c.args.candidates.now c.args.seat q n

pub returns-else-count-eq0-clause-candidates : goal.returns-else-count-eq0-clause-candidates
returns-else-count-eq0-clause-candidates c = λ q n.
    let is : (c.seat.inside.view, c.as_slice-else-count-eq0.result.now) ≡ c.args.seat = ap (λ k. (c.seat.inside.view, k)) c.as_slice-else-count-eq0.ensures ∙ c.seat.view_is in
    ap (λ (m : Places). get m q) (c.forget.ensures ∙ ap (remove c.args.candidates.now) is) ∙ forgotten_other c.args.candidates.now c.args.seat q n
