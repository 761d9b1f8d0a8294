use Rattle.std.proofs.Common.{◌≡◌, ap, ◌∙◌, None}
use Rattle.std.specs.FinMap.{get-empty}
use Rattle.table_laws.specs.Place.{Place, place_cmp}
use Rattle.ghost_rows.specs.Rows.{OpenRows, row_at}
use Rattle.ghost_rows.proofs.SeatLemmas.{none_open, none_seated}
use Rattle.ghost_rows.proofs.view_rows.ViewRows.forget_rows.Goals as goal

pub invariant_of-self : goal.invariant_of-self
invariant_of-self c =
    let none : (q : Place) → row_at c.new.result q ≡ None = λ q. ap (λ (l : OpenRows). row_at l q) c.new.ensures ∙ get-empty place_cmp q in
    (c.self.invariant.0, c.self.invariant.1, none_open c.new.result none, none_seated c.new.result c.self.inside.seats.items none)
