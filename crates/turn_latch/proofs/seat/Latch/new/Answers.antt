use Rattle.std.proofs.Common.{List, [], ◌∷◌, ◌++◌, Option, Some, sym, subst, ◌∙◌, ap}
use Rattle.atomic_table.specs.Table.{opening}
use Rattle.turn_latch.specs.Latched.{Latched}
use Rattle.turn_latch.specs.Views.{first_view}
use Rattle.turn_latch.proofs.Seats.{opens}
use Rattle.turn_latch.proofs.seat.Latch.new.Goals as goal

pub new-requires : goal.new-requires
new-requires g c =
    let items = c.in_default.ensures.items ∙ ap (λ l. l ++ Some c.args.value ∷ []) c.new-slots.ensures.items in
    subst (λ (p : List (Option g.row.T.Denot) × g.row.T.Denot). Latched g.T.Parted.history g.T.Parted.by g.T.Parted.part (opening (0 ∷ []) p.0 (first_view p.1))) (λ i. (sym items i, sym c.of-about.ensures i))
    (opens g.T.Parted.history g.T.Parted.by g.T.Parted.part c.args.value c.requires)
