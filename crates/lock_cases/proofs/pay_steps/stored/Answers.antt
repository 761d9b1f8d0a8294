use mathlib.Core.Path.{ap, ◌∙◌}
use Rattle.std.specs.FinMap.{get, get-empty}
use Rattle.std.specs.Cmp.Lexicographic.{slice_cmp}
use Rattle.std.specs.Ordering.{nat_cmp}
use Rattle.iv_types.specs.Maps.{Map}
use Rattle.lock_cases.proofs.pay_steps.stored.Goals as goal

pub insert-requires-clause-absent : goal.insert-requires-clause-absent
insert-requires-clause-absent c = ap (λ (m : Map). get m c.in_ok-group.group) (c.reserve.ensures.maps 1 ∙ c.in_ok-maps.ensures 1) ∙ get-empty (slice_cmp nat_cmp) c.in_ok-group.group
