use Rattle.std.proofs.Common.{ap, ◌∙◌, [], ◌∷◌}
use Rattle.std.specs.FinMap.{get, get-empty}
use Rattle.std.specs.Cmp.Lexicographic.{slice_cmp}
use Rattle.std.specs.Ordering.{nat_cmp}
use Rattle.iv_types.specs.Maps.{Map}
use Rattle.ghost_rows.specs.Kept.{no_pays}
use Rattle.lock_cases.proofs.ghost_steps.write_both.Goals as goal

pub make_ghost-requires-clause-absent : goal.make_ghost-requires-clause-absent
make_ghost-requires-clause-absent c κs = ap (λ (m : Map). get m (7 ∷ [])) c.requires.none ∙ get-empty (slice_cmp nat_cmp) (7 ∷ [])

pub remove_ghost-requires-after_bounds : goal.remove_ghost-requires-after_bounds
remove_ghost-requires-after_bounds c κs = (1, c.in_ok-make_ghost.ensures.kept no_pays c.requires.kept, c.in_ok-make_ghost.ensures.made)
