use Rattle.std.specs.Option.{option_copied}
use Rattle.image_views.proofs.Merging.{AreWalked}
use Rattle.image_views.proofs.compare.first_wrong.Given as goal

abbrev pub invariant-loop-index : goal.invariant-loop-index
invariant-loop-index g l = AreWalked (g.M.SortedMaps.maps l.maps l.view) l.fn.rows l.index (option_copied l.last)
