use Rattle.ordered_index.proofs.Playing.{Going}
use Rattle.ordered_index.proofs.law.play_all.Given as goal

abbrev pub invariant-loop-call : goal.invariant-loop-call
invariant-loop-call g l = Going l.calls (g.M.SortedMaps.maps l.fn.maps) l.call-index (g.M.SortedMaps.maps l.maps) (g.M.SortedMaps.spare l.maps) (g.M.SortedMaps.limit l.maps) l.answers.items
