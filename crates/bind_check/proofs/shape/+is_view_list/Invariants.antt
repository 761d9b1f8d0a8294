use Rattle.std.proofs.Common.{length}
use Rattle.bind_check.proofs.shape.+is_view_list.Given as goal

abbrev pub decreases-is_view_list : goal.decreases-is_view_list
decreases-is_view_list l = length l.group.now
