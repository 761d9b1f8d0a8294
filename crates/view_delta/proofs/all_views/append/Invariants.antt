use Rattle.std.proofs.Common.{◌≡◌, ◌++◌}
use Rattle.view_delta.proofs.all_views.append.Given as goal

abbrev pub invariant-loop-row : goal.invariant-loop-row
invariant-loop-row l = l.rows ≡ l.fn.rows ++ l.yielded
