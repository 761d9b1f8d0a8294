use Rattle.std.proofs.Common.{◌≡◌, length}
use Rattle.iv_types.specs.Trees.{perhaps_tree}
use Rattle.statement_law.specs.Changing.{chosen_by}
use Rattle.dml_exec.proofs.Chosen.{behind}
use Rattle.dml_exec.proofs.choosing.chosen.Given as goal

abbrev pub invariant-loop-row : goal.invariant-loop-row
invariant-loop-row l = behind l.chosen (chosen_by (perhaps_tree l.condition) l.rows.items) ≡ chosen_by (perhaps_tree l.condition) l.fn.rows

abbrev pub decreases-loop-row : goal.decreases-loop-row
decreases-loop-row l = length l.rows.items
