use Rattle.std.proofs.Common.{List, ◌++◌}
use Rattle.txn_log.specs.Damaged.{Found}
use Rattle.image_entries.specs.Entries.{Gathers}
use Rattle.image_entries.proofs.Pages.{found_first}
use Rattle.image_entries.proofs.twice.take_page.Given as goal

abbrev pub invariant-loop-i : goal.invariant-loop-i
invariant-loop-i l = (fs : List Found) → Gathers l.fn.entries.entries fs → Gathers l.entries.entries (fs ++ found_first l.place l.page l.i)
