use Rattle.std.proofs.Common.{[], take}
use Rattle.txn_log.specs.Damaged.{with_next}
use Rattle.image_entries.specs.Entries.{NoneBad}
use Rattle.image_entries.specs.Parts.{parts_found, SizeFails}
use Rattle.image_entries.proofs.keys.check_sizes.Given as goal

abbrev pub invariant-loop-i : goal.invariant-loop-i
invariant-loop-i l = NoneBad SizeFails [] (take l.i (with_next (parts_found l.parts)))
