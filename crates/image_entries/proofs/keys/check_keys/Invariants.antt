use Rattle.std.proofs.Common.{[], take}
use Rattle.image_entries.specs.Entries.{NoneBad}
use Rattle.image_entries.specs.Parts.{parts_found, KeyFails}
use Rattle.image_entries.proofs.keys.check_keys.Given as goal

abbrev pub invariant-loop-i : goal.invariant-loop-i
invariant-loop-i l = NoneBad KeyFails [] (take l.i (parts_found l.parts))
