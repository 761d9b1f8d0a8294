-- No clause of `run` rests on this module: it serves contracts between crates.
--
-- The exit statuses.
use Rattle.std.specs.Prelude.{ℕ}
use Rattle.script_run.specs.declared.status.Status.{Status}
use Rattle.script_run.specs.declared.status.Status.TheVariants.{Done, Usage, ReadFault, WriteFault, DiskFault, BadImage, NoMemory, TooMuch}

abbrev pub code_of : Status → ℕ
code_of Done = 0
code_of Usage = 1
code_of ReadFault = 2
code_of WriteFault = 3
code_of DiskFault = 4
code_of BadImage = 5
code_of NoMemory = 6
code_of TooMuch = 8
