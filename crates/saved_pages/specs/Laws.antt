-- No clause of `run` rests on this module: it serves contracts between crates.
--
-- Bytes that have what a checkpoint saved, and records behind it, bear an image of the machine's log.
use Rattle.std.specs.Prelude.{ℕ, List}
use Rattle.txn_log.specs.Appended.{Image}
use Rattle.log_disk.specs.Bears.{Bears}
use Rattle.core_journal.specs.Cuts.{Cut}
use Rattle.log_journal.specs.Cuts.{BearsCut}
use Rattle.record_worlds.specs.Pages.{HoldsPages}
use Rattle.record_worlds.specs.Tied.{IsCutOf}

-- the image that the cut is of
abbrev pub BearsLaw : Type 0
BearsLaw = (room count : ℕ) (c : List ℕ) (x : Cut) → BearsCut room count c x → (i : Image) → IsCutOf HoldsPages x i → Bears room count c i
