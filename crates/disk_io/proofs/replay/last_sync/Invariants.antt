use Rattle.std.proofs.Common.{◌≡◌, ◌≤◌, ℕ, take}
use Rattle.disk_io.specs.Images.{up_to_last}
use Rattle.disk_io.specs.Record.{is_sync_call}
use Rattle.disk_io.proofs.replay.last_sync.Given as goal

pub record IsLast (last i at : ℕ) : Type 0 where
  pub is : last ≡ at
  pub bound : last ≤ i

abbrev pub invariant-loop-i : goal.invariant-loop-i
invariant-loop-i l = IsLast l.last l.i (up_to_last is_sync_call (take l.i l.calls))
