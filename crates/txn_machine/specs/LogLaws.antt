-- No clause of `run` rests on this module: it serves contracts between crates.
--
-- The laws of the log's room.
use Rattle.std.specs.Prelude.{◌≡◌, ◌+◌, ◌≤◌, None}
use Rattle.txn_machine.specs.Log.{Within, block_bytes, reserved, carried}
use Rattle.txn_machine.specs.State.{State}
use Rattle.txn_machine.specs.Laws.{IsReached}

-- While an engine runs, what it used of its log and what it reserved there lie within a log area: so Pay, Ghost, UndoOne, End and
-- Commit find their room. And what a checkpoint would carry takes no more than what is used, so that it fits beside what is
-- reserved.
abbrev pub LogRoomLaw : Type 0
LogRoomLaw = (s : State) → IsReached s → Within s.opening.log_limit (block_bytes + 1) → s.stop ≡ None
    → Within s.opening.log_limit (s.log.used + reserved s.store s.log) × (block_bytes + 1 + carried s.store ≤ s.log.used)
