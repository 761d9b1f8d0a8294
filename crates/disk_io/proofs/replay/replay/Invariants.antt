use Rattle.std.proofs.Common.{◌≡◌, take}
use Rattle.disk_io.specs.Events.{after}
use Rattle.disk_io.specs.Record.{events}
use Rattle.disk_io.proofs.replay.replay.Given as goal

abbrev pub invariant-loop-call : goal.invariant-loop-call
invariant-loop-call l = l.onto ≡ after (events l.bytes (take l.call-index l.calls)) l.initial.onto
