use Rattle.script_runs.proofs.Worked.{freed_room_is_serial}
use Rattle.script_runs.proofs.freed_room_is_serial.Goals as goal

pub returns : goal.returns
returns c = freed_room_is_serial
