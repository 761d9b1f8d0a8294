use Rattle.std.proofs.Common.{◌-◌, length}
use Rattle.session_table.proofs.trying.+pass_from.Given as goal

abbrev pub decreases-pass_from : goal.decreases-pass_from
decreases-pass_from g l = length l.slots.now - l.place
