use Rattle.std.proofs.Common.{arith}
use Rattle.core_changes.proofs.putting.kept_room.Goals as goal

pub returns : goal.returns
returns g c =
    let all = c.saturating_add.ensures in
    let back = c.growth_back.ensures in
    let rows = c.rows_room.ensures in
    omega (arith, all, back, rows)
