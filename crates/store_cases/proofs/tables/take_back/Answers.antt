use Rattle.iv_meaning.specs.Database.{set_row}
use Rattle.store_cases.proofs.tables.take_back.Goals as goal

pub returns-in-Ok : goal.returns-in-Ok
returns-in-Ok c =
    let held = c.in-Ok.ensures.held in
    let change = c.args.kept.change in
    (set_row held.0 change.table change.key change.before, c.take_back.ensures.rows held.0 held.1)
