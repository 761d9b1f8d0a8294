use Rattle.std.proofs.Common.{sym, subst}
use Rattle.std.proofs.lemmas.Result.{on_ok_weaker}
use Rattle.std.specs.Prelude.{IfSome}
use Rattle.ghost_rows.specs.Rows.{OpenRow, HasRoom}
use Rattle.ghost_rows.specs.Kept.{Keeps}
use Rattle.ghost_rows.proofs.TableLemmas.{laid}
use Rattle.ghost_rows.proofs.table.Table.reserve.Goals as goal

pub returns-clause-keeps : goal.returns-clause-keeps
returns-clause-keeps c = λ row there.
    let here = laid c.args.self.now c.lift-row.new.self c.lay.new.self (c.args.view, c.args.group.now) c.lift-row.result row c.reserve-made.new.self c.lift-row.ensures.row c.lift-row.ensures.others c.lay.ensures there in
    (c.reserve-made.new.self, here.1, subst (λ (r : OpenRow). Keeps c.args.session r c.reserve-made.new.self) (sym here.0) c.reserve-made.ensures.keeps)

pub returns-clause-room : goal.returns-clause-room
returns-clause-room c = on_ok_weaker c.reserve-made.result (λ room.
    let here = laid c.args.self.now c.lift-row.new.self c.lay.new.self (c.args.view, c.args.group.now) c.lift-row.result c.lift-row.result c.reserve-made.new.self c.lift-row.ensures.row c.lift-row.ensures.others c.lay.ensures c.lift-row.ensures.row in
    subst (λ o. IfSome o (HasRoom c.args.session)) (sym here.1.here) room) c.reserve-made.ensures.room
