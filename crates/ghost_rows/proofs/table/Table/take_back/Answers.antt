use Rattle.std.proofs.Common.{sym, subst}
use Rattle.ghost_rows.specs.Rows.{OpenRow}
use Rattle.ghost_rows.specs.Kept.{IsTaken}
use Rattle.ghost_rows.proofs.TableLemmas.{laid}
use Rattle.ghost_rows.proofs.table.Table.take_back.Goals as goal

pub returns : goal.returns
returns c = λ row there.
    let here = laid c.args.self.now c.lift-row.new.self c.lay.new.self (c.args.view, c.args.group.now) c.lift-row.result row c.take_back.new.self c.lift-row.ensures.row c.lift-row.ensures.others c.lay.ensures there in (
      c.take_back.new.self,
      here.1,
      subst (λ (r : OpenRow). IsTaken c.args.session c.args.delta.now c.args.before.now r c.take_back.new.self) (sym here.0)
          (record { stands = c.take_back.ensures.taken; same = c.take_back.ensures.same }),
    )
