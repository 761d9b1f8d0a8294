use Rattle.std.proofs.Common.{sym, subst}
use Rattle.std.proofs.lemmas.Result.{IfErr-weaker, on_err_weaker}
use Rattle.ghost_rows.specs.Rows.{OpenRow}
use Rattle.ghost_rows.specs.Kept.{IsPaid, Refuses}
use Rattle.ghost_rows.proofs.TableLemmas.{laid, laid_same, three_ok}
use Rattle.ghost_rows.proofs.table.Table.pay.Goals as goal

pub returns-clause-paid : goal.returns-clause-paid
returns-clause-paid c = three_ok c.pay-paid.result _ _ _ _ (λ before stands allowed prefixes row there.
    let here = laid c.args.self.now c.lift-row.new.self c.lay.new.self (c.args.view, c.args.group.now) c.lift-row.result row c.pay-paid.new.self c.lift-row.ensures.row c.lift-row.ensures.others c.lay.ensures there in (
      c.pay-paid.new.self,
      here.1,
      subst (λ (r : OpenRow). IsPaid c.args.session c.args.delta.now before r c.pay-paid.new.self) (sym here.0)
          (record { stands = stands; allowed = allowed; before_is = prefixes; same = c.pay-paid.ensures.same }),
    )) c.pay-paid.ensures.paid c.pay-paid.ensures.allowed c.pay-paid.ensures.before

pub returns-clause-refused : goal.returns-clause-refused
returns-clause-refused c = IfErr-weaker c.pay-paid.result _ _ (λ e told row there.
    let here = laid c.args.self.now c.lift-row.new.self c.lay.new.self (c.args.view, c.args.group.now) c.lift-row.result row c.pay-paid.new.self c.lift-row.ensures.row c.lift-row.ensures.others c.lay.ensures there in
    subst (λ (r : OpenRow). Refuses c.args.session c.args.delta.now r e.0 e.1.inf e.1.sup) (sym here.0) told) c.pay-paid.ensures.refused

pub returns-clause-err : goal.returns-clause-err
returns-clause-err c = on_err_weaker c.pay-paid.result (λ same q.
    laid_same c.args.self.now c.lift-row.new.self c.lay.new.self (c.args.view, c.args.group.now) c.lift-row.result c.pay-paid.new.self c.lift-row.ensures.row c.lift-row.ensures.others c.lay.ensures same q) c.pay-paid.ensures.err
