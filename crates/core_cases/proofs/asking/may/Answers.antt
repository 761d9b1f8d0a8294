use Rattle.std.proofs.Common.{inr}
use Rattle.txn_book.specs.Acts.{act_of}
use Rattle.core_cases.proofs.Asked.{on_ok, asks}
use Rattle.core_cases.proofs.asking.may.Goals as goal

pub returns : goal.returns
returns c = on_ok c.may_act.result _ _ (λ act s h. (asks s.store c.args.step.now.session (act_of c.args.step.now.act) (act s h), inr (act s h))) c.may_act.ensures
