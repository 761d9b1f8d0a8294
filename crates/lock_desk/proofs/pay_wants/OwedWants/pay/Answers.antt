use Rattle.std.proofs.Common.{◌∙◌}
use Rattle.lock_desk.proofs.Dropping.{drop_next}
use Rattle.lock_desk.proofs.pay_wants.OwedWants.pay.Goals as goal

pub returns-then-self-len : goal.returns-then-self-len
returns-then-self-len c = λ wants more e. drop_next c.self.inside.paid c.self.inside.lists.items wants more (c.self.view_is ∙ e)
