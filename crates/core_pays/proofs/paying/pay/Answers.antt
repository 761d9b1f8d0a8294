use Rattle.core_pays.proofs.paying.pay.Goals as goal

pub pay_held-requires-after_bounds : goal.pay_held-requires-after_bounds
pay_held-requires-after_bounds g c κs within = (c.requires.0, c.in-Ok.ensures.holds c.requires.0 c.requires.1 c.requires.2)

pub returns-in-Ok : goal.returns-in-Ok
returns-in-Ok g c = λ s h may. c.pay_held.ensures s (c.in-Ok.ensures.holds s h may)
