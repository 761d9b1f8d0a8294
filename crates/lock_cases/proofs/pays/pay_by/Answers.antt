use Rattle.lock_cases.proofs.pays.pay_by.Goals as goal

pub returns : goal.returns
returns c = record { kept = let left = c.in_ok-paid.ensures.kept c.requires.kept.0 c.requires.kept.1 in (left.0, left.1) }
