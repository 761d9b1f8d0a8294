use Rattle.std.proofs.Common.{refl, rules, FitsSigned}
use Rattle.std.specs.Int.{w128}
use Rattle.std.proofs.lemmas.Int.{to_z-of_z}
use Rattle.escrow_bounds.proofs.KeepLemmas.{never_true, false_true}
use Rattle.escrow_bounds.proofs.escrow.moved_in_range.Goals as goal

pub returns-in_err-sup-clause-huge : goal.returns-in_err-sup-clause-huge
returns-in_err-sup-clause-huge c =
    let f0 : FitsSigned w128 c.args.bounds.sup = search rules in
    let f1 : FitsSigned w128 c.args.from.hi = search rules in
    let f2 : FitsSigned w128 c.args.to.hi = search rules in
    let k = simp to_z-of_z at c.in_err-sup.ensures.huge in
    (λ s. absurd (never_true c.from_residual-in_err-sup.ensures s), λ h. absurd (false_true (k.1 h.sup)))

pub returns-clause-huge : goal.returns-clause-huge
returns-clause-huge c =
    let f0 : FitsSigned w128 c.args.bounds.sup = search rules in
    let f1 : FitsSigned w128 c.args.from.hi = search rules in
    let f2 : FitsSigned w128 c.args.to.hi = search rules in
    let f3 : FitsSigned w128 c.args.bounds.inf = search rules in
    let f4 : FitsSigned w128 c.args.from.lo = search rules in
    let f5 : FitsSigned w128 c.args.to.lo = search rules in
    let k = simp to_z-of_z at c.in_ok-inf.ensures.huge in
    let m = simp to_z-of_z at c.in_ok-sup.ensures.huge in
    (λ _. record { inf = k.0 refl; sup = m.0 refl }, λ _. refl)
