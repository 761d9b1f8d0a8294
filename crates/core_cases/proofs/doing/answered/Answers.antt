use Rattle.std.proofs.Common.{sym, subst}
use Rattle.core_cases.specs.Asking.{IsAt}
use Rattle.core_cases.proofs.doing.answered.Goals as goal

pub may-requires-clause-stands : goal.may-requires-clause-stands
may-requires-clause-stands c = (c.requires.stands.0, subst (λ core. IsAt core c.requires.stands.0) (sym c.state.ensures) c.requires.stands.1.stands)

pub step-requires : goal.step-requires
step-requires c =
    let s = c.requires.stands.0 in
    let h = c.requires.stands.1 in
    record { state = s; stands = h; asked = c.in_ok-may.ensures s (subst (λ core. IsAt core s) (sym c.state.ensures) h.stands) }

pub returns : goal.returns
returns c =
    let s = c.requires.stands.0 in
    let h = c.requires.stands.1 in
    let m = c.step.ensures.moves s h (c.in_ok-may.ensures s (subst (λ core. IsAt core s) (sym c.state.ensures) h.stands)) in
    (m.after, m.stands)
