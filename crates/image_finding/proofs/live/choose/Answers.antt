use Rattle.std.proofs.Common.{subst}
use Rattle.image_finding.specs.Headers.{IsReadAs}
use Rattle.image_finding.proofs.Heading.{second_alone, first_alone, first_of_both, second_of_both}
use Rattle.image_finding.proofs.live.choose.Goals as goal

pub returns-in_default : goal.returns-in_default
returns-in_default c s first second = second_alone s c.args.second (subst (λ o. IsReadAs 0 s o) c.in_default.is first) second

pub returns-in_default-second : goal.returns-in_default-second
returns-in_default-second c s first second =
    first_alone s c.in-Some.header (subst (λ o. IsReadAs 0 s o) c.in-Some.is first) (subst (λ o. IsReadAs 1 s o) c.in_default-second.is second)

pub returns-then-other-header : goal.returns-then-other-header
returns-then-other-header c s first second =
    second_of_both s c.in-Some.header c.in-Some-second.other (subst (λ o. IsReadAs 0 s o) c.in-Some.is first) (subst (λ o. IsReadAs 1 s o) c.in-Some-second.is second) c.if-other-header.true

pub returns-else-other-header : goal.returns-else-other-header
returns-else-other-header c s first second =
    first_of_both s c.in-Some.header c.in-Some-second.other (subst (λ o. IsReadAs 0 s o) c.in-Some.is first) (subst (λ o. IsReadAs 1 s o) c.in-Some-second.is second) c.if-other-header.false
