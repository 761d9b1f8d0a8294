use Rattle.std.proofs.Common.{List, subst}
use Rattle.txn_log.specs.Damaged.{Found}
use Rattle.image_entries.specs.Parts.{TellsDefinition}
use Rattle.image_entries.proofs.Taking.{told_so, bad_so}
use Rattle.image_entries.proofs.Linked.{definition_refused}
use Rattle.image_entries.proofs.read.read_parts.Goals as goal

pub returns-in-Ok-clause-rule : goal.returns-in-Ok-clause-rule
returns-in-Ok-clause-rule c = λ s image has gathers stands.
    bad_so c.tested_parts.result _ _
    (λ bad tells. definition_refused s image has c.args.entries.now.entries gathers stands bad (subst (λ (fs : List Found). TellsDefinition fs bad) c.in-Ok.ensures.parts tells)) c.tested_parts.ensures.refused

pub returns-in-Err-clause-rule : goal.returns-in-Err-clause-rule
returns-in-Err-clause-rule c = λ s image has gathers stands. told_so c.in-Err.fault _ _ (λ bad none. absurd none) c.in-Err.ensures.no_rule
