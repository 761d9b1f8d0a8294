use Rattle.std.proofs.Common.{ap, ◌∙◌}
use mathlib.Core.Logic.{inr}
use Rattle.iv_types.specs.Definitions as definitions
use Rattle.iv_types.specs.declared.refusal.Refusal.TheVariants.{UnknownName}
use Rattle.bind_resolve.proofs.Objects.{is_unknown}
use Rattle.bind_resolve.proofs.names.known.Goals as goal

pub returns-in_ok-copied-in-None : goal.returns-in_ok-copied-in-None
returns-in_ok-copied-in-None c =
    is_unknown c.args.catalog.now c.args.name.now _ (c.in-None.ensures ∙ ap (definitions.named c.args.catalog.now) c.as_slice.ensures) (inr (ap UnknownName c.in_ok-copied-in-None.ensures))
