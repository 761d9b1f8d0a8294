use mathlib.Core.Path.{◌∙◌}
use Rattle.iv_meaning.specs.Objects.{schema_of}
use Rattle.engine_refusals.proofs.Plain.{told_alike}
use Rattle.engine_refusals.proofs.telling.told_of.Goals as goal

pub returns-in_default : goal.returns-in_default
returns-in_default c = record {
  told = c.told_plainly.ensures (schema_of c.args.catalog.now) ∙ told_alike (schema_of c.args.catalog.now) c.args.delta.now c.args.why c.in_default.not-Escrow;
  lacking = tt;
}
