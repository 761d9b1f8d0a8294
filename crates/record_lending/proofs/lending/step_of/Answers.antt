use Rattle.std.proofs.Common.{ap, sym, ◌∙◌}
use Rattle.iv_types.specs.declared.lock.KeptStep.{KeptStep}
use Rattle.iv_meaning.specs.Objects.{schema_of}
use Rattle.log_disk.specs.Spelled.{in_bytes}
use Rattle.record_lending.specs.Steps.{record_of}
use Rattle.record_lending.proofs.lending.step_of.Goals as goal

pub returns-in-Pay : goal.returns-in-Pay
returns-in-Pay c definitions entries =
    c.delta_of.ensures (schema_of definitions) ∙ ap (λ (step : KeptStep). in_bytes (schema_of definitions) (record_of c.args.transaction step)) (sym c.in-Pay.is)
