use Rattle.std.proofs.Common.{sym, ap, ◌∙◌}
use Rattle.std.proofs.lemmas.List.{same_from_push}
use Rattle.core_schema.specs.Making.{with_catalog}
use Rattle.core_schema.proofs.entering.take_back.Goals as goal

pub returns : goal.returns
returns g c = λ before definition is.
    ap (λ ds. with_catalog ds c.args.core.now) (same_from_push _ before c.in-Some.definition definition (sym c.in-Some.ensures.some ∙ is)).0
