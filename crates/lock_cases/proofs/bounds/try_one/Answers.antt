use mathlib.Core.Path.{ap, ◌∙◌}
use Rattle.escrow_bounds.specs.Column.{Column, part}
use Rattle.escrow_bounds.proofs.ColumnLemmas.{part-with_same}
use Rattle.lock_cases.proofs.bounds.try_one.Goals as goal

pub returns-clause-part : goal.returns-clause-part
returns-clause-part c = ap (λ (v : Column). part v c.args.session) c.take_back.ensures.value ∙ part-with_same c.add.new.self c.args.session c.in-Ok.before ∙ c.in-Ok.ensures.before
