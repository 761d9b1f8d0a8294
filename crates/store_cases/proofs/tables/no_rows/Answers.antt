use Rattle.std.proofs.lemmas.Result.{IfOk-weaker}
use mathlib.Core.Path.{ap, ◌∙◌}
use Rattle.std.specs.FinMap.{empty}
use Rattle.table_store.specs.Lists.{Listed, map_at}
use Rattle.std.specs.Prelude.{List}
use Rattle.table_store.proofs.Staging.{hold_none}
use Rattle.store_cases.proofs.tables.no_rows.Goals as goal

pub returns : goal.returns
returns c = IfOk-weaker c.new-2.result _ _
    (λ tables is. (empty, hold_none c.args.catalog.now (map_at tables) (λ i. ap (λ (maps : List Listed). map_at maps i) is ∙ c.in_ok-new.ensures i))) c.new-2.ensures
