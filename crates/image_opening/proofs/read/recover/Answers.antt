use Rattle.std.proofs.Common.{sym, subst}
use Rattle.std.proofs.lemmas.Result.{IfOk-weaker}
use Rattle.image_opening.specs.Faults.{counted_by}
use Rattle.image_opening.specs.Telling.{HasNoPast, Refuses}
use Rattle.image_opening.proofs.Opening.{TreeReplay, records_refused, same_count}
use Rattle.image_opening.proofs.read.recover.Goals as goal

pub returns-in-Ok-clause-opened : goal.returns-in-Ok-clause-opened
returns-in-Ok-clause-opened c bytes are passes has pages = c.compared.ensures.opened bytes are passes has pages.1 (c.in-Ok.ensures.recovered bytes are has pages.0)

pub returns-in-Ok-clause-refused : goal.returns-in-Ok-clause-refused
returns-in-Ok-clause-refused c bytes are passes has pages = c.compared.ensures.refused bytes are passes has pages.1 (c.in-Ok.ensures.recovered bytes are has pages.0)

pub returns-in-Err-clause-refused : goal.returns-in-Err-clause-refused
returns-in-Err-clause-refused c bytes are passes has pages =
    subst (Refuses bytes) (sym c.open_fault.ensures) (records_refused bytes c.in-Err.fault passes.passes (c.in-Err.ensures.refused bytes are has pages.0))

pub returns-in-Err-clause-no_disk : goal.returns-in-Err-clause-no_disk
returns-in-Err-clause-no_disk c count =
    subst (λ fault. counted_by fault count count) (sym c.open_fault.ensures) (same_count c.in-Err.fault count count (c.in-Err.ensures.no_disk count))

pub returns-in-Ok-clause-no_past : goal.returns-in-Ok-clause-no_past
returns-in-Ok-clause-no_past c none =
    IfOk-weaker c.compared.result _ _ (λ r same. subst (λ (replay : TreeReplay). HasNoPast replay.store) (sym same) (subst HasNoPast (sym c.in-Ok.ensures.rest)
    (record { row_versions = none.row_versions; delta_versions = none.delta_versions; row_mark = none.row_mark; delta_mark = none.delta_mark; pending = none.pending })))
    c.compared.ensures.replay
