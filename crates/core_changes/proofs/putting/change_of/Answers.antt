use Rattle.std.proofs.Common.{sym, ap, ◌∙◌}
use Rattle.std.specs.FinMap.{get}
use Rattle.data_store.specs.Contents.{contents_of}
use Rattle.core_changes.proofs.putting.change_of.Goals as goal

pub returns-clause-before : goal.returns-clause-before
returns-clause-before g c = λ s l texts h. ap (λ k. get s.rows (c.args.table, k)) (sym c.as_slice.ensures) ∙ c.in_ok-before.ensures (contents_of s) h.stored
