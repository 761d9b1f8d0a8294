use Rattle.std.proofs.Common.{ℕ, List, sym, subst}
use Rattle.std.specs.Option.{option_to_list}
use Rattle.iv_types.specs.declared.lock.KeptStep.{KeptStep}
use Rattle.txn_machine.specs.RowChanges.{row_change}
use Rattle.data_store.specs.Past.{Pendings}
use Rattle.data_past.specs.Moves.{HasChange, CanForget, put_in}
use Rattle.data_past.proofs.Pendings.{has_change}
use Rattle.data_past.proofs.noting.forget_step.Goals as goal

pub forget_change-requires-after_bounds : goal.forget_change-requires-after_bounds
forget_change-requires-after_bounds g c κs within =
    let old : Pendings = c.args.store.now.pending.entries in
    subst (λ (k : List ℕ). HasChange old (c.in-Put.kept.change.table, k)) (sym c.as_slice.ensures)
    (has_change old (row_change c.in-Put.kept.change) (subst (λ (s : KeptStep). CanForget old (option_to_list (put_in s))) c.in-Put.is c.requires))
