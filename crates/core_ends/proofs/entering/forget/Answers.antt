use Rattle.std.proofs.Common.{◌≡◌, List, Some, sym, ap, subst, ◌∙◌}
use Rattle.std.specs.Option.{option_copied}
use Rattle.iv_types.specs.declared.lock.KeptStep.{KeptStep}
use Rattle.txn_book.specs.declared.open_table.Open.{Open}
use Rattle.data_past.specs.Moves.{CanForget, puts_in}
use Rattle.core_ends.proofs.entering.forget.Goals as goal

pub forget_changes-requires-after_bounds : goal.forget_changes-requires-after_bounds
forget_changes-requires-after_bounds g c κs within =
    let pending = c.args.core.now.store.pending.entries in
    let both : Some c.in-Some.txn.now ≡ Some c.requires.0 = sym (ap option_copied c.in-Some.is) ∙ (c.get.ensures ∙ c.requires.1) in
    let same : c.in-Some.txn.now ≡ c.requires.0 = cc in
    subst (λ (l : List KeptStep). CanForget pending (puts_in l)) (sym c.as_slice.ensures.value) (subst (λ (x : Open). CanForget pending (puts_in x.kept.items)) (sym same) c.requires.2)
