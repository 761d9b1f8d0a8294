use Rattle.std.proofs.Common.{◌++◌, ◌∷◌, suc, length, reverse, vec_capacity, ap, subst, ◌∙◌, arith}
use Rattle.std.specs.Option.{option_to_list}
use Rattle.txn_book.specs.Txns.{CanComeBack}
use Rattle.txn_book.proofs.Coming.{popped, first_fits}
use Rattle.txn_book.proofs.kept_steps.undo.Goals as goal

-- src/kept_steps.rt:123:13
pub push_reserved-requires : goal.push_reserved-requires
push_reserved-requires c =
    let fits = first_fits (vec_capacity c.args.txn.now.owed) (suc (length c.args.txn.now.owed.items)) (reverse c.pop.new.self.items)
    (subst (λ ks. CanComeBack (vec_capacity c.args.txn.now.owed) (length c.args.txn.now.owed.items) ks)
    (popped c.args.txn.now.kept.items c.pop.new.self.items _ (c.pop.ensures.items ∙ ap (λ r. c.pop.new.self.items ++ option_to_list r) c.in-Some-Pay.is) ∙ ap (λ k. k ∷ reverse c.pop.new.self.items) c.in-Some-Pay.field-0-is) c.requires.roomy.owed) in
    omega (arith, fits)
