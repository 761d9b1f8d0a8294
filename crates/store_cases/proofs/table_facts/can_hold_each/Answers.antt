use Rattle.std.proofs.Common.{◌≡◌, ◌+◌, ◌∷◌, [], drop, sym, ap, subst, ◌∙◌}
use Rattle.std.proofs.lemmas.List.{drop_more, drop_all}
use Rattle.iv_types.specs.declared.lock.IndexEntry.{IndexEntry}
use Rattle.table_store.specs.Changes.{CanHoldEach}
use Rattle.store_cases.proofs.table_facts.can_hold_each.Goals as goal

pub loop-entry-preserved : goal.loop-entry-preserved
loop-entry-preserved c = λ rest.
    let es = c.args.entries.now in
    let at = c.loop-entry.entry-index in
    let e = c.entry-item.result in
    let split : drop at es ≡ e ∷ drop (at + 1) es = drop_more es at e c.loop-entry-test.true ∙ ap (λ (x : IndexEntry). x ∷ drop (at + 1) es) (sym c.entry-item.is) in
    c.loop-entry.invariant (subst CanHoldEach (sym split) (c.can_hold.ensures c.if-not-can_hold.false, rest))

pub returns : goal.returns
returns c = λ _.
    let es = c.args.entries.now in
    let none : drop c.loop-entry.entry-index es ≡ [] = drop_all _ es c.loop-entry-test.false in
    c.loop-entry.invariant (subst CanHoldEach (sym none) tt)
