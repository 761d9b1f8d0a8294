use Rattle.std.proofs.Common.{rules, ◌≡◌, ◌+◌, ◌++◌, List, drop, sym, ap, subst, ◌∙◌}
use Rattle.std.specs.Option.{option_to_list}
use Rattle.std.proofs.lemmas.List.{drop_all}
use Rattle.std.specs.FinMap.{get}
use Rattle.txn_machine.specs.Deltas.{RowChange}
use Rattle.iv_types.specs.declared.lock.KeptStep.{KeptStep}
use Rattle.data_store.specs.Machine.{changes_on}
use Rattle.data_past.specs.Moves.{fewer, CanForget, put_in, puts_in}
use Rattle.data_past.proofs.Pendings.{step_first, forget_first, forget_rest, forget_next}
use Rattle.data_past.proofs.noting.forget_changes.Goals as goal

pub forget_step-requires-after_bounds : goal.forget_step-requires-after_bounds
forget_step-requires-after_bounds g c κs within =
    let kept : List KeptStep = c.args.kept.now in
    let left : List RowChange = puts_in (drop (c.loop-step.step-index + 1) kept) in
    let split : puts_in (drop c.loop-step.step-index kept) ≡ option_to_list (put_in c.step-item.result) ++ left = step_first kept c.loop-step.step-index c.step-item.result c.loop-step-test.true c.step-item.is in
    forget_first c.loop-step.store.pending.entries (option_to_list (put_in c.step-item.result)) left (subst (CanForget c.loop-step.store.pending.entries) split c.loop-step.invariant.can)

pub loop-step-preserved : goal.loop-step-preserved
loop-step-preserved g c =
    let kept : List KeptStep = c.args.kept.now in
    let left : List RowChange = puts_in (drop (c.loop-step.step-index + 1) kept) in
    let split : puts_in (drop c.loop-step.step-index kept) ≡ option_to_list (put_in c.step-item.result) ++ left = step_first kept c.loop-step.step-index c.step-item.result c.loop-step-test.true c.step-item.is in
    record {
      can = forget_rest c.loop-step.store.pending.entries c.forget_step.new.store.pending.entries (option_to_list (put_in c.step-item.result)) left (subst (CanForget c.loop-step.store.pending.entries) split c.loop-step.invariant.can) c.forget_step.ensures.pending;
      told = λ place.
          forget_next c.loop-step.store.pending.entries c.forget_step.new.store.pending.entries (option_to_list (put_in c.step-item.result)) left (puts_in (drop c.loop-step.step-index kept)) split c.forget_step.ensures.pending place
          ∙ c.loop-step.invariant.told place;
      rest = search rules;
    }

pub returns-clause-pending : goal.returns-clause-pending
returns-clause-pending g c = λ place.
    sym (ap (λ (l : List KeptStep). fewer (changes_on place (puts_in l)) (get c.loop-step.store.pending.entries place)) (drop_all c.loop-step.step-index c.args.kept.now c.loop-step-test.false)) ∙ c.loop-step.invariant.told place
