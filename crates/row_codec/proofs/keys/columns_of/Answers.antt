use Rattle.std.proofs.Common.{length, get_or, refl}
use Rattle.std.proofs.lemmas.List.{get_or_default}
use Rattle.std.proofs.lemmas.Result.{err_from_is_err_and}
use Rattle.iv_types.specs.declared.value.Kind.TheVariants.{Int}
use Rattle.iv_types.specs.BadRow.{KeyBreaks}
use Rattle.row_codec.proofs.Columns.{taken_more, taken_fails, taken_over, some_left}
use Rattle.row_codec.proofs.keys.columns_of.Goals as goal

pub returns-in_err-value-clause-fault : goal.returns-in_err-value-clause-fault
returns-in_err-value-clause-fault c =
    let p = err_from_is_err_and c.from_residual.result c.from_residual.ensures.1 in
    let k = get_or c.args.kinds.now c.loop-kind.kind-index Int in
    rw (p.1, p.2) (taken_fails KeyBreaks c.loop-kind.invariant k c.loop-kind-test.true (get_or_default c.args.kinds.now c.loop-kind.kind-index Int k c.loop-kind-test.true) refl c.in_err-value.field-0.0 c.in_err-value.ensures.broken)

pub loop-kind-preserved : goal.loop-kind-preserved
loop-kind-preserved c =
    let k = get_or c.args.kinds.now c.loop-kind.kind-index Int in
    rw c.in_ok-push.ensures.items (taken_more c.loop-kind.invariant k c.in_ok-value.value c.in_ok-value.after.now c.loop-kind-test.true
    (get_or_default c.args.kinds.now c.loop-kind.kind-index Int k c.loop-kind-test.true) c.in_ok-value.ensures.taken.0 c.in_ok-value.ensures.taken.1)

pub returns-then-not-is_empty-clause-fault : goal.returns-then-not-is_empty-clause-fault
returns-then-not-is_empty-clause-fault c =
    taken_over c.loop-kind.invariant _ c.loop-kind-test.false (some_left (length c.loop-kind.rest.now) c.is_empty.result c.is_empty.ensures c.if-not-is_empty.true) refl
