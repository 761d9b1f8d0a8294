use Rattle.std.proofs.Common.{◌+◌, arith, List, Option, Ok, Err, get_or, drop, []}
use mathlib.Core.Path.{refl, sym, ap, subst, ◌∙◌}
use Rattle.std.proofs.lemmas.Result.{err_from_is_err_and}
use Rattle.iv_types.specs.declared.value.Kind.TheVariants.{Int}
use Rattle.iv_types.specs.declared.value.Value.{Value}
use Rattle.iv_types.specs.Trees.{tree, trees}
use Rattle.iv_meaning.specs.Values.{meaning}
use Rattle.iv_meaning.specs.Grouping.{all_of}
use Rattle.iv_meaning.specs.Statement.{stored, tuple_values}
use Rattle.row_eval.specs.Grouped.{Gives}
use Rattle.row_eval.proofs.Groups.{given, refused_alike}
use Rattle.row_eval.proofs.Collecting.{behind, goes_on, stops, ends, next_value, no_more_kinds, no_more_values}
use Rattle.row_eval.proofs.storing.tuple_row.Goals as goal

pub returns-then-place-kinds : goal.returns-then-place-kinds
returns-then-place-kinds c =
    subst (λ o. Gives o (Ok c.loop-place.row)) (sym (ap (behind c.loop-place.row) (no_more_kinds c.args.kinds.now c.args.tuple.now c.loop-place.place c.if-place-kinds.true) ∙ ends c.loop-place.row) ∙ c.loop-place.invariant) refl

pub returns-in_err-stored_alone : goal.returns-in_err-stored_alone
returns-in_err-stored_alone c =
    let p = err_from_is_err_and c.from_residual.result c.from_residual.ensures.1 in
    let whole : Option (List Value) = all_of (tuple_values c.args.kinds.now (trees c.args.tuple.now)) in
    let one : Option Value = stored (get_or c.args.kinds.now c.loop-place.place Int) (meaning (tree c.index-tuple-place.result) []) in
    subst (Gives whole) (sym p.1) (subst (λ r. Gives whole (Err r)) (sym p.2)
    (refused_alike one whole c.in_err-stored_alone.field-0.0
    (λ e. sym c.loop-place.invariant ∙ (ap (behind c.loop-place.row) (next_value c.args.kinds.now c.args.tuple.now c.loop-place.place Int c.index-tuple-place.result (omega (arith, c.if-place-kinds.false)) c.loop-place-test.true c.index-tuple-place.is)
    ∙ stops c.loop-place.row one (tuple_values (drop (c.loop-place.place + 1) c.args.kinds.now) (trees (drop (c.loop-place.place + 1) c.args.tuple.now))) e))
    c.in_err-stored_alone.ensures))

pub loop-place-preserved : goal.loop-place-preserved
loop-place-preserved c =
    let one : Option Value = stored (get_or c.args.kinds.now c.loop-place.place Int) (meaning (tree c.index-tuple-place.result) []) in
    sym (goes_on c.loop-place.row c.push.new.self one (tuple_values (drop (c.loop-place.place + 1) c.args.kinds.now) (trees (drop (c.loop-place.place + 1) c.args.tuple.now))) c.in_ok-stored_alone.field-0
    (given one c.in_ok-stored_alone.field-0 c.in_ok-stored_alone.ensures) c.in_ok-push.ensures.ok)
    ∙ (sym (ap (behind c.loop-place.row) (next_value c.args.kinds.now c.args.tuple.now c.loop-place.place Int c.index-tuple-place.result (omega (arith, c.if-place-kinds.false)) c.loop-place-test.true c.index-tuple-place.is))
    ∙ c.loop-place.invariant)

pub returns : goal.returns
returns c =
    subst (λ o. Gives o (Ok c.loop-place.row)) (sym (ap (behind c.loop-place.row) (no_more_values c.args.kinds.now c.args.tuple.now c.loop-place.place c.loop-place-test.false) ∙ ends c.loop-place.row) ∙ c.loop-place.invariant) refl
