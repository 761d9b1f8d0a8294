use Rattle.std.proofs.Common.{rules, ◌≡◌, ◌+◌, ◌∙◌, ap, ℤ, length, ◌++◌, arith, FitsSigned}
use Rattle.std.proofs.lemmas.Int.{to_z-of_z}
use Rattle.std.specs.Int.{w128}
use Rattle.txn_machine.specs.Deltas.{worth}
use Rattle.iv_types.specs.declared.value.Kind.TheVariants.{Huge}
use Rattle.iv_types.specs.declared.value.Value.TheVariants.{Number}
use Rattle.iv_types.specs.Encoding.{value_bytes}
use Rattle.ghost_rows.specs.Numbers.{numbers_bytes, moved}
use Rattle.ghost_rows.proofs.NumberSteps.{moving_more, moving_none, stepped_as, no_length, long}
use Rattle.ghost_rows.proofs.numbers.put_moved.Goals as goal

pub loop-column-preserved : goal.loop-column-preserved
loop-column-preserved c =
    let n = c.front-number.result.0 in
    let m = c.stepped.result in
    let column = c.loop-column.column in
    let out = c.loop-column.out.items in
    let fit_m : FitsSigned w128 m = search rules in
    let fit_w : FitsSigned w128 c.worth.result = search rules in
    let put : c.put.new.out.items ≡ out ++ value_bytes Huge (Number m) = c.put.ensures.items ∙ ap (λ (z : ℤ). out ++ value_bytes Huge (Number z)) (to_z-of_z w128 m fit_m) in
    let shorter : length c.loop-column.rest.now ≡ 16 + length c.front-number.result.1.now = ap length c.front-number.ensures.bytes ∙ long n c.front-number.result.1.now in
    record {
      left = omega (arith, shorter, c.loop-column.invariant.left);
      room = omega (arith, c.put.ensures.len, c.put.ensures.capacity, c.loop-column.invariant.room);
      told = λ numbers fits move is.
          moving_more c.args.back column c.args.delta.now c.loop-column.rest.now c.front-number.result.1.now out c.put.new.out.items
          (c.args.out.now.items ++ numbers_bytes (moved c.args.back 0 numbers c.args.delta.now)) n m c.front-number.ensures.fits c.front-number.ensures.bytes
          (stepped_as c.args.back n _ (worth column c.args.delta.now) _ m (to_z-of_z w128 n c.front-number.ensures.fits) (to_z-of_z w128 c.worth.result fit_w ∙ c.worth.ensures.value) c.stepped.ensures)
          put (c.loop-column.invariant.told numbers fits move is);
    }

pub returns : goal.returns
returns c = λ numbers fits move is.
    let none : length c.loop-column.rest.now ≡ 0 = omega (arith, c.loop-column.invariant.left, c.loop-column-test.false) in
    moving_none c.args.back c.loop-column.column c.args.delta.now c.loop-column.rest.now c.loop-column.out.items (c.args.out.now.items ++ numbers_bytes (moved c.args.back 0 numbers c.args.delta.now))
    (no_length c.loop-column.rest.now none) (c.loop-column.invariant.told numbers fits move is)
