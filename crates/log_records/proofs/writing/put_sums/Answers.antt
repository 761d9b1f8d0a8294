use Rattle.std.proofs.Common.{rules, ◌≡◌, ℕ, pos, get_or, subst, arith, refl, ap, ◌∙◌}
use Rattle.std.specs.Int.{w128, cast_unsigned}
use Rattle.std.specs.Int.RustNames.{FitsSigned}
use Rattle.std.proofs.lemmas.Int.{to_z-of_z}
use Rattle.byteorder.specs.Endian.{big_bytes}
use Rattle.log_records.specs.Buffer.{Filled}
use Rattle.log_records.proofs.Puts.{behind, nothing, one_more, one_more_fits, length-sums}
use Rattle.log_records.proofs.writing.put_sums.Goals as goal

pub loop-sum-init : goal.loop-sum-init
loop-sum-init c = record {
  place = omega arith;
  room = omega (arith, length-sums c.args.sums.now);
  filled = nothing c.args.fill c.args.buffer.now;
  fits = tt;
}

pub loop-sum-preserved : goal.loop-sum-preserved
loop-sum-preserved c =
    let zs = c.args.sums.now in
    let i = c.loop-sum.sum-index in
    let z = get_or c.args.sums.now c.loop-sum.sum-index (pos 0) in
    let fits : FitsSigned w128 (get_or c.args.sums.now c.loop-sum.sum-index (pos 0)) = search rules in
    let bits : c.cast_unsigned.result ≡ cast_unsigned w128 z = c.cast_unsigned.ensures ∙ ap (cast_unsigned w128) (to_z-of_z w128 z fits) in
    record {
      place = omega arith;
      room = omega arith;
      filled = one_more zs i z c.loop-sum-test.true refl (behind c.loop-sum.invariant.filled
          (subst (λ (n : ℕ). Filled c.loop-sum.at c.loop-sum.buffer c.put_sum-at.result c.put_sum-at.new.buffer (big_bytes 16 n)) bits c.put_sum-at.ensures));
      fits = one_more_fits zs i z c.loop-sum-test.true refl c.loop-sum.invariant.fits fits;
    }
