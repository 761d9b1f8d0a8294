use Rattle.std.proofs.Common.{◌≡◌, ◌-◌, length, take, drop, sym, ap, ◌∙◌, arith, length-append}
use Rattle.std.proofs.Math.Seq.{drop-append_seam, take-length}
use Rattle.row_codec.proofs.skipping.behind.Goals as goal

pub returns-then-bytes-count : goal.returns-then-bytes-count
returns-then-bytes-count c = λ front rest count is. absurd (omega (arith, c.if-bytes-count.true, count, ap length is, length-append front rest))

pub returns : goal.returns
returns c = λ front rest count is.
    let left : drop c.args.count c.args.bytes.now ≡ rest = ap (λ n. drop n c.args.bytes.now) (sym count) ∙ (ap (drop (length front)) is ∙ drop-append_seam front rest) in
    let size : length c.args.bytes.now - c.args.count ≡ length rest = omega (arith, ap length is, length-append front rest, count) in
    ap (take (length c.args.bytes.now - c.args.count)) left ∙ (ap (λ n. take n rest) size ∙ take-length rest)
