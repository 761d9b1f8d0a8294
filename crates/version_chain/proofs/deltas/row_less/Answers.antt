use Rattle.std.proofs.Common.{rules, arith, ◌≡◌, ◌+◌, ◌∙◌, ap, ℕ, ℤ, length}
use Rattle.ghost_rows.specs.Numbers.{numbers_bytes}
use Rattle.ghost_rows.proofs.NumberSteps.{long}
use Rattle.version_chain.specs.Trees.{items}
use Rattle.version_chain.specs.Deltas.{due, less}
use Rattle.version_chain.proofs.Dues.{lessening_more, lessening_none}
use Rattle.version_chain.proofs.deltas.row_less.Goals as goal

pub loop-rest-preserved : goal.loop-rest-preserved
loop-rest-preserved c =
    let f : ℕ → ℤ = λ column. due c.args.number (c.args.index, c.args.key.now) column (items c.args.tree.now) in
    let n = c.front-value.result.0 in
    let shorter : length c.loop-rest.rest.now ≡ 16 + length c.front-value.result.1.now = ap length c.front-value.ensures.bytes ∙ long n c.front-value.result.1.now in
    record {
      left = omega (arith, shorter, c.loop-rest.invariant.left);
      told = λ numbers fits move is.
          lessening_more f c.loop-rest.column c.loop-rest.rest.now c.front-value.result.1.now c.loop-rest.out.items c.push.new.out.items
          (numbers_bytes (less f 0 numbers)) n c.lessened.result c.front-value.ensures.fits c.front-value.ensures.bytes
          (search rules) (search rules) (c.loop-rest.invariant.told numbers fits move is);
    }

pub returns : goal.returns
returns c = λ numbers fits move is.
    let f : ℕ → ℤ = λ column. due c.args.number (c.args.index, c.args.key.now) column (items c.args.tree.now) in
    c.from_vec.ensures ∙ lessening_none f c.loop-rest.column c.loop-rest.rest.now c.loop-rest.out.items (numbers_bytes (less f 0 numbers)) (search rules) (c.loop-rest.invariant.told numbers fits move is)
