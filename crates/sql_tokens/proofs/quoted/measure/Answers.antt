use Rattle.std.proofs.Common.{◌∙◌, sym, arith, ◌+◌}
use Rattle.sql_tokens.proofs.Quotes.{measure_plain, measure_two, measure_close, quote_within}
use Rattle.sql_tokens.proofs.quoted.measure.Goals as goal
use Rattle.sql_tokens.proofs.quoted.measure.Goals.{then-bytes-size-ne-QUOTE, else-bytes-size-ne-QUOTE+then-is_quote_at}

pub returns-else-is_quote_at-clause-value : goal.returns-else-is_quote_at-clause-value
returns-else-is_quote_at-clause-value c = measure_close c.args.bytes.now c.loop-size.long c.loop-size.size c.loop-size-test.true c.if-bytes-size-ne-QUOTE.false (sym c.is_quote_at.ensures ∙ c.if-is_quote_at.false) ∙ c.loop-size.invariant.same

pub loop-size-preserved : goal.loop-size-preserved
loop-size-preserved c =
    let bytes = c.args.bytes.now in
    let long = c.loop-size.long in
    let i = c.loop-size.size in
    elim c.if-bytes-size-ne-QUOTE.branch [
      | then-bytes-size-ne-QUOTE w ↦ record {
        same = measure_plain bytes long i _ c.loop-size-test.true w.if-bytes-size-ne-QUOTE.true w.size-is ∙ c.loop-size.invariant.same;
        short = omega arith;
        within = omega arith;
      }
      | else-bytes-size-ne-QUOTE+then-is_quote_at w ↦
          let more = sym w.is_quote_at.ensures ∙ w.if-is_quote_at.true in
          record {
            same = measure_two bytes long i _ c.loop-size-test.true w.if-bytes-size-ne-QUOTE.false more w.size-is ∙ c.loop-size.invariant.same;
            short = omega arith;
            within = omega (arith, quote_within bytes (i + 1) more);
          }
    ]
