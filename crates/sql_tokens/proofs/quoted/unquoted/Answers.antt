use Rattle.std.proofs.Common.{◌+◌, ◌∙◌, sym, arith}
use Rattle.sql_tokens.proofs.Quotes.{content_plain, content_two, content_close, quote_within}
use Rattle.sql_tokens.proofs.quoted.unquoted.Goals as goal
use Rattle.sql_tokens.proofs.quoted.unquoted.Goals.{then-byte-ne-QUOTE, else-byte-ne-QUOTE+then-is_quote_at}

pub returns-else-is_quote_at : goal.returns-else-is_quote_at
returns-else-is_quote_at c = c.from_vec.ensures ∙ content_close c.args.bytes.now c.loop-size.content.items c.loop-size.size c.loop-size-test.true c.if-byte-ne-QUOTE.false (sym c.is_quote_at.ensures ∙ c.if-is_quote_at.false) c.loop-size.invariant.same

pub loop-size-preserved : goal.loop-size-preserved
loop-size-preserved c =
    let bytes = c.args.bytes.now in
    let front = c.loop-size.content.items in
    let i = c.loop-size.size in
    elim c.if-byte-ne-QUOTE.branch [
      | then-byte-ne-QUOTE w ↦ record {
        same = content_plain bytes front _ i _ c.loop-size-test.true w.if-byte-ne-QUOTE.true w.size-is c.in_ok-push.ensures.items ∙ c.loop-size.invariant.same;
        within = omega arith;
      }
      | else-byte-ne-QUOTE+then-is_quote_at w ↦
          let more = sym w.is_quote_at.ensures ∙ w.if-is_quote_at.true in
          record {
            same = content_two bytes front _ i _ c.loop-size-test.true w.if-byte-ne-QUOTE.false more w.size-is c.in_ok-push.ensures.items ∙ c.loop-size.invariant.same;
            within = omega (arith, quote_within bytes (i + 1) more);
          }
    ]
