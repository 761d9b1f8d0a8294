use Rattle.std.proofs.Common.{length, List, arith, ap, sym, ◌∙◌, refl, drop}
use Rattle.std.proofs.lemmas.Result.{err_from_is_err_and}
use Rattle.text_grammar.proofs.Loops.{passed_on}
use Rattle.iv_types.specs.Limits.{the_limits}
use Rattle.iv_types.specs.Trees.{tree}
use Rattle.sql_readers.proofs.Steps.{chain_full, chain_ends, turned, turn_fails, negation_deep, negation_full, negation_not, signed_minus_deep, signed_minus, signed_open_deep, signed_open}
use Rattle.sql_readers.proofs.expressions.+expressions.Goals as goal

pub chain_of-returns-then-left-eq0-clause-reads : goal.chain_of-returns-then-left-eq0-clause-reads
chain_of-returns-then-left-eq0-clause-reads t c =
    rw c.fault.ensures (sym c.loop-op.invariant.same ∙ chain_full the_limits c.args.depth c.args.level c.args.left.now (tree c.loop-op.made) c.loop-op.cursor c.in-Some.ensures.0 c.in-Some.op c.in-Some.ensures.1 c.in-Some.ensures.2 (omega (arith, c.loop-op.invariant.spent)) c.in-Some.ensures.3)

pub chain_of-returns-in_err-right-clause-reads : goal.chain_of-returns-in_err-right-clause-reads
chain_of-returns-in_err-right-clause-reads t c =
    let p = err_from_is_err_and c.from_residual-in_err-right.result c.from_residual-in_err-right.ensures.1 in
    rw (p.1, p.2) (passed_on c.in_err-right.field-0.0 _ _ (λ f e. sym c.loop-op.invariant.same ∙ turn_fails the_limits c.args.depth c.args.level c.args.left.now (tree c.loop-op.made) c.loop-op.cursor c.in-Some.ensures.0 c.in-Some.op c.in-Some.ensures.1 c.advance.new.self c.loop-op.left f c.in-Some.ensures.2 c.in-Some.ensures.3 c.advance.ensures.passed c.loop-op.invariant.spent (omega arith) e) c.in_err-right.ensures.reads)

pub chain_of-loop-op-preserved : goal.chain_of-loop-op-preserved
chain_of-loop-op-preserved t c =
    let made = c.in_ok-made-2.ensures.made in
    let spent = c.in_ok-right.ensures.spent in
    record {
      same = rw made (turned the_limits c.args.depth c.args.level c.args.left.now (tree c.loop-op.made) (tree c.in_ok-right.right) c.loop-op.cursor c.in-Some.ensures.0 c.in-Some.op c.in-Some.ensures.1 c.advance.new.self c.operand_of-in-Some.new.cursor c.loop-op.left c.in-Some.ensures.2 c.in-Some.ensures.3 c.advance.ensures.passed c.loop-op.invariant.spent (omega arith) c.in_ok-right.ensures.reads ∙ c.loop-op.invariant.same);
      spent = rw made (omega (arith, spent, c.loop-op.invariant.spent));
      shorter = omega (arith, c.in_ok-right.ensures.shorter, c.loop-op.invariant.shorter, ap length c.advance.ensures.passed, ap length c.in-Some.ensures.2, ap (λ (z : List _). length (drop 1 z)) c.in-Some.ensures.2);
    }

pub chain_of-returns-clause-reads : goal.chain_of-returns-clause-reads
chain_of-returns-clause-reads t c =
    sym c.loop-op.invariant.same ∙ chain_ends the_limits c.args.depth c.args.level c.args.left.now (tree c.loop-op.made) c.loop-op.cursor c.in_default.ensures

pub inversion_of-returns-then-depth-eq0-clause-reads : goal.inversion_of-returns-then-depth-eq0-clause-reads
inversion_of-returns-then-depth-eq0-clause-reads t c = rw c.fault.ensures (negation_deep the_limits c.args.depth c.args.left.now c.args.cursor.now (sym c.begins.ensures.value ∙ c.if-not-begins.false) (omega arith))

pub inversion_of-returns-then-left-eq0-clause-reads : goal.inversion_of-returns-then-left-eq0-clause-reads
inversion_of-returns-then-left-eq0-clause-reads t c = rw c.fault-then-left-eq0.ensures (negation_full the_limits c.args.depth c.args.left.now c.args.cursor.now (sym c.begins.ensures.value ∙ c.if-not-begins.false) (omega arith) (omega arith))

pub inversion_of-returns-in_err-operand-clause-reads : goal.inversion_of-returns-in_err-operand-clause-reads
inversion_of-returns-in_err-operand-clause-reads t c =
    let p = err_from_is_err_and c.from_residual.result c.from_residual.ensures.1 in
    rw (p.1, p.2) (passed_on c.in_err-operand.field-0.0 _ _ (λ f e. negation_not the_limits c.args.depth c.args.left.now c.args.cursor.now (sym c.begins.ensures.value ∙ c.if-not-begins.false) (omega arith) (omega arith) ∙ rw (sym c.advance.ensures.passed, e) refl) c.in_err-operand.ensures.reads)

pub inversion_of-returns-clause-reads : goal.inversion_of-returns-clause-reads
inversion_of-returns-clause-reads t c =
    let made = c.in_ok-new.ensures.ok in
    rw made (negation_not the_limits c.args.depth c.args.left.now c.args.cursor.now (sym c.begins.ensures.value ∙ c.if-not-begins.false) (omega arith) (omega arith) ∙ rw (sym c.advance.ensures.passed, c.in_ok-operand.ensures.reads) refl)

pub signed_of-returns-then-depth-eq0-clause-reads : goal.signed_of-returns-then-depth-eq0-clause-reads
signed_of-returns-then-depth-eq0-clause-reads t c = rw c.fault.ensures (signed_minus_deep the_limits c.args.depth c.args.left.now c.args.cursor.now (sym c.begins.ensures.value ∙ c.if-begins.true) (omega arith))

pub signed_of-returns-then-begins-clause-reads : goal.signed_of-returns-then-begins-clause-reads
signed_of-returns-then-begins-clause-reads t c =
    rw (signed_minus the_limits c.args.depth c.args.left.now c.args.cursor.now (sym c.begins.ensures.value ∙ c.if-begins.true) (omega arith), sym c.advance.ensures.passed) c.negated_of.ensures.reads

pub signed_of-returns-then-depth-eq0-2-clause-reads : goal.signed_of-returns-then-depth-eq0-2-clause-reads
signed_of-returns-then-depth-eq0-2-clause-reads t c = rw c.fault-then-depth-eq0-2.ensures (signed_open_deep the_limits c.args.depth c.args.left.now c.args.cursor.now (sym c.begins.ensures.value ∙ c.if-begins.false) (sym c.begins-2.ensures.value ∙ c.if-begins-2.true) (omega arith))

pub signed_of-returns-in_err-inside-clause-reads : goal.signed_of-returns-in_err-inside-clause-reads
signed_of-returns-in_err-inside-clause-reads t c =
    let p = err_from_is_err_and c.from_residual.result c.from_residual.ensures.1 in
    rw (p.1, p.2) (passed_on c.in_err-inside.field-0.0 _ _ (λ f e. signed_open the_limits c.args.depth c.args.left.now c.args.cursor.now (sym c.begins.ensures.value ∙ c.if-begins.false) (sym c.begins-2.ensures.value ∙ c.if-begins-2.true) (omega arith) ∙ rw (sym c.advance-then-begins-2.ensures.passed, e) refl) c.in_err-inside.ensures.reads)

pub signed_of-returns-in_err-expect-clause-reads : goal.signed_of-returns-in_err-expect-clause-reads
signed_of-returns-in_err-expect-clause-reads t c =
    let p = err_from_is_err_and c.from_residual-in_err-expect.result c.from_residual-in_err-expect.ensures.1 in
    rw (p.1, p.2) (passed_on c.in_err-expect.field-0.0 _ _ (λ f e. signed_open the_limits c.args.depth c.args.left.now c.args.cursor.now (sym c.begins.ensures.value ∙ c.if-begins.false) (sym c.begins-2.ensures.value ∙ c.if-begins-2.true) (omega arith) ∙ rw (sym c.advance-then-begins-2.ensures.passed, c.in_ok-inside.ensures.reads, e) refl) c.in_err-expect.ensures.reads)

pub signed_of-returns-then-begins-2-clause-reads : goal.signed_of-returns-then-begins-2-clause-reads
signed_of-returns-then-begins-2-clause-reads t c =
    signed_open the_limits c.args.depth c.args.left.now c.args.cursor.now (sym c.begins.ensures.value ∙ c.if-begins.false) (sym c.begins-2.ensures.value ∙ c.if-begins-2.true) (omega arith) ∙ rw (sym c.advance-then-begins-2.ensures.passed, c.in_ok-inside.ensures.reads, c.in_ok-expect.ensures.reads) refl
