use Rattle.std.proofs.Common.{arith, sym, ◌∙◌}
use Rattle.std.proofs.lemmas.Result.{err_from_is_err_and}
use Rattle.text_grammar.proofs.Loops.{passed_on}
use Rattle.iv_types.specs.Limits.{the_limits}
use Rattle.sql_readers.proofs.Rounds.{column_on, column_fails, columns_end}
use Rattle.sql_readers.proofs.creating.columns_of.Goals as goal

pub returns-in_err-next-clause-reads : goal.returns-in_err-next-clause-reads
returns-in_err-next-clause-reads c =
    let p = err_from_is_err_and c.from_residual-in_err-next.result c.from_residual-in_err-next.ensures.1 in
    rw (p.1, p.2) (passed_on c.in_err-next.field-0.0 _ _ (λ f e. sym c.loop-alloc.invariant.same ∙ column_fails the_limits c.loop-alloc.made.items c.loop-alloc.cursor f (sym c.begins_name.ensures ∙ c.loop-alloc-test.true) e) c.in_err-next.ensures.reads)

pub loop-alloc-preserved : goal.loop-alloc-preserved
loop-alloc-preserved c =
    record {
      same = rw c.in_ok-push-2.ensures.items (column_on the_limits c.loop-alloc.made.items c.loop-alloc.cursor c.column_of-in-loop-alloc.new.cursor c.in_ok-next.next (sym c.begins_name.ensures ∙ c.loop-alloc-test.true) c.in_ok-next.ensures.reads ∙ c.loop-alloc.invariant.same);
      shorter = omega (arith, c.in_ok-next.ensures.shorter, c.loop-alloc.invariant.shorter);
    }

pub returns-clause-reads : goal.returns-clause-reads
returns-clause-reads c =
    rw c.from_vec.ensures (sym c.loop-alloc.invariant.same ∙ columns_end the_limits c.loop-alloc.made.items c.loop-alloc.cursor (sym c.begins_name.ensures ∙ c.loop-alloc-test.false))
