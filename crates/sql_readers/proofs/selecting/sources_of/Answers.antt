use Rattle.std.proofs.Common.{◌≡◌, length, map, [], ◌∷◌, ◌++◌, arith, ap, sym, ◌∙◌}
use Rattle.std.proofs.lemmas.List.{map_push, length-map}
use Rattle.std.proofs.lemmas.Result.{err_from_is_err_and}
use Rattle.text_grammar.proofs.Loops.{passed_on}
use Rattle.iv_types.specs.Limits.{the_limits}
use Rattle.iv_types.specs.Trees.{join_tree}
use Rattle.sql_readers.proofs.Rounds.{source_on, source_fails, source_over, sources_end}
use Rattle.sql_readers.proofs.selecting.sources_of.Goals as goal

pub returns-clause-reads : goal.returns-clause-reads
returns-clause-reads c =
    let k = c.skip.ensures.stays c.loop-alloc-test.false in
    rw (c.from_vec.ensures, k.1) (sym c.loop-alloc.invariant.same ∙ sources_end the_limits (c.in_ok-first.first, map join_tree c.loop-alloc.joins.items) c.loop-alloc.cursor k.0)

pub loop-alloc-preserved : goal.loop-alloc-preserved
loop-alloc-preserved c =
    let k = c.skip.ensures.passed c.loop-alloc-test.true in
    let size = length-map c.loop-alloc.joins.items join_tree in
    let e : map join_tree c.push.new.self.items ≡ map join_tree c.loop-alloc.joins.items ++ (join_tree c.in_ok-join.join ∷ []) = rw c.in_ok-push.ensures.items (map_push _ c.loop-alloc.joins.items c.in_ok-join.join) in
    record {
      same = rw e (source_on the_limits (c.in_ok-first.first, map join_tree c.loop-alloc.joins.items) k.0 c.loop-alloc.cursor c.skip.new.self c.join_of.new.cursor (join_tree c.in_ok-join.join) k.1 k.2 c.skip.ensures.no_hole (omega (arith, size, c.len.ensures)) c.in_ok-join.ensures.reads ∙ c.loop-alloc.invariant.same);
      shorter = omega (arith, c.in_ok-join.ensures.shorter, c.loop-alloc.invariant.shorter, ap length k.1);
    }

pub returns-then-len-ge-MOST_RELATIONS-clause-reads : goal.returns-then-len-ge-MOST_RELATIONS-clause-reads
returns-then-len-ge-MOST_RELATIONS-clause-reads c =
    let k = c.skip.ensures.passed c.loop-alloc-test.true in
    let size = length-map c.loop-alloc.joins.items join_tree in
    passed_on c.one_too_many.result _ _ (λ f e. sym c.loop-alloc.invariant.same ∙ source_over the_limits (c.in_ok-first.first, map join_tree c.loop-alloc.joins.items) k.0 c.loop-alloc.cursor c.skip.new.self f k.1 k.2 c.skip.ensures.no_hole (omega (arith, size, c.len.ensures)) e) c.one_too_many.ensures

pub returns-in_err-join-clause-reads : goal.returns-in_err-join-clause-reads
returns-in_err-join-clause-reads c =
    let p = err_from_is_err_and c.from_residual-in_err-join.result c.from_residual-in_err-join.ensures.1 in
    let k = c.skip.ensures.passed c.loop-alloc-test.true in
    let size = length-map c.loop-alloc.joins.items join_tree in
    rw (p.1, p.2) (passed_on c.in_err-join.field-0.0 _ _ (λ f e. sym c.loop-alloc.invariant.same ∙ source_fails the_limits (c.in_ok-first.first, map join_tree c.loop-alloc.joins.items) k.0 c.loop-alloc.cursor c.skip.new.self f k.1 k.2 c.skip.ensures.no_hole (omega (arith, size, c.len.ensures)) e) c.in_err-join.ensures.reads)
