use Rattle.std.proofs.Common.{◌≡◌, length, map, [], ◌∷◌, ◌++◌, arith, ap, sym, ◌∙◌}
use Rattle.std.proofs.lemmas.List.{map_push, length-map}
use Rattle.std.proofs.lemmas.Result.{err_from_is_err_and}
use Rattle.text_grammar.proofs.Loops.{passed_on}
use Rattle.sql_readers.proofs.Rounds.{more_on, more_fails, more_over, more_ends}
use Rattle.sql_readers.proofs.part.listed_to.Goals as goal

pub returns-then-len-most-clause-reads : goal.returns-then-len-most-clause-reads
returns-then-len-most-clause-reads g c =
    let k = c.skip.ensures.passed c.loop-alloc-test.true in
    let size = length-map c.loop-alloc.made.items g.P.Part.seen in
    passed_on c.one_too_many.result _ _ (λ f e. sym c.loop-alloc.invariant.same ∙ more_over c.args.limit c.args.most g.P.Part.reader (map g.P.Part.seen c.loop-alloc.made.items) k.0 c.loop-alloc.cursor c.skip.new.self f k.1 k.2 c.skip.ensures.no_hole (omega (arith, size, c.len.ensures)) e) c.one_too_many.ensures

pub returns-in_err-next-clause-reads : goal.returns-in_err-next-clause-reads
returns-in_err-next-clause-reads g c =
    let p = err_from_is_err_and c.from_residual-in_err-next.result c.from_residual-in_err-next.ensures.1 in
    let k = c.skip.ensures.passed c.loop-alloc-test.true in
    let size = length-map c.loop-alloc.made.items g.P.Part.seen in
    rw (p.1, p.2) (passed_on c.in_err-next.field-0.0 _ _ (λ f e. sym c.loop-alloc.invariant.same ∙ more_fails c.args.limit c.args.most g.P.Part.reader (map g.P.Part.seen c.loop-alloc.made.items) k.0 c.loop-alloc.cursor c.skip.new.self f k.1 k.2 c.skip.ensures.no_hole (omega (arith, size, c.len.ensures)) e) c.in_err-next.ensures.reads)

pub loop-alloc-preserved : goal.loop-alloc-preserved
loop-alloc-preserved g c =
    let k = c.skip.ensures.passed c.loop-alloc-test.true in
    let size = length-map c.loop-alloc.made.items g.P.Part.seen in
    let e : map g.P.Part.seen c.push-in-loop-alloc.new.self.items ≡ map g.P.Part.seen c.loop-alloc.made.items ++ (g.P.Part.seen c.in_ok-next.next ∷ []) = rw c.in_ok-push-2.ensures.items (map_push _ c.loop-alloc.made.items c.in_ok-next.next) in
    record {
      same = rw e (more_on c.args.limit c.args.most g.P.Part.reader (map g.P.Part.seen c.loop-alloc.made.items) k.0 c.loop-alloc.cursor c.skip.new.self c.read-in-loop-alloc.new.cursor (g.P.Part.seen c.in_ok-next.next) c.requires.forward k.1 k.2 c.skip.ensures.no_hole (omega (arith, size, c.len.ensures)) c.in_ok-next.ensures.reads ∙ c.loop-alloc.invariant.same);
      shorter = omega (arith, c.in_ok-next.ensures.shorter, c.loop-alloc.invariant.shorter, ap length k.1);
    }

pub returns-clause-reads : goal.returns-clause-reads
returns-clause-reads g c =
    let k = c.skip.ensures.stays c.loop-alloc-test.false in
    rw (c.from_vec.ensures, k.1) (sym c.loop-alloc.invariant.same ∙ more_ends c.args.limit c.args.most g.P.Part.reader (map g.P.Part.seen c.loop-alloc.made.items) c.loop-alloc.cursor k.0)
