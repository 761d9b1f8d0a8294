use Rattle.std.proofs.Common.{◌∙◌, ◌++◌, ℕ, List, refl, sym, subst, arith}
use Rattle.line_wire.specs.declared.line.Line.TheVariants.{Text, TooLong}
use Rattle.script_run.specs.declared.status.Status.TheVariants.{Done, ReadFault, NoMemory, TooMuch}
use Rattle.script_run.proofs.Ran.{beginning, no_lines, just_opened, runs_on, may_go, at_rest}
use Rattle.script_run.proofs.Serving.{Serving, begun, served, first_lines, taken_lines, whole, front, so_written, so_moved, taken_by, took_all}
use Rattle.script_run.proofs.Recovering.{tells_so, survives, at_start, at_fault, at_end, at_leave, at_loss}
use Rattle.script_run.proofs.lines.run_lines.Goals as goal

pub loop-lines-init : goal.loop-lines-init
loop-lines-init g c = record {
  running = just_opened (g.E.Stepper.stands c.args.engine.now) c.requires.opened c.in-Ok-new.table c.in-Ok-new.ensures.table c.in-Ok-new.ensures.go;
  served = λ o input before e w. record {
    story = beginning o;
    stands = o.stands;
    holds = subst (λ (waits : List ℕ). Serving o.db o.opening input before c.in-Ok.lines (g.S.Source.left c.args.source.now) (g.K.Sink.written c.args.sink.now) waits c.in-Ok-new.table (beginning o)) (sym c.new-waiting.ensures.items)
        (begun o.db o.opening input before c.in-Ok.lines _ _ c.in-Ok-new.table (beginning o) c.in-Ok.ensures.held c.in-Ok.ensures.taken e w tt (no_lines (g.E.Stepper.stands c.args.engine.now) o c.in-Ok-new.table c.in-Ok-new.ensures.table c.in-Ok-new.ensures.go) refl);
  };
  counted = λ input e. (input, e, omega (arith, c.in-Ok.ensures.taken));
  reads = refl;
  writes = refl;
}

pub returns-in-Err-clause-output : goal.returns-in-Err-clause-output
returns-in-Err-clause-output g c = λ o input before e w.
    let i = c.loop-lines.invariant.served o input before e w in
    front o.db o.opening input before c.loop-lines.lines _ _ c.loop-lines.waiting.items c.loop-lines.table i.story i.holds _ _ (c.in-Err.ensures.err (before ++ i.holds.out) i.holds.wrote)

pub returns-in-Ok-End-clause-output : goal.returns-in-Ok-End-clause-output
returns-in-Ok-End-clause-output g c = λ o input before e w.
    so_written o.db o.opening Done _ input before c.loop-lines.lines _ _ _ _ _ _ c.loop-lines.table
    (so_moved o.db o.opening input before c.loop-lines.lines _ _ _ _ _ c.loop-lines.table (c.loop-lines.invariant.served o input before e w) (λ out wrote. c.in_default-flush.ensures.ok (before ++ out) wrote))
    (λ s h. whole o.db o.opening input before c.loop-lines.lines _ _ _ c.loop-lines.table s h c.read_line.new.kept _ (rw c.in-Ok-End.field-0-is at (c.in-Ok-End.ensures.found h.rest h.tells)))
    (λ out wrote. c.finish.ensures.written (before ++ out) wrote) c.deref.ensures.value

pub returns-in-Ok-End-clause-taken : goal.returns-in-Ok-End-clause-taken
returns-in-Ok-End-clause-taken g c = λ input e.
    let t = c.loop-lines.invariant.counted input e in
    taken_by Done _ _ _ _ _ c.finish.ensures.fault
    (took_all input c.loop-lines.lines c.read_line.new.kept t.0 _ t.2 (rw c.in-Ok-End.field-0-is at (c.in-Ok-End.ensures.found t.0 t.1)) (rw c.in-Ok-End.field-0-is at c.in-Ok-End.ensures.took))

pub returns-in-Err-answer_line-clause-output : goal.returns-in-Err-answer_line-clause-output
returns-in-Err-answer_line-clause-output g c = λ o input before e w.
    so_written o.db o.opening NoMemory _ input before c.loop-lines.lines _ _ _ _ _ _ c.loop-lines.table
    (so_moved o.db o.opening input before c.loop-lines.lines _ _ _ _ _ c.loop-lines.table (c.loop-lines.invariant.served o input before e w) (λ out wrote. c.in_default-flush.ensures.ok (before ++ out) wrote))
    (λ s h. first_lines o.db o.opening input before c.loop-lines.lines _ _ _ c.loop-lines.table s h)
    (λ out wrote. c.finish-in-Err-answer_line.ensures.written (before ++ out) wrote) (c.deref-in-Err-answer_line.ensures.value ∙ c.in-Err-answer_line.ensures.err)

pub loop-lines-preserved-in_default-answer_line : goal.loop-lines-preserved-in_default-answer_line
loop-lines-preserved-in_default-answer_line g c = record {
  running =
      let r = c.loop-lines.invariant.running in
      runs_on r.db r.lines r.out _ _ r.so_far.story _ _ _ (c.in_default-answer_line.ensures.ok r.so_far.story r.db r.lines r.out r.so_far.stands r.so_far.holds);
  served = λ o input before e w.
      let i = so_moved o.db o.opening input before c.loop-lines.lines _ _ _ _ _ c.loop-lines.table (c.loop-lines.invariant.served o input before e w) (λ out wrote. c.in_default-flush.ensures.ok (before ++ out) wrote) in
      let h = i.holds in
      let more = c.in_default-answer_line.ensures.ok i.story o.db h.said (h.out ++ c.flush.new.waiting.items) i.stands h.ran in
      record {
        story = more.story;
        stands = more.stands;
        holds = served o.db o.opening input before Text c.loop-lines.lines c.read_line.new.kept _ _ _ _ _ c.loop-lines.table _ i.story more.story h
            (rw c.in-Ok-Text.field-0-is at (c.in-Ok-Text.ensures.found h.rest h.tells)) (rw c.text.ensures at more.holds);
      };
  counted = λ input e.
      let t = c.loop-lines.invariant.counted input e in
      let f = rw c.in-Ok-Text.field-0-is at (c.in-Ok-Text.ensures.found t.0 t.1) in
      (f.counted.rest, f.counted.tells, f.counted.count ∙ t.2);
  reads = c.in-Ok-Text.ensures.fault ∙ c.loop-lines.invariant.reads;
  writes = c.in_default-flush.ensures.fault ∙ c.loop-lines.invariant.writes;
}

pub returns-in-Err-refuse_line-clause-output : goal.returns-in-Err-refuse_line-clause-output
returns-in-Err-refuse_line-clause-output g c = λ o input before e w.
    so_written o.db o.opening NoMemory _ input before c.loop-lines.lines _ _ _ _ _ _ c.loop-lines.table
    (so_moved o.db o.opening input before c.loop-lines.lines _ _ _ _ _ c.loop-lines.table (c.loop-lines.invariant.served o input before e w) (λ out wrote. c.in_default-flush.ensures.ok (before ++ out) wrote))
    (λ s h. first_lines o.db o.opening input before c.loop-lines.lines _ _ _ c.loop-lines.table s h)
    (λ out wrote. c.finish-in-Err-refuse_line.ensures.written (before ++ out) wrote) (c.deref-in-Err-refuse_line.ensures.value ∙ c.in-Err-refuse_line.ensures.err)

pub loop-lines-preserved : goal.loop-lines-preserved
loop-lines-preserved g c = record {
  running =
      let r = c.loop-lines.invariant.running in
      runs_on r.db r.lines r.out _ _ r.so_far.story _ _ _ (c.in_default-refuse_line.ensures.ok r.so_far.story r.db r.lines r.out r.so_far.stands r.so_far.holds);
  served = λ o input before e w.
      let i = so_moved o.db o.opening input before c.loop-lines.lines _ _ _ _ _ c.loop-lines.table (c.loop-lines.invariant.served o input before e w) (λ out wrote. c.in_default-flush.ensures.ok (before ++ out) wrote) in
      let h = i.holds in
      let more = c.in_default-refuse_line.ensures.ok i.story o.db h.said (h.out ++ c.flush.new.waiting.items) i.stands h.ran in
      record {
        story = more.story;
        stands = more.stands;
        holds = served o.db o.opening input before TooLong c.loop-lines.lines c.read_line.new.kept _ _ _ _ _ c.loop-lines.table _ i.story more.story h
            (rw c.in-Ok-TooLong.field-0-is at (c.in-Ok-TooLong.ensures.found h.rest h.tells)) more.holds;
      };
  counted = λ input e.
      let t = c.loop-lines.invariant.counted input e in
      let f = rw c.in-Ok-TooLong.field-0-is at (c.in-Ok-TooLong.ensures.found t.0 t.1) in
      (f.counted.rest, f.counted.tells, f.counted.count ∙ t.2);
  reads = c.in-Ok-TooLong.ensures.fault ∙ c.loop-lines.invariant.reads;
  writes = c.in_default-flush.ensures.fault ∙ c.loop-lines.invariant.writes;
}

pub returns-in-Err-ReadFault-clause-output : goal.returns-in-Err-ReadFault-clause-output
returns-in-Err-ReadFault-clause-output g c = λ o input before e w.
    so_written o.db o.opening ReadFault _ input before c.loop-lines.lines _ _ _ _ _ _ c.loop-lines.table
    (so_moved o.db o.opening input before c.loop-lines.lines _ _ _ _ _ c.loop-lines.table (c.loop-lines.invariant.served o input before e w) (λ out wrote. c.in_default-flush.ensures.ok (before ++ out) wrote))
    (λ s h. taken_lines o.db o.opening input before c.loop-lines.lines _ _ _ c.loop-lines.table s h c.read_line.new.kept _ (c.in-Err-ReadFault.ensures.found h.rest h.tells))
    (λ out wrote. c.finish-in-Err-ReadFault.ensures.written (before ++ out) wrote) c.deref-in-Err-ReadFault.ensures.value

pub returns-in-Err-TooMuch-clause-output : goal.returns-in-Err-TooMuch-clause-output
returns-in-Err-TooMuch-clause-output g c = λ o input before e w.
    so_written o.db o.opening TooMuch _ input before c.loop-lines.lines _ _ _ _ _ _ c.loop-lines.table
    (so_moved o.db o.opening input before c.loop-lines.lines _ _ _ _ _ c.loop-lines.table (c.loop-lines.invariant.served o input before e w) (λ out wrote. c.in_default-flush.ensures.ok (before ++ out) wrote))
    (λ s h. taken_lines o.db o.opening input before c.loop-lines.lines _ _ _ c.loop-lines.table s h c.read_line.new.kept _ (c.in-Err-TooMuch.ensures.found h.rest h.tells))
    (λ out wrote. c.finish-in-Err-TooMuch.ensures.written (before ++ out) wrote) c.deref-in-Err-TooMuch.ensures.value

pub leave-requires : goal.leave-requires
leave-requires g c = may_go _ c.loop-lines.invariant.running

pub returns-in-Ok-End-clause-rests : goal.returns-in-Ok-End-clause-rests
returns-in-Ok-End-clause-rests g c = λ done. at_rest _ c.loop-lines.invariant.running c.leave.ensures

-- ---- what was committed, and what a crash recovers

pub returns-in_default-clause-ends : goal.returns-in_default-clause-ends
returns-in_default-clause-ends g c = λ o input before e w. at_start o input before _ w

pub returns-in_default-clause-crash : goal.returns-in_default-clause-crash
returns-in_default-clause-crash g c = λ told o input before e w.
    survives _ _ (tells_so g.E.Stepper.stands g.E.Stepper.recovered_since g.E.Stepper.may_recover g.E.Stepper.is_told g.met.E.Stepper.recovers_prefix g.met.E.Stepper.keeps_all told c.args.engine.now) o.db o.opening _ input before _ (returns-in_default-clause-ends g c o input before e w)

pub returns-in_default-new-clause-ends : goal.returns-in_default-new-clause-ends
returns-in_default-new-clause-ends g c = λ o input before e w. at_start o input before _ w

pub returns-in_default-new-clause-crash : goal.returns-in_default-new-clause-crash
returns-in_default-new-clause-crash g c = λ told o input before e w.
    survives _ _ (tells_so g.E.Stepper.stands g.E.Stepper.recovered_since g.E.Stepper.may_recover g.E.Stepper.is_told g.met.E.Stepper.recovers_prefix g.met.E.Stepper.keeps_all told c.args.engine.now) o.db o.opening _ input before _ (returns-in_default-new-clause-ends g c o input before e w)

pub returns-in-Err-clause-ends : goal.returns-in-Err-clause-ends
returns-in-Err-clause-ends g c = λ o input before e w.
    at_fault o.db o.opening input before c.loop-lines.lines _ _ _ c.loop-lines.table
    (c.loop-lines.invariant.served o input before e w) _ (λ out wrote. c.in-Err.ensures.err (before ++ out) wrote)

pub returns-in-Err-clause-crash : goal.returns-in-Err-clause-crash
returns-in-Err-clause-crash g c = λ told o input before e w.
    survives _ _ (tells_so g.E.Stepper.stands g.E.Stepper.recovered_since g.E.Stepper.may_recover g.E.Stepper.is_told g.met.E.Stepper.recovers_prefix g.met.E.Stepper.keeps_all told c.loop-lines.engine) o.db o.opening _ input before _ (returns-in-Err-clause-ends g c o input before e w)

pub returns-in-Ok-End-clause-ends : goal.returns-in-Ok-End-clause-ends
returns-in-Ok-End-clause-ends g c = λ o input before e w.
    at_leave o.db o.opening input before c.loop-lines.lines _ _ _ c.loop-lines.table
    (so_moved o.db o.opening input before c.loop-lines.lines _ _ _ _ _ c.loop-lines.table (c.loop-lines.invariant.served o input before e w) (λ out wrote. c.in_default-flush.ensures.ok (before ++ out) wrote))
    Done _ _ _ c.leave.ensures (λ out wrote. c.finish.ensures.written (before ++ out) wrote) c.deref.ensures.value

pub returns-in-Ok-End-clause-crash : goal.returns-in-Ok-End-clause-crash
returns-in-Ok-End-clause-crash g c = λ told o input before e w.
    survives _ _ (tells_so g.E.Stepper.stands g.E.Stepper.recovered_since g.E.Stepper.may_recover g.E.Stepper.is_told g.met.E.Stepper.recovers_prefix g.met.E.Stepper.keeps_all told c.leave.new.engine) o.db o.opening _ input before _ (returns-in-Ok-End-clause-ends g c o input before e w)

pub returns-in-Err-answer_line-clause-ends : goal.returns-in-Err-answer_line-clause-ends
returns-in-Err-answer_line-clause-ends g c = λ o input before e w.
    at_loss o.db o.opening input before c.loop-lines.lines _ _ _ c.loop-lines.table
    (so_moved o.db o.opening input before c.loop-lines.lines _ _ _ _ _ c.loop-lines.table (c.loop-lines.invariant.served o input before e w) (λ out wrote. c.in_default-flush.ensures.ok (before ++ out) wrote))
    _ _ _ (λ s lines out st h. c.in-Err-answer_line.ensures.lost s o.db lines out st h) (λ out wrote. c.finish-in-Err-answer_line.ensures.written (before ++ out) wrote) (c.deref-in-Err-answer_line.ensures.value ∙ c.in-Err-answer_line.ensures.err)

pub returns-in-Err-answer_line-clause-crash : goal.returns-in-Err-answer_line-clause-crash
returns-in-Err-answer_line-clause-crash g c = λ told o input before e w.
    survives _ _ (tells_so g.E.Stepper.stands g.E.Stepper.recovered_since g.E.Stepper.may_recover g.E.Stepper.is_told g.met.E.Stepper.recovers_prefix g.met.E.Stepper.keeps_all told c.answer_line.new.engine) o.db o.opening _ input before _ (returns-in-Err-answer_line-clause-ends g c o input before e w)

pub returns-in-Err-refuse_line-clause-ends : goal.returns-in-Err-refuse_line-clause-ends
returns-in-Err-refuse_line-clause-ends g c = λ o input before e w.
    at_loss o.db o.opening input before c.loop-lines.lines _ _ _ c.loop-lines.table
    (so_moved o.db o.opening input before c.loop-lines.lines _ _ _ _ _ c.loop-lines.table (c.loop-lines.invariant.served o input before e w) (λ out wrote. c.in_default-flush.ensures.ok (before ++ out) wrote))
    _ _ _ (λ s lines out st h. c.in-Err-refuse_line.ensures.lost s o.db lines out st h) (λ out wrote. c.finish-in-Err-refuse_line.ensures.written (before ++ out) wrote) (c.deref-in-Err-refuse_line.ensures.value ∙ c.in-Err-refuse_line.ensures.err)

pub returns-in-Err-refuse_line-clause-crash : goal.returns-in-Err-refuse_line-clause-crash
returns-in-Err-refuse_line-clause-crash g c = λ told o input before e w.
    survives _ _ (tells_so g.E.Stepper.stands g.E.Stepper.recovered_since g.E.Stepper.may_recover g.E.Stepper.is_told g.met.E.Stepper.recovers_prefix g.met.E.Stepper.keeps_all told c.refuse_line.new.engine) o.db o.opening _ input before _ (returns-in-Err-refuse_line-clause-ends g c o input before e w)

pub returns-in-Err-ReadFault-clause-ends : goal.returns-in-Err-ReadFault-clause-ends
returns-in-Err-ReadFault-clause-ends g c = λ o input before e w.
    at_end o.db o.opening input before c.loop-lines.lines _ _ _ c.loop-lines.table
    (so_moved o.db o.opening input before c.loop-lines.lines _ _ _ _ _ c.loop-lines.table (c.loop-lines.invariant.served o input before e w) (λ out wrote. c.in_default-flush.ensures.ok (before ++ out) wrote))
    ReadFault _ _ _ (λ out wrote. c.finish-in-Err-ReadFault.ensures.written (before ++ out) wrote) c.deref-in-Err-ReadFault.ensures.value

pub returns-in-Err-ReadFault-clause-crash : goal.returns-in-Err-ReadFault-clause-crash
returns-in-Err-ReadFault-clause-crash g c = λ told o input before e w.
    survives _ _ (tells_so g.E.Stepper.stands g.E.Stepper.recovered_since g.E.Stepper.may_recover g.E.Stepper.is_told g.met.E.Stepper.recovers_prefix g.met.E.Stepper.keeps_all told c.loop-lines.engine) o.db o.opening _ input before _ (returns-in-Err-ReadFault-clause-ends g c o input before e w)

pub returns-in-Err-TooMuch-clause-ends : goal.returns-in-Err-TooMuch-clause-ends
returns-in-Err-TooMuch-clause-ends g c = λ o input before e w.
    at_end o.db o.opening input before c.loop-lines.lines _ _ _ c.loop-lines.table
    (so_moved o.db o.opening input before c.loop-lines.lines _ _ _ _ _ c.loop-lines.table (c.loop-lines.invariant.served o input before e w) (λ out wrote. c.in_default-flush.ensures.ok (before ++ out) wrote))
    TooMuch _ _ _ (λ out wrote. c.finish-in-Err-TooMuch.ensures.written (before ++ out) wrote) c.deref-in-Err-TooMuch.ensures.value

pub returns-in-Err-TooMuch-clause-crash : goal.returns-in-Err-TooMuch-clause-crash
returns-in-Err-TooMuch-clause-crash g c = λ told o input before e w.
    survives _ _ (tells_so g.E.Stepper.stands g.E.Stepper.recovered_since g.E.Stepper.may_recover g.E.Stepper.is_told g.met.E.Stepper.recovers_prefix g.met.E.Stepper.keeps_all told c.loop-lines.engine) o.db o.opening _ input before _ (returns-in-Err-TooMuch-clause-ends g c o input before e w)
