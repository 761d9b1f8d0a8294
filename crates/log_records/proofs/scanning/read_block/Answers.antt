use Rattle.std.proofs.Common.{◌+◌, ◌-◌, List, length, ap, sym, ◌∙◌, arith}
use Rattle.log_records.specs.declared.record.Scanned.{Scanned}
use Rattle.log_records.specs.Scan.{with_before, records}
use Rattle.log_records.proofs.RecordSteps.{at_end, at_last, at_bad, at_more, eq_of, more_of}
use Rattle.log_records.proofs.scanning.read_block.Goals as goal

pub returns-then-is_empty-clause-ok : goal.returns-then-is_empty-clause-ok
returns-then-is_empty-clause-ok c =
    at_end c.args.place c.loop.at c.loop.rest.now c.args.block.now c.loop.out.items c.args.out.now.items (length c.args.block.now) c.loop.counter c.loop.invariant.steps
    (eq_of (length c.loop.rest.now) 0 (sym c.is_empty.ensures ∙ c.if-is_empty.true))

pub returns-clause-ok : goal.returns-clause-ok
returns-clause-ok c =
    at_last c.args.place c.loop.at c.loop.rest.now c.args.block.now c.loop.out.items c.args.out.now.items (length c.args.block.now) c.loop.counter c.loop.invariant.steps (omega arith)

pub returns-in-Err-clause-err : goal.returns-in-Err-clause-err
returns-in-Err-clause-err c =
    at_bad c.args.place c.loop.at c.loop.rest.now c.args.block.now c.loop.out.items c.args.out.now.items (length c.args.block.now) c.loop.counter c.loop.invariant.steps
    c.in-Err.fault c.loop-test.true (more_of (length c.loop.rest.now) (sym c.is_empty.ensures ∙ c.if-is_empty.false)) c.in-Err.ensures.exact

pub loop-preserved : goal.loop-preserved
loop-preserved c = record {
  ends = c.in-Ok.ensures.ends ∙ c.loop.invariant.ends;
  steps = ap (λ (l : List Scanned). with_before l (records (length c.args.block.now - (c.loop.counter + 1)) c.in-Ok.found.0.end c.in-Ok.found.1.now)) c.in_ok-push.ensures.items
      ∙ at_more c.args.place c.loop.at c.loop.rest.now c.args.block.now c.loop.out.items c.args.out.now.items (length c.args.block.now) c.loop.counter c.loop.invariant.steps
      c.in-Ok.found.0 c.in-Ok.found.1.now c.loop-test.true (more_of (length c.loop.rest.now) (sym c.is_empty.ensures ∙ c.if-is_empty.false)) c.in-Ok.ensures.exact;
}
