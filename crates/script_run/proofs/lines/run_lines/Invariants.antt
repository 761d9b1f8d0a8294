use Rattle.std.proofs.Common.{◌≡◌, ◌+◌, ℕ, List, Some, length}
use Rattle.line_wire.specs.Reading.{lines_left}
use Rattle.session_table.specs.Going.{StandsIn}
use Rattle.script_run.specs.Lines.{WasOpened, IsRunning}
use Rattle.script_run.proofs.Serving.{Serving}
use Rattle.script_run.proofs.lines.run_lines.Given as goal

abbrev pub invariant-loop-lines : goal.invariant-loop-lines
invariant-loop-lines g l = record {
  running : IsRunning (g.E.Stepper.stands l.engine) l.table;
  served : (o : WasOpened (g.E.Stepper.stands l.fn.engine)) (input before : List ℕ) → g.S.Source.left l.fn.source ≡ Some input → g.K.Sink.written l.fn.sink ≡ Some before
      → StandsIn (g.E.Stepper.stands l.engine) (Serving o.db o.opening input before l.lines (g.S.Source.left l.source) (g.K.Sink.written l.sink) (l.waiting.items) l.table);
  counted : (input : List ℕ) → g.S.Source.left l.fn.source ≡ Some input → (rest : List ℕ) × (g.S.Source.left l.source ≡ Some rest) × (l.lines.taken + length rest ≡ length input);
  reads : g.S.Source.faults l.source ≡ g.S.Source.faults l.fn.source;
  writes : g.K.Sink.faults l.sink ≡ g.K.Sink.faults l.fn.sink;
}

abbrev pub decreases-loop-lines : goal.decreases-loop-lines
decreases-loop-lines g l = lines_left l.lines
