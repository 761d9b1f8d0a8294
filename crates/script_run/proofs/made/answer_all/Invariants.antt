use Rattle.std.proofs.Common.{◌≤◌, ◌+◌, ◌++◌, List, ℕ, map, take}
use Rattle.std.specs.Prelude.{string_bytes}
use Rattle.iv_meaning.specs.Database.{Database}
use Rattle.txn_machine.specs.Alone.{Story}
use Rattle.session_table.specs.Going.{StandsIn}
use Rattle.script_run.specs.Lines.{IsRunning}
use Rattle.script_run.specs.Making.{HasMadeLines}
use Rattle.script_run.proofs.made.answer_all.Given as goal

abbrev pub invariant-loop-line : goal.invariant-loop-line
invariant-loop-line g l = record {
  running : IsRunning (g.E.Stepper.stands l.engine) l.table;
  ran : (s : Story) (db : Database) (before : List (List ℕ)) → g.E.Stepper.stands l.fn.engine s.state → HasMadeLines db before l.fn.count l.fn.table s
      → StandsIn (g.E.Stepper.stands l.engine) (HasMadeLines db (before ++ map string_bytes (take l.line-index l.lines)) l.count l.table);
  few : l.count ≤ l.fn.count + l.line-index;
}
