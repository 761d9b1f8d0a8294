use Rattle.std.proofs.Common.{◌≤◌, ◌+◌, ◌*◌, []}
use Rattle.iv_meaning.specs.Database.{Database}
use Rattle.txn_machine.specs.Alone.{Story}
use Rattle.made_script.specs.Made.{lines_before_last}
use Rattle.session_table.specs.Going.{StandsIn}
use Rattle.script_run.specs.Lines.{IsRunning}
use Rattle.script_run.specs.Making.{HasMadeLines}
use Rattle.script_run.proofs.made.run_rounds.Given as goal

abbrev pub invariant-loop-round : goal.invariant-loop-round
invariant-loop-round g l = record {
  running : IsRunning (g.E.Stepper.stands l.engine) l.table;
  ran : (s : Story) (db : Database) → g.E.Stepper.stands l.fn.engine s.state → HasMadeLines db [] 0 l.fn.table s
      → StandsIn (g.E.Stepper.stands l.engine) (HasMadeLines db (lines_before_last l.round) l.count l.table);
  few : l.count ≤ 2 + 26 * l.round;
}
