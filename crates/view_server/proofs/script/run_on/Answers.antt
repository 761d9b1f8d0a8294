use Rattle.view_server.proofs.Opening.{on_nothing}
use Rattle.view_server.proofs.script.run_on.Goals as goal

pub run_lines-requires : goal.run_lines-requires
run_lines-requires g c = record { opened = on_nothing _ c.empty_law.ensures c.requires }

pub returns-clause-output : goal.returns-clause-output
returns-clause-output g c = λ input before e w. c.run_lines.ensures.output (on_nothing _ c.empty_law.ensures c.requires) input before e w
