use Rattle.view_server.proofs.Opening.{on_nothing}
use Rattle.view_server.proofs.script.make_on.Goals as goal

pub run_made-requires : goal.run_made-requires
run_made-requires g c = record { opened = on_nothing _ c.empty_law.ensures c.requires }

pub returns-clause-made : goal.returns-clause-made
returns-clause-made g c = λ before w. c.run_made.ensures.made (on_nothing _ c.empty_law.ensures c.requires) before w
