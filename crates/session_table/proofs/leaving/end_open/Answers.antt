use Rattle.session_table.proofs.Ending.{open_needs, open_ended, none_ended}
use Rattle.session_table.proofs.leaving.end_open.Goals as goal

pub roll_back-requires-clause-engine : goal.roll_back-requires-clause-engine
roll_back-requires-clause-engine g c = open_needs c.args.session c.requires.session c.in-Some.kept c.requires.engine c.in-Some.ensures

pub returns-in-Some : goal.returns-in-Some
returns-in-Some g c = open_ended c.args.session c.requires.session c.in-Some.kept c.in-Some.ensures c.roll_back.ensures

pub returns-in-None : goal.returns-in-None
returns-in-None g c = none_ended c.args.session c.requires.session c.in-None.ensures
