use Rattle.std.proofs.Common.{Ok, Err}
use Rattle.std.proofs.lemmas.Result.{on_ok_weaker}
use Rattle.session_table.proofs.Removing.{clean_told}
use Rattle.session_table.proofs.Losing.{lost_so, clean_lost}
use Rattle.session_table.proofs.cleaning.clean_line.Goals as goal

pub returns-in-Ok-clause-did : goal.returns-in-Ok-clause-did
returns-in-Ok-clause-did g c = on_ok_weaker c.push_counted.result (λ told. clean_told (g.S.Stepper.stands c.args.engine.now) (Ok c.in-Ok.count) c.args.text.now.items c.push_counted.new.text.items told c.in-Ok.ensures) c.push_counted.ensures

pub returns-in-Ok-clause-lost : goal.returns-in-Ok-clause-lost
returns-in-Ok-clause-lost g c = lost_so c.push_counted.result (clean_lost (g.S.Stepper.stands c.args.engine.now) (Ok c.in-Ok.count) c.in-Ok.ensures)

pub returns-in-Err-clause-did : goal.returns-in-Err-clause-did
returns-in-Err-clause-did g c = on_ok_weaker c.push_refused.result (λ told. clean_told (g.S.Stepper.stands c.args.engine.now) (Err c.in-Err.why) c.args.text.now.items c.push_refused.new.text.items told c.in-Err.ensures) c.push_refused.ensures

pub returns-in-Err-clause-lost : goal.returns-in-Err-clause-lost
returns-in-Err-clause-lost g c = lost_so c.push_refused.result (clean_lost (g.S.Stepper.stands c.args.engine.now) (Err c.in-Err.why) c.in-Err.ensures)
