use Rattle.std.proofs.Common.{◌∙◌, ap, ◌++◌, ◌∷◌, []}
use Rattle.std.proofs.lemmas.Result.{on_ok_weaker}
use Rattle.iv_types.specs.declared.refusal.Refusal.TheVariants as refusal
use Rattle.iv_types.specs.declared.reply.Reply.TheVariants as reply
use Rattle.iv_meaning.specs.Reply.{reply_lines}
use Rattle.session_table.proofs.Doing.{not_read_told, loaded_stood}
use Rattle.session_table.proofs.Losing.{lost_so, stood}
use Rattle.session_table.proofs.lines.session_line.Goals as goal

pub returns-in-Loads-clause-did : goal.returns-in-Loads-clause-did
returns-in-Loads-clause-did g c = rw c.in-Loads.is (on_ok_weaker c.load_text.result (λ did. loaded_stood (g.S.Stepper.stands c.args.engine.now) c.args.slot.now c.load_text.new.slot c.args.text.now.items c.load_text.new.text.items c.in-Loads.read did) c.load_text.ensures.did)

pub returns-in-Unread-clause-did : goal.returns-in-Unread-clause-did
returns-in-Unread-clause-did g c = rw c.in-Unread.is (on_ok_weaker c.push_one.result (λ told. not_read_told (g.S.Stepper.stands c.args.engine.now) c.args.slot.now c.args.text.now.items c.requires.fits c.push_one.new.text.items
    (told ∙ ap (λ i. c.args.text.now.items ++ reply_lines i (reply.Error refusal.NoMemory ∷ [])) c.number.ensures)) c.push_one.ensures)

pub returns-in-Runs-clause-did : goal.returns-in-Runs-clause-did
returns-in-Runs-clause-did g c = rw c.in-Runs.is c.run_text.ensures.did

pub returns-in-Steps-clause-did : goal.returns-in-Steps-clause-did
returns-in-Steps-clause-did g c = rw c.in-Steps.is c.step_line.ensures.did

pub returns-in-Loads-clause-lost : goal.returns-in-Loads-clause-lost
returns-in-Loads-clause-lost g c = lost_so c.load_text.result (λ s st go. stood (g.S.Stepper.stands c.args.engine.now) s st)

pub returns-in-Unread-clause-lost : goal.returns-in-Unread-clause-lost
returns-in-Unread-clause-lost g c = lost_so c.push_one.result (λ s st go. stood (g.S.Stepper.stands c.args.engine.now) s st)
