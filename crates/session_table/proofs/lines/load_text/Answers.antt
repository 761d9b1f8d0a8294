use Rattle.std.proofs.Common.{◌∙◌, ap, ◌++◌, ◌∷◌, [], sym, subst}
use Rattle.std.proofs.lemmas.Result.{on_ok_weaker}
use Rattle.iv_types.specs.declared.reply.Reply.TheVariants as reply
use Rattle.iv_meaning.specs.Reply.{reply_lines}
use Rattle.txn_sessions.specs.Within.{IsWithin}
use Rattle.session_table.specs.declared.going.Came.TheVariants as came
use Rattle.session_table.proofs.Doing.{loads_refused_told, loaded_told, fits_kept, stepping_not, held_not}
use Rattle.session_table.proofs.lines.load_text.Goals as goal

pub returns-in-Some-clause-did : goal.returns-in-Some-clause-did
returns-in-Some-clause-did c = on_ok_weaker c.push_one.result (λ told. loads_refused_told (λ s. Unit {0}) c.args.slot.now c.args.text.now.items c.requires.fits c.args.read c.in-Some.why c.give.new.slot c.push_one.new.text.items
    c.in-Some.ensures.gave c.give.ensures.number c.give.ensures.within (told ∙ ap (λ i. c.args.text.now.items ++ reply_lines i (reply.Error c.in-Some.why ∷ [])) c.number.ensures)) c.push_one.ensures

pub returns-clause-did : goal.returns-clause-did
returns-clause-did c = on_ok_weaker c.tell.result (λ told. loaded_told (λ s. Unit {0}) c.args.slot.now c.args.text.now.items c.requires.fits c.args.read c.give.new.slot c.tell.new.slot c.tell.new.text.items
    c.requires.read c.in_default.ensures.gave c.give.ensures.number c.give.ensures.within c.tell.ensures.session c.tell.ensures.line told) c.tell.ensures.told

pub returns-clause-fits : goal.returns-clause-fits
returns-clause-fits c = fits_kept c.tell.new.slot c.give.new.slot.session came.Stepped _ _ c.tell.ensures.session c.tell.ensures.line held_not stepping_not c.in_default.ensures.gave.3

pub returns-clause-within : goal.returns-clause-within
returns-clause-within c = λ n h. subst (IsWithin n) (sym c.tell.ensures.session) (c.give.ensures.within n h)
