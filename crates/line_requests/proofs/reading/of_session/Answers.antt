use Rattle.std.proofs.Common.{subst, sym}
use Rattle.std.proofs.lemmas.Bool.{false≢true}
use Rattle.iv_meaning.specs.Said.{SaysRead}
use Rattle.line_requests.proofs.FormLemmas.{to_run, to_load, no_form}
use Rattle.line_requests.proofs.reading.of_session.Goals as goal

pub returns-in-Some-clause-says : goal.returns-in-Some-clause-says
returns-in-Some-clause-says c = λ line h. to_run c.args.session c.args.rest.now line h c.in-Some.text.now c.runs.result c.in-Some.ensures.sound c.runs.ensures.asks

pub returns-in-Some-marked-clause-says : goal.returns-in-Some-marked-clause-says
returns-in-Some-marked-clause-says c = λ line h. to_load c.args.session c.args.rest.now line h c.in-Some-marked.text.now c.loads.result c.in-Some-marked.ensures.sound c.loads.ensures.asks

pub returns-in-None-marked-clause-says : goal.returns-in-None-marked-clause-says
returns-in-None-marked-clause-says c = λ line h said e.
    subst (SaysRead line) (sym e) (no_form c.args.session c.args.rest.now line h (λ plus. false≢true (c.if-is_text.ensures.1 plus)) c.in-None.ensures.complete c.in-None-marked.ensures.complete)
