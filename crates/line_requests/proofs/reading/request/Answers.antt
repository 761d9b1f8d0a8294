use Rattle.std.proofs.Common.{subst, sym}
use Rattle.std.proofs.lemmas.Bool.{false≢true}
use Rattle.iv_meaning.specs.Said.{SaysRead}
use Rattle.line_requests.proofs.FormLemmas.{unnumbered}
use Rattle.line_requests.proofs.reading.request.Goals as goal

pub returns-in-None-clause-says : goal.returns-in-None-clause-says
returns-in-None-clause-says c = λ said e.
    let line = c.args.line.now in
    subst (SaysRead line) (sym e) (unnumbered line (λ h. false≢true (c.if-is_remark.ensures.1 h)) (λ h. false≢true (c.if-is_text.ensures.1 h)) (λ h. false≢true (c.if-is_text-2.ensures.1 h)) c.in-None.ensures.complete)
