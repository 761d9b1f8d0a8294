use Rattle.std.proofs.Common.{◌≡◌, ◌∙◌, sym, subst}
use Rattle.std.specs.Prelude.{IsUtf8}
use Rattle.line_requests.proofs.FormLemmas.{one_behind}
use Rattle.line_requests.proofs.texts.marked.Goals as goal

pub returns-in-Ok-clause-complete : goal.returns-in-Ok-clause-complete
returns-in-Ok-clause-complete c = λ text b.
    let same : c.behind_spaces.result.now ≡ text = one_behind c.args.mark.now text c.args.rest.now c.in_ok-spaced.spaced.now c.behind_spaces.result.now b (c.in_ok-spaced.ensures.complete b.behind b.written) c.behind_spaces.ensures in
    c.in-Ok.ensures.cases.0 ∙ same

pub returns-in-Err-clause-complete : goal.returns-in-Err-clause-complete
returns-in-Err-clause-complete c = λ text b.
    let same : c.behind_spaces.result.now ≡ text = one_behind c.args.mark.now text c.args.rest.now c.in_ok-spaced.spaced.now c.behind_spaces.result.now b (c.in_ok-spaced.ensures.complete b.behind b.written) c.behind_spaces.ensures in
    c.in-Err.ensures.cases.0 (subst IsUtf8 (sym same) b.readable)
