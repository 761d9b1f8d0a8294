use Rattle.std.proofs.Common.{rules, ◌≢◌, []}
use Rattle.core_cases.proofs.Opened.{keeping}
use Rattle.core_cases.proofs.asking.keeps.Goals as goal

pub returns : goal.returns
returns c = λ s h.
    let t = c.in_ok-open_of.field-0.now in
    let some : t.kept.items ≢ [] = search rules in
    keeping c.args.core.now s h c.args.session c.in_ok-open_of.ensures.of_session t c.in_ok-open_of.ensures.there some
