use Rattle.std.proofs.Common.{rules, ◌≡◌, length}
use Rattle.core_cases.proofs.Opened.{keeping_none, none_of}
use Rattle.core_cases.proofs.asking.keeps_none.Goals as goal

pub returns : goal.returns
returns c = λ s h.
    let t = c.in_ok-open_of.field-0.now in
    let none : length t.kept.items ≡ 0 = search rules in
    keeping_none c.args.core.now s h c.args.session c.in_ok-open_of.ensures.of_session t c.in_ok-open_of.ensures.there (none_of t.kept.items none)
