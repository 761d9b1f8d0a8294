use Rattle.std.proofs.Common.{rules, ◌≡◌, length}
use Rattle.core_cases.proofs.Opened.{ready, none_of}
use Rattle.core_cases.proofs.asking.is_ready.Goals as goal

pub returns : goal.returns
returns c = λ s h.
    let t = c.in_ok-goes_on.field-0.now in
    let none : length t.owed.items ≡ 0 = search rules in
    ready c.args.core.now s h c.args.session c.in_ok-goes_on.ensures.of_session t c.in_ok-goes_on.ensures.there c.args.mode c.in_ok-goes_on.ensures.mode c.in_ok-goes_on.ensures.not_lost (none_of t.owed.items none)
