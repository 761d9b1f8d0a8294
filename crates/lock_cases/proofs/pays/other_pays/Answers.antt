use Rattle.std.specs.Prelude.{◌≢◌}
use Rattle.std.proofs.Common.{rules}
use Rattle.lock_cases.proofs.pays.other_pays.Goals as goal

pub returns-clause-kept : goal.returns-clause-kept
returns-clause-kept c = λ pays kept.
    let left = c.in_ok-paid.ensures.kept pays kept in
    let apart : c.args.session ≢ c.in_ok-payer.payer = search rules in
    (left.0, left.1, left.2 c.args.session apart)
