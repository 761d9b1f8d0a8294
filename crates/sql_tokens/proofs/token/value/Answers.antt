use Rattle.std.proofs.Common.{◌-◌, ◌*◌, ◌≤◌, ◌^◌, drop, get_or, ◌+◌, arith}
use Rattle.iv_types.specs.Tokens.{value_of}
use Rattle.sql_tokens.proofs.Values.{value_more, value-least, not_some}
use Rattle.sql_tokens.proofs.token.value.Goals as goal

pub returns-in_err-shifted-clause-fits : goal.returns-in_err-shifted-clause-fits
returns-in_err-shifted-clause-fits c =
    let digits = c.args.digits.now in
    let n = c.loop-digit.value in
    let i = c.loop-digit.digit-index in
    let large : value_of digits ≤ 2 ^ 128 - 1 → ⊥ = λ h. c.in_err-shifted.ensures (omega (arith, value_more n digits i c.loop-digit-test.true, value-least (n * 10 + (get_or digits i 0 - 48)) (drop (i + 1) digits), c.loop-digit.invariant.same)) in
    (λ some. absurd (not_some _ c.from_residual.ensures some), λ h. absurd (large h))

pub returns-in_err-value-clause-fits : goal.returns-in_err-value-clause-fits
returns-in_err-value-clause-fits c =
    let digits = c.args.digits.now in
    let n = c.loop-digit.value in
    let i = c.loop-digit.digit-index in
    let large : value_of digits ≤ 2 ^ 128 - 1 → ⊥ = λ h. c.in_err-value.ensures (omega (arith, value_more n digits i c.loop-digit-test.true, value-least (n * 10 + (get_or digits i 0 - 48)) (drop (i + 1) digits), c.loop-digit.invariant.same, c.in_ok-shifted.ensures.1, c.from.ensures, c.saturating_sub.ensures)) in
    (λ some. absurd (not_some _ c.from_residual-in_err-value.ensures some), λ h. absurd (large h))
