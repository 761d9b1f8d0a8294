use Rattle.std.proofs.Common.{◌≡◌, ◌≤◌, drop}
use Rattle.iv_types.specs.Tokens.{value_onto, value_of}
use Rattle.line_requests.proofs.numbers.value.Given as goal

abbrev pub invariant-loop-digit : goal.invariant-loop-digit
invariant-loop-digit l = (l.value ≤ l.most) × (value_onto l.value (drop l.digit-index l.digits) ≡ value_of l.digits)
