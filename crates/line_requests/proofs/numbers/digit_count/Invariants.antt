use Rattle.std.proofs.Common.{◌≡◌, ◌≤◌, ◌+◌, length, drop}
use Rattle.iv_meaning.specs.Number.{digits_at_front}
use Rattle.line_requests.proofs.numbers.digit_count.Given as goal

abbrev pub invariant-loop-place : goal.invariant-loop-place
invariant-loop-place l = (l.place ≤ length l.text) × (l.place + digits_at_front (drop l.place l.text) ≡ digits_at_front l.text)
