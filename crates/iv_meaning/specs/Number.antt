-- No clause of `run` rests on this module: it serves contracts between crates.
--
-- A number at the front of a text.
use Rattle.std.specs.Prelude.{◌≡◌, ℕ, List}
use Rattle.std.specs.List.{prefix_len}
use Rattle.std.specs.Char.{is_ascii_digit}

-- how many digits a text begins with
abbrev pub digits_at_front : List ℕ → ℕ
digits_at_front text = prefix_len is_ascii_digit text

abbrev pub BeginsWithNoDigit : List ℕ → Type 0
BeginsWithNoDigit text = digits_at_front text ≡ 0
