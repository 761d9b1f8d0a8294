-- No clause of `run` rests on this module: it serves contracts between crates.
--
-- A text as it is written.
use Rattle.std.specs.Prelude.{◌≡◌, ℕ, Bool, ◌||◌, List, [], codes, if◌then◌else◌}
use Rattle.iv_types.specs.Printing.{Written}
use Rattle.sql_pieces.specs.Sinks.{is_tight}

-- the space before a piece
abbrev pub gap_text : Bool → Bool → List ℕ
gap_text tight close = if tight || close then [] else codes " "

-- the bytes are the text, and it is known whether what comes next stands without a space
pub record Holds (bytes : List ℕ) (tight : Bool) (w : Written) : Type 0 where
  pub text : bytes ≡ w.text
  pub gap : tight ≡ is_tight w.last
