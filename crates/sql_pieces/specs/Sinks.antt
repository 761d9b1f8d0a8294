-- No clause of `run` rests on this module: it serves contracts between crates.
--
-- What a sink of pieces holds once pieces are written to it.
use Rattle.std.specs.Prelude.{◌≡◌, ℕ, ℤ, pos, negsuc, suc, Bool, true, ◌||◌, List, Option, Some, None, Result, OnOk, OnErr, if◌then◌else◌, min, length}
use Rattle.iv_types.specs.declared.fault.NoMemory.{NoMemory}
use Rattle.iv_types.specs.declared.terminal.Terminal.TheVariants as t
use Rattle.iv_types.specs.Printing.{Piece, number, negative, is_mark, Written, write, most_counted}

-- If it went well, a sink that held a text holds that text with the pieces written behind it. Only a sink that takes
-- memory can want it.
pub record Wrote {S : Type 0} (holds : S → Written → Type 0) (takes_memory : Bool) (old : S) (result : Result (Unit {0}) NoMemory) (new : S) (ps : List Piece) : Type 0 where
  pub adds : (w : Written) → holds old w → OnOk result (holds new (write w ps))
  pub wants : OnErr result (takes_memory ≡ true)

-- a number, whose sign and digits are one piece
abbrev pub number_piece : ℤ → Piece
number_piece (pos n) = number n
number_piece (negsuc n) = negative (suc n)

-- whether what comes next stands without a space, whatever it is
abbrev pub is_tight : Option Piece → Bool
is_tight None = true
is_tight (Some p) = is_mark t.Open p || is_mark t.Point p

-- whether a piece stands without a space behind what comes before it, whatever that is
abbrev pub is_close : Piece → Bool
is_close q = (is_mark t.Close q || is_mark t.Comma q) || is_mark t.Point q

-- the size of the gap before a piece
abbrev pub gap_size : Bool → Bool → ℕ
gap_size tight close = if tight || close then 0 else 1

-- as many bytes as are counted of a text, and whether what comes next stands without a space
pub record Counts (bytes : ℕ) (tight : Bool) (w : Written) : Type 0 where
  pub count : bytes ≡ min most_counted (length w.text)
  pub gap : tight ≡ is_tight w.last
