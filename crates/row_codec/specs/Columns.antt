-- No clause of `run` rests on this module: it serves contracts between crates.
--
-- What decoding columns answers.
use Rattle.std.specs.Prelude.{◌≡◌, ◌≢◌, ℕ, ◌<◌, List, [], ◌∷◌, Result, Ok, Err}
use Rattle.iv_types.specs.declared.value.Kind.{Kind}
use Rattle.iv_types.specs.declared.value.Value.{Value}
use Rattle.iv_types.specs.BadRow.{Rule, rule_number}
use Rattle.row_codec.specs.declared.fault.RowFault.{RowFault}
use Rattle.row_codec.specs.declared.fault.RowFault.TheVariants.{BadRow, NoMemory}

-- the fault tells of a rule and a place for which this holds, unless memory ran out
abbrev pub Blames : (ℕ → ℕ → Type 0) → RowFault → Type 0
Blames Bad (BadRow rule place) = Bad rule place
Blames Bad NoMemory = Unit {0}

-- these values, unless memory ran out
abbrev pub Gives : Result (List Value) RowFault → List Value → Type 0
Gives (Ok found) values = found ≡ values
Gives (Err fault) values = fault ≡ NoMemory

-- the column that begins at this place breaks the rule of this number, and none of a lower one
pub record IsBroken (Breaks : Kind → Rule → List ℕ → Type 0) (kind : Kind) (bytes : List ℕ) (begin number place : ℕ) : Type 0 where
  pub rule : Rule
  pub number_is : number ≡ rule_number rule
  pub place_is : place ≡ begin
  pub breaks : Breaks kind rule bytes
  pub least : (less : Rule) → rule_number less < rule_number rule → Breaks kind less bytes → ⊥

-- No byte of a text begins here in a key: the bytes end, or a byte 0 has no 255 behind it.
abbrev pub IsStop : List ℕ → Type 0
IsStop [] = Unit {0}
IsStop (a ∷ []) = a ≡ 0
IsStop (a ∷ b ∷ more) = (a ≡ 0) × (b ≢ 255)
