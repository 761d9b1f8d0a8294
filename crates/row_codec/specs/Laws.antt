-- No clause of `run` rests on this module: it serves contracts between crates.
--
-- Laws of a format, of which each column has these bytes and breaks rules so.
use Rattle.std.specs.Prelude.{◌≡◌, ℕ, List}
use Rattle.std.specs.Ordering.{nat_cmp}
use Rattle.std.specs.Cmp.Lexicographic.{slice_cmp}
use Rattle.iv_types.specs.declared.value.Kind.{Kind}
use Rattle.iv_types.specs.declared.value.Value.{Value}
use Rattle.iv_types.specs.Encoding.{FitAll, columns_bytes, key_bytes, row_cmp}
use Rattle.iv_types.specs.BadRow.{Rule, IsBad}

-- keys of the same columns are in the order of their values
abbrev pub KeyOrder : Type 0
KeyOrder = (kinds : List Kind) (one other : List Value) → FitAll kinds one → FitAll kinds other → slice_cmp nat_cmp (key_bytes kinds one) (key_bytes kinds other) ≡ row_cmp one other

-- values with the same bytes are the same
abbrev pub OneSpelling : (Kind → Value → List ℕ) → Type 0
OneSpelling column = (kinds : List Kind) (one other : List Value) → FitAll kinds one → FitAll kinds other → columns_bytes column kinds one ≡ columns_bytes column kinds other → one ≡ other

-- the bytes of values are not bad
abbrev pub NeverBoth : (Kind → Value → List ℕ) → (Kind → Rule → List ℕ → Type 0) → Type 0
NeverBoth column Breaks = (kinds : List Kind) (values : List Value) (number place : ℕ) → FitAll kinds values → IsBad column Breaks kinds (columns_bytes column kinds values) number place → ⊥

-- bad bytes are so by one rule at one place
abbrev pub OneFault : (Kind → Value → List ℕ) → (Kind → Rule → List ℕ → Type 0) → Type 0
OneFault column Breaks = (kinds : List Kind) (bytes : List ℕ) (number other place elsewhere : ℕ) → IsBad column Breaks kinds bytes number place → IsBad column Breaks kinds bytes other elsewhere → (number ≡ other) × (place ≡ elsewhere)
