-- No clause of `run` rests on this module: it serves contracts between crates.
--
-- What is wrong with bytes that are no row, or no key.
use Rattle.std.specs.Prelude.{◌≡◌, ◌≢◌, ◌⊎◌, ℕ, ◌+◌, ◌<◌, List, [], ◌∷◌, ◌++◌, length, take, drop, replicate}
use Rattle.std.specs.List.{flat_map}
use Rattle.std.specs.Int.{w16, from_be_bytes}
use Rattle.std.specs.Str.{IsUtf8}
use Rattle.iv_types.specs.declared.value.Kind.{Kind}
use Rattle.iv_types.specs.declared.value.Kind.TheVariants.{Int, Huge, Text}
use Rattle.iv_types.specs.declared.value.Value.{Value}
use Rattle.iv_types.specs.Encoding.{longest_text, FitAll, value_bytes, key_value_bytes, key_byte, columns_bytes}

-- the rules that bytes can break
pub data Rule : Type 0 where
  -- the bytes end too early
  Early : Rule
  -- HUGE holds -2^127
  LeastHuge : Rule
  -- a text is longer than 200 bytes
  LongText : Rule
  -- a text is not UTF-8
  NotUtf8 : Rule
  -- bytes are left over
  LeftOver : Rule
  -- in a key, a byte 0 is followed by neither 0 nor 255
  LoneZero : Rule

abbrev pub rule_number : Rule → ℕ
rule_number Early = 1
rule_number LeastHuge = 2
rule_number LongText = 3
rule_number NotUtf8 = 4
rule_number LeftOver = 5
rule_number LoneZero = 6

-- the length that stands before a text's bytes in a row
abbrev pub text_length : List ℕ → ℕ
text_length bytes = from_be_bytes w16 (take 2 bytes)

-- the text of that length
abbrev pub row_text : List ℕ → List ℕ
row_text bytes = take (text_length bytes) (drop 2 bytes)

-- a column of a row breaks the rule, of which the bytes begin so
abbrev pub RowBreaks : Kind → Rule → List ℕ → Type 0
RowBreaks Int Early bytes = length bytes < 8
RowBreaks Huge Early bytes = length bytes < 16
RowBreaks Huge LeastHuge bytes = take 16 bytes ≡ 128 ∷ replicate 15 0
RowBreaks Text Early bytes = (length bytes < 2) ⊎ (length bytes < 2 + text_length bytes)
RowBreaks Text LongText bytes = longest_text < text_length bytes
RowBreaks Text NotUtf8 bytes = IsUtf8 (row_text bytes) → ⊥
RowBreaks kind rule bytes = ⊥

-- a column of a key breaks the rule, of which the bytes begin so
abbrev pub KeyBreaks : Kind → Rule → List ℕ → Type 0
KeyBreaks Int Early bytes = length bytes < 8
KeyBreaks Huge Early bytes = length bytes < 16
KeyBreaks Huge LeastHuge bytes = take 16 bytes ≡ replicate 16 0
KeyBreaks Text Early bytes = (text : List ℕ) × ((bytes ≡ flat_map key_byte text) ⊎ (bytes ≡ flat_map key_byte text ++ 0 ∷ []))
KeyBreaks Text LongText bytes = (text : List ℕ) × (more : List ℕ) × (bytes ≡ flat_map key_byte text ++ 0 ∷ 0 ∷ more) × (longest_text < length text)
KeyBreaks Text NotUtf8 bytes = (text : List ℕ) × (more : List ℕ) × (bytes ≡ flat_map key_byte text ++ 0 ∷ 0 ∷ more) × (IsUtf8 text → ⊥)
KeyBreaks Text LoneZero bytes = (text : List ℕ) × (more : List ℕ) × (b : ℕ) × (bytes ≡ flat_map key_byte text ++ 0 ∷ b ∷ more) × (b ≢ 0) × (b ≢ 255)
KeyBreaks kind rule bytes = ⊥

-- Where the columns before are whole: the bytes of a column break this rule and none of a lower number, or there is no
-- further column and bytes are left over.
abbrev pub StopsAt : (Kind → Rule → List ℕ → Type 0) → List Kind → Rule → List ℕ → Type 0
StopsAt Breaks [] rule bytes = (rule ≡ LeftOver) × (bytes ≢ [])
StopsAt Breaks (kind ∷ kinds) rule bytes = Breaks kind rule bytes × ((less : Rule) → rule_number less < rule_number rule → Breaks kind less bytes → ⊥)

-- The first column that fails, at the place where it begins, by the least rule that it breaks.
pub record IsBad (column : Kind → Value → List ℕ) (Breaks : Kind → Rule → List ℕ → Type 0) (kinds : List Kind) (bytes : List ℕ) (number place : ℕ) : Type 0 where
  pub rule : Rule
  pub number_is : number ≡ rule_number rule
  pub before : List Kind
  pub behind : List Kind
  pub split : kinds ≡ before ++ behind
  pub values : List Value
  pub fit : FitAll before values
  pub rest : List ℕ
  pub text : bytes ≡ columns_bytes column before values ++ rest
  pub place_is : place ≡ length (columns_bytes column before values)
  pub stops : StopsAt Breaks behind rule rest

abbrev pub IsBadRow : List Kind → List ℕ → ℕ → ℕ → Type 0
IsBadRow = IsBad value_bytes RowBreaks

abbrev pub IsBadKey : List Kind → List ℕ → ℕ → ℕ → Type 0
IsBadKey = IsBad key_value_bytes KeyBreaks
