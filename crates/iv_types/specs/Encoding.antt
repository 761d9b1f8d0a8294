-- Rows and keys in bytes. All numbers are big-endian.
use Rattle.std.specs.Prelude.{◌≢◌, ℕ, ℤ, pos, neg_ℤ, ◌+ℤ◌, ◌^◌, ◌==◌, ◌&&◌, int_le, nat_le, not, Bool, true, false, IsTrue, List, [], ◌∷◌, ◌++◌, map, length, if◌then◌else◌}
use Rattle.std.specs.List.{flat_map}
use Rattle.std.specs.Option.{option_map_or}
use Rattle.std.specs.Int.{w64, w128, cast_unsigned, bytes_high_first}
use Rattle.std.specs.Int.RustNames.{FitsSigned}
use Rattle.std.specs.Str.{is_utf8}
use Rattle.std.specs.declared.cmp.Ordering.{Ordering}
use Rattle.std.specs.declared.cmp.Ordering.TheVariants.{Less, Greater}
use Rattle.std.specs.Ordering.{int_cmp, nat_cmp, is_gt, is_lt}
use Rattle.std.specs.Cmp.Lexicographic.{slice_cmp}
use Rattle.iv_types.specs.declared.limit.TheConstants.{LONGEST_TEXT, LEAST_INT, GREATEST_INT, GREATEST_HUGE}
use Rattle.iv_types.specs.declared.catalog.TableDef.{TableDef}
use Rattle.iv_types.specs.declared.value.Kind.{Kind}
use Rattle.iv_types.specs.declared.value.Kind.TheVariants.{Int, Huge, Text}
use Rattle.iv_types.specs.declared.value.Interval.{Interval}
use Rattle.iv_types.specs.declared.value.Value.{Value}
use Rattle.iv_types.specs.declared.value.Value.TheVariants.{Number, Word}

-- ---- which values a column can hold

-- the kinds of a table's columns
abbrev pub kinds_of : TableDef → List Kind
kinds_of table = map (λ column. column.kind) table.columns

-- the most bytes of a text
abbrev pub longest_text : ℕ
longest_text = LONGEST_TEXT

-- from -(2^127 - 1) to 2^127 - 1
abbrev pub IsHuge : ℤ → Type 0
IsHuge n = FitsSigned w128 n × (n ≢ neg_ℤ (pos (2 ^ 127)))

abbrev pub is_huge : ℤ → Bool
is_huge n = int_le (neg_ℤ GREATEST_HUGE) n && int_le n GREATEST_HUGE

-- the value is of the type's family and inside it
abbrev pub fits : Kind → Value → Bool
fits Int (Number n) = int_le LEAST_INT n && int_le n GREATEST_INT
fits Huge (Number n) = is_huge n
fits Text (Word bytes) = nat_le (length bytes) longest_text && is_utf8 bytes
fits _ _ = false

abbrev pub Fits : Kind → Value → Type 0
Fits kind value = IsTrue (fits kind value)

-- one value for each type, each inside it
abbrev pub FitAll : List Kind → List Value → Type 0
FitAll [] [] = Unit {0}
FitAll (kind ∷ kinds) (value ∷ values) = Fits kind value × FitAll kinds values
FitAll _ _ = ⊥

-- ---- what their bytes are

-- the bytes of a column of a row
abbrev pub value_bytes : Kind → Value → List ℕ
value_bytes Int (Number n) = bytes_high_first 8 (cast_unsigned w64 n)
value_bytes Huge (Number n) = bytes_high_first 16 (cast_unsigned w128 n)
value_bytes Text (Word bytes) = bytes_high_first 2 (length bytes) ++ bytes
value_bytes _ _ = []

-- a byte of a text in a key: 0 is told from the text's end by a 255 behind it
abbrev pub key_byte : ℕ → List ℕ
key_byte b = if b == 0 then 0 ∷ 255 ∷ [] else b ∷ []

-- the bytes of a column of a key: numbers with the top bit flipped, texts with two bytes 0 behind them
abbrev pub key_value_bytes : Kind → Value → List ℕ
key_value_bytes Int (Number n) = bytes_high_first 8 (cast_unsigned w64 (n +ℤ pos (2 ^ 63)))
key_value_bytes Huge (Number n) = bytes_high_first 16 (cast_unsigned w128 (n +ℤ pos (2 ^ 127)))
key_value_bytes Text (Word bytes) = flat_map key_byte bytes ++ 0 ∷ 0 ∷ []
key_value_bytes _ _ = []

-- the columns one after the other
abbrev pub columns_bytes : (Kind → Value → List ℕ) → List Kind → List Value → List ℕ
columns_bytes bytes [] values = []
columns_bytes bytes kinds [] = []
columns_bytes bytes (kind ∷ kinds) (value ∷ values) = bytes kind value ++ columns_bytes bytes kinds values

abbrev pub row_bytes : List Kind → List Value → List ℕ
row_bytes = columns_bytes value_bytes

abbrev pub key_bytes : List Kind → List Value → List ℕ
key_bytes = columns_bytes key_value_bytes

-- ---- the order of values and of keys

-- of two values of one family: texts go by their bytes, in lexicographic order
abbrev pub value_cmp : Value → Value → Ordering
value_cmp (Number m) (Number n) = int_cmp m n
value_cmp (Word a) (Word b) = slice_cmp nat_cmp a b
value_cmp (Number m) (Word b) = Less
value_cmp (Word a) (Number n) = Greater

-- the first column that differs decides
abbrev pub row_cmp : List Value → List Value → Ordering
row_cmp = slice_cmp value_cmp

-- the key is at or after the low end, and before the high end if there is one
abbrev pub lies_in : List ℕ → Interval → Bool
lies_in key interval = not (is_gt (slice_cmp nat_cmp interval.low key)) && option_map_or (λ high. is_lt (slice_cmp nat_cmp key high)) interval.high true
