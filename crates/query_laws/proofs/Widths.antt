-- What values that fit take in a row and in a key.
use Rattle.std.specs.Prelude.{◌≡◌, ℕ, ◌*◌, ◌≤◌, ◌==◌, ◌^◌, ◌&&◌, Bool, true, false, cond, List, [], ◌∷◌, length, nat_le, pos, ◌+ℤ◌, IsTrue}
use Rattle.std.specs.List.{flat_map}
use Rattle.std.specs.Int.{w64, w128, cast_unsigned}
use mathlib.Core.Path.{refl}
use Rattle.std.proofs.Common.{arith, length-append}
use Rattle.std.proofs.lemmas.Bool.{leb-true}
use Rattle.byteorder.specs.Numbers.{length-bytes_high_first}
use Rattle.std.specs.Int.{bytes_high_first}
use Rattle.iv_types.specs.declared.value.Kind.{Kind}
use Rattle.iv_types.specs.declared.value.Kind.TheVariants.{Int, Huge, Text}
use Rattle.iv_types.specs.declared.value.Value.{Value}
use Rattle.iv_types.specs.declared.value.Value.TheVariants.{Number, Word}
use Rattle.iv_types.specs.Encoding.{longest_text, Fits, value_bytes, key_byte, key_value_bytes, row_bytes, key_bytes}
use Rattle.iv_meaning.specs.Shape.{key_width, row_width}
use Rattle.query_laws.specs.Limited.{WidthLaw}

first_true : (a b : Bool) → IsTrue (a && b) → a ≡ true
first_true true b h = refl
first_true false b h = absurd cc

text_short : (bytes : List ℕ) → Fits Text (Word bytes) → length bytes ≤ longest_text
text_short bytes fits = leb-true (length bytes) longest_text (first_true (nat_le (length bytes) longest_text) _ fits)

byte_wide : (b : ℕ) → length (key_byte b) ≤ 2
byte_wide b = elim (b == 0) as (λ x. length (cond x (0 ∷ 255 ∷ []) (b ∷ [])) ≤ 2) [ true ↦ omega arith | false ↦ omega arith ]

bytes_wide : (bytes : List ℕ) → length (flat_map key_byte bytes) ≤ 2 * length bytes
bytes_wide [] = omega arith
bytes_wide (b ∷ bytes) = omega (arith, length-append (key_byte b) (flat_map key_byte bytes), byte_wide b, bytes_wide bytes)

-- one column
value_wide : (kind : Kind) (v : Value) → Fits kind v → (length (value_bytes kind v) ≤ row_width kind) × (length (key_value_bytes kind v) ≤ key_width kind)
value_wide Int (Number n) fits = (omega (arith, length-bytes_high_first 8 (cast_unsigned w64 n)), omega (arith, length-bytes_high_first 8 (cast_unsigned w64 (n +ℤ pos (2 ^ 63)))))
value_wide Huge (Number n) fits = (omega (arith, length-bytes_high_first 16 (cast_unsigned w128 n)), omega (arith, length-bytes_high_first 16 (cast_unsigned w128 (n +ℤ pos (2 ^ 127)))))
value_wide Text (Word bytes) fits =
    let short = text_short bytes fits in
    let two = length-bytes_high_first 2 (length bytes) in (
      omega (arith, short, two, length-append (bytes_high_first 2 (length bytes)) bytes),
      omega (arith, short, bytes_wide bytes, length-append (flat_map key_byte bytes) (0 ∷ 0 ∷ [])),
    )
value_wide Text (Number n) fits = absurd cc
value_wide Int (Word bytes) fits = absurd cc
value_wide Huge (Word bytes) fits = absurd cc

pub width_law : WidthLaw
width_law [] [] fits = (omega arith, omega arith)
width_law (kind ∷ kinds) (v ∷ row) fits =
    let here = value_wide kind v fits.0 in
    let rest = width_law kinds row fits.1 in (
      omega (arith, here.0, rest.0, length-append (value_bytes kind v) (row_bytes kinds row)),
      omega (arith, here.1, rest.1, length-append (key_value_bytes kind v) (key_bytes kinds row)),
    )
width_law [] (v ∷ row) fits = absurd fits
width_law (kind ∷ kinds) [] fits = absurd fits
