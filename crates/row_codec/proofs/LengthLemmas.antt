-- Lengths of encoded rows and keys.
use Rattle.std.specs.Prelude.{◌≡◌, ◌==◌, ℕ, ◌+◌, ◌*◌, ◌^◌, ◌<◌, ◌≤◌, pos, ◌+ℤ◌, Bool, true, false, cond, List, [], ◌∷◌, ◌++◌, length, drop, get_or}
use Rattle.std.specs.List.{flat_map}
use Rattle.std.proofs.Common.{arith, length-append}
use mathlib.Core.Path.{refl, sym, ap, ◌∙◌}
use Rattle.std.specs.Int.{w64, w128, cast_unsigned, bytes_high_first}
use Rattle.byteorder.specs.Numbers.{length-bytes_high_first}
use Rattle.iv_types.specs.declared.value.Kind.{Kind}
use Rattle.iv_types.specs.declared.value.Kind.TheVariants.{Int, Huge, Text}
use Rattle.iv_types.specs.declared.value.Value.{Value}
use Rattle.iv_types.specs.declared.value.Value.TheVariants.{Number, Word}
use Rattle.iv_types.specs.Encoding.{Fits, FitAll, value_bytes, key_value_bytes, key_byte, row_bytes}
use Rattle.iv_types.proofs.Fitting.{text_is}
use Rattle.row_codec.proofs.Columns.{Written, written_none, written_more, written_all}

-- a value has so many bytes at most
short : (kind : Kind) (v : Value) → Fits kind v → length (value_bytes kind v) ≤ 202
short Int (Number n) f = let e : length (bytes_high_first 8 (cast_unsigned w64 n)) ≡ 8 = length-bytes_high_first 8 (cast_unsigned w64 n) in omega (arith, e)
short Huge (Number n) f = let e : length (bytes_high_first 16 (cast_unsigned w128 n)) ≡ 16 = length-bytes_high_first 16 (cast_unsigned w128 n) in omega (arith, e)
short Text (Number n) f = omega arith
short Int (Word bytes) f = omega arith
short Huge (Word bytes) f = omega arith
short Text (Word bytes) f =
    let e : length (bytes_high_first 2 (length bytes)) ≡ 2 = length-bytes_high_first 2 (length bytes) in
    let most : length bytes ≤ 200 = (text_is bytes f).0 in
    omega (arith, length-append (bytes_high_first 2 (length bytes)) bytes, e, most)

pub row_short : (kinds : List Kind) (values : List Value) → FitAll kinds values → length (row_bytes kinds values) ≤ 202 * length kinds
row_short [] values f = omega arith
row_short (kind ∷ kinds) [] f = absurd f
row_short (kind ∷ kinds) (v ∷ values) f =
    let here : length (value_bytes kind v) ≤ 202 = short kind v f.0 in
    let rest : length (row_bytes kinds values) ≤ 202 * length kinds = row_short kinds values f.1 in
    omega (arith, length-append (value_bytes kind v) (row_bytes kinds values))

-- ---- the bytes of the first columns

-- these columns have so many bytes
pub record IsMeasured (kinds : List Kind) (values : List Value) (place sum : ℕ) : Type 0 where
  pub out : List ℕ
  pub written : Written value_bytes kinds values place out
  pub sum_is : sum ≡ length out

pub measured_none : (kinds : List Kind) (values : List Value) → FitAll kinds values → IsMeasured kinds values 0 0
measured_none kinds values f = record { out = []; written = written_none f; sum_is = refl }

pub measured_more : (kinds : List Kind) (values : List Value) (place sum : ℕ) (k : Kind) (v : Value) (n : ℕ) → IsMeasured kinds values place sum → place < length kinds → k ≡ get_or kinds place k → v ≡ get_or values place v
    → n ≡ length (value_bytes k v) → IsMeasured kinds values (place + 1) (sum + n)
measured_more kinds values place sum k v n m lt ek ev is = record {
  out = m.out ++ value_bytes k v;
  written = written_more m.written k v (m.out ++ value_bytes k v) lt ek ev refl;
  sum_is = (let e : sum + n ≡ length m.out + length (value_bytes k v) = omega (arith, m.sum_is, is) in e) ∙ sym (length-append m.out (value_bytes k v));
}

-- they are no more than all
pub measured_most : (kinds : List Kind) (values : List Value) (place sum : ℕ) → IsMeasured kinds values place sum → sum ≤ length (row_bytes kinds values)
measured_most kinds values place sum m =
    omega (arith, m.sum_is, sym (length-append m.out (row_bytes (drop place kinds) (drop place values))) ∙ ap length m.written.bytes)

pub measured_all : (kinds : List Kind) (values : List Value) (place sum : ℕ) → IsMeasured kinds values place sum → length kinds ≤ place → sum ≡ length (row_bytes kinds values)
measured_all kinds values place sum m le = m.sum_is ∙ ap length (written_all m.written le)

-- ---- keys

text_short : (bytes : List ℕ) → length (flat_map key_byte bytes) ≤ 2 * length bytes
text_short [] = omega arith
text_short (b ∷ bytes) =
    let rest : length (flat_map key_byte bytes) ≤ 2 * length bytes = text_short bytes in
    let here : length (key_byte b) ≤ 2 = byte_short (b == 0) b in
    omega (arith, length-append (key_byte b) (flat_map key_byte bytes))
  where
    byte_short : (zero : Bool) (b : ℕ) → length (cond zero (0 ∷ 255 ∷ []) (b ∷ [])) ≤ 2
    byte_short true b = omega arith
    byte_short false b = omega arith

pub key_short : (kind : Kind) (v : Value) → Fits kind v → length (key_value_bytes kind v) ≤ 402
key_short Int (Number n) f = omega (arith, length-bytes_high_first 8 (cast_unsigned w64 (n +ℤ pos (2 ^ 63))))
key_short Huge (Number n) f = omega (arith, length-bytes_high_first 16 (cast_unsigned w128 (n +ℤ pos (2 ^ 127))))
key_short Text (Number n) f = omega arith
key_short Int (Word bytes) f = omega arith
key_short Huge (Word bytes) f = omega arith
key_short Text (Word bytes) f =
    let most : length bytes ≤ 200 = (text_is bytes f).0 in
    omega (arith, length-append (flat_map key_byte bytes) (0 ∷ 0 ∷ []), text_short bytes)
