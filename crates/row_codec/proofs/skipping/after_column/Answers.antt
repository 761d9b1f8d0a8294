use Rattle.std.proofs.Common.{◌≡◌, ◌++◌, ◌∷◌, [], List, ℕ, length, ap, subst, ◌∙◌, append_assoc}
use Rattle.std.specs.Prelude.{pos, ◌+ℤ◌, ◌^◌}
use Rattle.std.specs.Int.{w64, w128, cast_unsigned}
use Rattle.std.specs.List.{flat_map}
use Rattle.byteorder.specs.Numbers.{length-bytes_high_first}
use Rattle.iv_types.specs.declared.value.Kind.{Kind}
use Rattle.iv_types.specs.declared.value.Kind.TheVariants.{Int, Huge, Text}
use Rattle.iv_types.specs.declared.value.Value.{Value}
use Rattle.iv_types.specs.declared.value.Value.TheVariants.{Number, Word}
use Rattle.iv_types.specs.Encoding.{Fits, key_byte, key_value_bytes}
use Rattle.row_codec.proofs.skipping.after_column.Goals as goal

int_width : (value : Value) → Fits Int value → length (key_value_bytes Int value) ≡ 8
int_width (Number n) f = length-bytes_high_first 8 (cast_unsigned w64 (n +ℤ pos (2 ^ 63)))
int_width (Word text) f = absurd (cc)

huge_width : (value : Value) → Fits Huge value → length (key_value_bytes Huge value) ≡ 16
huge_width (Number n) f = length-bytes_high_first 16 (cast_unsigned w128 (n +ℤ pos (2 ^ 127)))
huge_width (Word text) f = absurd (cc)

text_parts : (value : Value) (bytes rest : List ℕ) → Fits Text value → bytes ≡ key_value_bytes Text value ++ rest → (text : List ℕ) × (bytes ≡ flat_map key_byte text ++ 0 ∷ 0 ∷ rest)
text_parts (Word text) bytes rest f is = (text, is ∙ append_assoc (flat_map key_byte text) (0 ∷ 0 ∷ []) rest)
text_parts (Number n) bytes rest f is = absurd (cc)

pub returns-in-Int : goal.returns-in-Int
returns-in-Int c = λ value rest f is.
    c.behind.ensures (key_value_bytes Int value) rest (int_width value (subst (λ (k : Kind). Fits k value) c.in-Int.is f))
    (is ∙ ap (λ (k : Kind). key_value_bytes k value ++ rest) c.in-Int.is)

pub returns-in-Huge : goal.returns-in-Huge
returns-in-Huge c = λ value rest f is.
    c.behind-in-Huge.ensures (key_value_bytes Huge value) rest (huge_width value (subst (λ (k : Kind). Fits k value) c.in-Huge.is f))
    (is ∙ ap (λ (k : Kind). key_value_bytes k value ++ rest) c.in-Huge.is)

pub returns-in-Text : goal.returns-in-Text
returns-in-Text c = λ value rest f is.
    let parts = text_parts value c.args.bytes.now rest (subst (λ (k : Kind). Fits k value) c.in-Text.is f) (is ∙ ap (λ (k : Kind). key_value_bytes k value ++ rest) c.in-Text.is) in
    c.after_text.ensures parts.0 rest parts.1
