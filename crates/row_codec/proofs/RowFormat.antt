-- Rows: what holds of each column.
use Rattle.std.proofs.Common.{◌≡◌, ℕ, ℤ, ◌^◌, ◌≤◌, List, [], ◌∷◌, ◌++◌, length, take, drop, refl, sym, ap, subst, ◌∙◌, append_assoc, length-append, arith, inl, inr}
use Rattle.std.proofs.lemmas.List.{take_at, drop_at}
use Rattle.std.proofs.lemmas.Int.{to_z-of_z}
use Rattle.std.specs.Int.{w64, w128, bytes_high_first, cast_signed, cast_unsigned}
use Rattle.std.specs.Str.{IsUtf8}
use mir.Facts.{Fits-of_z}
use Rattle.byteorder.specs.Endian.{big_from}
use Rattle.byteorder.specs.Numbers.{length-bytes_high_first, big_number-reads_back}
use Rattle.iv_types.specs.declared.value.Kind.{Kind}
use Rattle.iv_types.specs.declared.value.Kind.TheVariants.{Int, Huge, Text}
use Rattle.iv_types.specs.declared.value.Value.{Value}
use Rattle.iv_types.specs.declared.value.Value.TheVariants.{Number, Word}
use Rattle.iv_types.specs.Encoding.{IsHuge, Fits, value_bytes}
use Rattle.iv_types.specs.BadRow.{Rule, Early, LeastHuge, LongText, NotUtf8, RowBreaks, text_length, row_text}
use Rattle.iv_types.proofs.Fitting.{int_is, huge_is, text_is}
use Rattle.row_codec.proofs.Numbers.{number_split, signed_split, number_is, long_enough}
use Rattle.row_codec.proofs.Formats.{IsFormat}

huge_is_not_least : (n : ℤ) (r : List ℕ) → IsHuge n → take 16 (bytes_high_first 16 (cast_unsigned w128 n) ++ r) ≡ 128 ∷ 0 ∷ 0 ∷ 0 ∷ 0 ∷ 0 ∷ 0 ∷ 0 ∷ 0 ∷ 0 ∷ 0 ∷ 0 ∷ 0 ∷ 0 ∷ 0 ∷ 0 ∷ [] → ⊥
huge_is_not_least n r fits e =
    let x = cast_unsigned w128 n in
    let own : take 16 (bytes_high_first 16 x ++ r) ≡ bytes_high_first 16 x = take_at (bytes_high_first 16 x) r 16 (length-bytes_high_first 16 x) in
    let least : x ≡ 2 ^ 127 = number_is 16 x (128 ∷ 0 ∷ 0 ∷ 0 ∷ 0 ∷ 0 ∷ 0 ∷ 0 ∷ 0 ∷ 0 ∷ 0 ∷ 0 ∷ 0 ∷ 0 ∷ 0 ∷ 0 ∷ []) (Fits-of_z fits.0).fits (sym own ∙ e) in
    fits.1 (sym (to_z-of_z w128 n fits.0) ∙ ap (cast_signed w128) least)

-- the length before a text is the text's
length_before : (text r : List ℕ) → length text ≤ 200 → text_length (bytes_high_first 2 (length text) ++ text ++ r) ≡ length text
length_before text r le =
    let n = length text in
    let bytes = bytes_high_first 2 n in
    let grouped : bytes ++ text ++ r ≡ bytes ++ (text ++ r) = append_assoc bytes text r in
    let read : big_from 0 2 (bytes ++ (text ++ r)) ≡ n = big_number-reads_back 2 n (text ++ r) (omega arith) in
    ap text_length grouped ∙ omega (arith, read)

text_behind : (text r : List ℕ) → length text ≤ 200 → row_text (bytes_high_first 2 (length text) ++ text ++ r) ≡ text
text_behind text r le =
    let n = length text in
    let bytes = bytes_high_first 2 n in
    let grouped : bytes ++ text ++ r ≡ bytes ++ (text ++ r) = append_assoc bytes text r in
    ap (λ (k : ℕ). take k (drop 2 (bytes ++ text ++ r))) (length_before text r le) ∙ ap (λ (l : List ℕ). take n (drop 2 l)) grouped
    ∙ ap (take n) (drop_at bytes (text ++ r) 2 (length-bytes_high_first 2 n)) ∙ take_at text r n refl

whole_int : (n : ℤ) (rule : Rule) (r : List ℕ) → RowBreaks Int rule (value_bytes Int (Number n) ++ r) → ⊥
whole_int n Early r b = long_enough 8 (cast_unsigned w64 n) r b
whole_int n rule r b = b

whole_huge : (n : ℤ) (rule : Rule) (r : List ℕ) → IsHuge n → RowBreaks Huge rule (value_bytes Huge (Number n) ++ r) → ⊥
whole_huge n Early r f b = long_enough 16 (cast_unsigned w128 n) r b
whole_huge n LeastHuge r f b = huge_is_not_least n r f b
whole_huge n rule r f b = b

text_not_early : (text r : List ℕ) → length text ≤ 200 → RowBreaks Text Early (bytes_high_first 2 (length text) ++ text ++ r) → ⊥
text_not_early text r le b =
    let n = length text in
    let bytes = bytes_high_first 2 n in
    let long = length-append (bytes ++ text) r in
    let longer = length-append bytes text in
    let two = length-bytes_high_first 2 n in
    let is = length_before text r le in
    elim b [ inl short ↦ omega (arith, short, long, longer, two) | inr short ↦ omega (arith, short, long, longer, two, is) ]

whole_text : (text : List ℕ) (rule : Rule) (r : List ℕ) → Fits Text (Word text) → RowBreaks Text rule (value_bytes Text (Word text) ++ r) → ⊥
whole_text text Early r f b = text_not_early text r (text_is text f).0 b
whole_text text LongText r f b = let le = (text_is text f).0 in omega (arith, le, b, length_before text r le)
whole_text text NotUtf8 r f b = let w = text_is text f in b (subst IsUtf8 (sym (text_behind text r w.0)) w.1)
whole_text text rule r f b = b

split_text : (a b r s : List ℕ) → length a ≤ 200 → length b ≤ 200 → bytes_high_first 2 (length a) ++ a ++ r ≡ bytes_high_first 2 (length b) ++ b ++ s → (a ≡ b) × (r ≡ s)
split_text a b r s la lb e =
    let x = bytes_high_first 2 (length a) in
    let y = bytes_high_first 2 (length b) in
    let parts = number_split 2 (length a) (length b) (a ++ r) (b ++ s) (omega arith) (omega arith) (sym (append_assoc x a r) ∙ e ∙ append_assoc y b s) in
    let n = length b in (
      sym (take_at a r n parts.0) ∙ ap (take n) parts.1 ∙ take_at b s n refl,
      sym (drop_at a r n parts.0) ∙ ap (drop n) parts.1 ∙ drop_at b s n refl,
    )

split_row : (k : Kind) (v w : Value) (r s : List ℕ) → Fits k v → Fits k w → value_bytes k v ++ r ≡ value_bytes k w ++ s → (v ≡ w) × (r ≡ s)
split_row Int (Number m) (Number n) r s fv fw e = let p = signed_split w64 refl m n r s (int_is m fv) (int_is n fw) e in (ap Number p.0, p.1)
split_row Huge (Number m) (Number n) r s fv fw e = let p = signed_split w128 refl m n r s (huge_is m fv).0 (huge_is n fw).0 e in (ap Number p.0, p.1)
split_row Text (Word a) (Word b) r s fv fw e = let p = split_text a b r s (text_is a fv).0 (text_is b fw).0 e in (ap Word p.0, p.1)
split_row Int (Number m) (Word b) r s fv fw e = absurd (cc)
split_row Int (Word a) w r s fv fw e = absurd (cc)
split_row Huge (Number m) (Word b) r s fv fw e = absurd (cc)
split_row Huge (Word a) w r s fv fw e = absurd (cc)
split_row Text (Word a) (Number n) r s fv fw e = absurd (cc)
split_row Text (Number m) w r s fv fw e = absurd (cc)

whole_row : (k : Kind) (v : Value) (rule : Rule) (r : List ℕ) → Fits k v → RowBreaks k rule (value_bytes k v ++ r) → ⊥
whole_row Int (Number n) rule r f b = whole_int n rule r b
whole_row Huge (Number n) rule r f b = whole_huge n rule r (huge_is n f) b
whole_row Text (Word text) rule r f b = whole_text text rule r f b
whole_row Int (Word text) rule r f b = cc
whole_row Huge (Word text) rule r f b = cc
whole_row Text (Number n) rule r f b = cc

pub row_format : IsFormat value_bytes RowBreaks
row_format = record { split = split_row; whole = whole_row }
