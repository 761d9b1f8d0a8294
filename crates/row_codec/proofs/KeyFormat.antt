-- Keys: what holds of each column.
use Rattle.std.proofs.Common.{◌≡◌, ◌≢◌, ℕ, ℤ, pos, zero, suc, ◌-◌, ◌^◌, ◌<◌, ◌≤◌, ◌+ℤ◌, Bool, cond, List, [], ◌∷◌, ◌++◌, length, get_or, take, drop, refl, sym, ap, subst, ◌∙◌, append_assoc, arith, inl, inr}
use Rattle.std.proofs.Math.Dec.{eqb-suc-zero}
use Rattle.std.proofs.lemmas.List.{append-nil, take_at, take_rest}
use Rattle.std.proofs.lemmas.Int.{ints}
use Rattle.std.specs.List.{flat_map}
use Rattle.std.specs.Int.{w64, w128, bytes_high_first, cast_unsigned}
use Rattle.std.specs.Str.{IsUtf8}
use Rattle.byteorder.specs.Numbers.{length-bytes_high_first}
use Rattle.iv_types.specs.declared.value.Kind.{Kind}
use Rattle.iv_types.specs.declared.value.Kind.TheVariants.{Int, Huge, Text}
use Rattle.iv_types.specs.declared.value.Value.{Value}
use Rattle.iv_types.specs.declared.value.Value.TheVariants.{Number, Word}
use Rattle.iv_types.specs.Encoding.{IsHuge, Fits, key_byte, key_value_bytes}
use Rattle.iv_types.specs.BadRow.{Rule, Early, LeastHuge, LongText, NotUtf8, LeftOver, LoneZero, rule_number, KeyBreaks}
use Rattle.row_codec.specs.Columns.{IsStop, IsBroken}
use Rattle.row_codec.proofs.Numbers.{number_is, long_enough}
use Rattle.iv_types.proofs.Fitting.{int_is, huge_is, text_is}
use Rattle.row_codec.proofs.Shifts.{shift, shifted_split}
use Rattle.row_codec.proofs.Formats.{IsFormat}

-- ---- texts

pub key_byte_some : (n : ℕ) → key_byte (suc n) ≡ suc n ∷ []
key_byte_some n = ap (λ (t : Bool). cond t (0 ∷ 255 ∷ []) (suc n ∷ [])) (eqb-suc-zero n)

pub key_byte_front : (n : ℕ) (xs : List ℕ) → key_byte (suc n) ++ xs ≡ suc n ∷ xs
key_byte_front n xs = ap (λ (l : List ℕ). l ++ xs) (key_byte_some n)

stop_head : (b : ℕ) (xs : List ℕ) → IsStop (b ∷ xs) → b ≡ 0
stop_head b [] h = h
stop_head b (x ∷ xs) h = h.0

not_stop : (b : ℕ) (xs s : List ℕ) → IsStop s → s ≡ key_byte b ++ xs → ⊥
not_stop zero xs s h e = let g : IsStop (0 ∷ 255 ∷ xs) = subst IsStop e h in g.1 refl
not_stop (suc b) xs s h e = let g : IsStop (suc b ∷ xs) = subst IsStop (e ∙ key_byte_front b xs) h in omega (arith, stop_head (suc b) xs g)

byte_split : (b c : ℕ) (xs ys : List ℕ) → key_byte b ++ xs ≡ key_byte c ++ ys → (b ≡ c) × (xs ≡ ys)
byte_split zero zero xs ys e = let f : 0 ∷ 255 ∷ xs ≡ 0 ∷ 255 ∷ ys = e in (refl, cc)
byte_split zero (suc c) xs ys e = let f : 0 ∷ 255 ∷ xs ≡ suc c ∷ ys = e ∙ key_byte_front c ys in let g : 0 ≡ suc c = cc in absurd (omega (arith, g))
byte_split (suc b) zero xs ys e = let f : suc b ∷ xs ≡ 0 ∷ 255 ∷ ys = sym (key_byte_front b xs) ∙ e in let g : suc b ≡ 0 = cc in absurd (omega (arith, g))
byte_split (suc b) (suc c) xs ys e = let f : suc b ∷ xs ≡ suc c ∷ ys = sym (key_byte_front b xs) ∙ e ∙ key_byte_front c ys in (cc f, cc f)

-- a text and what stops it are known by their bytes
pub one_text : (a b s t : List ℕ) → IsStop s → IsStop t → flat_map key_byte a ++ s ≡ flat_map key_byte b ++ t → (a ≡ b) × (s ≡ t)
one_text [] [] s t hs ht e = (refl, e)
one_text [] (c ∷ b) s t hs ht e = absurd (not_stop c (flat_map key_byte b ++ t) s hs (e ∙ append_assoc (key_byte c) (flat_map key_byte b) t))
one_text (c ∷ a) [] s t hs ht e = absurd (not_stop c (flat_map key_byte a ++ s) t ht (sym e ∙ append_assoc (key_byte c) (flat_map key_byte a) s))
one_text (c ∷ a) (d ∷ b) s t hs ht e =
    let p = byte_split c d (flat_map key_byte a ++ s) (flat_map key_byte b ++ t) (sym (append_assoc (key_byte c) (flat_map key_byte a) s) ∙ e ∙ append_assoc (key_byte d) (flat_map key_byte b) t) in
    let q = one_text a b s t hs ht p.1 in
    (ap (λ (x : ℕ). x ∷ a) p.0 ∙ ap (λ (l : List ℕ). d ∷ l) q.0, q.1)

pub end_is_stop : (more : List ℕ) → IsStop (0 ∷ 0 ∷ more)
end_is_stop more = (refl, λ e. omega (arith, e))

lone_is_stop : (b : ℕ) (more : List ℕ) → b ≢ 255 → IsStop (0 ∷ b ∷ more)
lone_is_stop b more ne = (refl, ne)

-- where the text at the front is known, and what stops it
pub record Front (bytes text rest : List ℕ) : Type 0 where
  pub parts : bytes ≡ flat_map key_byte text ++ rest
  pub stop : IsStop rest

same_front : (bytes a s b t : List ℕ) → Front bytes a s → IsStop t → bytes ≡ flat_map key_byte b ++ t → (a ≡ b) × (s ≡ t)
same_front bytes a s b t f ht e = one_text a b s t f.stop ht (sym f.parts ∙ e)

-- it ends: then it breaks no rule but by its own length or bytes
not_early : (bytes text more : List ℕ) → Front bytes text (0 ∷ 0 ∷ more) → KeyBreaks Text Early bytes → ⊥
not_early bytes text more f (other, inl e) =
    let p = same_front bytes text (0 ∷ 0 ∷ more) other [] f tt (e ∙ sym (append-nil (flat_map key_byte other))) in absurd (cc p.1)
not_early bytes text more f (other, inr e) =
    let p = same_front bytes text (0 ∷ 0 ∷ more) other (0 ∷ []) f refl e in absurd (cc p.1)

ended_long : (bytes text more : List ℕ) → Front bytes text (0 ∷ 0 ∷ more) → KeyBreaks Text LongText bytes → 200 < length text
ended_long bytes text more f b =
    let p = same_front bytes text (0 ∷ 0 ∷ more) b.0 (0 ∷ 0 ∷ b.1) f (end_is_stop b.1) b.2 in
    subst (λ (l : List ℕ). 200 < length l) (sym p.0) b.3

ended_not_utf8 : (bytes text more : List ℕ) → Front bytes text (0 ∷ 0 ∷ more) → KeyBreaks Text NotUtf8 bytes → IsUtf8 text → ⊥
ended_not_utf8 bytes text more f b u =
    let p = same_front bytes text (0 ∷ 0 ∷ more) b.0 (0 ∷ 0 ∷ b.1) f (end_is_stop b.1) b.2 in
    b.3 (subst IsUtf8 p.0 u)

ended_lone : (bytes text more : List ℕ) → Front bytes text (0 ∷ 0 ∷ more) → KeyBreaks Text LoneZero bytes → ⊥
ended_lone bytes text more f b =
    let p = same_front bytes text (0 ∷ 0 ∷ more) b.0 (0 ∷ b.2 ∷ b.1) f (lone_is_stop b.2 b.1 b.5) b.3 in
    let zero_is : 0 ≡ b.2 = cc p.1 in
    b.4 (sym zero_is)

-- ---- what a text breaks

rule_positive : (rule : Rule) → 1 ≤ rule_number rule
rule_positive Early = omega arith
rule_positive LeastHuge = omega arith
rule_positive LongText = omega arith
rule_positive NotUtf8 = omega arith
rule_positive LeftOver = omega arith
rule_positive LoneZero = omega arith

pub breaks_early : (bytes text rest : List ℕ) (place : ℕ) → Front bytes text rest → length rest < 2 → IsBroken KeyBreaks Text bytes place 1 place
breaks_early bytes text [] place f short = record {
  rule = Early;
  number_is = refl;
  place_is = refl;
  breaks = (text, inl (f.parts ∙ append-nil (flat_map key_byte text)));
  least = λ less lt b. omega (arith, lt, rule_positive less);
}
breaks_early bytes text (x ∷ []) place f short = record {
  rule = Early;
  number_is = refl;
  place_is = refl;
  breaks = (text, inr (f.parts ∙ ap (λ (b : ℕ). flat_map key_byte text ++ b ∷ []) f.stop));
  least = λ less lt b. omega (arith, lt, rule_positive less);
}
breaks_early bytes text (x ∷ y ∷ rest) place f short = absurd (omega (arith, short))

below_lone : (bytes text more : List ℕ) (b : ℕ) → Front bytes text (0 ∷ b ∷ more) → b ≢ 0 → (less : Rule) → rule_number less < 6 → KeyBreaks Text less bytes → ⊥
below_lone bytes text more b f ne Early lt (other, inl e) =
    let p = same_front bytes text (0 ∷ b ∷ more) other [] f tt (e ∙ sym (append-nil (flat_map key_byte other))) in absurd (cc p.1)
below_lone bytes text more b f ne Early lt (other, inr e) =
    let p = same_front bytes text (0 ∷ b ∷ more) other (0 ∷ []) f refl e in absurd (cc p.1)
below_lone bytes text more b f ne LongText lt k =
    let p = same_front bytes text (0 ∷ b ∷ more) k.0 (0 ∷ 0 ∷ k.1) f (end_is_stop k.1) k.2 in
    let zero_is : b ≡ 0 = cc p.1 in ne zero_is
below_lone bytes text more b f ne NotUtf8 lt k =
    let p = same_front bytes text (0 ∷ b ∷ more) k.0 (0 ∷ 0 ∷ k.1) f (end_is_stop k.1) k.2 in
    let zero_is : b ≡ 0 = cc p.1 in ne zero_is
below_lone bytes text more b f ne LoneZero lt k = omega (arith, lt)
below_lone bytes text more b f ne LeastHuge lt k = k
below_lone bytes text more b f ne LeftOver lt k = k

pub breaks_lone : (bytes text rest : List ℕ) (place : ℕ) → Front bytes text rest → 2 ≤ length rest → get_or rest 1 0 ≢ 0 → IsBroken KeyBreaks Text bytes place 6 place
breaks_lone bytes text [] place f long ne = absurd (omega (arith, long))
breaks_lone bytes text (a ∷ []) place f long ne = absurd (omega (arith, long))
breaks_lone bytes text (a ∷ b ∷ more) place f long ne =
    let g : Front bytes text (0 ∷ b ∷ more) = subst (λ (x : ℕ). Front bytes text (x ∷ b ∷ more)) f.stop.0 f in
    record {
      rule = LoneZero;
      number_is = refl;
      place_is = refl;
      breaks = (text, more, b, g.parts, ne, f.stop.1);
      least = below_lone bytes text more b g ne;
    }

-- where the second byte is 0, the text ends
ended : (bytes text rest : List ℕ) → Front bytes text rest → 2 ≤ length rest → get_or rest 1 0 ≡ 0 → Front bytes text (0 ∷ 0 ∷ take (length rest - 2) (drop 2 rest))
ended bytes text [] f long is = absurd (omega (arith, long))
ended bytes text (a ∷ []) f long is = absurd (omega (arith, long))
ended bytes text (a ∷ b ∷ more) f long is =
    let e : a ∷ b ∷ more ≡ 0 ∷ 0 ∷ take (length (a ∷ b ∷ more) - 2) more =
    ap (λ (x : ℕ). x ∷ b ∷ more) f.stop.0 ∙ ap (λ (x : ℕ). 0 ∷ x ∷ more) is ∙ ap (λ (l : List ℕ). 0 ∷ 0 ∷ l) (sym (take_rest (a ∷ b ∷ more) 2)) in
    subst (Front bytes text) e f

below_long : (bytes text more : List ℕ) → Front bytes text (0 ∷ 0 ∷ more) → (less : Rule) → rule_number less < 3 → KeyBreaks Text less bytes → ⊥
below_long bytes text more f Early lt k = not_early bytes text more f k
below_long bytes text more f LongText lt k = omega (arith, lt)
below_long bytes text more f NotUtf8 lt k = omega (arith, lt)
below_long bytes text more f LoneZero lt k = omega (arith, lt)
below_long bytes text more f LeastHuge lt k = k
below_long bytes text more f LeftOver lt k = k

pub breaks_long : (bytes text rest : List ℕ) (place : ℕ) → Front bytes text rest → 2 ≤ length rest → get_or rest 1 0 ≡ 0 → 200 < length text → IsBroken KeyBreaks Text bytes place 3 place
breaks_long bytes text rest place f two is long =
    let g = ended bytes text rest f two is in
    let more = take (length rest - 2) (drop 2 rest) in
    record {
      rule = LongText;
      number_is = refl;
      place_is = refl;
      breaks = (text, more, g.parts, long);
      least = below_long bytes text more g;
    }

below_utf8 : (bytes text more : List ℕ) → Front bytes text (0 ∷ 0 ∷ more) → length text ≤ 200 → (less : Rule) → rule_number less < 4 → KeyBreaks Text less bytes → ⊥
below_utf8 bytes text more f le Early lt k = not_early bytes text more f k
below_utf8 bytes text more f le LongText lt k = omega (arith, le, ended_long bytes text more f k)
below_utf8 bytes text more f le NotUtf8 lt k = omega (arith, lt)
below_utf8 bytes text more f le LoneZero lt k = omega (arith, lt)
below_utf8 bytes text more f le LeastHuge lt k = k
below_utf8 bytes text more f le LeftOver lt k = k

pub breaks_utf8 : (bytes text rest : List ℕ) (place : ℕ) → Front bytes text rest → 2 ≤ length rest → get_or rest 1 0 ≡ 0 → length text ≤ 200 → (IsUtf8 text → ⊥) → IsBroken KeyBreaks Text bytes place 4 place
breaks_utf8 bytes text rest place f two is le wrong =
    let g = ended bytes text rest f two is in
    let more = take (length rest - 2) (drop 2 rest) in
    record {
      rule = NotUtf8;
      number_is = refl;
      place_is = refl;
      breaks = (text, more, g.parts, wrong);
      least = below_utf8 bytes text more g le;
    }

-- a whole text
pub takes_text : (bytes text rest : List ℕ) → Front bytes text rest → 2 ≤ length rest → get_or rest 1 0 ≡ 0 → bytes ≡ key_value_bytes Text (Word text) ++ take (length rest - 2) (drop 2 rest)
takes_text bytes text rest f two is =
    let g = ended bytes text rest f two is in
    g.parts ∙ sym (append_assoc (flat_map key_byte text) (0 ∷ 0 ∷ []) (take (length rest - 2) (drop 2 rest)))

-- ---- each column

whole_front : (text r : List ℕ) → Front (key_value_bytes Text (Word text) ++ r) text (0 ∷ 0 ∷ r)
whole_front text r = record { parts = append_assoc (flat_map key_byte text) (0 ∷ 0 ∷ []) r; stop = end_is_stop r }

whole_text : (text : List ℕ) (rule : Rule) (r : List ℕ) → Fits Text (Word text) → KeyBreaks Text rule (key_value_bytes Text (Word text) ++ r) → ⊥
whole_text text Early r f b = not_early (key_value_bytes Text (Word text) ++ r) text r (whole_front text r) b
whole_text text LongText r f b = omega (arith, (text_is text f).0, ended_long (key_value_bytes Text (Word text) ++ r) text r (whole_front text r) b)
whole_text text NotUtf8 r f b = ended_not_utf8 (key_value_bytes Text (Word text) ++ r) text r (whole_front text r) b (text_is text f).1
whole_text text LoneZero r f b = ended_lone (key_value_bytes Text (Word text) ++ r) text r (whole_front text r) b
whole_text text LeastHuge r f b = b
whole_text text LeftOver r f b = b

whole_int : (n : ℤ) (rule : Rule) (r : List ℕ) → KeyBreaks Int rule (key_value_bytes Int (Number n) ++ r) → ⊥
whole_int n Early r b = long_enough 8 (cast_unsigned w64 (n +ℤ pos (2 ^ 63))) r b
whole_int n rule r b = b

huge_is_not_least : (n : ℤ) (r : List ℕ) → IsHuge n → take 16 (bytes_high_first 16 (cast_unsigned w128 (n +ℤ pos (2 ^ 127))) ++ r) ≡ 0 ∷ 0 ∷ 0 ∷ 0 ∷ 0 ∷ 0 ∷ 0 ∷ 0 ∷ 0 ∷ 0 ∷ 0 ∷ 0 ∷ 0 ∷ 0 ∷ 0 ∷ 0 ∷ [] → ⊥
huge_is_not_least n r fits e =
    let s = shift (2 ^ 127) n fits.0.sfits in
    let x = cast_unsigned w128 (n +ℤ pos (2 ^ 127)) in
    let is : x ≡ s.0 = ap (cast_unsigned w128) s.1 in
    let small : x < 2 ^ 128 = omega (arith, is, s.2) in
    let own : take 16 (bytes_high_first 16 x ++ r) ≡ bytes_high_first 16 x = take_at (bytes_high_first 16 x) r 16 (length-bytes_high_first 16 x) in
    let least : x ≡ 0 = number_is 16 x (0 ∷ 0 ∷ 0 ∷ 0 ∷ 0 ∷ 0 ∷ 0 ∷ 0 ∷ 0 ∷ 0 ∷ 0 ∷ 0 ∷ 0 ∷ 0 ∷ 0 ∷ 0 ∷ []) small (sym own ∙ e) in
    let sum : n +ℤ pos (2 ^ 127) ≡ pos 0 = s.1 ∙ ap pos (sym is ∙ least) in
    fits.1 (omega (arith, ints, sum))

whole_huge : (n : ℤ) (rule : Rule) (r : List ℕ) → IsHuge n → KeyBreaks Huge rule (key_value_bytes Huge (Number n) ++ r) → ⊥
whole_huge n Early r f b = long_enough 16 (cast_unsigned w128 (n +ℤ pos (2 ^ 127))) r b
whole_huge n LeastHuge r f b = huge_is_not_least n r f b
whole_huge n rule r f b = b

split_key : (k : Kind) (v w : Value) (r s : List ℕ) → Fits k v → Fits k w → key_value_bytes k v ++ r ≡ key_value_bytes k w ++ s → (v ≡ w) × (r ≡ s)
split_key Int (Number m) (Number n) r s fv fw e = let p = shifted_split w64 8 (2 ^ 63) refl m n r s (int_is m fv).sfits (int_is n fw).sfits e in (ap Number p.0, p.1)
split_key Huge (Number m) (Number n) r s fv fw e = let p = shifted_split w128 16 (2 ^ 127) refl m n r s (huge_is m fv).0.sfits (huge_is n fw).0.sfits e in (ap Number p.0, p.1)
split_key Text (Word a) (Word b) r s fv fw e =
    let p = same_front (key_value_bytes Text (Word a) ++ r) a (0 ∷ 0 ∷ r) b (0 ∷ 0 ∷ s) (whole_front a r) (end_is_stop s) (e ∙ append_assoc (flat_map key_byte b) (0 ∷ 0 ∷ []) s) in
    (ap Word p.0, cc p.1)
split_key Int (Number m) (Word b) r s fv fw e = absurd (cc)
split_key Int (Word a) w r s fv fw e = absurd (cc)
split_key Huge (Number m) (Word b) r s fv fw e = absurd (cc)
split_key Huge (Word a) w r s fv fw e = absurd (cc)
split_key Text (Word a) (Number n) r s fv fw e = absurd (cc)
split_key Text (Number m) w r s fv fw e = absurd (cc)

whole_key : (k : Kind) (v : Value) (rule : Rule) (r : List ℕ) → Fits k v → KeyBreaks k rule (key_value_bytes k v ++ r) → ⊥
whole_key Int (Number n) rule r f b = whole_int n rule r b
whole_key Huge (Number n) rule r f b = whole_huge n rule r (huge_is n f) b
whole_key Text (Word text) rule r f b = whole_text text rule r f b
whole_key Int (Word text) rule r f b = cc
whole_key Huge (Word text) rule r f b = cc
whole_key Text (Number n) rule r f b = cc

pub key_format : IsFormat key_value_bytes KeyBreaks
key_format = record { split = split_key; whole = whole_key }
