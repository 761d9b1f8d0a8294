-- Keys in bytes: the order of keys that begin alike, and what lies between ends that are keys.
use Rattle.std.specs.Prelude.{◌≡◌, ◌≢◌, ℕ, ◌+◌, ◌<◌, ◌==◌, ◌/◌, ◌^◌, ◌&&◌, pos, ◌+ℤ◌, true, false, cond, List, [], ◌∷◌, ◌++◌, Option, Some, None, IfSome, not}
use Rattle.std.specs.List.{flat_map}
use Rattle.std.specs.Option.{option_map_or}
use mathlib.Core.Path.{refl, sym, ap, subst, ◌∙◌}
use lib.Utf8.{scalar, scalars, encode, encodes, next as follows, scalar_cases}
use lib.Dec.{ltb}
use Rattle.std.proofs.Common.{arith, append_assoc, append-nil, ltb-true, inl, inr}
use Rattle.std.specs.declared.cmp.Ordering.{Ordering}
use Rattle.std.specs.declared.cmp.Ordering.TheVariants.{Less, Equal, Greater}
use Rattle.std.specs.Ordering.{nat_cmp, is_lt, is_gt, ordering_then, ordering_reverse}
use Rattle.std.specs.Cmp.{tied_itself, nat_cmp_total}
use Rattle.std.specs.FinMap.{nat_cmp-IsAntisymmetric}
use Rattle.std.specs.Int.{w64, w128, cast_unsigned}
use Rattle.std.specs.Str.{IsUtf8}
use Rattle.iv_types.specs.declared.value.Kind.{Kind}
use Rattle.iv_types.specs.declared.value.Kind.TheVariants.{Int, Huge, Text}
use Rattle.iv_types.specs.declared.value.Value.{Value}
use Rattle.iv_types.specs.declared.value.Value.TheVariants.{Number, Word}
use Rattle.iv_types.specs.declared.value.Interval.{Interval}
use Rattle.iv_types.specs.Encoding.{Fits, FitAll, key_byte, key_value_bytes, key_bytes, value_cmp, lies_in}
use Rattle.iv_types.specs.Intervals.{IsBelow, IsAtMost, LiesIn, next, prefix_interval}
use Rattle.iv_types.proofs.Orders.{value_antisymm, value_cmp_exact, value_cmp_total}
use Rattle.row_codec.specs.Ranges.{AreBytes, BeginsWith}
use Rattle.iv_types.proofs.ByteNumbers.{IsBytes, IsBytes-rest, bytes_of_number}
use Rattle.row_codec.proofs.KeyFormat.{key_format}
use Rattle.row_codec.proofs.KeyOrders.{key_order}
use Rattle.row_codec.proofs.RangeLaws.{begun}
use Rattle.iv_types.proofs.Fitting.{first_true as first, second_true as second, lies_is, lies_so, text_is}
use Rattle.query_laws.proofs.Each.{each_append}
use Rattle.query_laws.proofs.Rising.{key_cmp, key_total, less_is}

-- ---- keys are bytes

from_index : (bytes : List ℕ) → IsBytes bytes → AreBytes bytes
from_index [] h = tt
from_index (b ∷ bytes) h = (h 0, from_index bytes (IsBytes-rest b bytes h))

char_bytes : (c : ℕ) → scalar c ≡ true → AreBytes (encode c)
unfolding encode
char_bytes c s =
    let small : c < 1114112 = elim (scalar_cases c s) [ inl h ↦ omega arith | inr h ↦ omega (arith, h.1) ] in
    elim (ltb c 128) as (λ b. ltb c 128 ≡ b → AreBytes (cond b (c ∷ []) (cond (ltb c 2048) ((192 + c / 64) ∷ follows c ∷ []) (cond (ltb c 65536) ((224 + c / 4096) ∷ follows (c / 64) ∷ follows c ∷ []) ((240 + c / 262144) ∷ follows (c / 4096) ∷ follows (c / 64) ∷ follows c ∷ []))))) [
      | true ↦ λ e. let lt : c < 128 = ltb-true c 128 e in (omega arith, tt)
      | false ↦ λ e. elim (ltb c 2048) as (λ b. ltb c 2048 ≡ b → AreBytes (cond b ((192 + c / 64) ∷ follows c ∷ []) (cond (ltb c 65536) ((224 + c / 4096) ∷ follows (c / 64) ∷ follows c ∷ []) ((240 + c / 262144) ∷ follows (c / 4096) ∷ follows (c / 64) ∷ follows c ∷ [])))) [
        | true ↦ λ f. let lt : c < 2048 = ltb-true c 2048 f in (omega arith, (omega arith, tt))
        | false ↦ λ f. elim (ltb c 65536) as (λ b. ltb c 65536 ≡ b → AreBytes (cond b ((224 + c / 4096) ∷ follows (c / 64) ∷ follows c ∷ []) ((240 + c / 262144) ∷ follows (c / 4096) ∷ follows (c / 64) ∷ follows c ∷ []))) [
          | true ↦ λ g. let lt : c < 65536 = ltb-true c 65536 g in (omega arith, (omega arith, (omega arith, tt)))
          | false ↦ λ g. (omega arith, (omega arith, (omega arith, (omega arith, tt))))
        ] refl
      ] refl
    ] refl

chars_bytes : (cs : List ℕ) → scalars cs ≡ true → AreBytes (encodes cs)
chars_bytes [] s = tt
chars_bytes (c ∷ cs) s = each_append (λ b. b < 256) (encode c) (encodes cs) (char_bytes c (first (scalar c) (scalars cs) s)) (chars_bytes cs (second (scalar c) (scalars cs) s))

text_bytes : (w : List ℕ) → IsUtf8 w → AreBytes w
text_bytes w u = subst AreBytes u.1.1 (chars_bytes u.0 u.1.0)

byte_bytes : (b : ℕ) → b < 256 → AreBytes (key_byte b)
byte_bytes b lt = elim (b == 0) as (λ t. AreBytes (cond t (0 ∷ 255 ∷ []) (b ∷ []))) [
  | true ↦ (omega arith, (omega arith, tt))
  | false ↦ (lt, tt)
]

word_bytes : (w : List ℕ) → AreBytes w → AreBytes (flat_map key_byte w)
word_bytes [] h = tt
word_bytes (b ∷ w) h = each_append (λ b. b < 256) (key_byte b) (flat_map key_byte w) (byte_bytes b h.0) (word_bytes w h.1)

column_bytes : (k : Kind) (v : Value) → Fits k v → AreBytes (key_value_bytes k v)
column_bytes Int (Number n) f = from_index (key_value_bytes Int (Number n)) (bytes_of_number 8 (cast_unsigned w64 (n +ℤ pos (2 ^ 63))))
column_bytes Huge (Number n) f = from_index (key_value_bytes Huge (Number n)) (bytes_of_number 16 (cast_unsigned w128 (n +ℤ pos (2 ^ 127))))
column_bytes Text (Word w) f = each_append (λ b. b < 256) (flat_map key_byte w) (0 ∷ 0 ∷ []) (word_bytes w (text_bytes w (text_is w f).1)) (omega arith, (omega arith, tt))
column_bytes Int (Word w) f = absurd (cc)
column_bytes Huge (Word w) f = absurd (cc)
column_bytes Text (Number n) f = absurd (cc)

pub key_are_bytes : (ks : List Kind) (vs : List Value) → FitAll ks vs → AreBytes (key_bytes ks vs)
key_are_bytes [] vs f = tt
key_are_bytes (k ∷ ks) [] f = tt
key_are_bytes (k ∷ ks) (v ∷ vs) f = each_append (λ b. b < 256) (key_value_bytes k v) (key_bytes ks vs) (column_bytes k v f.0) (key_are_bytes ks vs f.1)

-- ---- keys of more columns

pub no_columns : (ks : List Kind) → key_bytes ks [] ≡ []
no_columns [] = refl
no_columns (k ∷ ks) = refl

pub key_split : (ks js : List Kind) (vs ws : List Value) → FitAll ks vs → key_bytes (ks ++ js) (vs ++ ws) ≡ key_bytes ks vs ++ key_bytes js ws
key_split [] js [] ws f = refl
key_split [] js (v ∷ vs) ws f = absurd f
key_split (k ∷ ks) js [] ws f = absurd f
key_split (k ∷ ks) js (v ∷ vs) ws f =
    ap (λ (b : List ℕ). key_value_bytes k v ++ b) (key_split ks js vs ws f.1) ∙ sym (append_assoc (key_value_bytes k v) (key_bytes ks vs) (key_bytes js ws))

pub key_front : (ks js : List Kind) (vs : List Value) → FitAll ks vs → key_bytes (ks ++ js) vs ≡ key_bytes ks vs
key_front ks js vs f =
    ap (key_bytes (ks ++ js)) (sym (append-nil vs)) ∙ (key_split ks js vs [] f ∙ (ap (λ (b : List ℕ). key_bytes ks vs ++ b) (no_columns js) ∙ append-nil (key_bytes ks vs)))

pub key_next : (ks js : List Kind) (vs : List Value) (k : Kind) (v : Value) → FitAll ks vs → key_bytes (ks ++ k ∷ js) (vs ++ v ∷ []) ≡ key_bytes ks vs ++ key_value_bytes k v
key_next ks js vs k v f =
    key_split ks (k ∷ js) vs (v ∷ []) f ∙ ap (λ (b : List ℕ). key_bytes ks vs ++ b) (ap (λ (b : List ℕ). key_value_bytes k v ++ b) (no_columns js) ∙ append-nil (key_value_bytes k v))

-- ---- the order of keys

same_byte : (x : ℕ) → nat_cmp x x ≡ Equal
same_byte x = tied_itself nat_cmp_total x

pub cmp_same_front : (a r s : List ℕ) → key_cmp (a ++ r) (a ++ s) ≡ key_cmp r s
cmp_same_front [] r s = refl
cmp_same_front (x ∷ a) r s = ap (λ o. ordering_then o (key_cmp (a ++ r) (a ++ s))) (same_byte x) ∙ cmp_same_front a r s

same_number : (x y : ℕ) → nat_cmp x y ≡ Equal → x ≡ y
same_number x y e = nat_cmp-IsAntisymmetric x y e

less_front : (a b r s : List ℕ) → key_cmp a b ≡ Less → (BeginsWith a b → ⊥) → key_cmp (a ++ r) (b ++ s) ≡ Less
less_front [] b r s e never = absurd (never (b, refl))
less_front (x ∷ a) [] r s e never = absurd (cc)
less_front (x ∷ a) (y ∷ b) r s e never =
    elim (nat_cmp x y) as (λ o. nat_cmp x y ≡ o → ordering_then o (key_cmp a b) ≡ Less → ordering_then o (key_cmp (a ++ r) (b ++ s)) ≡ Less) [
      | Less ↦ λ p h. refl
      | Equal ↦ λ p h. less_front a b r s h (λ g. never (g.0, ap (λ (z : ℕ). z ∷ b) (sym (same_number x y p)) ∙ ap (λ (l : List ℕ). x ∷ l) g.1))
      | Greater ↦ λ p h. absurd (cc)
    ] refl e

then_equal : (o : Ordering) → ordering_then o Equal ≡ o
then_equal Less = refl
then_equal Equal = refl
then_equal Greater = refl

one_column : (k : Kind) (v w : Value) → Fits k v → Fits k w → key_cmp (key_value_bytes k v) (key_value_bytes k w) ≡ value_cmp v w
one_column k v w fv fw =
    ap (λ (l : List ℕ). key_cmp l (key_value_bytes k w)) (sym (append-nil (key_value_bytes k v)))
    ∙ (ap (λ (l : List ℕ). key_cmp (key_value_bytes k v ++ []) l) (sym (append-nil (key_value_bytes k w)))
    ∙ (key_order (k ∷ []) (v ∷ []) (w ∷ []) (fv, tt) (fw, tt) ∙ then_equal (value_cmp v w)))

apart : (k : Kind) (v w : Value) → Fits k v → Fits k w → value_cmp v w ≢ Equal → BeginsWith (key_value_bytes k v) (key_value_bytes k w) → ⊥
apart k v w fv fw ne g =
    let same : w ≡ v = (key_format.split k w v [] g.0 fw fv (append-nil (key_value_bytes k w) ∙ g.1)).0 in
    ne (ap (value_cmp v) same ∙ tied_itself value_cmp_total v)

less_column : (k : Kind) (v w : Value) (r s : List ℕ) → Fits k v → Fits k w → value_cmp v w ≡ Less → key_cmp (key_value_bytes k v ++ r) (key_value_bytes k w ++ s) ≡ Less
less_column k v w r s fv fw e = less_front (key_value_bytes k v) (key_value_bytes k w) r s (one_column k v w fv fw ∙ e) (apart k v w fv fw (λ f. absurd (cc (sym e ∙ f))))

-- the first column that differs decides, whatever follows
pub order_column : (k : Kind) (v w : Value) (r s : List ℕ) → Fits k v → Fits k w → key_cmp (key_value_bytes k v ++ r) (key_value_bytes k w ++ s) ≡ ordering_then (value_cmp v w) (key_cmp r s)
order_column k v w r s fv fw =
    elim (value_cmp v w) as (λ o. value_cmp v w ≡ o → key_cmp (key_value_bytes k v ++ r) (key_value_bytes k w ++ s) ≡ ordering_then o (key_cmp r s)) [
      | Less ↦ λ e. less_column k v w r s fv fw e
      | Equal ↦ λ e. ap (λ (x : Value). key_cmp (key_value_bytes k v ++ r) (key_value_bytes k x ++ s)) (sym (value_cmp_exact v w e)) ∙ cmp_same_front (key_value_bytes k v) r s
      | Greater ↦ λ e. key_total.antisymm (key_value_bytes k v ++ r) (key_value_bytes k w ++ s) ∙ ap ordering_reverse (less_column k w v s r fw fv (value_antisymm w v ∙ ap ordering_reverse e))
    ] refl

-- ---- keys and ends of intervals

abbrev pub IsFrom : List ℕ → List ℕ → Type 0
IsFrom low key = is_gt (key_cmp low key) ≡ false

abbrev pub IsUpTo : List ℕ → Option (List ℕ) → Type 0
IsUpTo key high = option_map_or (λ end. is_lt (key_cmp key end)) high true ≡ true

pub lies : (key : List ℕ) (interval : Interval) → IsFrom interval.low key → IsUpTo key interval.high → lies_in key interval ≡ true
lies key interval f u = ap (λ b. not b && option_map_or (λ end. is_lt (key_cmp key end)) interval.high true) f ∙ u

not_greater : (o : Ordering) → o ≢ Greater → is_gt o ≡ false
not_greater Less h = refl
not_greater Equal h = refl
not_greater Greater h = absurd (h refl)

pub is_from : (low key : List ℕ) → IsAtMost low key → IsFrom low key
is_from low key h = not_greater (key_cmp low key) h

at_most : (low key : List ℕ) → IsFrom low key → IsAtMost low key
at_most low key h e = absurd (cc (sym h ∙ ap is_gt e))

pub is_up_to : (key : List ℕ) (high : Option (List ℕ)) → IfSome high (λ end. IsBelow key end) → IsUpTo key high
is_up_to key None h = refl
is_up_to key (Some end) h = ap is_lt h

-- the keys that begin so
pub from_prefix : (prefix key : List ℕ) → AreBytes key → BeginsWith prefix key → IsFrom prefix key × IsUpTo key (next prefix)
from_prefix prefix key bytes b =
    let inside = lies_is key (prefix_interval prefix) ((begun prefix key bytes).1 b) in
    (is_from prefix key inside.0, is_up_to key (next prefix) inside.1)

nil_first : (rest : List ℕ) → is_gt (key_cmp [] rest) ≡ false
nil_first [] = refl
nil_first (x ∷ rest) = refl

-- Keys with a column behind a prefix, and the ends that a value of this column makes.
module _ (prefix : List ℕ) (prefix_bytes : AreBytes prefix) (k : Kind) (x v : Value) (fx : Fits k x) (fv : Fits k v) (rest : List ℕ) (rest_bytes : AreBytes rest) where
  abbrev pub whole : List ℕ
  whole = prefix ++ (key_value_bytes k x ++ rest)

  abbrev pub end : List ℕ
  end = prefix ++ key_value_bytes k v

  whole_bytes : AreBytes whole
  whole_bytes = each_append (λ b. b < 256) prefix (key_value_bytes k x ++ rest) prefix_bytes (each_append (λ b. b < 256) (key_value_bytes k x) rest (column_bytes k x fx) rest_bytes)

  end_bytes : AreBytes end
  end_bytes = each_append (λ b. b < 256) prefix (key_value_bytes k v) prefix_bytes (column_bytes k v fv)

  end_first : key_cmp end whole ≡ ordering_then (value_cmp v x) (key_cmp [] rest)
  end_first =
      cmp_same_front prefix (key_value_bytes k v) (key_value_bytes k x ++ rest)
      ∙ (ap (λ (l : List ℕ). key_cmp l (key_value_bytes k x ++ rest)) (sym (append-nil (key_value_bytes k v))) ∙ order_column k v x [] rest fv fx)

  before_end : (tail : List ℕ) → key_cmp whole (prefix ++ (key_value_bytes k v ++ tail)) ≡ ordering_then (value_cmp x v) (key_cmp rest tail)
  before_end tail = cmp_same_front prefix (key_value_bytes k x ++ rest) (key_value_bytes k v ++ tail) ∙ order_column k x v rest tail fx fv

  not_above : (o : Ordering) → is_lt o ≡ false → is_gt (ordering_then (ordering_reverse o) (key_cmp [] rest)) ≡ false
  not_above Less h = absurd (cc)
  not_above Equal h = nil_first rest
  not_above Greater h = refl

  pub from_at_least : is_lt (value_cmp x v) ≡ false → IsFrom end whole
  from_at_least h = ap is_gt (end_first ∙ ap (λ o. ordering_then o (key_cmp [] rest)) (value_antisymm v x)) ∙ not_above (value_cmp x v) h

  not_begun : value_cmp x v ≡ Greater → BeginsWith end whole → ⊥
  not_begun e b =
      let same : whole ≡ prefix ++ (key_value_bytes k v ++ b.0) = b.1 ∙ append_assoc prefix (key_value_bytes k v) b.0 in
      let tied : key_cmp whole (prefix ++ (key_value_bytes k v ++ b.0)) ≡ Equal = ap (key_cmp whole) (sym same) ∙ tied_itself key_total whole in
      let greater : key_cmp whole (prefix ++ (key_value_bytes k v ++ b.0)) ≡ Greater = before_end b.0 ∙ ap (λ o. ordering_then o (key_cmp rest b.0)) e in
      absurd (cc (sym tied ∙ greater))

  pub from_greater : value_cmp x v ≡ Greater → IsFrom (option_map_or (λ (b : List ℕ). b) (next end) end) whole
  from_greater e =
      let least : IsFrom end whole = from_at_least (ap is_lt e) in
      elim (next end) as (λ o. next end ≡ o → IsFrom (option_map_or (λ (b : List ℕ). b) o end) whole) [
        | None ↦ λ p. least
        | Some n ↦ λ p. elim (key_cmp n whole) as (λ o. key_cmp n whole ≡ o → is_gt o ≡ false) [
          | Less ↦ λ q. refl
          | Equal ↦ λ q. refl
          | Greater ↦ λ q.
              let below : IsBelow whole n = key_total.antisymm whole n ∙ ap ordering_reverse q in
              let inside : LiesIn whole (prefix_interval end) = lies_so whole (prefix_interval end) (at_most end whole least) (subst (λ o. IfSome o (λ high. IsBelow whole high)) (sym p) below) in
              absurd (not_begun e ((begun end whole whole_bytes).0 inside))
        ] refl
      ] refl

  pub up_to_less : value_cmp x v ≡ Less → IsUpTo whole (Some end)
  up_to_less e = ap is_lt (ap (key_cmp whole) (ap (λ (l : List ℕ). prefix ++ l) (sym (append-nil (key_value_bytes k v)))) ∙ (before_end [] ∙ ap (λ o. ordering_then o (key_cmp rest [])) e))

  below_is : IsUpTo whole (Some end) → IsBelow whole end
  below_is h = less_is (key_cmp whole end) h

  pub up_to_at_most : is_gt (value_cmp x v) ≡ false → IsUpTo whole (next end)
  up_to_at_most h = elim (value_cmp x v) as (λ o. value_cmp x v ≡ o → is_gt o ≡ false → IsUpTo whole (next end)) [
    | Less ↦ λ e g.
        let inside = lies_is end (prefix_interval end) ((begun end end end_bytes).1 ([], sym (append-nil end))) in
        is_up_to whole (next end) (through (next end) (below_is (up_to_less e)) inside.1)
    | Equal ↦ λ e g.
        let same : whole ≡ end ++ rest = ap (λ (y : Value). prefix ++ (key_value_bytes k y ++ rest)) (value_cmp_exact x v e) ∙ sym (append_assoc prefix (key_value_bytes k v) rest) in
        (from_prefix end whole whole_bytes (rest, same)).1
    | Greater ↦ λ e g. absurd (cc)
  ] refl h
    where
      through : (high : Option (List ℕ)) → IsBelow whole end → IfSome high (λ n. IsBelow end n) → IfSome high (λ n. IsBelow whole n)
      through None a b = tt
      through (Some n) a b = key_total.trans whole end n a b
