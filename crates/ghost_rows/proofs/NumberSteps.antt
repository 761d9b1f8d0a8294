-- Walks over the bytes of numbers.
use Rattle.std.specs.Prelude.{◌≡◌, ℕ, zero, suc, ◌+◌, ◌*◌, Bool, ℤ, ◌+ℤ◌, List, [], ◌∷◌, ◌++◌, length, drop, FitsSigned, true, neg_ℤ, if◌then◌else◌, ◌==◌}
use mathlib.Core.Path.{refl, sym, ap, subst, ◌∙◌}
use Rattle.std.proofs.Common.{arith, append_assoc, append-nil, length-append, add-one, ne_eqb}
use Rattle.std.proofs.lemmas.Bool.{true≢false}
use Rattle.std.specs.Int.{w128, cast_unsigned}
use Rattle.byteorder.specs.Numbers.{length-bytes_high_first}
use Rattle.iv_types.specs.declared.lock.GroupDelta.{GroupDelta}
use Rattle.iv_types.specs.declared.value.Kind.TheVariants.{Huge}
use Rattle.iv_types.specs.declared.value.Value.TheVariants.{Number}
use Rattle.iv_types.specs.Encoding.{value_bytes}
use Rattle.row_codec.proofs.Numbers.{signed_split}
use Rattle.ghost_rows.specs.Numbers.{numbers_bytes, Fits128, step, moved}

abbrev one : ℤ → List ℕ
one n = value_bytes Huge (Number n)

pub length_one : (n : ℤ) → length (one n) ≡ 16
length_one n = length-bytes_high_first 16 (cast_unsigned w128 n)

pub long : (n : ℤ) (more : List ℕ) → length (one n ++ more) ≡ 16 + length more
long n more = length-append (one n) more ∙ ap (λ k. k + length more) (length_one n)

pub none_left : (later : List ℤ) → numbers_bytes later ≡ [] → later ≡ []
none_left [] e = refl
none_left (m ∷ ms) e = absurd (let l : 16 + length (numbers_bytes ms) ≡ 0 = sym (long m (numbers_bytes ms)) ∙ ap length e in omega (arith, l))

pub length_numbers : (ns : List ℤ) → length (numbers_bytes ns) ≡ 16 * length ns
length_numbers [] = refl
length_numbers (n ∷ ns) = let rest : length (numbers_bytes ns) ≡ 16 * length ns = length_numbers ns in let l : length (one n ++ numbers_bytes ns) ≡ 16 + length (numbers_bytes ns) = long n (numbers_bytes ns) in omega (arith, l, rest)

-- numbers that fit are told by their bytes
pub numbers_same : (ns ms : List ℤ) → Fits128 ns → Fits128 ms → numbers_bytes ns ≡ numbers_bytes ms → ns ≡ ms
numbers_same [] ms f g e = sym (none_left ms (sym e))
numbers_same (n ∷ ns) [] f g e = none_left (n ∷ ns) e
numbers_same (n ∷ ns) (m ∷ ms) f g e =
    let both = signed_split w128 refl n m (numbers_bytes ns) (numbers_bytes ms) f.0 g.0 e in
    let rest : ns ≡ ms = numbers_same ns ms f.1 g.1 both.1 in
    let first : n ≡ m = both.0 in
    λ i. first i ∷ rest i

-- numbers of which some were read, and the bytes of the others are left
pub record IsLeft (found : List ℤ) (rest : List ℕ) (numbers : List ℤ) : Type 0 where
  pub later : List ℤ
  pub fits : Fits128 later
  pub whole : numbers ≡ found ++ later
  pub bytes : rest ≡ numbers_bytes later

pub left_more : (found after : List ℤ) (rest behind : List ℕ) (numbers : List ℤ) (n : ℤ) → FitsSigned w128 n → rest ≡ one n ++ behind → after ≡ found ++ n ∷ []
    → IsLeft found rest numbers → IsLeft after behind numbers
left_more found after rest behind numbers n f b a left = by_later left.later left.fits left.whole left.bytes
  where
    by_later : (later : List ℤ) → Fits128 later → numbers ≡ found ++ later → rest ≡ numbers_bytes later → IsLeft after behind numbers
    by_later [] g w r = absurd (let l : 16 + length behind ≡ 0 = sym (long n behind) ∙ ap length (sym b ∙ r) in omega (arith, l))
    by_later (m ∷ ms) g w r =
        let both = signed_split w128 refl n m behind (numbers_bytes ms) f g.0 (sym b ∙ r) in
        record {
          later = ms;
          fits = g.1;
          whole = w ∙ (ap (λ k. found ++ k ∷ ms) (sym both.0) ∙ (sym (append_assoc found (n ∷ []) ms) ∙ ap (λ xs. xs ++ ms) (sym a)));
          bytes = both.1;
        }

pub left_none : (found : List ℤ) (rest : List ℕ) (numbers : List ℤ) → rest ≡ [] → IsLeft found rest numbers → found ≡ numbers
left_none found rest numbers e left =
    sym (left.whole ∙ (ap (λ later. found ++ later) (none_left left.later (sym left.bytes ∙ e)) ∙ append-nil found))

-- numbers of which those from a column on are still to be moved
pub record IsMoving (back : Bool) (column : ℕ) (d : GroupDelta) (rest out whole : List ℕ) : Type 0 where
  pub later : List ℤ
  pub fits : Fits128 later
  pub move_fits : Fits128 (moved back column later d)
  pub bytes : rest ≡ numbers_bytes later
  pub told : out ++ numbers_bytes (moved back column later d) ≡ whole

pub moving_more : (back : Bool) (column : ℕ) (d : GroupDelta) (rest behind out after whole : List ℕ) (n m : ℤ) → FitsSigned w128 n → rest ≡ one n ++ behind
    → (FitsSigned w128 (n +ℤ step back column d) → m ≡ n +ℤ step back column d) → after ≡ out ++ one m
    → IsMoving back column d rest out whole → IsMoving back (column + 1) d behind after whole
moving_more back column d rest behind out after whole n m f b is a moving = by_later moving.later moving.fits moving.move_fits moving.bytes moving.told
  where
    by_later : (later : List ℤ) → Fits128 later → Fits128 (moved back column later d) → rest ≡ numbers_bytes later → out ++ numbers_bytes (moved back column later d) ≡ whole
        → IsMoving back (column + 1) d behind after whole
    by_later [] g h r t = absurd (let l : 16 + length behind ≡ 0 = sym (long n behind) ∙ ap length (sym b ∙ r) in omega (arith, l))
    by_later (k ∷ ks) g h r t =
        let both = signed_split w128 refl n k behind (numbers_bytes ks) f g.0 (sym b ∙ r) in
        let fit : FitsSigned w128 (n +ℤ step back column d) = subst (λ z. FitsSigned w128 (z +ℤ step back column d)) (sym both.0) h.0 in
        let this : m ≡ k +ℤ step back column d = is fit ∙ ap (λ z. z +ℤ step back column d) both.0 in
        subst (λ at. IsMoving back at d behind after whole) (sym (add-one column)) (record {
          later = ks;
          fits = g.1;
          move_fits = h.1;
          bytes = both.1;
          told = ap (λ xs. xs ++ numbers_bytes (moved back (suc column) ks d)) a
              ∙ (ap (λ z. (out ++ one z) ++ numbers_bytes (moved back (suc column) ks d)) this
              ∙ (append_assoc out (one (k +ℤ step back column d)) (numbers_bytes (moved back (suc column) ks d)) ∙ t));
        })

pub moving_none : (back : Bool) (column : ℕ) (d : GroupDelta) (rest out whole : List ℕ) → rest ≡ [] → IsMoving back column d rest out whole → out ≡ whole
moving_none back column d rest out whole e moving =
    sym (append-nil out) ∙ (ap (λ later. out ++ numbers_bytes (moved back column later d)) (sym (none_left moving.later (sym moving.bytes ∙ e))) ∙ moving.told)

-- the same by numbers that are those
pub stepped_as : (back : Bool) (n n' w w' m : ℤ) → n' ≡ n → w' ≡ w → (FitsSigned w128 (n' +ℤ (if back then neg_ℤ w' else w')) → m ≡ n' +ℤ (if back then neg_ℤ w' else w'))
    → FitsSigned w128 (n +ℤ (if back then neg_ℤ w else w)) → m ≡ n +ℤ (if back then neg_ℤ w else w)
stepped_as back n n' w w' m a b =
    subst (λ x. (FitsSigned w128 (n' +ℤ (if back then neg_ℤ w' else w')) → m ≡ n' +ℤ (if back then neg_ℤ w' else w')) → FitsSigned w128 (x +ℤ (if back then neg_ℤ w else w)) → m ≡ x +ℤ (if back then neg_ℤ w else w)) a
    (subst (λ y. (FitsSigned w128 (n' +ℤ (if back then neg_ℤ w' else w')) → m ≡ n' +ℤ (if back then neg_ℤ w' else w')) → FitsSigned w128 (n' +ℤ (if back then neg_ℤ y else y)) → m ≡ n' +ℤ (if back then neg_ℤ y else y)) b (λ f. f))

pub empty_is : (rest : List ℕ) → true ≡ (length rest == 0) → rest ≡ []
empty_is [] e = refl
empty_is (x ∷ xs) e = absurd (true≢false (e ∙ ne_eqb (length (x ∷ xs)) 0 (λ z. omega (arith, z))))

pub no_length : (rest : List ℕ) → length rest ≡ 0 → rest ≡ []
no_length [] e = refl
no_length (x ∷ xs) e = absurd (omega (arith, e))

-- as many numbers are left as before, less one
pub one_fewer : (rest behind k many found : ℕ) → rest ≡ 16 * k → rest ≡ 16 + behind → found + k ≡ many → (j : ℕ) × (behind ≡ 16 * j) × (found + 1 + j ≡ many)
one_fewer rest behind zero many found a b c = absurd (omega (arith, a, b))
one_fewer rest behind (suc k) many found a b c = (k, omega (arith, a, b), omega (arith, c))

-- a number's bytes are added behind those of the ones before it
pub pushed_bytes : (out after : List ℕ) (numbers : List ℤ) (n : ℕ) (x : ℤ) → drop n numbers ≡ x ∷ drop (n + 1) numbers → after ≡ out ++ one x → out ++ numbers_bytes (drop n numbers) ≡ numbers_bytes numbers
    → after ++ numbers_bytes (drop (n + 1) numbers) ≡ numbers_bytes numbers
pushed_bytes out after numbers n x is a e =
    ap (λ l. l ++ numbers_bytes (drop (n + 1) numbers)) a
    ∙ (append_assoc out (one x) (numbers_bytes (drop (n + 1) numbers)) ∙ (ap (λ l. out ++ numbers_bytes l) (sym is) ∙ e))
