-- Rows that are alike or differ, and their bytes.
use Rattle.std.specs.Prelude.{◌≡◌, ◌≢◌, ◌↔◌, IsTrue, Bool, true, false, ℕ, zero, suc, ◌*◌, ℤ, pos, List, [], ◌∷◌, ◌++◌, length, Option, Some, None, FitsSigned}
use Rattle.std.specs.List.{AllByRecursion}
use Rattle.std.specs.Int.{w128}
use Rattle.std.specs.FinMap.{int_cmp-IsAntisymmetric}
use Rattle.std.specs.Cmp.{int_cmp_total}
use mathlib.Core.Path.{refl, sym, ap, subst, ◌∙◌}
use Rattle.std.proofs.Common.{arith}
use Rattle.std.proofs.lemmas.Bool.{true≢false}
use Rattle.table_laws.proofs.Tables.{by_key}
use Rattle.iv_types.specs.declared.value.Kind.TheVariants.{Huge}
use Rattle.iv_types.specs.declared.value.Value.TheVariants.{Number}
use Rattle.iv_types.specs.Encoding.{value_bytes}
use Rattle.ghost_rows.specs.Numbers.{numbers_bytes, Fits128}
use Rattle.ghost_rows.proofs.NumberSteps.{IsLeft, left_more, left_none, numbers_same, length_numbers}
use Rattle.image_views.specs.Rows.{column_of, AreAlike, Differ, IsCounted, IsBytesOf, AreBytes}

by_number : {P : Type 0} (n m : ℤ) → (n ≡ m → P) → (n ≢ m → P) → P
by_number n m f g = by_key int_cmp_total int_cmp-IsAntisymmetric n m f g

-- ---- zeros

abbrev pub AreZeros : List ℤ → Type 0
AreZeros ns = AllByRecursion (λ n. n ≡ pos 0) ns

pub zeros_alike : (ns : List ℤ) → AreZeros ns → AreAlike (Some ns) None
zeros_alike [] h column = refl
zeros_alike (n ∷ ns) h zero = h.0
zeros_alike (n ∷ ns) h (suc i) = zeros_alike ns h.1 i

pub others_stand : (ns : List ℤ) → (AreZeros ns → ⊥) → Differ (Some ns) None
others_stand [] h = absurd (h tt)
others_stand (n ∷ ns) h = by_number n (pos 0)
    (λ e. let rest = others_stand ns (λ z. h (e, z)) in (suc rest.0, rest.1))
    (λ d. (zero, d))

zeros_first : (found later : List ℤ) (n : ℤ) → AreZeros ((found ++ n ∷ []) ++ later) → n ≡ pos 0
zeros_first [] later n h = h.0
zeros_first (x ∷ found) later n h = zeros_first found later n h.1

zeros_more : (found : List ℤ) (n : ℤ) → AreZeros found → n ≡ pos 0 → AreZeros (found ++ n ∷ [])
zeros_more [] n h e = (e, tt)
zeros_more (x ∷ found) n h e = (h.0, zeros_more found n h.1 e)

-- ---- two rows

lists_differ : (ns ms : List ℤ) → length ns ≡ length ms → ns ≢ ms → Differ (Some ns) (Some ms)
lists_differ [] [] l d = absurd (d refl)
lists_differ [] (m ∷ ms) l d = absurd (omega (arith, l))
lists_differ (n ∷ ns) [] l d = absurd (omega (arith, l))
lists_differ (n ∷ ns) (m ∷ ms) l d = by_number n m
    (λ e. let rest = lists_differ ns ms (omega (arith, l)) (λ same. d (λ i. e i ∷ same i)) in (suc rest.0, rest.1))
    (λ other. (zero, other))

-- a row whose bytes are there is there
pub record HasNumbers (width : ℕ) (bytes : List ℕ) (row : Option (List ℤ)) : Type 0 where
  pub numbers : List ℤ
  pub row_is : row ≡ Some numbers
  pub fits : Fits128 numbers
  pub bytes_are : bytes ≡ numbers_bytes numbers
  pub long : length numbers ≡ width

pub has_numbers : (width : ℕ) (bytes : List ℕ) (row : Option (List ℤ)) → IsBytesOf width (Some bytes) row → HasNumbers width bytes row
has_numbers width bytes None h = absurd (let bad = h.bytes_are in cc)
has_numbers width bytes (Some ns) h = record {
  numbers = ns;
  row_is = refl;
  fits = h.fits ns refl;
  bytes_are = (let same = h.bytes_are in cc);
  long = h.long ns refl;
}

pub has_none : (width : ℕ) (row : Option (List ℤ)) → IsBytesOf width None row → row ≡ None
has_none width None h = refl
has_none width (Some ns) h = absurd (let bad = h.bytes_are in cc)

pub same_bytes_alike : (width other : ℕ) (bytes : List ℕ) (stored fresh : Option (List ℤ)) → IsBytesOf width (Some bytes) stored → IsBytesOf other (Some bytes) fresh → AreAlike stored fresh
same_bytes_alike width other bytes stored fresh s f column =
    let one = has_numbers width bytes stored s in
    let two = has_numbers other bytes fresh f in
    let same : one.numbers ≡ two.numbers = numbers_same one.numbers two.numbers one.fits two.fits (sym one.bytes_are ∙ two.bytes_are) in
    ap (λ o. column_of o column) (one.row_is ∙ (ap Some same ∙ sym two.row_is))

pub other_bytes_differ : (width : ℕ) (o : Option (List ℕ)) (bytes : List ℕ) (stored fresh : Option (List ℤ)) → o ≢ Some bytes → IsBytesOf width o stored → IsBytesOf width (Some bytes) fresh → IsCounted fresh → Differ stored fresh
other_bytes_differ width o bytes None fresh d s f counted =
    let two = has_numbers width bytes fresh f in
    subst (Differ None) (sym two.row_is) (0, λ e. counted two.numbers two.row_is (sym e))
other_bytes_differ width o bytes (Some ns) fresh d s f counted =
    let two = has_numbers width bytes fresh f in
    subst (Differ (Some ns)) (sym two.row_is) (lists_differ ns two.numbers (s.long ns refl ∙ sym two.long) (λ same. d (s.bytes_are ∙ ap Some (ap numbers_bytes same ∙ sym two.bytes_are))))

-- ---- a walk over a row's bytes

pub bytes_long : (bytes : List ℕ) → AreBytes (Some bytes) → (many : ℕ) × (length bytes ≡ 16 * many)
bytes_long bytes are =
    let has = has_numbers are.0 bytes are.1 are.2 in
    (length has.numbers, ap length has.bytes_are ∙ length_numbers has.numbers)

-- numbers of which those that were read are zeros
pub record AreZerosUpTo (rest : List ℕ) (numbers : List ℤ) : Type 0 where
  pub found : List ℤ
  pub zeros : AreZeros found
  pub left : IsLeft found rest numbers

pub zeros_begin : (rest : List ℕ) (numbers : List ℤ) → Fits128 numbers → rest ≡ numbers_bytes numbers → AreZerosUpTo rest numbers
zeros_begin rest numbers fits is = record { found = []; zeros = tt; left = record { later = numbers; fits = fits; whole = refl; bytes = is } }

pub zeros_go_on : (rest behind : List ℕ) (numbers : List ℤ) (n : ℤ) → FitsSigned w128 n → rest ≡ value_bytes Huge (Number n) ++ behind → n ≡ pos 0 → AreZerosUpTo rest numbers → AreZerosUpTo behind numbers
zeros_go_on rest behind numbers n fits is zero_is z = record {
  found = z.found ++ n ∷ [];
  zeros = zeros_more z.found n z.zeros zero_is;
  left = left_more z.found (z.found ++ n ∷ []) rest behind numbers n fits is refl z.left;
}

pub zeros_break : (rest behind : List ℕ) (numbers : List ℤ) (n : ℤ) → FitsSigned w128 n → rest ≡ value_bytes Huge (Number n) ++ behind → n ≢ pos 0 → AreZerosUpTo rest numbers → AreZeros numbers → ⊥
zeros_break rest behind numbers n fits is other z all =
    let more = left_more z.found (z.found ++ n ∷ []) rest behind numbers n fits is refl z.left in
    other (zeros_first z.found more.later n (subst AreZeros more.whole all))

pub zeros_end : (rest : List ℕ) (numbers : List ℤ) → rest ≡ [] → AreZerosUpTo rest numbers → AreZeros numbers
zeros_end rest numbers is z = subst AreZeros (left_none z.found rest numbers is z.left) z.zeros

-- ---- what the test of a stored row tells

pub zeros_told : (width : ℕ) (bytes : List ℕ) (row : Option (List ℤ)) → IsBytesOf width (Some bytes) row → (r : Bool) → ((numbers : List ℤ) → Fits128 numbers → bytes ≡ numbers_bytes numbers → IsTrue r ↔ AreZeros numbers)
    → r ≡ true → AreAlike row None
zeros_told width bytes row are r told t =
    let has = has_numbers width bytes row are in
    subst (λ o. AreAlike o None) (sym has.row_is) (zeros_alike has.numbers ((told has.numbers has.fits has.bytes_are).0 t))

pub standing_told : (width : ℕ) (bytes : List ℕ) (row : Option (List ℤ)) → IsBytesOf width (Some bytes) row → (r : Bool) → ((numbers : List ℤ) → Fits128 numbers → bytes ≡ numbers_bytes numbers → IsTrue r ↔ AreZeros numbers)
    → r ≡ false → Differ row None
standing_told width bytes row are r told f =
    let has = has_numbers width bytes row are in
    subst (λ o. Differ o None) (sym has.row_is) (others_stand has.numbers (λ z. true≢false (sym ((told has.numbers has.fits has.bytes_are).1 z) ∙ f)))
