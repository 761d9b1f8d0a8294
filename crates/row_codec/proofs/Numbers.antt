-- Numbers at the front of bytes.
use Rattle.std.proofs.Common.{◌≡◌, ℕ, ℤ, ◌-◌, ◌^◌, ◌<◌, ◌≤◌, List, [], ◌++◌, length, take, drop, sym, ap, subst, ◌∙◌, arith}
use Rattle.std.specs.Int.{Width, byte_len, bytes_high_first, cast_signed, cast_unsigned}
use Rattle.std.specs.Int.RustNames.{FitsSigned}
use mir.Val.{bits}
use mir.Facts.{Fits-of_z}
use borrow.Author.Gap.{read_sfits}
use Rattle.std.proofs.lemmas.Int.{to_z-of_z, of_z-to_z}
use Rattle.std.proofs.lemmas.List.{append-nil, length-append, drop_at, take-append-drop, take_rest}
use Rattle.byteorder.specs.Endian.{big_number, big_from}
use Rattle.byteorder.specs.Numbers.{big_from-lt, length-bytes_high_first, big_number-reads_back}
use Rattle.iv_types.proofs.ByteNumbers.{IsBytes, back}

-- bytes begin with those of the number in them
pub number_front : (n : ℕ) (bytes : List ℕ) (x : ℕ) → IsBytes bytes → n ≤ length bytes → x ≡ big_number n bytes
    → bytes ≡ bytes_high_first n x ++ take (length bytes - n) (drop n bytes)
number_front n bytes x h long is =
    sym (take-append-drop n bytes) ∙ ap (λ (t : List ℕ). t ++ drop n bytes) (sym (back n bytes h long) ∙ ap (bytes_high_first n) (sym is))
    ∙ ap (λ (t : List ℕ). bytes_high_first n x ++ t) (sym (take_rest bytes n))

-- the same for a number in two's complement
pub signed_front : (w : Width) → 256 ^ byte_len w ≡ 2 ^ bits w → (bytes : List ℕ) (z : ℤ) → IsBytes bytes → byte_len w ≤ length bytes → z ≡ cast_signed w (big_number (byte_len w) bytes)
    → FitsSigned w z × (bytes ≡ bytes_high_first (byte_len w) (cast_unsigned w z) ++ take (length bytes - byte_len w) (drop (byte_len w) bytes))
signed_front w size bytes z h long is =
    let n = byte_len w in
    let x = big_number n bytes in
    let lt : x < 2 ^ bits w = subst (λ (k : ℕ). x < k) size (big_from-lt 0 n bytes h) in
    let same : cast_unsigned w z ≡ x = ap (cast_unsigned w) is ∙ of_z-to_z w x lt in
    (subst (FitsSigned w) (sym is) (read_sfits w x), number_front n bytes (cast_unsigned w z) h long same)

-- numbers with the same bytes are one, and what is behind them is the same
pub number_split : (n x y : ℕ) (r s : List ℕ) → x < 256 ^ n → y < 256 ^ n → bytes_high_first n x ++ r ≡ bytes_high_first n y ++ s → (x ≡ y) × (r ≡ s)
number_split n x y r s lx ly e = (
  sym (big_number-reads_back n x r lx) ∙ ap (big_from 0 n) e ∙ big_number-reads_back n y s ly,
  sym (drop_at (bytes_high_first n x) r n (length-bytes_high_first n x)) ∙ ap (drop n) e ∙ drop_at (bytes_high_first n y) s n (length-bytes_high_first n y),
)

pub signed_split : (w : Width) → 256 ^ byte_len w ≡ 2 ^ bits w → (x y : ℤ) (r s : List ℕ) → FitsSigned w x → FitsSigned w y
    → bytes_high_first (byte_len w) (cast_unsigned w x) ++ r ≡ bytes_high_first (byte_len w) (cast_unsigned w y) ++ s → (x ≡ y) × (r ≡ s)
signed_split w size x y r s fx fy e =
    let lx : cast_unsigned w x < 256 ^ byte_len w = subst (λ (k : ℕ). cast_unsigned w x < k) (sym size) (Fits-of_z fx).fits in
    let ly : cast_unsigned w y < 256 ^ byte_len w = subst (λ (k : ℕ). cast_unsigned w y < k) (sym size) (Fits-of_z fy).fits in
    let both = number_split (byte_len w) (cast_unsigned w x) (cast_unsigned w y) r s lx ly e in
    (sym (to_z-of_z w x fx) ∙ ap (cast_signed w) both.0 ∙ to_z-of_z w y fy, both.1)

-- the number whose bytes these are
pub number_is : (n x : ℕ) (bytes : List ℕ) → x < 256 ^ n → bytes_high_first n x ≡ bytes → x ≡ big_from 0 n bytes
number_is n x bytes lx e = sym (big_number-reads_back n x [] lx) ∙ ap (big_from 0 n) (append-nil (bytes_high_first n x)) ∙ ap (big_from 0 n) e

-- bytes that begin with a number's are no fewer
pub long_enough : (n x : ℕ) (r : List ℕ) → length (bytes_high_first n x ++ r) < n → ⊥
long_enough n x r h = omega (arith, length-append (bytes_high_first n x) r, length-bytes_high_first n x)
