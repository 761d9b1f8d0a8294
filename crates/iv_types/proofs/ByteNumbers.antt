-- Bytes, and numbers of a fixed count of bytes, the highest first.
use Rattle.std.proofs.Common.{◌≡◌, ℕ, zero, suc, ◌+◌, ◌*◌, ◌/◌, ◌%◌, ◌^◌, ◌<◌, ◌≤◌, List, [], ◌∷◌, length, get_or, take, drop, refl, sym, ap, ◌∙◌, arith, inl, inr}
use Rattle.std.specs.Int.{byte_at, bytes_high_first}
use Rattle.std.proofs.Math.Nat.{mod-lt}
use Rattle.std.proofs.lemmas.Nat.{div-mul-add, mod-mul-add}
use Rattle.std.proofs.lemmas.Bool.{cases_lt}
use Rattle.std.proofs.lemmas.List.{append-nil, length-take, get_or-drop, get_or-take, get_or_past}
use Rattle.byteorder.specs.Endian.{big_number, big_from}
use Rattle.byteorder.specs.Numbers.{big_from-cons, big_from-lt, big_from-take, length-bytes_high_first, big_number-reads_back}

abbrev pub IsBytes : List ℕ → Type 0
IsBytes bytes = (i : ℕ) → get_or bytes i 0 < 256

pub IsBytes-rest : (b : ℕ) (bytes : List ℕ) → IsBytes (b ∷ bytes) → IsBytes bytes
IsBytes-rest b bytes h i = h (suc i)

pub IsBytes-drop : (n : ℕ) (bytes : List ℕ) → IsBytes bytes → IsBytes (drop n bytes)
IsBytes-drop n bytes h i = rw get_or-drop (h (n + i))

pub IsBytes-take : (n : ℕ) (bytes : List ℕ) → IsBytes bytes → IsBytes (take n bytes)
IsBytes-take n bytes h i = elim (cases_lt i n) [
  | inl lt ↦ rw (get_or-take n bytes i 0 lt) (h i)
  | inr le ↦ rw (get_or_past (take n bytes) i 0 (omega (arith, length-take n bytes))) (omega arith)
]

pub IsBytes-cons : (b : ℕ) (bytes : List ℕ) → b < 256 → IsBytes bytes → IsBytes (b ∷ bytes)
IsBytes-cons b bytes lt h zero = lt
IsBytes-cons b bytes lt h (suc i) = h i

byte_at-lt : (k x : ℕ) → byte_at k x < 256
byte_at-lt zero x = mod-lt x (omega arith)
byte_at-lt (suc k) x = mod-lt (x / 256 ^ suc k) (omega arith)

pub bytes_of_number : (n x : ℕ) → IsBytes (bytes_high_first n x)
bytes_of_number zero x = λ i. omega arith
bytes_of_number (suc n) x = IsBytes-cons (byte_at n x) (bytes_high_first n x) (byte_at-lt n x) (bytes_of_number n x)

-- bytes are known by their number
same_number : (n : ℕ) (xs ys : List ℕ) → length xs ≡ n → length ys ≡ n → IsBytes xs → IsBytes ys → big_from 0 n xs ≡ big_from 0 n ys → xs ≡ ys
same_number zero [] [] a b fx fy e = refl
same_number zero [] (y ∷ ys) a b fx fy e = absurd (omega (arith, b))
same_number zero (x ∷ xs) ys a b fx fy e = absurd (omega (arith, a))
same_number (suc n) [] ys a b fx fy e = absurd (omega (arith, a))
same_number (suc n) (x ∷ xs) [] a b fx fy e = absurd (omega (arith, b))
same_number (suc n) (x ∷ xs) (y ∷ ys) a b fx fy e =
    let p = 256 ^ n in
    let u = big_from 0 n xs in
    let v = big_from 0 n ys in
    let lu : u < p = big_from-lt 0 n xs (IsBytes-rest x xs fx) in
    let lv : v < p = big_from-lt 0 n ys (IsBytes-rest y ys fy) in
    let whole : x * p + u ≡ y * p + v =
    ap (λ (k : ℕ). x * p + k) (sym (big_from-cons 0 n x xs)) ∙ e ∙ ap (λ (k : ℕ). y * p + k) (big_from-cons 0 n y ys) in
    let heads : x ≡ y = sym (div-mul-add x p u lu) ∙ ap (λ (k : ℕ). k / p) whole ∙ div-mul-add y p v lv in
    let tails : u ≡ v = sym (mod-mul-add x p u lu) ∙ ap (λ (k : ℕ). k % p) whole ∙ mod-mul-add y p v lv in
    let rest : xs ≡ ys = same_number n xs ys (omega (arith, a)) (omega (arith, b)) (IsBytes-rest x xs fx) (IsBytes-rest y ys fy) tails in
    ap (λ (h : ℕ). h ∷ xs) heads ∙ ap (λ (t : List ℕ). y ∷ t) rest

-- the bytes of the number in n bytes are these bytes
pub back : (n : ℕ) (bytes : List ℕ) → IsBytes bytes → n ≤ length bytes → bytes_high_first n (big_number n bytes) ≡ take n bytes
back n bytes h long =
    let x = big_number n bytes in
    let cut : big_from 0 n (take n bytes) ≡ x = big_from-take 0 n n bytes (omega arith) in
    let again : big_from 0 n (bytes_high_first n x) ≡ x = ap (big_from 0 n) (sym (append-nil (bytes_high_first n x))) ∙ big_number-reads_back n x [] (big_from-lt 0 n bytes h) in
    same_number n (bytes_high_first n x) (take n bytes) (length-bytes_high_first n x) (omega (arith, length-take n bytes)) (bytes_of_number n x) (IsBytes-take n bytes h) (again ∙ sym cut)
