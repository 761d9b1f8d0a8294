-- The order of numbers and of their bytes.
use Rattle.std.proofs.Common.{◌≡◌, ℕ, ℤ, pos, zero, suc, ◌+◌, ◌*◌, ◌^◌, ◌<◌, ◌≤◌, ◌+ℤ◌, ◌<ℤ◌, List, [], ◌∷◌, ◌++◌, length, refl, sym, ap, ◌∙◌, arith, inl, inr, Ordering, Less, Equal, Greater}
use Rattle.std.proofs.lemmas.Bool.{cases_lt}
use Rattle.std.proofs.lemmas.Int.{ints}
use Rattle.std.proofs.lemmas.Cmp.{ranked, int_ranked}
use Rattle.std.proofs.lemmas.List.{append-nil}
use Rattle.std.proofs.Math.Nat.{mul-le-mul_right}
use Rattle.std.specs.Ordering.{nat_cmp, int_cmp, ordering_then, MatchOrdering}
use Rattle.std.specs.Cmp.Lexicographic.{slice_cmp}
use Rattle.std.specs.Int.{bytes_high_first}
use Rattle.byteorder.specs.Endian.{big_from}
use Rattle.byteorder.specs.Numbers.{big_from-cons, big_from-lt, length-bytes_high_first, big_number-reads_back}
use Rattle.iv_types.proofs.ByteNumbers.{IsBytes, IsBytes-rest, bytes_of_number}

less_is : (x y : ℕ) (o : Ordering) → MatchOrdering o (x < y) (x ≡ y) (y < x) → x < y → o ≡ Less
less_is x y Less m lt = refl
less_is x y Equal m lt = absurd (omega (arith, m, lt))
less_is x y Greater m lt = absurd (omega (arith, m, lt))

equal_is : (x y : ℕ) (o : Ordering) → MatchOrdering o (x < y) (x ≡ y) (y < x) → x ≡ y → o ≡ Equal
equal_is x y Less m e = absurd (omega (arith, m, e))
equal_is x y Equal m e = refl
equal_is x y Greater m e = absurd (omega (arith, m, e))

greater_is : (x y : ℕ) (o : Ordering) → MatchOrdering o (x < y) (x ≡ y) (y < x) → y < x → o ≡ Greater
greater_is x y Less m lt = absurd (omega (arith, m, lt))
greater_is x y Equal m lt = absurd (omega (arith, m, lt))
greater_is x y Greater m lt = refl

pub cmp_less : (x y : ℕ) → x < y → nat_cmp x y ≡ Less
cmp_less x y lt = less_is x y (nat_cmp x y) (ranked x y (nat_cmp x y) refl) lt

pub cmp_equal : (x y : ℕ) → x ≡ y → nat_cmp x y ≡ Equal
cmp_equal x y e = equal_is x y (nat_cmp x y) (ranked x y (nat_cmp x y) refl) e

pub cmp_greater : (x y : ℕ) → y < x → nat_cmp x y ≡ Greater
cmp_greater x y lt = greater_is x y (nat_cmp x y) (ranked x y (nat_cmp x y) refl) lt

same_rank : (x y u v : ℕ) → (u < v → x < y) → (v < u → y < x) → (u ≡ v → x ≡ y) → nat_cmp x y ≡ nat_cmp u v
same_rank x y u v f g h = elim (cases_lt u v) [
  | inl lt ↦ cmp_less x y (f lt) ∙ sym (cmp_less u v lt)
  | inr le ↦ elim (cases_lt v u) [
    | inl gt ↦ cmp_greater x y (g gt) ∙ sym (cmp_greater u v gt)
    | inr ge ↦ let e : u ≡ v = omega arith in cmp_equal x y (h e) ∙ sym (cmp_equal u v e)
  ]
]

-- numbers are in order as what they are shifted to
same_answer : (a b : ℤ) (x y h : ℕ) (o p : Ordering) → a +ℤ pos h ≡ pos x → b +ℤ pos h ≡ pos y → MatchOrdering o (a <ℤ b) (a ≡ b) (b <ℤ a) → MatchOrdering p (x < y) (x ≡ y) (y < x) → o ≡ p
same_answer a b x y h Less Less ea eb m n = refl
same_answer a b x y h Equal Equal ea eb m n = refl
same_answer a b x y h Greater Greater ea eb m n = refl
same_answer a b x y h Less Equal ea eb m n = absurd (omega (arith, ints, m, n, ea, eb))
same_answer a b x y h Less Greater ea eb m n = absurd (omega (arith, ints, m, n, ea, eb))
same_answer a b x y h Equal Less ea eb m n = absurd (omega (arith, ints, m, n, ea, eb))
same_answer a b x y h Equal Greater ea eb m n = absurd (omega (arith, ints, m, n, ea, eb))
same_answer a b x y h Greater Less ea eb m n = absurd (omega (arith, ints, m, n, ea, eb))
same_answer a b x y h Greater Equal ea eb m n = absurd (omega (arith, ints, m, n, ea, eb))

pub shifted_order : (a b : ℤ) (x y h : ℕ) → a +ℤ pos h ≡ pos x → b +ℤ pos h ≡ pos y → int_cmp a b ≡ nat_cmp x y
shifted_order a b x y h ea eb = same_answer a b x y h (int_cmp a b) (nat_cmp x y) ea eb (int_ranked a b (int_cmp a b) refl) (ranked x y (nat_cmp x y) refl)

pub then_assoc : (o p q : Ordering) → ordering_then (ordering_then o p) q ≡ ordering_then o (ordering_then p q)
then_assoc Less p q = refl
then_assoc Equal p q = refl
then_assoc Greater p q = refl

-- the higher digit decides first
digit_order : (a b u v p : ℕ) → u < p → v < p → nat_cmp (a * p + u) (b * p + v) ≡ ordering_then (nat_cmp a b) (nat_cmp u v)
digit_order a b u v p lu lv = elim (cases_lt a b) [
  | inl lt ↦
      let top : (a + 1) * p ≤ b * p = mul-le-mul_right p (omega arith) in
      cmp_less (a * p + u) (b * p + v) (omega (arith, top)) ∙ sym (ap (λ (o : Ordering). ordering_then o (nat_cmp u v)) (cmp_less a b lt))
  | inr le ↦ elim (cases_lt b a) [
    | inl gt ↦
        let top : (b + 1) * p ≤ a * p = mul-le-mul_right p (omega arith) in
        cmp_greater (a * p + u) (b * p + v) (omega (arith, top)) ∙ sym (ap (λ (o : Ordering). ordering_then o (nat_cmp u v)) (cmp_greater a b gt))
    | inr ge ↦
        let e : a ≡ b = omega arith in
        let same : a * p ≡ b * p = ap (λ (k : ℕ). k * p) e in
        same_rank (a * p + u) (b * p + v) u v (λ l. omega (arith, same)) (λ l. omega (arith, same)) (λ l. omega (arith, same)) ∙ sym (ap (λ (o : Ordering). ordering_then o (nat_cmp u v)) (cmp_equal a b e))
  ]
]

-- bytes are in order as their numbers, and what follows them decides where these are equal
order_lists : (n : ℕ) (xs ys r s : List ℕ) → length xs ≡ n → length ys ≡ n → IsBytes xs → IsBytes ys
    → slice_cmp nat_cmp (xs ++ r) (ys ++ s) ≡ ordering_then (nat_cmp (big_from 0 n xs) (big_from 0 n ys)) (slice_cmp nat_cmp r s)
order_lists zero [] [] r s a b fx fy = refl
order_lists zero [] (y ∷ ys) r s a b fx fy = absurd (omega (arith, b))
order_lists zero (x ∷ xs) ys r s a b fx fy = absurd (omega (arith, a))
order_lists (suc n) [] ys r s a b fx fy = absurd (omega (arith, a))
order_lists (suc n) (x ∷ xs) [] r s a b fx fy = absurd (omega (arith, b))
order_lists (suc n) (x ∷ xs) (y ∷ ys) r s a b fx fy =
    let p = 256 ^ n in
    let u = big_from 0 n xs in
    let v = big_from 0 n ys in
    let q = slice_cmp nat_cmp r s in
    let lu : u < p = big_from-lt 0 n xs (IsBytes-rest x xs fx) in
    let lv : v < p = big_from-lt 0 n ys (IsBytes-rest y ys fy) in
    let others = order_lists n xs ys r s (omega (arith, a)) (omega (arith, b)) (IsBytes-rest x xs fx) (IsBytes-rest y ys fy) in
    let whole : nat_cmp (x * p + u) (y * p + v) ≡ nat_cmp (big_from 0 (suc n) (x ∷ xs)) (big_from 0 (suc n) (y ∷ ys)) =
    ap (λ (k : ℕ). nat_cmp (x * p + k) (y * p + v)) (sym (big_from-cons 0 n x xs)) ∙ ap (λ (k : ℕ). nat_cmp (x * p + big_from 1 n (x ∷ xs)) (y * p + k)) (sym (big_from-cons 0 n y ys)) in
    ap (ordering_then (nat_cmp x y)) others ∙ sym (then_assoc (nat_cmp x y) (nat_cmp u v) q) ∙ ap (λ (o : Ordering). ordering_then o q) (sym (digit_order x y u v p lu lv) ∙ whole)

pub order_numbers : (n x y : ℕ) (r s : List ℕ) → x < 256 ^ n → y < 256 ^ n
    → slice_cmp nat_cmp (bytes_high_first n x ++ r) (bytes_high_first n y ++ s) ≡ ordering_then (nat_cmp x y) (slice_cmp nat_cmp r s)
order_numbers n x y r s lx ly =
    let own : big_from 0 n (bytes_high_first n x) ≡ x = ap (big_from 0 n) (sym (append-nil (bytes_high_first n x))) ∙ big_number-reads_back n x [] lx in
    let its : big_from 0 n (bytes_high_first n y) ≡ y = ap (big_from 0 n) (sym (append-nil (bytes_high_first n y))) ∙ big_number-reads_back n y [] ly in
    order_lists n (bytes_high_first n x) (bytes_high_first n y) r s (length-bytes_high_first n x) (length-bytes_high_first n y) (bytes_of_number n x) (bytes_of_number n y)
    ∙ ap (λ (k : ℕ). ordering_then (nat_cmp k (big_from 0 n (bytes_high_first n y))) (slice_cmp nat_cmp r s)) own ∙ ap (λ (k : ℕ). ordering_then (nat_cmp x k) (slice_cmp nat_cmp r s)) its
