-- The laws of sums over 1 to n.
use Rattle.std.specs.Prelude.{◌≡◌, ◌≢◌, ℕ, zero, suc, ◌≤◌, ◌==◌, cond}
use Rattle.std.specs.Prelude.{ℤ, pos, ◌+ℤ◌, neg_ℤ, ◌≤ℤ◌, if◌then◌else◌}
use mathlib.Core.Path.{refl, sym, ap, ◌∙◌}
use Rattle.std.proofs.Common.{arith, eq-eqb}
use Rattle.std.proofs.lemmas.Bool.{ne_eqb}
use Rattle.std.proofs.lemmas.Int.{ints}
use Rattle.std.specs.Cmp.{nat_cmp_total}
use Rattle.std.specs.FinMap.{nat_cmp-IsAntisymmetric}
use Rattle.table_laws.specs.Sums.{sum_to}
use Rattle.table_laws.proofs.Tables.{by_key}

-- numbers that agree from 1 to n have one sum
pub sum_to_same : (n : ℕ) (f g : ℕ → ℤ) → ((s : ℕ) → 1 ≤ s → s ≤ n → f s ≡ g s) → sum_to n f ≡ sum_to n g
sum_to_same zero f g h = refl
sum_to_same (suc n) f g h =
    let last : f (suc n) ≡ g (suc n) = h (suc n) (omega arith) (omega arith) in
    let rest : sum_to n f ≡ sum_to n g = sum_to_same n f g (λ s low high. h s low (omega arith)) in
    λ i. rest i +ℤ last i

pub sum_to_zero : (n : ℕ) (f : ℕ → ℤ) → ((s : ℕ) → 1 ≤ s → s ≤ n → f s ≡ pos 0) → sum_to n f ≡ pos 0
sum_to_zero zero f h = refl
sum_to_zero (suc n) f h =
    let last : f (suc n) ≡ pos 0 = h (suc n) (omega arith) (omega arith) in
    let rest : sum_to n f ≡ pos 0 = sum_to_zero n f (λ s low high. h s low (omega arith)) in
    λ i. rest i +ℤ last i

pub sum_to_plus : (n : ℕ) (f g : ℕ → ℤ) → sum_to n (λ s. f s +ℤ g s) ≡ sum_to n f +ℤ sum_to n g
sum_to_plus zero f g = refl
sum_to_plus (suc n) f g =
    let rest : sum_to n (λ s. f s +ℤ g s) ≡ sum_to n f +ℤ sum_to n g = sum_to_plus n f g in
    omega (arith, ints)

pub sum_to_negated : (n : ℕ) (f : ℕ → ℤ) → sum_to n (λ s. neg_ℤ (f s)) ≡ neg_ℤ (sum_to n f)
sum_to_negated zero f = refl
sum_to_negated (suc n) f =
    let rest : sum_to n (λ s. neg_ℤ (f s)) ≡ neg_ℤ (sum_to n f) = sum_to_negated n f in
    omega (arith, ints)

-- a sum of sums, in either order
pub sum_to_swapped : (m n : ℕ) (f : ℕ → ℕ → ℤ) → sum_to m (λ s. sum_to n (λ t. f s t)) ≡ sum_to n (λ t. sum_to m (λ s. f s t))
sum_to_swapped zero n f = sym (sum_to_zero n (λ t. pos 0) (λ s low high. refl))
sum_to_swapped (suc m) n f =
    ap (λ z. z +ℤ sum_to n (λ t. f (suc m) t)) (sum_to_swapped m n f)
    ∙ sym (sum_to_plus n (λ t. sum_to m (λ s. f s t)) (λ t. f (suc m) t))

pub sum_to_at_most : (n : ℕ) (f g : ℕ → ℤ) → ((s : ℕ) → 1 ≤ s → s ≤ n → f s ≤ℤ g s) → sum_to n f ≤ℤ sum_to n g
sum_to_at_most zero f g h = omega (arith, ints)
sum_to_at_most (suc n) f g h =
    let last : f (suc n) ≤ℤ g (suc n) = h (suc n) (omega arith) (omega arith) in
    let rest : sum_to n f ≤ℤ sum_to n g = sum_to_at_most n f g (λ s low high. h s low (omega arith)) in
    omega (arith, ints)

-- of numbers that are 0 or more, the sum is no less than each
pub part_at_most_sum_to : (n : ℕ) (f : ℕ → ℤ) (i : ℕ) → ((s : ℕ) → 1 ≤ s → s ≤ n → pos 0 ≤ℤ f s) → 1 ≤ i → i ≤ n → f i ≤ℤ sum_to n f
part_at_most_sum_to zero f i h low high = absurd (omega arith)
part_at_most_sum_to (suc n) f i h low high = by_key nat_cmp_total nat_cmp-IsAntisymmetric i (suc n)
    (λ e.
    let zeros : sum_to n (λ s. pos 0) ≡ pos 0 = sum_to_zero n (λ s. pos 0) (λ s l k. refl) in
    let rest : sum_to n (λ s. pos 0) ≤ℤ sum_to n f = sum_to_at_most n (λ s. pos 0) f (λ s l k. h s l (omega arith)) in
    let here : f i ≡ f (suc n) = ap f e in
    omega (arith, ints))
    (λ d.
    let last : pos 0 ≤ℤ f (suc n) = h (suc n) (omega arith) (omega arith) in
    let rest : f i ≤ℤ sum_to n f = part_at_most_sum_to n f i (λ s l k. h s l (omega arith)) low (omega arith) in
    omega (arith, ints))

-- two sums whose numbers differ at one place only differ by what those differ
pub sum_to_but_one : (n : ℕ) (f g : ℕ → ℤ) (i : ℕ) → 1 ≤ i → i ≤ n → ((s : ℕ) → 1 ≤ s → s ≤ n → s ≢ i → g s ≡ f s)
    → sum_to n g +ℤ f i ≡ sum_to n f +ℤ g i
sum_to_but_one zero f g i low high same = absurd (omega arith)
sum_to_but_one (suc n) f g i low high same = by_key nat_cmp_total nat_cmp-IsAntisymmetric i (suc n)
    (λ e.
    let rest : sum_to n g ≡ sum_to n f = sum_to_same n g f (λ s l h. same s l (omega arith) (λ k. omega arith)) in
    let old : f i ≡ f (suc n) = ap f e in
    let new : g i ≡ g (suc n) = ap g e in
    omega (arith, ints))
    (λ d.
    let rest : sum_to n g +ℤ f i ≡ sum_to n f +ℤ g i = sum_to_but_one n f g i low (omega arith) (λ s l h. same s l (omega arith)) in
    let last : g (suc n) ≡ f (suc n) = same (suc n) (omega arith) (omega arith) (λ e. d (sym e)) in
    omega (arith, ints))

at_itself : {A : Type 0} (i : ℕ) (x y : A) → (if i == i then x else y) ≡ x
at_itself i x y = ap (λ b. cond b x y) (eq-eqb i i refl)

elsewhere : {A : Type 0} (s i : ℕ) (x y : A) → s ≢ i → (if s == i then x else y) ≡ y
elsewhere s i x y n = ap (λ b. cond b x y) (ne_eqb s i n)

-- to set one number changes the sum by what it changes the number
pub sum_to_set : (n : ℕ) (f : ℕ → ℤ) (i : ℕ) (x : ℤ) → 1 ≤ i → i ≤ n → sum_to n (λ s. if s == i then x else f s) +ℤ f i ≡ sum_to n f +ℤ x
sum_to_set n f i x low high =
    sum_to_but_one n f (λ s. if s == i then x else f s) i low high (λ s l h d. elsewhere s i x (f s) d)
    ∙ ap (λ z. sum_to n f +ℤ z) (at_itself i x (f i))

-- the same, of a number that each of the counted things has, where one of the things is set
pub sum_to_set_of : {A : Type 0} (n : ℕ) (f : A → ℤ) (things : ℕ → A) (i : ℕ) (x : A) → 1 ≤ i → i ≤ n
    → sum_to n (λ s. f (if s == i then x else things s)) +ℤ f (things i) ≡ sum_to n (λ s. f (things s)) +ℤ f x
sum_to_set_of n f things i x low high =
    sum_to_but_one n (λ s. f (things s)) (λ s. f (if s == i then x else things s)) i low high
    (λ s l h d. ap f (elsewhere s i x (things s) d))
    ∙ ap (λ z. sum_to n (λ s. f (things s)) +ℤ f z) (at_itself i x (things i))
