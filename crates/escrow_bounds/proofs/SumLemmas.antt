-- Sums over the sessions.
use Rattle.std.proofs.Common.{◌≡◌, ℕ, zero, suc, ◌≤◌, refl, ap, inl, inr, arith}
use Rattle.std.proofs.lemmas.Bool.Decides.{eqb_tells}
use Rattle.std.specs.Prelude.{ℤ, pos, ◌+ℤ◌, ◌≤ℤ◌, ◌≢◌}
use Rattle.std.proofs.lemmas.Int.{ints}
use Rattle.table_laws.specs.Sums.{sum_to}
use Rattle.iv_meaning.specs.Escrow.{over_sessions, IsSession}

sum_to-le : (n : ℕ) (f g : ℕ → ℤ) → ((k : ℕ) → 1 ≤ k → k ≤ n → f k ≤ℤ g k) → sum_to n f ≤ℤ sum_to n g
sum_to-le zero f g h = omega (arith, ints)
sum_to-le (suc n) f g h =
    let here : f (suc n) ≤ℤ g (suc n) = h (suc n) (omega arith) (omega arith) in
    let rest : sum_to n f ≤ℤ sum_to n g = sum_to-le n f g (λ k a b. h k a (omega arith)) in
    omega (arith, ints)

sum_to-same : (n : ℕ) (f g : ℕ → ℤ) → ((k : ℕ) → 1 ≤ k → k ≤ n → f k ≡ g k) → sum_to n f ≡ sum_to n g
sum_to-same zero f g h = refl
sum_to-same (suc n) f g h =
    let here : f (suc n) ≡ g (suc n) = h (suc n) (omega arith) (omega arith) in
    let rest : sum_to n f ≡ sum_to n g = sum_to-same n f g (λ k a b. h k a (omega arith)) in
    omega (arith, ints)

sum_to-zero : (n : ℕ) → sum_to n (λ k. pos 0) ≡ pos 0
sum_to-zero zero = refl
sum_to-zero (suc n) = let rest = sum_to-zero n in omega (arith, ints, rest)

sum_to-change : (n k : ℕ) (f g : ℕ → ℤ) → 1 ≤ k → k ≤ n → ((m : ℕ) → m ≢ k → g m ≡ f m) → (sum_to n g +ℤ f k) ≡ (sum_to n f +ℤ g k)
sum_to-change zero k f g a b same = absurd (omega arith)
sum_to-change (suc n) k f g a b same =
    elim (eqb_tells k (suc n)) [
      | inl e ↦
          let here : k ≡ suc n = e.1 in
          let rest : sum_to n g ≡ sum_to n f = sum_to-same n g f (λ m p q. same m (omega arith)) in
          let at_f : f k ≡ f (suc n) = ap f here in
          let at_g : g k ≡ g (suc n) = ap g here in
          omega (arith, ints)
      | inr e ↦
          let apart : k ≢ suc n = e.1 in
          let rest : (sum_to n g +ℤ f k) ≡ (sum_to n f +ℤ g k) = sum_to-change n k f g a (omega arith) same in
          let here : g (suc n) ≡ f (suc n) = same (suc n) (omega arith) in
          omega (arith, ints)
    ]

-- ---- over the sessions

pub sessions-le : (f g : ℕ → ℤ) → ((s : ℕ) → f s ≤ℤ g s) → over_sessions f ≤ℤ over_sessions g
unfolding over_sessions
sessions-le f g h = sum_to-le 64 f g (λ s _ _. h s)

pub sessions-same : (f g : ℕ → ℤ) → ((s : ℕ) → f s ≡ g s) → over_sessions f ≡ over_sessions g
unfolding over_sessions
sessions-same f g h = sum_to-same 64 f g (λ s _ _. h s)

pub sessions-zero : over_sessions (λ s. pos 0) ≡ pos 0
unfolding over_sessions
sessions-zero = sum_to-zero 64

-- the sum where one session's number becomes another
pub sessions-change : (k : ℕ) (f g : ℕ → ℤ) → IsSession k → ((s : ℕ) → s ≢ k → g s ≡ f s) → (over_sessions g +ℤ f k) ≡ (over_sessions f +ℤ g k)
unfolding over_sessions
sessions-change k f g is same = sum_to-change 64 k f g is.0 is.1 same
