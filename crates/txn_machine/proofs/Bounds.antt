-- Escrow bounds: what one session's kept increments do to them, and what lies between them.
use Rattle.std.specs.Prelude.{◌≡◌, ℕ, List, [], ◌∷◌, ℤ, pos, ◌+ℤ◌, ◌≤ℤ◌}
use mathlib.Core.Path.{refl}
use Rattle.std.proofs.Common.{arith}
use Rattle.std.proofs.lemmas.Int.{ints, clamps}
use Rattle.table_laws.proofs.Sums.{sum_to_set_of, sum_to_zero, sum_to_at_most, sum_to_same}
use Rattle.iv_types.specs.Encoding.{IsHuge}
use Rattle.iv_meaning.specs.Escrow.{IsSession, paid, lo, hi, over_sessions, inf, sup, with_increment, Account}
use Rattle.txn_machine.specs.Locks.{with_one}

pub over_set : {A : Type 0} (f : A → ℤ) (things : ℕ → A) (i : ℕ) (x : A) → IsSession i
    → over_sessions (λ j. f (with_one things i x j)) +ℤ f (things i) ≡ over_sessions (λ j. f (things j)) +ℤ f x
unfolding over_sessions
over_set f things i x is = sum_to_set_of 64 f things i x is.0 is.1

pub over_zero : (f : ℕ → ℤ) → ((j : ℕ) → IsSession j → f j ≡ pos 0) → over_sessions f ≡ pos 0
unfolding over_sessions
over_zero f h = sum_to_zero 64 f (λ j l m. h j (l, m))

pub over_same : (f g : ℕ → ℤ) → ((j : ℕ) → IsSession j → f j ≡ g j) → over_sessions f ≡ over_sessions g
unfolding over_sessions
over_same f g h = sum_to_same 64 f g (λ j l m. h j (l, m))

pub over_at_most : (f g : ℕ → ℤ) → ((j : ℕ) → f j ≤ℤ g j) → over_sessions f ≤ℤ over_sessions g
unfolding over_sessions
over_at_most f g h = sum_to_at_most 64 f g (λ j l m. h j)

pub signs : (ds : List ℤ) → (lo ds ≤ℤ pos 0) × (lo ds ≤ℤ paid ds) × (pos 0 ≤ℤ hi ds) × (paid ds ≤ℤ hi ds)
signs [] = (omega (arith, ints), omega (arith, ints), omega (arith, ints), omega (arith, ints))
signs (d ∷ ds) =
    let h = signs ds in
    (omega (arith, ints, clamps, h.0), omega (arith, ints, clamps), omega (arith, ints, clamps, h.2), omega (arith, ints, clamps))

pub all_low : (kept : ℕ → List ℤ) → over_sessions (λ j. lo (kept j)) ≤ℤ pos 0
all_low kept =
    let below : over_sessions (λ j. lo (kept j)) ≤ℤ over_sessions (λ j. pos 0) = over_at_most (λ j. lo (kept j)) (λ j. pos 0) (λ j. (signs (kept j)).0) in
    let none : over_sessions (λ j. pos 0) ≡ pos 0 = over_zero (λ j. pos 0) (λ j is. refl) in
    omega (arith, ints)

pub all_high : (kept : ℕ → List ℤ) → pos 0 ≤ℤ over_sessions (λ j. hi (kept j))
all_high kept =
    let above : over_sessions (λ j. pos 0) ≤ℤ over_sessions (λ j. hi (kept j)) = over_at_most (λ j. pos 0) (λ j. hi (kept j)) (λ j. (signs (kept j)).2) in
    let none : over_sessions (λ j. pos 0) ≡ pos 0 = over_zero (λ j. pos 0) (λ j is. refl) in
    omega (arith, ints)

pub lo_more : (d : ℤ) (ds : List ℤ) → lo (d ∷ ds) ≤ℤ lo ds
lo_more d ds = omega (arith, ints, clamps)

pub hi_more : (d : ℤ) (ds : List ℤ) → hi ds ≤ℤ hi (d ∷ ds)
hi_more d ds = omega (arith, ints, clamps)

pub lo_zero : (d : ℤ) (ds : List ℤ) → d ≡ pos 0 → lo (d ∷ ds) ≡ lo ds
lo_zero d ds e = let h : lo ds ≤ℤ paid ds = (signs ds).1 in omega (arith, ints, clamps, h)

pub hi_zero : (d : ℤ) (ds : List ℤ) → d ≡ pos 0 → hi (d ∷ ds) ≡ hi ds
hi_zero d ds e = let h : paid ds ≤ℤ hi ds = (signs ds).3 in omega (arith, ints, clamps, h)

pub huge_inside : (a n b : ℤ) → IsHuge a → a ≤ℤ n → n ≤ℤ b → IsHuge b → IsHuge n
huge_inside a n b low l h high = (omega (arith, ints, low.0, high.0), λ e. low.1 (omega (arith, ints, low.0)))

-- the sums of an account in which one session has one more increment
pub inf_with : (a : Account) (i : ℕ) (d : ℤ) → IsSession i
    → inf (with_increment a i d) +ℤ lo (a.kept i) ≡ inf a +ℤ lo (d ∷ a.kept i)
inf_with a i d is =
    let set : over_sessions (λ j. lo (with_one a.kept i (d ∷ a.kept i) j)) +ℤ lo (a.kept i) ≡ over_sessions (λ j. lo (a.kept j)) +ℤ lo (d ∷ a.kept i) = over_set lo a.kept i (d ∷ a.kept i) is in
    omega (arith, ints)

pub sup_with : (a : Account) (i : ℕ) (d : ℤ) → IsSession i
    → sup (with_increment a i d) +ℤ hi (a.kept i) ≡ sup a +ℤ hi (d ∷ a.kept i)
sup_with a i d is =
    let set : over_sessions (λ j. hi (with_one a.kept i (d ∷ a.kept i) j)) +ℤ hi (a.kept i) ≡ over_sessions (λ j. hi (a.kept j)) +ℤ hi (d ∷ a.kept i) = over_set hi a.kept i (d ∷ a.kept i) is in
    omega (arith, ints)
