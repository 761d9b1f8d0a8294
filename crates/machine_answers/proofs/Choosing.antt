-- Choices that are decided: between numbers, among the sessions.
use Rattle.std.specs.Prelude.{◌≡◌, ◌⊎◌, ℕ, zero, suc, ◌≤◌, ◌<◌, ◌==◌, nat_le, Bool, true, false, T, Option, Some, None, IsSome}
use mathlib.Core.Path.{refl, subst}
use mathlib.Core.Logic.{inl, inr}
use Rattle.std.proofs.Common.{arith, leb-true, eq-eqb}
use Rattle.std.proofs.lemmas.Bool.{leb-false}
use Rattle.iv_meaning.specs.Escrow.{IsSession}
use Rattle.txn_machine.specs.Log.{Within, Above}
use Rattle.txn_machine.proofs.Testing.{equal, holds}

pub at_most_or_more : (a b : ℕ) → (a ≤ b) ⊎ (b < a)
at_most_or_more a b = by (nat_le a b) refl
  where
    by : (t : Bool) → nat_le a b ≡ t → (a ≤ b) ⊎ (b < a)
    by true e = inl (leb-true a b e)
    by false e = inr (leb-false a b e)

pub within_or_above : (limit : Option ℕ) (bytes : ℕ) → Within limit bytes ⊎ Above limit bytes
within_or_above None bytes = inl tt
within_or_above (Some most) bytes = at_most_or_more bytes most

pub some_or_none : {X : Type 0} (o : Option X) → ((x : X) × (o ≡ Some x)) ⊎ (o ≡ None)
some_or_none (Some x) = inl (x, refl)
some_or_none None = inr refl

pub so_or_not : (b : Bool) → T b ⊎ (T b → ⊥)
so_or_not true = inl tt
so_or_not false = inr (λ f. f)

pub true_or_not : (b : Bool) → (b ≡ true) ⊎ (b ≡ true → ⊥)
true_or_not true = inl refl
true_or_not false = inr (λ e. cc)

pub same_or_not : (a b : ℕ) → (a ≡ b) ⊎ (a ≡ b → ⊥)
same_or_not a b = elim (so_or_not (a == b)) [ inl t ↦ inl (equal a b t) | inr f ↦ inr (λ e. f (holds (a == b) (eq-eqb a b e))) ]

pub session_or_not : (session : ℕ) → IsSession session ⊎ (IsSession session → ⊥)
session_or_not session = elim (at_most_or_more 1 session) [
  | inr less ↦ inr (λ is. let from = is.0 in omega (arith, less, from))
  | inl from ↦ elim (at_most_or_more session 64) [ inl to ↦ inl (from, to) | inr more ↦ inr (λ is. let to = is.1 in omega (arith, more, to)) ]
]

pub there_or_not : {X : Type 0} (o : Option X) → IsSome o ⊎ (IsSome o → ⊥)
there_or_not (Some x) = inl refl
there_or_not None = inr (λ e. cc)

-- of numbers up to one, the least that has a property, or none has it
pub record Least (P : ℕ → Type 0) (most : ℕ) : Type 0 where
  pub number : ℕ
  pub first : 1 ≤ number
  pub last : number ≤ most
  pub has : P number
  pub least : (other : ℕ) → 1 ≤ other → other < number → P other → ⊥

pub least_or_none : (P : ℕ → Type 0) → ((n : ℕ) → P n ⊎ (P n → ⊥)) → (most : ℕ) → Least P most ⊎ ((n : ℕ) → 1 ≤ n → n ≤ most → P n → ⊥)
least_or_none P decide zero = inr (λ n one le p. omega (arith, one, le))
least_or_none P decide (suc most) = by (least_or_none P decide most)
  where
    at_last : ((n : ℕ) → 1 ≤ n → n ≤ most → P n → ⊥) → P (suc most) ⊎ (P (suc most) → ⊥) → Least P (suc most) ⊎ ((n : ℕ) → 1 ≤ n → n ≤ suc most → P n → ⊥)
    at_last none (inl p) = inl (record { number = suc most; first = omega arith; last = omega arith; has = p; least = λ other one less q. none other one (omega (arith, less)) q })
    at_last none (inr lacks) = inr (λ n one le p. elim (at_most_or_more n most) [
      | inl small ↦ none n one small p
      | inr more ↦ let same : n ≡ suc most = omega (arith, le, more) in lacks (subst P same p)
    ])

    by : Least P most ⊎ ((n : ℕ) → 1 ≤ n → n ≤ most → P n → ⊥) → Least P (suc most) ⊎ ((n : ℕ) → 1 ≤ n → n ≤ suc most → P n → ⊥)
    by (inl l) = let within = l.last in inl (record { number = l.number; first = l.first; last = omega (arith, within); has = l.has; least = l.least })
    by (inr none) = at_last none (decide (suc most))

-- of the numbers below one, the first that lacks a property
pub record FirstWithout (P : ℕ → Type 0) (end : ℕ) : Type 0 where
  pub number : ℕ
  pub below : number < end
  pub lacks : P number → ⊥
  pub before : (earlier : ℕ) → earlier < number → P earlier

pub all_or_first : (P : ℕ → Type 0) → ((n : ℕ) → P n ⊎ (P n → ⊥)) → (end : ℕ) → ((n : ℕ) → n < end → P n) ⊎ FirstWithout P end
all_or_first P decide zero = inl (λ n less. absurd (omega (arith, less)))
all_or_first P decide (suc end) = by (all_or_first P decide end) (decide end)
  where
    by : ((n : ℕ) → n < end → P n) ⊎ FirstWithout P end → P end ⊎ (P end → ⊥) → ((n : ℕ) → n < suc end → P n) ⊎ FirstWithout P (suc end)
    by (inr f) last = let less = f.below in inr (record { number = f.number; below = omega (arith, less); lacks = f.lacks; before = f.before })
    by (inl all) (inl p) = inl (λ n less. elim (at_most_or_more end n) [ inl last ↦ let e : end ≡ n = omega (arith, less, last) in subst P e p | inr before ↦ all n before ])
    by (inl all) (inr lacks) = inr (record { number = end; below = omega arith; lacks = lacks; before = all })

-- each session has a property, or not each has
pub each_session_or_not : (P : ℕ → Type 0) → ((n : ℕ) → P n ⊎ (P n → ⊥)) → ((n : ℕ) → IsSession n → P n) ⊎ (((n : ℕ) → IsSession n → P n) → ⊥)
each_session_or_not P decide = elim (all_or_first (λ n. IsSession n → P n) of_session 65) [
  | inl all ↦ inl (λ n is. let to = is.1 in all n (omega (arith, to)) is)
  | inr f ↦ inr (λ each. f.lacks (each f.number))
]
  where
    of_session : (n : ℕ) → (IsSession n → P n) ⊎ ((IsSession n → P n) → ⊥)
    of_session n = elim (session_or_not n) [
      | inr other ↦ inl (λ is. absurd (other is))
      | inl is ↦ elim (decide n) [ inl p ↦ inl (λ same. p) | inr lacks ↦ inr (λ h. lacks (h is)) ]
    ]
