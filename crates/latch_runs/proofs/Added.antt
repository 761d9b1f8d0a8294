-- A turn that adds an amount.
use Rattle.std.proofs.Common.{◌≡◌, ℕ, eq-eqb, List, [], ◌∷◌, ◌++◌, length, refl, sym, ap, ◌∙◌, subst, if◌then◌else◌, Bool, ◌<◌, ◌≤◌, ◌≢◌, arith, Contains, Ok, Err, Result, OnOk, MatchResult}
use mathlib.Core.Logic.{dite}
use native.Mathlib.Decide.{ℕ_discrete}
use Rattle.std.specs.declared.alloc.AllocError.{AllocError}
use Rattle.turn_latch.specs.Histories.{of}
use Rattle.turn_latch.proofs.Histories.{of_append}
use Rattle.latch_runs.specs.declared.book.Entry.{Entry}
use Rattle.latch_runs.specs.Books.{by, entry, Adds}

of_one : (n a : ℕ) → of by n (entry n a ∷ []) ≡ entry n a ∷ []
of_one n a = subst (λ (b : Bool). (if b then entry n a ∷ [] else []) ≡ entry n a ∷ []) (sym (eq-eqb n n refl)) refl

pub one_added : (n m a : ℕ) (seen found new : List Entry) (r : Result ℕ AllocError) → of by n found ≡ of by n seen → m ≡ n → MatchResult r (λ k. (k ≡ length found) × Adds m a found new) (λ _. new ≡ found)
    → OnOk r (of by n new ≡ of by n seen ++ entry n a ∷ [])
one_added n m a seen found new (Ok k) same is h = ap (of by n) (h.1 ∙ ap (λ (z : ℕ). found ++ entry z a ∷ []) is) ∙ (of_append by n found (entry n a ∷ []) ∙ (ap (λ (l : List Entry). l ++ of by n (entry n a ∷ [])) same ∙ ap (λ (l : List Entry). of by n seen ++ l) (of_one n a)))
one_added n m a seen found new (Err e) same is h = tt

pub row_of : {A : Type 0} (xs ys zs : List A) (a b : A) → zs ≡ ys ++ b ∷ [] → ys ≡ xs ++ a ∷ [] → xs ≡ [] → zs ≡ a ∷ b ∷ []
row_of {A = A} xs ys zs a b e f g = e ∙ (ap (λ (l : List A). l ++ b ∷ []) f ∙ ap (λ (l : List A). (l ++ a ∷ []) ++ b ∷ []) g)

pub each_of_two : (ns : List ℕ) (made n : ℕ) → ns ≡ 1 ∷ 2 ∷ [] → made ≡ 2 → 0 < n → n ≤ made → Contains ns n
each_of_two ns made n e is pos le = subst (λ (l : List ℕ). Contains l n) (sym e) (dite (ℕ_discrete n 1) (λ (one : n ≡ 1). (0, omega arith, sym one)) (λ (other : n ≢ 1). (1, omega arith, (let two : 2 ≡ n = omega arith in two))))

pub all_added : {A B : Type 0} (n m : ℕ) (h seen xs : List Entry) (r : Result A B) (u : A) → m ≡ n → of by m h ≡ of by m seen → OnOk r (of by n seen ≡ xs) → r ≡ Ok u → of by n h ≡ xs
all_added {B = B} n m h seen xs r u is same done ok = subst (λ (k : ℕ). of by k h ≡ of by k seen) is same ∙ subst (λ z. OnOk z (of by n seen ≡ xs)) ok done
