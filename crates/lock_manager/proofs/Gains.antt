-- Which locks a list has after some were added.
use Rattle.std.proofs.Common.{◌≡◌, ℕ, zero, suc, List, [], ◌∷◌, ◌++◌, refl, sym, subst, arith, inl, inr}
use Rattle.std.specs.Prelude.{◌⊎◌, ◌↔◌}
use Rattle.std.specs.List.{Contains, insert}
use Rattle.std.proofs.lemmas.List.Elements.{Contains-append_left, Contains-append_right, Contains-append_cases}
use Rattle.std.proofs.lemmas.List.Sorted.{Contains-permutation, IsPermutation-insert, IsPermutation-sym}
use Rattle.iv_types.specs.declared.lock.Want.{Want}
use Rattle.lock_manager.specs.Table.{HasGained}

module _ {X : Type 0} where
  pub contains_none : (x : X) → Contains [] x → ⊥
  contains_none x (k, l, e) = omega arith

  pub contains_cases : (y : X) (ys : List X) (x : X) → Contains (y ∷ ys) x → (y ≡ x) ⊎ Contains ys x
  contains_cases y ys x (zero, l, e) = inl e
  contains_cases y ys x (suc k, l, e) = inr (k, omega arith, e)

  pub contains_head : (x : X) (xs : List X) → Contains (x ∷ xs) x
  contains_head x xs = (0, omega arith, refl)

  pub contains_tail : (y : X) (ys : List X) (x : X) → Contains ys x → Contains (y ∷ ys) x
  contains_tail y ys x (k, l, e) = (suc k, omega arith, e)

pub gained_inserted : (lock : Want) (locks : List Want) (n : ℕ) → HasGained locks (lock ∷ []) (insert locks n lock)
gained_inserted lock locks n w =
    let moved = IsPermutation-insert locks n lock in (
      λ h. elim (contains_cases lock locks w (Contains-permutation (insert locks n lock) (lock ∷ locks) w (IsPermutation-sym (lock ∷ locks) (insert locks n lock) moved) h)) [
        | inl e ↦ inr (subst (λ (x : Want). Contains (lock ∷ []) x) e (contains_head lock []))
        | inr rest ↦ inl rest
      ],
      λ h. Contains-permutation (lock ∷ locks) (insert locks n lock) w moved (elim h [
        | inl old ↦ contains_tail lock locks w old
        | inr new ↦ elim (contains_cases lock [] w new) [
          | inl e ↦ subst (λ (x : Want). Contains (lock ∷ locks) x) e (contains_head lock locks)
          | inr none ↦ absurd (contains_none w none)
        ]
      ]),
    )

-- one that is there already is gained at once
pub gained_held : (lock : Want) (locks : List Want) → Contains locks lock → HasGained locks (lock ∷ []) locks
gained_held lock locks held w = (
  λ h. inl h,
  λ h. elim h [
    | inl old ↦ old
    | inr new ↦ elim (contains_cases lock [] w new) [
      | inl e ↦ subst (λ (x : Want). Contains locks x) e held
      | inr none ↦ absurd (contains_none w none)
    ]
  ],
)

pub gained_nothing : (locks : List Want) → HasGained locks [] locks
gained_nothing locks w = (λ h. inl h, λ h. elim h [ inl old ↦ old | inr none ↦ absurd (contains_none w none) ])

-- what one of two lists gains
pub gained_left : (wants as_ bs after : List Want) → HasGained as_ wants after → HasGained (as_ ++ bs) wants (after ++ bs)
gained_left wants as_ bs after g w = (
  λ h. elim (Contains-append_cases after bs w h) [
    | inl there ↦ elim ((g w).0 there) [ inl old ↦ inl (Contains-append_left as_ bs w old) | inr new ↦ inr new ]
    | inr other ↦ inl (Contains-append_right as_ bs w other)
  ],
  λ h. elim h [
    | inl old ↦ elim (Contains-append_cases as_ bs w old) [
      | inl there ↦ Contains-append_left after bs w ((g w).1 (inl there))
      | inr other ↦ Contains-append_right after bs w other
    ]
    | inr new ↦ Contains-append_left after bs w ((g w).1 (inr new))
  ],
)

pub gained_right : (wants as_ bs after : List Want) → HasGained bs wants after → HasGained (as_ ++ bs) wants (as_ ++ after)
gained_right wants as_ bs after g w = (
  λ h. elim (Contains-append_cases as_ after w h) [
    | inl other ↦ inl (Contains-append_left as_ bs w other)
    | inr there ↦ elim ((g w).0 there) [ inl old ↦ inl (Contains-append_right as_ bs w old) | inr new ↦ inr new ]
  ],
  λ h. elim h [
    | inl old ↦ elim (Contains-append_cases as_ bs w old) [
      | inl other ↦ Contains-append_left as_ after w other
      | inr there ↦ Contains-append_right as_ after w ((g w).1 (inl there))
    ]
    | inr new ↦ Contains-append_right as_ after w ((g w).1 (inr new))
  ],
)

-- what is there and what is left are the locks before and all that is to come
pub AreGaining : List Want → List Want → List Want → List Want → Type 0
AreGaining old wants now left = (w : Want) → (Contains now w ⊎ Contains left w) ↔ (Contains old w ⊎ Contains wants w)

pub gaining_first : (old wants : List Want) → AreGaining old wants old wants
unfolding AreGaining
gaining_first old wants w = (λ h. h, λ h. h)

-- the last of what is left is added
pub gaining_more : (old wants now left after rest : List Want) (x : Want) → AreGaining old wants now left → left ≡ rest ++ x ∷ [] → HasGained now (x ∷ []) after → AreGaining old wants after rest
unfolding AreGaining
gaining_more old wants now left after rest x h is g w = (
  λ k. (h w).0 (elim k [
    | inl here ↦ elim ((g w).0 here) [
      | inl before ↦ inl before
      | inr new ↦ inr (subst (λ (l : List Want). Contains l w) (sym is) (Contains-append_right rest (x ∷ []) w new))
    ]
    | inr later ↦ inr (subst (λ (l : List Want). Contains l w) (sym is) (Contains-append_left rest (x ∷ []) w later))
  ]),
  λ k. elim ((h w).1 k) [
    | inl before ↦ inl ((g w).1 (inl before))
    | inr there ↦ elim (Contains-append_cases rest (x ∷ []) w (subst (λ (l : List Want). Contains l w) is there)) [
      | inl later ↦ inr later
      | inr new ↦ inl ((g w).1 (inr new))
    ]
  ],
)

-- what is left is there already or to come
pub gaining_left : (old wants now left : List Want) → AreGaining old wants now left → (w : Want) → Contains left w → Contains old w ⊎ Contains wants w
unfolding AreGaining
gaining_left old wants now left h w later = (h w).0 (inr later)

pub gaining_last : (old wants now left : List Want) → AreGaining old wants now left → left ≡ [] → HasGained old wants now
unfolding AreGaining
gaining_last old wants now left h none w = (
  λ k. (h w).0 (inl k),
  λ k. elim ((h w).1 k) [ inl here ↦ here | inr later ↦ absurd (contains_none w (subst (λ (l : List Want). Contains l w) none later)) ],
)
