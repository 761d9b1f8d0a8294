-- Deltas that are walked over.
use Rattle.std.specs.Prelude.{◌≡◌, ◌+◌, ◌<◌, ℕ, List, [], ◌∷◌, ◌++◌, length, take, get_or}
use Rattle.std.specs.List.{Contains}
use mathlib.Core.Path.{sym, ap, subst, ◌∙◌}
use mathlib.Core.Logic.{inl, inr}
use Rattle.std.proofs.lemmas.List.{take_more}
use Rattle.std.proofs.lemmas.List.Elements.{Contains-get_or, Contains-push_cases}

module _ {X : Type 0} (xs : List X) (i : ℕ) (x : X) (lt : i < length xs) (at : x ≡ get_or xs i x) where
  pub item_in : Contains xs x
  item_in = subst (Contains xs) (sym at) (Contains-get_or xs i x lt)

  -- what holds of those before it and of it holds of those up to it
  pub each_next : (P : X → Type 0) → ((y : X) → Contains (take i xs) y → P y) → P x → (y : X) → Contains (take (i + 1) xs) y → P y
  each_next P before here y has = elim (Contains-push_cases (take i xs) x y (subst (λ zs. Contains zs y) (take_more xs i x lt ∙ ap (λ z. take i xs ++ z ∷ []) (sym at)) has)) [
    | inl old ↦ before y old
    | inr same ↦ subst P same here
  ]
