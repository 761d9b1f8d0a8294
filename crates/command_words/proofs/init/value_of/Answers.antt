use Rattle.std.proofs.Common.{◌≡◌, ◌∙◌, ◌++◌, ◌∷◌, ℕ, List, ap, ap₂, sym, refl, map, inl, inr}
use Rattle.std.specs.Prelude.{string_bytes}
use Rattle.std.specs.Cmp.Lexicographic.{bytes_decides}
use Rattle.command_words.proofs.init.value_of.Goals as goal

pub returns-then-eq-clause-found : goal.returns-then-eq-clause-found
returns-then-eq-clause-found c =
    let first_is : c.as_str.result.now ≡ c.args.name.now = (bytes_decides c.as_str.result.now c.args.name.now).0 (sym c.eq.ensures ∙ c.if-eq.true) in
    let whole = ap (map string_bytes) c.in_ok-first.ensures.cases.0 in
    let tail = ap (map string_bytes) c.in_ok-value.ensures.cases.0 in
    inr (refl, (_, whole ∙ ap₂ (λ (x : List ℕ) (xs : List (List ℕ)). x ∷ xs) (sym c.as_str.ensures.value ∙ first_is) (tail ∙ ap (λ (x : List ℕ). x ∷ map string_bytes c.in_ok-value.field-0-1.now) (sym c.as_str-then-eq.ensures.value))))

pub returns-clause-found : goal.returns-clause-found
returns-clause-found c =
    let whole = ap (map string_bytes) c.in_ok-first.ensures.cases.0 in
    let h = c.in_ok-value-2.ensures.cases in
    let text = h.1.1 ∙ ap₂ (λ (x y : List ℕ). x ++ y) c.requires (sym h.2) in
    inl (refl, (_, whole ∙ ap (λ (x : List ℕ). x ∷ map string_bytes c.in_ok-first.rest.now) (sym c.as_str-2.ensures.value ∙ text)))
