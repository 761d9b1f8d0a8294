-- The page map: rule 8.
use Rattle.std.proofs.Common.{◌≡◌, inl, inr, ℕ, zero, suc, ◌+◌, ◌<◌, ◌≤◌, List, [], ◌∷◌, length, get_or, refl, sym, ◌∙◌, ap, subst, arith}
use Rattle.txn_log.specs.Damaged.{Header, FirstBad, placed_from, map_read}
use Rattle.image_finding.specs.declared.fault.BadImage.{BadImage}
use Rattle.image_finding.specs.Rules.{IsRefused}
use Rattle.image_finding.specs.Headers.{StandsUpTo, map_in}
use Rattle.image_finding.specs.Maps.{IsLow}
use Rattle.image_finding.proofs.Passing.{passes_next, refused_next}
use Rattle.image_finding.proofs.Heading.{header_is, map_is}

abbrev IsHigh : List (ℕ × ℕ) → ℕ × ℕ → Type 0
IsHigh earlier b = 2 < b.1

first_high : (bs : List ℕ) (place : ℕ) (earlier : List (ℕ × ℕ)) (n : ℕ) → n < length bs → 2 < get_or bs n 0 → ((m : ℕ) → m < n → get_or bs m 0 ≤ 2) → FirstBad IsHigh earlier (placed_from place bs) (place + n, get_or bs n 0)
first_high [] place earlier n inside high low = absurd (omega (arith, inside))
first_high (b ∷ bs) place earlier zero inside high low = inl (ap (λ k. (k, b)) (let e : place + 0 ≡ place = omega arith in e), high)
first_high (b ∷ bs) place earlier (suc n) inside high low = inr (
  (λ bad. let first = low 0 (omega arith) in omega (arith, first, bad)),
  subst (λ k. FirstBad IsHigh ((place, b) ∷ earlier) (placed_from (place + 1) bs) (k, get_or bs n 0)) (let e : place + 1 + n ≡ place + suc n = omega arith in e)
      (first_high bs (place + 1) ((place, b) ∷ earlier) n (omega (arith, inside)) high (λ m lt. low (suc m) (omega (arith, lt)))),
)

none_high : (bs : List ℕ) (place : ℕ) (earlier : List (ℕ × ℕ)) (x : ℕ × ℕ) → IsLow bs → FirstBad IsHigh earlier (placed_from place bs) x → ⊥
none_high [] place earlier x low first = first
none_high (b ∷ bs) place earlier x low first = elim first [
  | inl here ↦ (let most = low 0 in let more = here.1 in omega (arith, most, more))
  | inr later ↦ none_high bs (place + 1) ((place, b) ∷ earlier) x (λ n. low (suc n)) later.1
]

module _ (c : List ℕ) (h : Header) (stands : StandsUpTo 7 c h) (map : List ℕ) (is : map ≡ map_in h c) where
  pub map_fails : (bad : BadImage) (n : ℕ) → n < length map → 2 < get_or map n 0 → ((m : ℕ) → m < n → get_or map m 0 ≤ 2) → bad.rule ≡ 8 → bad.place ≡ h.place + 64 + n → IsRefused c bad
  map_fails bad n inside high low rule place = refused_next 7 c bad map_read refl rule stands.passes (λ d found. (
    h,
    header_is c h stands.live d found,
    (h.place + 64 + n, get_or map n 0),
    place,
    subst (λ (bs : List ℕ). FirstBad IsHigh [] (placed_from (h.place + 64) bs) (h.place + 64 + n, get_or map n 0)) (is ∙ sym (map_is c h stands.live d found))
        (first_high map (h.place + 64) [] n inside high low),
  ))

  pub map_passes : IsLow map → StandsUpTo 8 c h
  map_passes low = record {
    live = stands.live;
    passes = passes_next 7 c map_read refl stands.passes (λ d found place fails.
        none_high d.map (fails.0.place + 64) [] fails.2 (subst IsLow (is ∙ sym (map_is c h stands.live d found)) low) fails.4);
  }
