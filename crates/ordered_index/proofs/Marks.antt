-- Flags and marks of the pages of a store.
use Rattle.std.proofs.Common.{ℕ, ◌≡◌, ◌≢◌, ◌+◌, ◌<◌, ◌≤◌, ◌⊎◌, inl, inr, Bool, false, List, [], get_or, sym, ap, ◌∙◌, subst, arith}
use Rattle.std.proofs.lemmas.Bool.{cases_lt, cases_eq}
use Rattle.slot_page.specs.Page.{index_of}
use Rattle.ordered_index.specs.Drawn.{Flagged}

abbrev wanted : List (List ℕ) → List Bool → ℕ → Bool
wanted pages kept p = get_or kept (index_of (get_or pages p [])) false

flagged_at : (pages : List (List ℕ)) (order : List ℕ) (kept : List Bool) (n k : ℕ) (flags new : List Bool) → Flagged pages order kept n flags → get_or new (get_or order n 0) false ≡ wanted pages kept (get_or order n 0)
    → ((q : ℕ) → q ≢ get_or order n 0 → get_or new q false ≡ get_or flags q false) → k < n + 1 → (get_or order k 0 ≡ get_or order n 0) ⊎ (get_or order k 0 ≢ get_or order n 0) → (k < n) ⊎ (n ≤ k) → get_or new (get_or order k 0) false ≡ wanted pages kept (get_or order k 0)
flagged_at pages order kept n k flags new h e o lt (inl same) s = subst (λ q. get_or new q false ≡ wanted pages kept q) (sym same) e
flagged_at pages order kept n k flags new h e o lt (inr ne) (inl low) = o (get_or order k 0) ne ∙ h.here k low
flagged_at pages order kept n k flags new h e o lt (inr ne) (inr le) = let same : k ≡ n = omega arith in absurd (ne (ap (λ j. get_or order j 0) same))

pub flagged_next : (pages : List (List ℕ)) (order : List ℕ) (kept : List Bool) (n : ℕ) (flags new : List Bool) → Flagged pages order kept n flags → get_or new (get_or order n 0) false ≡ wanted pages kept (get_or order n 0)
    → ((q : ℕ) → q ≢ get_or order n 0 → get_or new q false ≡ get_or flags q false) → Flagged pages order kept (n + 1) new
flagged_next pages order kept n flags new h e o = record {
  here = λ k lt. flagged_at pages order kept n k flags new h e o lt (cases_eq (get_or order k 0) (get_or order n 0)) (cases_lt k n);
  others = λ p f. o p (λ x. f n (omega arith) (sym x)) ∙ h.others p (λ k lt. f k (omega arith));
}
