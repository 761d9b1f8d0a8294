-- Ranges on which the old image does not rest.
use Rattle.std.proofs.Common.{◌≡◌, ◌⊎◌, inl, inr, ⊎_elim, ℕ, zero, suc, ◌+◌, ◌-◌, ◌<◌, ◌≤◌, List, Some, refl, sym, ◌∙◌, ap, subst, arith}
use Rattle.std.proofs.lemmas.Bool.Decides.{nat_tests}
use Rattle.std.proofs.lemmas.Bool.{cases_lt, cases_eq}
use Rattle.page_store.specs.Image.{header_at, area_at, slot_at, map_byte, area_of, live}
use Rattle.page_store.specs.Publish.{old_byte}
use Rattle.page_store.specs.Kept.{new_slot, Names, Held, InHeader, InArea, InSlot, Free}
use Rattle.page_store.proofs.Old.{area_bound}

pub slot_low : (m : ℕ) → new_slot m ≤ 1
slot_low m = grind (arith, nat_tests)

other_slot : (m j : ℕ) → m ≤ 2 → m ≡ suc j → new_slot m + j ≡ 1
other_slot m j le is = grind (arith, nat_tests)

areas : (room a b : ℕ) → a ≤ 1 → b ≤ 1 → (a ≡ b → ⊥) → (area_at room a + room ≤ area_at room b) ⊎ (area_at room b + room ≤ area_at room a)
areas room zero zero p q other = absurd (other refl)
areas room zero (suc b) p q other = inl (omega arith)
areas room (suc a) zero p q other = inr (omega arith)
areas room (suc a) (suc b) p q other = absurd (other (omega arith))

module _ (room pages k : ℕ) (s : List ℕ) (h : Names room pages k s) where
  low : k ≤ 1
  low = ⊎_elim (λ e. omega (arith, e)) (λ e. omega (arith, e)) h.side

  pub area_from : (a : ℕ) → a ≤ 1 → 278528 ≤ area_at room a
  area_from a le = ⊎_elim (λ e. omega (arith, e)) (λ e. omega (arith, e)) (area_bound room a le)

  pub area_to : (a : ℕ) → a ≤ 1 → area_at room a ≤ 278528 + room
  area_to a le = ⊎_elim (λ e. omega (arith, e)) (λ e. omega (arith, e)) (area_bound room a le)

  sides : ((k ≡ 0) × (1 - k ≡ 1)) ⊎ ((k ≡ 1) × (1 - k ≡ 0))
  sides = ⊎_elim (λ e. inl (e, omega (arith, e))) (λ e. inr (e, omega (arith, e))) h.side

  -- a range of the other header
  pub header_free : (at n : ℕ) → header_at (1 - k) ≤ at → at + n ≤ header_at (1 - k) + 139264 → (i : ℕ) → at ≤ i → i < at + n → Held room pages k s i → ⊥
  header_free at n from to i lo hi (InHeader a b) = ⊎_elim (λ e. omega (arith, e, a, b, lo, hi, from, to)) (λ e. omega (arith, e, a, b, lo, hi, from, to)) sides
  header_free at n from to i lo hi (InArea l a b) = ⊎_elim (λ e. omega (arith, e, a, lo, hi, to, area_from (area_of k s) (h.area l))) (λ e. omega (arith, e, a, lo, hi, to, area_from (area_of k s) (h.area l))) sides
  header_free at n from to i lo hi (InSlot l p j lt is a b) = ⊎_elim (λ e. omega (arith, e, a, lo, hi, to)) (λ e. omega (arith, e, a, lo, hi, to)) sides

  -- all of it but its gate
  pub body_free : (at n : ℕ) → at ≡ header_at (1 - k) + 1 → n ≡ 139263 → Free room pages k s at n
  body_free at n is long = record { held = header_free at n (omega (arith, is)) (omega (arith, is, long)); gate = inr (omega (arith, is)) }

  -- the other area
  pub area_free : (at a n : ℕ) → at ≡ area_at room a → a ≤ 1 → (live s ≡ Some k → a ≡ area_of k s → ⊥) → n ≤ room → Free room pages k s at n
  area_free at a n is le other small = record { held = held; gate = inr (omega (arith, is, area_from a le)) }
    where
      held : (i : ℕ) → at ≤ i → i < at + n → Held room pages k s i → ⊥
      held i lo hi (InHeader b c) = omega (arith, b, c, lo, is, area_from a le, low)
      held i lo hi (InArea l b c) = ⊎_elim (λ e. omega (arith, e, b, c, lo, hi, is, small)) (λ e. omega (arith, e, b, c, lo, hi, is, small)) (areas room a (area_of k s) le (h.area l) (other l))
      held i lo hi (InSlot l p j lt at_j b c) = omega (arith, b, hi, is, small, area_to a le)

  -- the slot of a page that the live header does not name
  pub slot_free : (p m at n : ℕ) → p < pages → m ≡ old_byte (live s) p s → at ≡ slot_at room p (new_slot m) → n ≡ 8192 → Free room pages k s at n
  slot_free p m at n inside is here long = record { held = held; gate = inr (omega (arith, here)) }
    where
      of_one : (q j i : ℕ) → new_slot m + j ≡ 1 → q ≡ p → at ≤ i → i < at + n → slot_at room q j ≤ i → i < slot_at room q j + 8192 → ⊥
      of_one q zero i e same lo hi a b = omega arith
      of_one q (suc j) i e same lo hi a b = omega arith

      of_two : (q j i : ℕ) → j ≤ 1 → (q ≡ p → ⊥) → at ≤ i → i < at + n → slot_at room q j ≤ i → i < slot_at room q j + 8192 → ⊥
      of_two q j i le other lo hi a b = elim (cases_lt q p) [
        | inl below ↦ omega (arith, slot_low m)
        | inr above ↦ elim (cases_lt p q) [ inl lt ↦ omega (arith, slot_low m) | inr ge ↦ other (omega arith) ]
      ]

      held : (i : ℕ) → at ≤ i → i < at + n → Held room pages k s i → ⊥
      held i lo hi (InHeader a b) = omega (arith, a, b, lo, here, low)
      held i lo hi (InArea l a b) = omega (arith, a, b, lo, here, area_to (area_of k s) (h.area l))
      held i lo hi (InSlot l q j lt at_j a b) =
          let byte : (o : ℕ) → o < pages → map_byte k o s ≤ 2 = λ o le. subst (λ x. old_byte x o s ≤ 2) l (h.map o le) in
          elim (cases_eq q p) [
            | inl same ↦ of_one q j i (other_slot m j (omega (arith, is, h.map p inside)) (is ∙ ap (λ x. old_byte x p s) l ∙ ap (λ o. map_byte k o s) (sym same) ∙ at_j)) same lo hi a b
            | inr other ↦ of_two q j i (omega (arith, byte q lt, at_j)) other lo hi a b
          ]
