-- Lemmas on the first bytes of a key.
use Rattle.std.specs.Prelude.{◌≡◌, ◌≢◌, ℕ, zero, suc, ◌+◌, ◌<◌, ◌≤◌, ◌*◌, ◌^◌, ◌==◌, Bool, true, false, List, length, slice_index, slice_set}
use Rattle.std.proofs.Common.{arith}
use Rattle.std.proofs.lemmas.Bool.Decides.{nat_tests}
use Rattle.std.proofs.lemmas.List.{get_or-set_same, get_or-set_other}
use mathlib.Core.Path.{refl, sym, ap, ◌∙◌}
use Rattle.byteorder.specs.Endian.{big_from, big_number}

-- one byte more is the same
pub one_more : (front bytes : List ℕ) (place b : ℕ) → place < length front → ((i : ℕ) → i < place → slice_index front i ≡ slice_index bytes i) → b ≡ slice_index bytes place
    → (i : ℕ) → i < place + 1 → slice_index (slice_set front place b) i ≡ slice_index bytes i
one_more front bytes place b lt h is i le = by (i == place) refl
  where
    by : (t : Bool) → (i == place) ≡ t → slice_index (slice_set front place b) i ≡ slice_index bytes i
    by true e =
        let same : i ≡ place = grind (arith, nat_tests, e) in
        ap (slice_index (slice_set front place b)) same ∙ (get_or-set_same front place b 0 lt ∙ (is ∙ ap (slice_index bytes) (sym same)))
    by false e =
        let below : i < place = grind (arith, nat_tests, e, le) in
        let other : i ≢ place = grind (arith, nat_tests, e) in
        get_or-set_other front place i b 0 other ∙ h i below

module _ (front bytes : List ℕ) (same : (i : ℕ) → i < 16 → slice_index front i ≡ slice_index bytes i) where
  same_from : (i n : ℕ) → i + n ≤ 16 → big_from i n front ≡ big_from i n bytes
  same_from i zero h = refl
  same_from i (suc n) h =
      let here : slice_index front i ≡ slice_index bytes i = same i (omega (arith, h)) in
      let more : big_from (suc i) n front ≡ big_from (suc i) n bytes = same_from (suc i) n (omega (arith, h)) in
      ap (λ b. b * 256 ^ n + big_from (suc i) n front) here ∙ ap (λ m. slice_index bytes i * 256 ^ n + m) more

  -- a number that is read of them is the same
  pub same_number : (n : ℕ) → n ≤ 16 → big_number n front ≡ big_number n bytes
  same_number n h = same_from 0 n (omega (arith, h))
