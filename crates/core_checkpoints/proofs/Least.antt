-- Which session's next step has the record of the least number, one session more.
use Rattle.std.specs.Prelude.{◌≡◌, ℕ, ◌+◌, ◌<◌, ◌≤◌, Bool, true, false, nat_le, List, slice_get, Option, None, Some, if◌then◌else◌, refl}
use mathlib.Core.Path.{sym, subst, ◌∙◌}
use mathlib.Core.Logic.{inl, inr}
use Rattle.std.proofs.Common.{arith}
use Rattle.std.proofs.lemmas.Bool.{cases_eq}
use Rattle.std.proofs.lemmas.Bool.Decides.{leb_tells}
use Rattle.iv_types.specs.declared.lock.KeptStep.{KeptStep}
use Rattle.txn_book.specs.declared.open_table.Open.{Open}
use Rattle.record_lending.specs.Steps.{number_of}
use Rattle.core_recording.specs.Carrying.{steps_at}
use Rattle.core_recording.specs.Earliest.{with_step, LeastUpTo}

told_le : (a b : ℕ) → nat_le a b ≡ true → a ≤ b
told_le a b e = elim (leb_tells a b) [ inl t ↦ t.1 | inr f ↦ absurd (let bad : true ≡ false = sym e ∙ f.0 in cc) ]

told_gt : (a b : ℕ) → nat_le a b ≡ false → b < a
told_gt a b e = elim (leb_tells a b) [ inl t ↦ absurd (let bad : true ≡ false = sym t.0 ∙ e in cc) | inr f ↦ f.1 ]

module _ (opens : List (Option Open)) (done : ℕ → ℕ) (n : ℕ) (few : n < 64) where
  abbrev next : ℕ → Option KeptStep
  next j = slice_get (steps_at opens j) (done j)

  -- what holds up to n and of the one behind it holds up to that
  each : (P : ℕ → Type 0) → ((j : ℕ) → 1 ≤ j → j ≤ n → P j) → P (n + 1) → (j : ℕ) → 1 ≤ j → j ≤ n + 1 → P j
  each P before here j low high = elim (cases_eq j (n + 1)) [ inl e ↦ subst P (sym e) here | inr other ↦ before j low (omega (arith, high, other)) ]

  same_number : (j : ℕ) (k m : KeptStep) → next j ≡ Some k → next j ≡ Some m → number_of k ≤ number_of m
  same_number j k m e f = let same : Some k ≡ Some m = sym e ∙ f in let one : number_of k ≡ number_of m = cc in omega (arith, one)

  by_step : (o : Option KeptStep) → next (n + 1) ≡ o → (least : Option (ℕ × ℕ)) → LeastUpTo opens done n least → LeastUpTo opens done (n + 1) (with_step o (n + 1) least)
  by_step None e None h = each (λ j. next j ≡ None) h e
  by_step None e (Some l) h = record {
    of_session = h.of_session;
    step = h.step;
    there = h.there;
    number_is = h.number_is;
    first = λ j k low high. each (λ i. next i ≡ Some k → l.0 ≤ number_of k) (λ i a b. h.first i k a b) (λ f. absurd (let bad : Some k ≡ None = sym f ∙ e in cc)) j low high;
  }
  by_step (Some k) e None h = record {
    of_session = (omega arith, omega (arith, few));
    step = k;
    there = e;
    number_is = refl;
    first = λ j m low high. each (λ i. next i ≡ Some m → number_of k ≤ number_of m) (λ i a b f. absurd (let bad : Some m ≡ None = sym f ∙ h i a b in cc)) (same_number (n + 1) k m e) j low high;
  }
  by_step (Some k) e (Some l) h = by (nat_le l.0 (number_of k)) refl
    where
      by : (b : Bool) → nat_le l.0 (number_of k) ≡ b → LeastUpTo opens done (n + 1) (if b then Some l else Some (number_of k, n + 1))
      by true le = record {
        of_session = h.of_session;
        step = h.step;
        there = h.there;
        number_is = h.number_is;
        first = λ j m low high. each (λ i. next i ≡ Some m → l.0 ≤ number_of m) (λ i a b. h.first i m a b) (λ f. let more = same_number (n + 1) k m e f in let lower = told_le l.0 (number_of k) le in omega (arith, lower, more)) j low high;
      }
      by false gt = record {
        of_session = (omega arith, omega (arith, few));
        step = k;
        there = e;
        number_is = refl;
        first = λ j m low high. each (λ i. next i ≡ Some m → number_of k ≤ number_of m) (λ i a b f. let less = h.first i m a b f in let lower = told_gt l.0 (number_of k) gt in omega (arith, lower, less)) (same_number (n + 1) k m e) j low high;
      }

  pub least_more : (least : Option (ℕ × ℕ)) → LeastUpTo opens done n least → LeastUpTo opens done (n + 1) (with_step (next (n + 1)) (n + 1) least)
  least_more least h = by_step (next (n + 1)) refl least h
