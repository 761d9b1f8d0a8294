-- Bytes written behind the headers leave which header is live, and what it says.
use Rattle.std.proofs.Common.{◌≡◌, ◌≢◌, Bool, true, false, not, ◌&&◌, ◌||◌, nat_le, if◌then◌else◌, ℕ, ◌+◌, ◌*◌, ◌<◌, ◌≤◌, List, length, get_or, Option, Some, None, refl, sym, ◌∙◌, ap, subst, arith}
use Rattle.page_store.specs.Image.{header_at, number_at, is_open, number_of, choose, live}
use Rattle.page_store.specs.Publish.{next_number, OtherArea, LiveFits}
use Rattle.page_store.proofs.Old.{number_same, open_same, live_is}

some_number : {x y : ℕ} → Some x ≡ Some y → x ≡ y
some_number h = cc

picked : (a b : Bool) (k : ℕ) → (if a then Some 0 else if b then Some 1 else None) ≡ Some k → k ≤ 1
picked true b k h = omega (arith, some_number h)
picked false true k h = omega (arith, some_number h)
picked false false k h = absurd (let e : None ≡ Some k = h in cc)

-- a live header is header 0 or 1
live_low : (c : List ℕ) (k : ℕ) → live c ≡ Some k → k ≤ 1
live_low c k h = picked (is_open 0 c && (not (is_open 1 c) || nat_le (number_of 1 c) (number_of 0 c))) (is_open 1 c) k (sym (live_is c) ∙ h)

module _ (s c : List ℕ) (size : length c ≡ length s) (long : 278528 ≤ length s) (same : (i : ℕ) → i < 278528 → get_or c i 0 ≡ get_or s i 0) where
  module _ (k : ℕ) (low : k ≤ 1) where
    byte : (i : ℕ) → i < 139264 → get_or c (header_at k + i) 0 ≡ get_or s (header_at k + i) 0
    byte i lt = same (header_at k + i) (omega arith)

    field : (n at : ℕ) → at + n ≤ 139264 → number_at n (header_at k + at) c ≡ number_at n (header_at k + at) s
    field n at fits = number_same n (header_at k + at) (header_at k + at) c s (λ i lt. same (header_at k + at + i) (omega arith))

    opens : is_open k c ≡ is_open k s
    opens = open_same k c s size (omega (arith, long)) (λ i lo hi. same i (omega arith))

  same_live : live c ≡ live s
  same_live =
      live_is c
      ∙ (λ t. choose (opens 0 (omega arith) t) (opens 1 (omega arith) t) (field 0 (omega arith) 8 24 (omega arith) t) (field 1 (omega arith) 8 24 (omega arith) t))
      ∙ sym (live_is s)

  lives_low : (k : ℕ) → live c ≡ Some k → k ≤ 1
  lives_low k is = live_low s k (sym same_live ∙ is)

  pub same_number : next_number (live c) c ≡ next_number (live s) s
  same_number = by_live (live c) refl ∙ ap (λ o. next_number o s) same_live
    where
      by_live : (o : Option ℕ) → live c ≡ o → next_number o c ≡ next_number o s
      by_live None is = refl
      by_live (Some k) is = ap (λ n. n + 1) (field k (lives_low k is) 8 24 (omega arith))

  pub same_other : (area : ℕ) → OtherArea area s → OtherArea area c
  same_other area other k is = subst (λ a. area ≢ a) (sym (byte k (lives_low k is) 48 (omega arith))) (other k (sym same_live ∙ is))

  pub same_fits : (bytes pages : ℕ) → pages ≤ 131072 → LiveFits bytes pages s → LiveFits bytes pages c
  same_fits bytes pages few fits k is =
      let low = lives_low k is in
      let f = fits k (sym same_live ∙ is) in
      record {
        count = field k low 4 12 (omega arith) ∙ f.count;
        areas = ap (λ n. 278528 + 2 * n + 16384 * pages) (field k low 8 16 (omega arith)) ∙ f.areas;
        low_area = subst (λ a. a ≤ 1) (sym (byte k low 48 (omega arith))) f.low_area;
        low_map = λ p lt. subst (λ b. b ≤ 2) (sym (byte k low (64 + p) (omega arith))) (f.low_map p lt);
      }
