-- Which header stays, and what stands once the other one's gate is closed.
use Rattle.std.proofs.Common.{◌≡◌, ◌≢◌, ◌⊎◌, inl, inr, ⊎_elim, Bool, true, false, ◌==◌, ℕ, zero, suc, ◌+◌, ◌-◌, ◌*◌, ◌<◌, ◌≤◌, [], ◌∷◌, List, length, get_or, Option, Some, None, refl, sym, ◌∙◌, ap, subst, arith}
use Rattle.std.proofs.lemmas.Bool.Decides.{nat_tests}
use Rattle.disk_io.specs.Disk.{splice, Torn}
use Rattle.disk_io.specs.Bytes.{byte-splice_in}
use Rattle.page_store.specs.Image.{header_at, gate_open, is_open, number_of, choose, live}
use Rattle.page_store.specs.Publish.{old_byte, LiveFits}
use Rattle.page_store.specs.Kept.{kept_side, Names, IsOld, Beside, LowMap, Outside, Closing, Closed}
use Rattle.page_store.proofs.Old.{live_is, outside_torn, outside_splice, kept_none}
use Rattle.page_store.proofs.Gates.{kept_gate}
use Rattle.page_store.proofs.Slots.{outside_none}

choose_low : (a b : Bool) (m n : ℕ) → kept_side (choose a b m n) ≤ 1
choose_low true true m n = grind (arith, nat_tests)
choose_low true false m n = omega arith
choose_low false true m n = omega arith
choose_low false false m n = omega arith

pub side_low : (s : List ℕ) → kept_side (live s) ≤ 1
side_low s = subst (λ o. kept_side o ≤ 1) (sym (live_is s)) (choose_low (is_open 0 s) (is_open 1 s) (number_of 0 s) (number_of 1 s))

zero_or_one : (n : ℕ) → n ≤ 1 → (n ≡ 0) ⊎ (n ≡ 1)
zero_or_one zero le = inl refl
zero_or_one (suc n) le = inr (omega arith)

stands_of : (o : Option ℕ) (k : ℕ) → k ≡ kept_side o → (o ≡ Some k) ⊎ ((o ≡ None) × (k ≡ 0))
stands_of None k e = inr (refl, e)
stands_of (Some j) k e = inl (ap Some (sym e))

pub names_of : (room pages k size : ℕ) (s : List ℕ) → length s ≡ 278528 + 2 * room + 16384 * pages → pages ≤ 131072 → k ≤ 1 → k ≡ kept_side (live s) → LiveFits size pages s → Names room pages k s
names_of room pages k size s fits few low is live_fits = record {
  fits = fits;
  few = few;
  side = zero_or_one k low;
  stands = stands_of (live s) k is;
  area = λ l. (live_fits k l).low_area;
  map = λ p lt. low_of (live s) refl p lt;
}
  where
    low_of : (o : Option ℕ) → live s ≡ o → (p : ℕ) → p < pages → old_byte o p s ≤ 2
    low_of None e p lt = omega arith
    low_of (Some j) e p lt = (live_fits j e).low_map p lt

is_165 : (x : ℕ) → (x == 165) ≡ true → x ≡ 165
is_165 x e = grind (arith, nat_tests)

not_165 : (x : ℕ) → (x == 165) ≡ false → x ≢ 165
not_165 x e same = grind (arith, nat_tests)

-- what the closing of a gate leaves, where it says whether the gate was open
pub closing_of : (k gate : ℕ) (was : Bool) (s c : List ℕ) → gate ≡ header_at (1 - k) → was ≡ gate_open (1 - k) s → (c ≡ s) ⊎ ((was ≡ true) × Torn gate 1 s c) → Closing k s c
closing_of k gate was s c at is (inl same) = inl same
closing_of k gate was s c at is (inr torn) = inr (is_165 _ (sym is ∙ torn.0), subst (λ n. Outside n 1 s c) at (outside_torn gate 1 s c torn.1))

either : (b : Bool) → (b ≡ true) ⊎ (b ≡ false)
either true = inl refl
either false = inr refl

pub closed_of : (k gate : ℕ) (was : Bool) (s c : List ℕ) → gate ≡ header_at (1 - k) → was ≡ gate_open (1 - k) s → gate + 1 ≤ length s → (was ≡ true → c ≡ splice gate (0 ∷ []) s) → (was ≡ false → c ≡ s) → Closed k s c
closed_of k gate was s c at is fits wrote same = ⊎_elim opened shut (either was)
  where
    opened : was ≡ true → Closed k s c
    opened o = record {
      elsewhere = subst (λ n. Outside n 1 s c) at (subst (Outside gate 1 s) (sym (wrote o)) (outside_splice gate (0 ∷ []) s fits));
      shut = λ e. absurd (omega (arith, e, zero_there));
    }
      where
        zero_there : get_or c (header_at (1 - k)) 0 ≡ 0
        zero_there = ap (λ (l : List ℕ). get_or l (header_at (1 - k)) 0) (wrote o) ∙ ap (λ j. get_or (splice gate (0 ∷ []) s) j 0) (let e : header_at (1 - k) ≡ gate + 0 = omega (arith, at) in e) ∙ byte-splice_in gate (0 ∷ []) s 0 (omega (arith, fits)) (omega arith)

    shut : was ≡ false → Closed k s c
    shut o = record {
      elsewhere = outside_none (header_at (1 - k)) 1 s c (same o);
      shut = λ e. not_165 _ (sym is ∙ o) (sym (ap (λ (l : List ℕ). get_or l (header_at (1 - k)) 0) (same o)) ∙ e);
    }

pub closed_old : (room pages k : ℕ) (s c : List ℕ) → Names room pages k s → Closed k s c → IsOld room pages k s c
closed_old room pages k s c h closed = record { kept = kept_gate room pages k s h s c (kept_none room pages k s) closed.elsewhere; shut = closed.shut }

-- what is known once the other gate is closed: header k stands, and the buffer has its page map
pub record IsBegun (room pages k : ℕ) (header s c : List ℕ) : Type 0 where
  pub names : Names room pages k s
  pub beside : Beside room pages k header s
  pub old : IsOld room pages k s c
  pub low : LowMap pages header

pub begun : (room pages k size : ℕ) (header s c : List ℕ) → length s ≡ 278528 + 2 * room + 16384 * pages → pages ≤ 131072 → k ≤ 1 → k ≡ kept_side (live s) → LiveFits size pages s
    → ((p : ℕ) → p < 131072 → get_or header (64 + p) 0 ≡ old_byte (live s) p s) → Closed k s c → IsBegun room pages k header s c
begun room pages k size header s c fits few low is live_fits map closed =
    let names = names_of room pages k size s fits few low is live_fits in
    record {
      names = names;
      beside = record { names = names; map = λ p lt. map p (omega (arith, few, lt)) };
      old = closed_old room pages k s c names closed;
      low = λ p lt. subst (λ m. m ≤ 2) (sym (map p (omega (arith, few, lt)))) (names.map p lt);
    }
