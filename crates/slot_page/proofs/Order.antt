-- Entries in the order of their keys.
use Rattle.std.proofs.Common.{ℕ, ◌≡◌, ◌+◌, ◌<◌, ◌≤◌, ◌⊎◌, inl, inr, List, length, ap, ◌∙◌, subst, arith}
use Rattle.std.specs.declared.cmp.Ordering.TheVariants.{Less, Greater}
use Rattle.std.specs.Ordering.{ordering_reverse}
use Rattle.std.proofs.lemmas.Cmp.{nat_list_cmp_total}
use Rattle.std.proofs.lemmas.Bool.{cases_order}
use Rattle.slot_page.specs.Page.{Entry}
use Rattle.slot_page.specs.Order.{key_cmp, key_at, IsRising}

pub less_back : (a b : List ℕ) → key_cmp a b ≡ Less → key_cmp b a ≡ Greater
less_back a b h = nat_list_cmp_total.antisymm b a ∙ ap ordering_reverse h

pub greater_back : (a b : List ℕ) → key_cmp a b ≡ Greater → key_cmp b a ≡ Less
greater_back a b h = nat_list_cmp_total.antisymm b a ∙ ap ordering_reverse h

pub less_trans : (a b c : List ℕ) → key_cmp a b ≡ Less → key_cmp b c ≡ Less → key_cmp a c ≡ Less
less_trans = nat_list_cmp_total.trans

below_at : (es : List Entry) (key : List ℕ) (m j : ℕ) → IsRising es → m < length es → key_cmp (key_at es m) key ≡ Less → (j < m) ⊎ (m ≤ j) → j < m + 1 → key_cmp (key_at es j) key ≡ Less
below_at es key m j s lt h (inl b) le = less_trans _ (key_at es m) key (s.each j m b lt) h
below_at es key m j s lt h (inr b) le = let e : m ≡ j = omega arith in subst (λ k. key_cmp (key_at es k) key ≡ Less) e h

-- a key that is below another has those before it below too
pub all_below : (es : List Entry) (key : List ℕ) (m : ℕ) → IsRising es → m < length es → key_cmp (key_at es m) key ≡ Less → (j : ℕ) → j < m + 1 → key_cmp (key_at es j) key ≡ Less
all_below es key m s lt h j le = below_at es key m j s lt h (Rattle.std.proofs.lemmas.Bool.cases_lt j m) le

above_at : (es : List Entry) (key : List ℕ) (m j : ℕ) → IsRising es → key_cmp (key_at es m) key ≡ Greater → (m < j) ⊎ (j ≤ m) → m ≤ j → j < length es → key_cmp (key_at es j) key ≡ Greater
above_at es key m j s h (inl b) le lt =
    less_back key (key_at es j) (less_trans key (key_at es m) (key_at es j) (greater_back (key_at es m) key h) (s.each m j b lt))
above_at es key m j s h (inr b) le lt = let e : m ≡ j = omega arith in subst (λ k. key_cmp (key_at es k) key ≡ Greater) e h

pub all_above : (es : List Entry) (key : List ℕ) (m : ℕ) → IsRising es → key_cmp (key_at es m) key ≡ Greater → (j : ℕ) → m ≤ j → j < length es → key_cmp (key_at es j) key ≡ Greater
all_above es key m s h j le lt = above_at es key m j s h (Rattle.std.proofs.lemmas.Bool.cases_lt m j) le lt
