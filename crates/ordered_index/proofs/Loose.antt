-- Which pairs of neighbours an edit can leave loose.
use Rattle.std.proofs.Common.{ℕ, ◌≡◌, ◌≢◌, ◌+◌, ◌-◌, ◌<◌, ◌≤◌, ◌⊎◌, inl, inr, List, length, get_or, set, sym, ap, ◌∙◌, subst, arith}
use Rattle.std.specs.List.{insert}
use Rattle.std.proofs.lemmas.List.{length-set, get_or-set_other}
use Rattle.std.proofs.lemmas.List.Edits.{length-insert, get_or-insert_below, get_or-insert_above}
use Rattle.std.proofs.lemmas.Bool.{cases_lt}
use Rattle.slot_page.specs.Page.{space}
use Rattle.ordered_index.specs.Row.{Leaf, no_leaf}
use Rattle.ordered_index.specs.Flat.{TightOutside}

abbrev Apart : Leaf → Leaf → Type 0
Apart l m = l.0 ≡ m.0 → 8176 < space l.1 + space m.1

pub apart_along : (l m a b : Leaf) → l ≡ a → m ≡ b → Apart a b → Apart l m
apart_along l m a b e f p = subst (λ x. Apart x m) (sym e) (subst (λ x. Apart a x) (sym f) p)

widen_at : (a b c d j : ℕ) → c ≤ a → b ≤ d → (j < c) ⊎ (d ≤ j) → (j < a) ⊎ (b ≤ j)
widen_at a b c d j h g (inl o) = inl (omega arith)
widen_at a b c d j h g (inr o) = inr (omega arith)

pub widen : (ls : List Leaf) (a b c d : ℕ) → TightOutside a b ls → c ≤ a → b ≤ d → TightOutside c d ls
widen ls a b c d t h g = record { each = λ j o lt. t.each j (widen_at a b c d j h g o) lt }

inserted_at : (ls : List Leaf) (k a b j : ℕ) (m : Leaf) → k ≤ length ls → TightOutside a b ls → a ≤ k - 1 → k ≤ b → (j < a) ⊎ (b + 1 ≤ j) → j + 1 < length (insert ls k m) → Apart (get_or (insert ls k m) j no_leaf) (get_or (insert ls k m) (j + 1) no_leaf)
inserted_at ls k a b j m le t h g (inl o) lt =
    apart_along _ _ (get_or ls j no_leaf) (get_or ls (j + 1) no_leaf) (get_or-insert_below ls k m no_leaf j (omega arith) le) (get_or-insert_below ls k m no_leaf (j + 1) (omega arith) le) (t.each j (inl o) (omega arith))
inserted_at ls k a b j m le t h g (inr o) lt =
    let back : j ≡ j - 1 + 1 = omega arith in
    let n = length-insert ls k m le in
    let first : get_or (insert ls k m) j no_leaf ≡ get_or ls (j - 1) no_leaf = ap (λ x. get_or (insert ls k m) x no_leaf) back ∙ get_or-insert_above ls k m no_leaf (j - 1) (omega arith) le in
    let old : Apart (get_or ls (j - 1) no_leaf) (get_or ls (j - 1 + 1) no_leaf) = t.each (j - 1) (inr (omega arith)) (omega arith) in
    apart_along _ _ (get_or ls (j - 1) no_leaf) (get_or ls (j - 1 + 1) no_leaf) first (get_or-insert_above ls k m no_leaf j (omega arith) le ∙ ap (λ x. get_or ls x no_leaf) back) old

pub tight_insert : (ls : List Leaf) (k a b : ℕ) (m : Leaf) → k ≤ length ls → TightOutside a b ls → a ≤ k - 1 → k ≤ b → TightOutside a (b + 1) (insert ls k m)
tight_insert ls k a b m le t h g = record { each = λ j o lt. inserted_at ls k a b j m le t h g o lt }

set_at_pair : (ls : List Leaf) (k a b j : ℕ) (m : Leaf) → TightOutside a b ls → a ≤ k - 1 → k + 1 ≤ b → (j < a) ⊎ (b ≤ j) → j + 1 < length (set ls k m) → Apart (get_or (set ls k m) j no_leaf) (get_or (set ls k m) (j + 1) no_leaf)
set_at_pair ls k a b j m t h g (inl o) lt =
    let n1 : j ≢ k = omega arith in
    let n2 : j + 1 ≢ k = omega arith in
    apart_along _ _ (get_or ls j no_leaf) (get_or ls (j + 1) no_leaf) (get_or-set_other ls k j m no_leaf n1) (get_or-set_other ls k (j + 1) m no_leaf n2) (t.each j (inl o) (omega (arith, length-set ls k m)))
set_at_pair ls k a b j m t h g (inr o) lt =
    let n1 : j ≢ k = omega arith in
    let n2 : j + 1 ≢ k = omega arith in
    apart_along _ _ (get_or ls j no_leaf) (get_or ls (j + 1) no_leaf) (get_or-set_other ls k j m no_leaf n1) (get_or-set_other ls k (j + 1) m no_leaf n2) (t.each j (inr o) (omega (arith, length-set ls k m)))

pub tight_set : (ls : List Leaf) (k a b : ℕ) (m : Leaf) → TightOutside a b ls → a ≤ k - 1 → k + 1 ≤ b → TightOutside a b (set ls k m)
tight_set ls k a b m t h g = record { each = λ j o lt. set_at_pair ls k a b j m t h g o lt }

-- after an insert, the pairs about k may be loose
pub tight_new : (ls : List Leaf) (k : ℕ) (m : Leaf) → k ≤ length ls → TightOutside 0 0 ls → TightOutside (k - 2) (k + 2) (insert ls k m)
tight_new ls k m le t = widen (insert ls k m) (k - 1) (k + 1) (k - 2) (k + 2) (tight_insert ls k (k - 1) k m le (record { each = λ j o lt. t.each j (inr (omega arith)) lt }) (omega arith) (omega arith)) (omega arith) (omega arith)

pub tight_changed : (ls : List Leaf) (k : ℕ) (m : Leaf) → (k ≡ 0 → ⊥) → TightOutside 0 0 ls → TightOutside (k - 2) (k + 2) (set ls (k - 1) m)
tight_changed ls k m some t = tight_set ls (k - 1) (k - 2) (k + 2) m (record { each = λ j o lt. t.each j (inr (omega arith)) lt }) (omega arith) (omega arith)

pub tight_cut : (ls : List Leaf) (k : ℕ) (l m n : Leaf) → k ≤ length ls → (k ≡ 0 → ⊥) → TightOutside 0 0 ls → TightOutside (k - 2) (k + 2) (insert (insert (set ls (k - 1) l) (k - 1 + 1) m) k n)
tight_cut ls k l m n le some t =
    let ls1 = set ls (k - 1) l in
    let c1 : length ls1 ≡ length ls = length-set ls (k - 1) l in
    let one = tight_set ls (k - 1) (k - 2) k l (record { each = λ j o lt. t.each j (inr (omega arith)) lt }) (omega arith) (omega arith) in
    let c2 = length-insert ls1 (k - 1 + 1) m (omega arith) in
    let two = tight_insert ls1 (k - 1 + 1) (k - 2) k m (omega arith) one (omega arith) (omega arith) in
    widen (insert (insert ls1 (k - 1 + 1) m) k n) (k - 2) (k + 1 + 1) (k - 2) (k + 2) (tight_insert (insert ls1 (k - 1 + 1) m) k (k - 2) (k + 1) n (omega arith) two (omega arith) (omega arith)) (omega arith) (omega arith)

end_at : (ls : List Leaf) (a b high j : ℕ) → TightOutside a b ls → (b ≤ high) ⊎ (length ls ≤ high) → (j < a) ⊎ (high ≤ j) → j + 1 < length ls → Apart (get_or ls j no_leaf) (get_or ls (j + 1) no_leaf)
end_at ls a b high j t e (inl o) lt = t.each j (inl o) lt
end_at ls a b high j t (inl e) (inr o) lt = t.each j (inr (omega arith)) lt
end_at ls a b high j t (inr e) (inr o) lt = absurd (omega arith)

-- up to the last leaf
pub up_to : (ls : List Leaf) (a b high : ℕ) → TightOutside a b ls → (b ≤ high) ⊎ (length ls ≤ high) → TightOutside a high ls
up_to ls a b high t e = record { each = λ j o lt. end_at ls a b high j t e o lt }

-- nothing is loose past the last leaf
pub all_tight : (ls : List Leaf) (a b : ℕ) → TightOutside a b ls → length ls ≤ a → TightOutside 0 0 ls
all_tight ls a b t h = record { each = λ j o lt. t.each j (inl (omega arith)) lt }

same_at : (ls : List Leaf) (a j : ℕ) → TightOutside a a ls → j + 1 < length ls → (j < a) ⊎ (a ≤ j) → Apart (get_or ls j no_leaf) (get_or ls (j + 1) no_leaf)
same_at ls a j t lt o = t.each j o lt

pub none_loose : (ls : List Leaf) (a : ℕ) → TightOutside a a ls → TightOutside 0 0 ls
none_loose ls a t = record { each = λ j o lt. same_at ls a j t lt (cases_lt j a) }
