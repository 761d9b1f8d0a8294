-- What another value under a key leaves, and a leaf that grows.
use Rattle.std.proofs.Common.{ℕ, suc, ◌≡◌, ◌≢◌, ◌+◌, ◌<◌, ◌≤◌, ◌⊎◌, inl, inr, List, ◌∷◌, ◌++◌, length, take, drop, get_or, set, refl, sym, ap, ◌∙◌, subst, arith, append_assoc, add-one}
use Rattle.std.specs.List.{insert}
use Rattle.std.proofs.lemmas.List.{take-append-drop, drop_more, length-set, set_split, get_or-set_same, get_or-set_other}
use Rattle.std.proofs.lemmas.Bool.{cases_eq}
use Rattle.slot_page.specs.Page.{Entry, no_entry, cell, heap, space}
use Rattle.slot_page.specs.Order.{StandsAt}
use Rattle.slot_page.proofs.Pages.{space-append}
use Rattle.std.proofs.Common.{length-append}
use Rattle.ordered_index.specs.Row.{Leaf, no_leaf}
use Rattle.ordered_index.specs.Flat.{Rising, IsSwapped, tagged, items, IsForest, TightOutside}
use Rattle.ordered_index.proofs.Flats.{rising_put, rising_without, tagged-append}
use Rattle.ordered_index.proofs.Puts.{all_set, items_set}
use Rattle.ordered_index.proofs.Takes.{parted}

-- ---- a leaf that grows

abbrev Apart : Leaf → Leaf → Type 0
Apart l m = l.0 ≡ m.0 → 8176 < space l.1 + space m.1

-- a leaf of the same index with no fewer bytes
record IsGrown (l m : Leaf) : Type 0 where
  index : m.0 ≡ l.0
  bytes : space l.1 ≤ space m.1

grown_same : (l : Leaf) → IsGrown l l
grown_same l = record { index = refl; bytes = omega arith }

grown_along : (l m n : Leaf) → n ≡ m → IsGrown l m → IsGrown l n
grown_along l m n e g = subst (λ x. IsGrown l x) (sym e) g

grown_at : (ls : List Leaf) (k j : ℕ) (m : Leaf) → k < length ls → IsGrown (get_or ls k no_leaf) m → (j ≡ k) ⊎ (j ≢ k) → IsGrown (get_or ls j no_leaf) (get_or (set ls k m) j no_leaf)
grown_at ls k j m h g (inl e) = subst (λ (i : ℕ). IsGrown (get_or ls i no_leaf) (get_or (set ls k m) i no_leaf)) (sym e) (grown_along (get_or ls k no_leaf) m _ (get_or-set_same ls k m no_leaf h) g)
grown_at ls k j m h g (inr ne) = grown_along (get_or ls j no_leaf) (get_or ls j no_leaf) _ (get_or-set_other ls k j m no_leaf ne) (grown_same (get_or ls j no_leaf))

still_apart : (l m p q : Leaf) → IsGrown l p → IsGrown m q → Apart l m → Apart p q
still_apart l m p q g h a = λ e. omega (arith, a (sym g.index ∙ e ∙ h.index), g.bytes, h.bytes)

pub tight_grown : (ls : List Leaf) (k : ℕ) (m : Leaf) → k < length ls → m.0 ≡ (get_or ls k no_leaf).0 → space (get_or ls k no_leaf).1 ≤ space m.1 → TightOutside 0 0 ls → TightOutside 0 0 (set ls k m)
tight_grown ls k m h index bytes t =
    let g : IsGrown (get_or ls k no_leaf) m = record { index = index; bytes = bytes } in
    record {
      each = λ j o lt. still_apart (get_or ls j no_leaf) (get_or ls (j + 1) no_leaf) _ _
          (grown_at ls k j m h g (cases_eq j k)) (grown_at ls k (j + 1) m h g (cases_eq (j + 1) k)) (t.each j o (omega (arith, length-set ls k m)));
    }

space_cons : (e : Entry) (es : List Entry) → space (e ∷ es) ≡ 6 + length e.0 + length e.1 + space es
space_cons e es = omega (arith, length-append (cell e) (heap es), length-append e.0 e.1)

-- an entry more in a leaf
pub tight_inside : (of : ℕ) (key value : List ℕ) (ls : List Leaf) (j i : ℕ) (es : List Entry) → j < length ls → get_or ls j no_leaf ≡ (of, es) → TightOutside 0 0 ls → TightOutside 0 0 (set ls j (of, insert es i (key, value)))
tight_inside of key value ls j i es h is t =
    let e : Entry = (key, value) in
    let split : space (take i es) + space (drop i es) ≡ space es = sym (space-append (take i es) (drop i es)) ∙ ap space (take-append-drop i es) in
    let more : space (insert es i e) ≡ space (take i es) + (6 + length key + length value + space (drop i es)) = space-append (take i es) (e ∷ drop i es) ∙ ap (λ n. space (take i es) + n) (space_cons e (drop i es)) in
    let old : space (get_or ls j no_leaf).1 ≡ space es = ap (λ (l : Leaf). space l.1) is in
    tight_grown ls j (of, insert es i e) h (sym (ap (λ (l : Leaf). l.0) is)) (omega arith) t

-- ---- another value under a key

-- a swap that left a forest
pub record Swapped (of : ℕ) (key value : List ℕ) (old new : List Leaf) : Type 0 where
  pub forest : IsForest new
  pub items_are : IsSwapped (of, key) value (items old) (items new)
  pub tight : TightOutside 0 0 old → TightOutside 0 0 new

-- the entries around one that is set
space_set : (es : List Entry) (i : ℕ) (f : Entry) → i < length es → length f.0 ≡ length (get_or es i no_entry).0 → length f.1 ≡ length (get_or es i no_entry).1 → space (set es i f) ≡ space es
space_set es i f lt k v =
    let e = get_or es i no_entry in
    let front : space (take i es) + space (drop i es) ≡ space es = sym (space-append (take i es) (drop i es)) ∙ ap space (take-append-drop i es) in
    let back : space (drop i es) ≡ 6 + length e.0 + length e.1 + space (drop (i + 1) es) = ap space (drop_more es i no_entry lt) ∙ space_cons e (drop (i + 1) es) in
    let now : space (set es i f) ≡ space (take i es) + (6 + length f.0 + length f.1 + space (drop (i + 1) es)) =
    ap space (set_split es i f lt) ∙ space-append (take i es) (f ∷ drop (suc i) es) ∙ ap (λ n. space (take i es) + n) (space_cons f (drop (suc i) es)) ∙ ap (λ (n : ℕ). space (take i es) + (6 + length f.0 + length f.1 + space (drop n es))) (sym (add-one i)) in
    omega arith

pub swap_inside : (of : ℕ) (key value : List ℕ) (ls : List Leaf) (j i : ℕ) (es : List Entry) → IsForest ls → j < length ls → get_or ls j no_leaf ≡ (of, es) → StandsAt key es i → (get_or es i no_entry).0 ≡ key
    → length value ≡ length (get_or es i no_entry).1 → Swapped of key value ls (set ls j (of, set es i (key, value)))
swap_inside of key value ls j i es f h is s same size =
    let p = parted of key ls j i es f h is s in
    let e = get_or es i no_entry in
    let x : Entry = (key, value) in
    let new : Leaf = (of, set es i x) in
    let a = items (take j ls) in
    let c = items (drop (j + 1) ls) in
    let b1 = tagged of (take i es) in
    let b2 = tagged of (drop (i + 1) es) in
    let entries_are : set es i x ≡ take i es ++ x ∷ drop (i + 1) es = set_split es i x s.inside ∙ ap (λ (n : ℕ). take i es ++ x ∷ drop n es) (sym (add-one i)) in
    let now : items (set ls j new) ≡ (a ++ b1) ++ ((of, key), value) ∷ (b2 ++ c) =
    items_set ls j new h ∙ ap (λ (z : List Entry). a ++ (tagged of z ++ c)) entries_are ∙ ap (λ z. a ++ (z ++ c)) (tagged-append of (take i es) (x ∷ drop (i + 1) es))
    ∙ ap (λ z. a ++ z) (append_assoc b1 (((of, key), value) ∷ b2) c) ∙ sym (append_assoc a b1 (((of, key), value) ∷ (b2 ++ c))) in
    let rest : Rising ((a ++ b1) ++ (b2 ++ c)) = rising_without (a ++ b1) (b2 ++ c) _ (subst Rising p.is f.rising) in
    let whole : space es ≤ 8176 = subst (λ (l : Leaf). space l.1 ≤ 8176) is (f.fits j h) in
    let bytes : space (set es i x) ≡ space es = space_set es i x s.inside (sym (ap length same)) size in
    let many : length (set es i x) ≡ length es = length-set es i x in
    let old : space (get_or ls j no_leaf).1 ≡ space es = ap (λ (l : Leaf). space l.1) is in
    record {
      forest = record {
        some = all_set (λ l. 0 < length l.1) ls j new f.some (omega (arith, s.inside));
        fits = all_set (λ l. space l.1 ≤ 8176) ls j new f.fits (omega arith);
        rising = subst Rising (sym now) (rising_put (of, key) value (a ++ b1) (b2 ++ c) p.below p.above rest);
      };
      items_are = record {
        before = e.1;
        rest = (a ++ b1) ++ (b2 ++ c);
        was = record { front = a ++ b1; back = b2 ++ c; small_is = refl; big_is = p.is; below = p.below; above = p.above };
        is = record { front = a ++ b1; back = b2 ++ c; small_is = refl; big_is = now; below = p.below; above = p.above };
        size = sym size;
      };
      tight = λ t. tight_grown ls j new h (sym (ap (λ (l : Leaf). l.0) is)) (omega arith) t;
    }
