-- Edits of one leaf after another.
use Rattle.std.proofs.Common.{ℕ, ◌≡◌, ◌+◌, ◌<◌, ◌≤◌, List, length, take, drop, get_or, set, sym, ap, ◌∙◌, arith}
use Rattle.std.specs.List.{insert, between}
use Rattle.std.proofs.lemmas.List.{length-set, get_or-set_same, set-set, take-append-drop}
use Rattle.std.proofs.lemmas.List.{set_at, length-take-le}
use Rattle.std.proofs.lemmas.List.Edits.{get_or-insert_at, length-insert}
use Rattle.std.proofs.lemmas.Slice.{between_to_end}
use Rattle.slot_page.specs.Page.{Entry, IsPage, entries, space}
use Rattle.slot_page.proofs.Pages.{space-append}
use Rattle.ordered_index.specs.Row.{Row, Leaf, no_leaf, leaf_of}

-- a row with another leaf k
abbrev pub with_leaf : Row → ℕ → Leaf → Row
with_leaf r k l = record r { leaves = set r.leaves k l }

pub leaf_after : (r s : Row) (k : ℕ) (l : Leaf) → k < length r.leaves → s ≡ with_leaf r k l → get_or s.leaves k no_leaf ≡ l
leaf_after r s k l h e = ap (λ (x : Row). get_or x.leaves k no_leaf) e ∙ get_or-set_same r.leaves k l no_leaf h

pub count_after : (r s : Row) (k : ℕ) (l : Leaf) → s ≡ with_leaf r k l → length s.leaves ≡ length r.leaves
count_after r s k l e = ap (λ (x : Row). length x.leaves) e ∙ length-set r.leaves k l

pub twice : (r s t : Row) (k : ℕ) (l m : Leaf) → s ≡ with_leaf r k l → t ≡ with_leaf s k m → t ≡ with_leaf r k m
twice r s t k l m e f = f ∙ ap (λ (x : Row). with_leaf x k m) e ∙ ap (λ (x : List Leaf). let y : Row = record r { leaves = x } in y) (set-set r.leaves k l m)

-- the entries of a copied page, from i on
pub rest_of : (page copy : List ℕ) (l : Leaf) (i n : ℕ) → leaf_of page ≡ l → copy ≡ page → n ≡ length (entries copy) → between i n (entries copy) ≡ drop i l.1
rest_of page copy l i n e same ne =
    let es : entries copy ≡ l.1 = ap entries same ∙ ap (λ (x : Leaf). x.1) e in
    between_to_end (entries copy) i n (omega arith) ∙ ap (drop i) es

pub rest_inside : (page copy : List ℕ) (l : Leaf) (n : ℕ) → leaf_of page ≡ l → copy ≡ page → n ≡ length (entries copy) → n ≡ length l.1
rest_inside page copy l n e same ne = ne ∙ ap length (ap entries same ∙ ap (λ (x : Leaf). x.1) e)

pub space_split : (es : List Entry) (i : ℕ) → space (take i es) + space (drop i es) ≡ space es
space_split es i = sym (space-append (take i es) (drop i es)) ∙ ap space (take-append-drop i es)

pub page_size : (page : List ℕ) → IsPage page → length page ≡ 8192
unfolding IsPage
page_size page h = h.size

pub set_inserted : {X : Type 0} (xs : List X) (k : ℕ) (a b : X) → k ≤ length xs → set (insert xs k a) k b ≡ insert xs k b
set_inserted xs k a b h = set_at (take k xs) a (drop k xs) b k (length-take-le k xs h)

-- a row with one more leaf
abbrev pub with_new : Row → ℕ → Leaf → Row
with_new r k l = record r { leaves = insert r.leaves k l }

pub new_after : (r s : Row) (k : ℕ) (l : Leaf) → k ≤ length r.leaves → s ≡ with_new r k l → get_or s.leaves k no_leaf ≡ l
new_after r s k l h e = ap (λ (x : Row). get_or x.leaves k no_leaf) e ∙ get_or-insert_at r.leaves k l no_leaf h

pub new_twice : (r s t : Row) (k : ℕ) (l m : Leaf) → k ≤ length r.leaves → s ≡ with_new r k l → t ≡ with_leaf s k m → t ≡ with_new r k m
new_twice r s t k l m h e f = f ∙ ap (λ (x : Row). with_leaf x k m) e ∙ ap (λ (x : List Leaf). let y : Row = record r { leaves = x } in y) (set_inserted r.leaves k l m h)

pub new_count : (r s : Row) (k : ℕ) (l : Leaf) → k ≤ length r.leaves → s ≡ with_new r k l → length s.leaves ≡ length r.leaves + 1
new_count r s k l h e = ap (λ (x : Row). length x.leaves) e ∙ length-insert r.leaves k l h
