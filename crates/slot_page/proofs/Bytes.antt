-- What stands in a page after a write.
use Rattle.std.proofs.Common.{ℕ, ◌≡◌, ◌+◌, ◌-◌, ◌/◌, ◌%◌, ◌<◌, ◌≤◌, ◌⊎◌, inl, inr, List, ◌++◌, length, get_or, take, drop, refl, sym, ap, ◌∙◌, arith, length-append, add-zero}
use Rattle.std.proofs.lemmas.List.{get_or_append_left, get_or-append_right, get_or-take, get_or-drop, same_lists, places, length-take, length-drop, get_or-set_same, get_or-set_other, length-set}
use Rattle.std.proofs.lemmas.Bool.{cases_lt}
use Rattle.slot_page.specs.Bytes.{number, number_at, Shows, Wrote}

-- what stands apart from a write stays
pub shows_before : (page new : List ℕ) (a at : ℕ) (xs ys : List ℕ) → Wrote at ys page new → Shows page a xs → a + length xs ≤ at → Shows new a xs
shows_before page new a at xs ys w s h = record { each = λ j lt. w.below (a + j) (omega arith) ∙ s.each j lt }

pub shows_after : (page new : List ℕ) (a at : ℕ) (xs ys : List ℕ) → Wrote at ys page new → Shows page a xs → at + length ys ≤ a → Shows new a xs
shows_after page new a at xs ys w s h = record { each = λ j lt. w.above (a + j) (omega arith) ∙ s.each j lt }

pub shows_written : (page new : List ℕ) (at : ℕ) (ys : List ℕ) → Wrote at ys page new → Shows new at ys
shows_written page new at ys w = record { each = w.shown }

pub shows_left : (page : List ℕ) (a : ℕ) (xs ys : List ℕ) → Shows page a (xs ++ ys) → Shows page a xs
shows_left page a xs ys s =
    record { each = λ j lt. s.each j (omega (arith, length-append xs ys)) ∙ get_or_append_left xs ys 0 j lt }

right_at : (xs ys : List ℕ) (j : ℕ) → get_or (xs ++ ys) (length xs + j) 0 ≡ get_or ys j 0
right_at xs ys j = Rattle.std.proofs.lemmas.List.get_or-append-add xs ys j 0

pub shows_right : (page : List ℕ) (a : ℕ) (xs ys : List ℕ) → Shows page a (xs ++ ys) → Shows page (a + length xs) ys
shows_right page a xs ys s = record {
  each = λ j lt.
      let e : a + length xs + j ≡ a + (length xs + j) = omega arith in
      ap (λ k. get_or page k 0) e ∙ s.each (length xs + j) (omega (arith, length-append xs ys)) ∙ right_at xs ys j;
}

joined_at : (page : List ℕ) (a : ℕ) (xs ys : List ℕ) → Shows page a xs → Shows page (a + length xs) ys → (j : ℕ) → j < length (xs ++ ys) → (j < length xs) ⊎ (length xs ≤ j) → get_or page (a + j) 0 ≡ get_or (xs ++ ys) j 0
joined_at page a xs ys s t j lt (inl h) = s.each j h ∙ sym (get_or_append_left xs ys 0 j h)
joined_at page a xs ys s t j lt (inr h) =
    let e : a + j ≡ a + length xs + (j - length xs) = omega arith in
    ap (λ k. get_or page k 0) e ∙ t.each (j - length xs) (omega (arith, length-append xs ys)) ∙ sym (get_or-append_right xs ys (length xs) j 0 refl h)

pub shows_append : (page : List ℕ) (a : ℕ) (xs ys : List ℕ) → Shows page a xs → Shows page (a + length xs) ys → Shows page a (xs ++ ys)
shows_append page a xs ys s t = record {
  each = λ j lt. joined_at page a xs ys s t j lt (cases_lt j (length xs));
}

-- a part of a page, by what stands there
pub take_shown : (page : List ℕ) (a n : ℕ) (xs : List ℕ) → Shows page a xs → n ≡ length xs → a + length xs ≤ length page → take n (drop a page) ≡ xs
take_shown page a n xs s e h =
    same_lists (take n (drop a page)) xs
    (length-take n (drop a page) ∙ omega (arith, length-drop a page))
    (λ k d lt.
    let small : k < length xs = omega (arith, length-take n (drop a page)) in
    Rattle.std.proofs.lemmas.List.get_or_default (take n (drop a page)) k d 0 lt
    ∙ get_or-take n (drop a page) k 0 (omega arith)
    ∙ get_or-drop a page k 0
    ∙ s.each k small
    ∙ Rattle.std.proofs.lemmas.List.get_or_default xs k 0 d small)

-- the number that stands at a place
pub number_shown : (page : List ℕ) (a n : ℕ) → Shows page a (number n) → number_at page a ≡ n
number_shown page a n s =
    let first : get_or page a 0 ≡ n / 256 = ap (λ k. get_or page k 0) (sym (add-zero a)) ∙ s.each 0 (omega arith) in
    let second : get_or page (a + 1) 0 ≡ n % 256 = s.each 1 (omega arith) in
    omega arith

-- two writes side by side are one
pub wrote_both : (old mid new : List ℕ) (a : ℕ) (xs ys : List ℕ) → Wrote a xs old mid → Wrote (a + length xs) ys mid new → Wrote a (xs ++ ys) old new
wrote_both old mid new a xs ys w v = record {
  size = v.size ∙ w.size;
  shown = (shows_append new a xs ys (shows_before mid new a (a + length xs) xs ys v (shows_written old mid a xs w) (omega arith)) (shows_written mid new (a + length xs) ys v)).each;
  below = λ j lt. v.below j (omega arith) ∙ w.below j lt;
  above = λ j le. v.above j (omega (arith, length-append xs ys)) ∙ w.above j (omega (arith, length-append xs ys));
}
