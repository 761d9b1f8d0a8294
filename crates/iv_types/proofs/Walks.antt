-- Lemmas on loops that go over a list and gather what they find.
use Rattle.std.proofs.Common.{arith, ◌≡◌, ℕ, ◌+◌, ◌-◌, ◌<◌, ◌≤◌, List, [], ◌∷◌, ◌++◌, length, drop, get_or, append_assoc, append-nil, Option, Some, None}
use Rattle.std.specs.List.{cons_option, filter_map}
use Rattle.std.specs.Option.{option_to_list}
use mathlib.Core.Path.{refl, sym, ap, ◌∙◌}
use Rattle.std.proofs.lemmas.List.{at_drop_more, at_drop_all}

-- one more element gives the items h
pub gathered : {X Y : Type 0} (F : List X → List Y) (h acc after whole : List Y) (xs : List X) (i : ℕ) (x : X)
    → i < length xs → x ≡ get_or xs i x → F (x ∷ drop (i + 1) xs) ≡ h ++ F (drop (i + 1) xs) → after ≡ acc ++ h
    → acc ++ F (drop i xs) ≡ whole → after ++ F (drop (i + 1) xs) ≡ whole
gathered F h acc after whole xs i x lt at step is e =
    ap (λ ys. ys ++ F (drop (i + 1) xs)) is
    ∙ (append_assoc acc h (F (drop (i + 1) xs))
    ∙ (ap (λ ys. acc ++ ys) (sym step ∙ (ap (λ y. F (y ∷ drop (i + 1) xs)) at ∙ sym (at_drop_more F xs i x lt))) ∙ e))

pub all_gathered : {X Y : Type 0} (F : List X → List Y) (acc whole : List Y) (xs : List X) (i : ℕ)
    → length xs ≤ i → F [] ≡ [] → acc ++ F (drop i xs) ≡ whole → acc ≡ whole
all_gathered F acc whole xs i le none e = sym (append-nil acc) ∙ (ap (λ ys. acc ++ ys) (sym (at_drop_all F xs i le ∙ none)) ∙ e)

pub cons_is : {X : Type 0} (o : Option X) (xs : List X) → cons_option o xs ≡ option_to_list o ++ xs
cons_is None xs = refl
cons_is (Some x) xs = refl

-- one more element leads from a state to the next
pub walked_at : {S X Y : Type 0} (F : S → ℕ → List X → Y) (s after next : S) (whole : Y) (xs : List X) (i : ℕ) (d : X)
    → i < length xs → F s i (get_or xs i d ∷ drop (i + 1) xs) ≡ F next (i + 1) (drop (i + 1) xs) → after ≡ next
    → F s i (drop i xs) ≡ whole → F after (i + 1) (drop (i + 1) xs) ≡ whole
walked_at F s after next whole xs i d lt step new e =
    ap (λ t. F t (i + 1) (drop (i + 1) xs)) new ∙ (sym step ∙ (sym (at_drop_more (F s i) xs i d lt) ∙ e))

pub walked : {S X Y : Type 0} (F : S → ℕ → List X → Y) (s after next : S) (whole : Y) (xs : List X) (i : ℕ) (x : X)
    → i < length xs → x ≡ get_or xs i x → F s i (x ∷ drop (i + 1) xs) ≡ F next (i + 1) (drop (i + 1) xs) → after ≡ next
    → F s i (drop i xs) ≡ whole → F after (i + 1) (drop (i + 1) xs) ≡ whole
walked F s after next whole xs i x lt at step new e =
    walked_at F s after next whole xs i x lt (ap (λ y. F s i (y ∷ drop (i + 1) xs)) (sym at) ∙ step) new e

pub ended : {X Y : Type 0} (G : List X → Y) (whole : Y) (xs : List X) (i : ℕ) → length xs ≤ i → G (drop i xs) ≡ whole → G [] ≡ whole
ended G whole xs i le e = sym (at_drop_all G xs i le) ∙ e

pub one_filtered : {X Y : Type 0} (h : X → Option Y) (acc : List Y) (x : X) (xs : List X) → acc ++ filter_map h (x ∷ xs) ≡ (acc ++ option_to_list (h x)) ++ filter_map h xs
one_filtered h acc x xs = ap (λ ys. acc ++ ys) (cons_is (h x) (filter_map h xs)) ∙ sym (append_assoc acc (option_to_list (h x)) (filter_map h xs))

-- one more element that leaves the answer to the rest
pub moved_on : {X Y : Type 0} (F : ℕ → List X → Y) (whole : Y) (xs : List X) (i : ℕ) (x : X)
    → i < length xs → x ≡ get_or xs i x → F i (x ∷ drop (i + 1) xs) ≡ F (i + 1) (drop (i + 1) xs) → F i (drop i xs) ≡ whole → F (i + 1) (drop (i + 1) xs) ≡ whole
moved_on F whole xs i x lt at step e = sym step ∙ (ap (λ y. F i (y ∷ drop (i + 1) xs)) at ∙ (sym (at_drop_more (F i) xs i x lt) ∙ e))

-- the answer at an element where the walk ends
pub left_at : {X Y : Type 0} (F : List X → Y) (whole : Y) (xs : List X) (i : ℕ) (x : X)
    → i < length xs → x ≡ get_or xs i x → F (drop i xs) ≡ whole → F (x ∷ drop (i + 1) xs) ≡ whole
left_at F whole xs i x lt at e = ap (λ y. F (y ∷ drop (i + 1) xs)) at ∙ (sym (at_drop_more F xs i x lt) ∙ e)

-- the same for elements that are copied
pub moved_at : {X Y : Type 0} (F : ℕ → List X → Y) (whole : Y) (xs : List X) (i : ℕ) (d : X)
    → i < length xs → F i (get_or xs i d ∷ drop (i + 1) xs) ≡ F (i + 1) (drop (i + 1) xs) → F i (drop i xs) ≡ whole → F (i + 1) (drop (i + 1) xs) ≡ whole
moved_at F whole xs i d lt step e = sym step ∙ (sym (at_drop_more (F i) xs i d lt) ∙ e)

pub left_read : {X Y : Type 0} (F : List X → Y) (whole : Y) (xs : List X) (i : ℕ) (d : X)
    → i < length xs → F (drop i xs) ≡ whole → F (get_or xs i d ∷ drop (i + 1) xs) ≡ whole
left_read F whole xs i d lt e = sym (at_drop_more F xs i d lt) ∙ e

-- one more element of a walk from the end, before which there are n
pub back_at : {X Y : Type 0} (F : List X → Y) (xs : List X) (n : ℕ) (x : X)
    → n < length xs → x ≡ get_or xs (length xs - 1 - n) x → F (drop (length xs - (n + 1)) xs) ≡ F (x ∷ drop (length xs - n) xs)
back_at F xs n x lt at =
    let e : length xs - (n + 1) ≡ length xs - 1 - n = omega arith in
    let f : length xs - 1 - n + 1 ≡ length xs - n = omega arith in
    let g : length xs - 1 - n < length xs = omega arith in
    ap (λ j. F (drop j xs)) e
    ∙ (at_drop_more F xs (length xs - 1 - n) x g
    ∙ (ap (λ y. F (y ∷ drop (length xs - 1 - n + 1) xs)) (sym at) ∙ ap (λ j. F (x ∷ drop j xs)) f))

pub back_end : {X Y : Type 0} (F : List X → Y) (xs : List X) (n : ℕ) → length xs ≤ n → F (drop (length xs - n) xs) ≡ F xs
back_end F xs n le =
    let e : length xs - n ≡ 0 = omega arith in
    ap (λ j. F (drop j xs)) e
