-- Walks over a list in place, one item after the other.
use Rattle.std.specs.Prelude.{◌≡◌, ◌≢◌, ℕ, zero, suc, ◌+◌, ◌<◌, ◌≤◌, true, false, cond, List, [], ◌∷◌, length, get_or, map, slice_get, slice_set, nat_lt, Option, Some, None}
use mathlib.Core.Path.{refl, sym, ap, subst, ◌∙◌}
use Rattle.std.proofs.Common.{arith}
use Rattle.std.proofs.lemmas.Bool.{ltb-true, lt-ltb, cases_lt}
use Rattle.std.proofs.lemmas.Option.{slice_get_past, slice_get_within, slice_get-get_or}
use Rattle.std.specs.Option.{option_map}
use Rattle.std.specs.List.{AllByRecursion}
use mathlib.Core.Logic.{inl, inr}
use Rattle.table_laws.proofs.Tables.{by_bool}
use Rattle.table_laws.proofs.Stored.{by_session}
use Rattle.table_laws.proofs.SetPlaces.{set_here, set_elsewhere}

-- the item that was read at a place
pub read_here : {X : Type 0} (xs : List X) (i : ℕ) (x : X) → i < length xs → x ≡ get_or xs i x → slice_get xs i ≡ Some x
read_here xs i x h e = slice_get-get_or xs i x h ∙ ap Some (sym e)

-- up to a place items have moved, and from there on they have not
abbrev pub Halfway : {X : Type 0} → ℕ → (ℕ → X → X) → List X → List X → Type 0
Halfway i F old new = (j : ℕ) → slice_get new j ≡ cond (nat_lt j i) (option_map (F j) (slice_get old j)) (slice_get old j)

not_below : (j i : ℕ) → i ≤ j → nat_lt j i ≡ false
not_below j i h = by_bool (nat_lt j i) (λ e. let l : j < i = ltb-true j i e in absurd (omega arith)) (λ e. e)

pub halfway_first : {X : Type 0} (F : ℕ → X → X) (xs : List X) → Halfway 0 F xs xs
halfway_first F xs j = ap (λ b. cond b (option_map (F j) (slice_get xs j)) (slice_get xs j)) (sym (not_below j 0 (omega arith)))

-- what has not moved yet is the old item
pub halfway_here : {X : Type 0} (F : ℕ → X → X) (old new : List X) (i : ℕ) → Halfway i F old new → slice_get new i ≡ slice_get old i
halfway_here F old new i h = h i ∙ ap (λ b. cond b (option_map (F i) (slice_get old i)) (slice_get old i)) (not_below i i (omega arith))

pub halfway_more : {X : Type 0} (F : ℕ → X → X) (old new : List X) (i : ℕ) (x y : X) → i < length new → slice_get new i ≡ Some x → y ≡ F i x
    → Halfway i F old new → Halfway (i + 1) F old (slice_set new i y)
halfway_more F old new i x y lt at moved h j = by_session j i
    (λ e.
    let there : slice_get old i ≡ Some x = sym (halfway_here F old new i h) ∙ at in
    let below : nat_lt i (i + 1) ≡ true = lt-ltb i (i + 1) (omega arith) in
    subst (λ k. slice_get (slice_set new i y) k ≡ cond (nat_lt k (i + 1)) (option_map (F k) (slice_get old k)) (slice_get old k)) (sym e)
    (set_here new i y lt ∙ (ap Some moved ∙ (ap (option_map (F i)) (sym there)
    ∙ ap (λ b. cond b (option_map (F i) (slice_get old i)) (slice_get old i)) (sym below)))))
    (λ n.
    set_elsewhere new i j y n ∙ (h j ∙ ap (λ b. cond b (option_map (F j) (slice_get old j)) (slice_get old j)) (same_side j i n)))
  where
    same_side : (j i : ℕ) → j ≢ i → nat_lt j i ≡ nat_lt j (i + 1)
    same_side j i n = elim (cases_lt j i) [
      | inl lt ↦ lt-ltb j i lt ∙ sym (lt-ltb j (i + 1) (omega arith))
      | inr ge ↦ not_below j i ge ∙ sym (not_below j (i + 1) (omega (arith, n)))
    ]

pub halfway_last : {X : Type 0} (F : ℕ → X → X) (old new : List X) (i : ℕ) → length old ≤ i → Halfway i F old new → (j : ℕ) → slice_get new j ≡ option_map (F j) (slice_get old j)
halfway_last F old new i le h j = elim (cases_lt j i) [
  | inl lt ↦ h j ∙ ap (λ b. cond b (option_map (F j) (slice_get old j)) (slice_get old j)) (lt-ltb j i lt)
  | inr ge ↦
      let none : slice_get old j ≡ None = slice_get_past old j (omega arith) in
      h j ∙ (ap (λ b. cond b (option_map (F j) (slice_get old j)) (slice_get old j)) (not_below j i ge) ∙ (none ∙ ap (option_map (F j)) (sym none)))
]

-- an item of which all items are so
pub all_at : {X : Type 0} (P : X → Type 0) (xs : List X) (i : ℕ) (d : X) → i < length xs → AllByRecursion P xs → P (get_or xs i d)
all_at P [] i d h a = absurd (omega (arith, h))
all_at P (x ∷ xs) zero d h a = a.0
all_at P (x ∷ xs) (suc i) d h a = all_at P xs i d (omega (arith, h)) a.1

-- what has held of all items before a place and holds of the one there
pub each_more : {X : Type 0} (P : ℕ → X → Type 0) (xs : List X) (i : ℕ) (x : X) → slice_get xs i ≡ Some x → P i x
    → ((j : ℕ) (y : X) → slice_get xs j ≡ Some y → j < i → P j y) → (j : ℕ) (y : X) → slice_get xs j ≡ Some y → j < i + 1 → P j y
each_more P xs i x at here before j y there lt = by_session j i
    (λ e.
    let same : Some x ≡ Some y = sym at ∙ (ap (slice_get xs) (sym e) ∙ there) in
    let is : x ≡ y = cc in
    subst (λ k. P k y) (sym e) (subst (P i) is here))
    (λ n. before j y there (omega (arith, n)))

pub each_last : {X : Type 0} (P : ℕ → X → Type 0) (xs : List X) (i : ℕ) → length xs ≤ i
    → ((j : ℕ) (y : X) → slice_get xs j ≡ Some y → j < i → P j y) → (j : ℕ) (y : X) → slice_get xs j ≡ Some y → P j y
each_last P xs i le before j y there = let within : j < length xs = slice_get_within xs j y there in before j y there (omega arith)

-- an item set to what it is
pub set_same : {X : Type 0} (xs : List X) (i : ℕ) (x y : X) → slice_get xs i ≡ Some x → y ≡ x → slice_set xs i y ≡ xs
set_same [] i x y at e = refl
set_same (z ∷ xs) zero x y at e = let is : z ≡ x = cc in ap (λ w. w ∷ xs) (e ∙ sym is)
set_same (z ∷ xs) (suc i) x y at e = ap (λ (l : List _). z ∷ l) (set_same xs i x y at e)

-- what holds of each item, where one is set
pub each_set : {X : Type 0} (P : ℕ → X → Type 0) (xs : List X) (i : ℕ) (y : X) → i < length xs → P i y
    → ((j : ℕ) (x : X) → slice_get xs j ≡ Some x → j < i → P j x) → (j : ℕ) (x : X) → slice_get (slice_set xs i y) j ≡ Some x → j < i + 1 → P j x
each_set P xs i y lt here before j x there h = by_session j i
    (λ e.
    let same : Some y ≡ Some x = sym (set_here xs i y lt) ∙ (ap (slice_get (slice_set xs i y)) (sym e) ∙ there) in
    let is : y ≡ x = cc in
    subst (λ k. P k x) (sym e) (subst (P i) is here))
    (λ n. before j x (sym (set_elsewhere xs i j y n) ∙ there) (omega (arith, n)))

-- lists with the same items
pub same_items : {X : Type 0} (xs ys : List X) → ((i : ℕ) → slice_get xs i ≡ slice_get ys i) → xs ≡ ys
same_items [] [] h = refl
same_items [] (y ∷ ys) h = absurd (let e : None ≡ Some y = h 0 in cc)
same_items (x ∷ xs) [] h = absurd (let e : Some x ≡ None = h 0 in cc)
same_items (x ∷ xs) (y ∷ ys) h =
    let e : Some x ≡ Some y = h 0 in
    let first : x ≡ y = cc in
    let rest : xs ≡ ys = same_items xs ys (λ i. h (suc i)) in
    λ i. first i ∷ rest i

pub slice_get-map : {X Y : Type 0} (f : X → Y) (xs : List X) (i : ℕ) → slice_get (map f xs) i ≡ option_map f (slice_get xs i)
slice_get-map f [] i = refl
slice_get-map f (x ∷ xs) zero = refl
slice_get-map f (x ∷ xs) (suc i) = slice_get-map f xs i

-- moved items are as many
pub moved_length : {X : Type 0} (F : ℕ → X → X) (xs ys : List X) → ((i : ℕ) → slice_get ys i ≡ option_map (F i) (slice_get xs i)) → length ys ≡ length xs
moved_length F [] [] h = refl
moved_length F [] (y ∷ ys) h = absurd (let e : Some y ≡ None = h 0 in cc)
moved_length F (x ∷ xs) [] h = absurd (let e : None ≡ Some (F 0 x) = h 0 in cc)
moved_length F (x ∷ xs) (y ∷ ys) h = ap suc (moved_length (λ i. F (suc i)) xs ys (λ i. h (suc i)))

-- and come each from an item
pub moved_from : {X : Type 0} (f : X → X) (o : Option X) (y : X) → option_map f o ≡ Some y → (x : X) × (o ≡ Some x) × (y ≡ f x)
moved_from f None y e = absurd (cc)
moved_from f (Some x) y e = (x, refl, let is : f x ≡ y = cc in sym is)

pub halfway_within : {X : Type 0} (F : ℕ → X → X) (old new : List X) (i : ℕ) → i < length old → Halfway i F old new → i < length new
halfway_within {X} F old new i lt h = by_item old i lt (λ x at. slice_get_within new i x (halfway_here F old new i h ∙ at))
  where
    by_item : {P : Type 0} (xs : List X) (k : ℕ) → k < length xs → ((x : X) → slice_get xs k ≡ Some x → P) → P
    by_item [] k l f = absurd (omega (arith, l))
    by_item (x ∷ xs) zero l f = f x refl
    by_item (x ∷ xs) (suc k) l f = by_item xs k (omega (arith, l)) f
