-- Lemmas on steps, names and loops one after another.
use Rattle.std.proofs.Common.{◌≡◌, ◌⊎◌, ℕ, ◌+◌, ◌<◌, ◌≤◌, Bool, true, false, ◌||◌, List, [], ◌∷◌, ◌++◌, map, length, drop, get_or, Result, Ok, Err, append-nil, append_assoc, if◌then◌else◌}
use mathlib.Core.Path.{refl, sym, ap, ◌∙◌}
use mathlib.Core.Logic.{inl, inr}
use Rattle.std.specs.Str.{bytes_eq}
use denote.Ref.{Bor}
use Rattle.std.proofs.lemmas.List.{at_drop_more, at_drop_all}
use Rattle.iv_types.specs.declared.refusal.Refusal.{Refusal}
use Rattle.iv_types.specs.declared.refusal.Refusal.TheVariants.{NoMemory, NameTaken}
use Rattle.iv_meaning.specs.Resolving.{is_among, and_then, fresh}
use Rattle.bind_resolve.specs.Seen.{Alike}

-- ---- steps

pub under : {A B : Type 0} (m : Result A Refusal) (f g : A → Result B Refusal) → ((a : A) → f a ≡ g a) → and_then m f ≡ and_then m g
under (Ok a) f g h = h a
under (Err r) f g h = refl

pub nested : {A B C : Type 0} (m : Result A Refusal) (f : A → Result B Refusal) (g : B → Result C Refusal) → and_then (and_then m f) g ≡ and_then m (λ a. and_then (f a) g)
nested (Ok a) f g = refl
nested (Err r) f g = refl

-- ---- lists that grow step by step: what is found so far stands before what the rest gives

abbrev pub before : {A : Type 0} → List A → Result (List A) Refusal → Result (List A) Refusal
before found rest = and_then rest (λ more. Ok (found ++ more))

pub starts : {A : Type 0} (rest : Result (List A) Refusal) → before [] rest ≡ rest
starts (Ok more) = refl
starts (Err r) = refl

grown : {A : Type 0} (found some : List A) (rest : Result (List A) Refusal) → before found (before some rest) ≡ before (found ++ some) rest
grown found some (Ok more) = ap Ok (sym (append_assoc found some more))
grown found some (Err r) = refl

pub grows : {A : Type 0} (found some : List A) (rest next whole : Result (List A) Refusal) → rest ≡ before some next → before found rest ≡ whole → before (found ++ some) next ≡ whole
grows found some rest next whole step e = sym (grown found some next) ∙ (ap (before found) (sym step) ∙ e)

pub halts : {A : Type 0} (found : List A) (rest whole : Result (List A) Refusal) (r : Refusal) → (r ≡ NoMemory) ⊎ (rest ≡ Err r) → before found rest ≡ whole → (r ≡ NoMemory) ⊎ (whole ≡ Err r)
halts found rest whole r (inl h) e = inl h
halts found rest whole r (inr h) e = inr (sym e ∙ ap (before found) h)

pub ends : {A : Type 0} (found : List A) (rest whole : Result (List A) Refusal) → rest ≡ Ok [] → before found rest ≡ whole → whole ≡ Ok found
ends found rest whole none e = sym e ∙ (ap (before found) none ∙ ap Ok (append-nil found))

-- ---- names in whatever order

-- in whatever order two tests are made
pub or_turned : (a b c : Bool) → (a || (b || c)) ≡ (b || (a || c))
or_turned true true c = refl
or_turned true false c = refl
or_turned false b c = refl

pub behind_alike : (names xs ys : List (List ℕ)) → Alike xs ys → Alike (names ++ xs) (names ++ ys)
behind_alike [] xs ys h = h
behind_alike (n ∷ names) xs ys h = λ name. ap (λ t. bytes_eq name n || t) (behind_alike names xs ys h name)

first_alike : (names : List (List ℕ)) (n : List ℕ) (others : List (List ℕ)) → Alike (names ++ n ∷ others) (n ∷ (names ++ others))
first_alike [] n others = λ name. refl
first_alike (m ∷ names) n others = λ name.
    ap (λ t. bytes_eq name m || t) (first_alike names n others name) ∙ or_turned (bytes_eq name m) (bytes_eq name n) (is_among (names ++ others) name)

pub fresh_alike : (xs ys names : List (List ℕ)) → Alike xs ys → fresh xs names ≡ fresh ys names
fresh_alike xs ys [] h = refl
fresh_alike xs ys (n ∷ names) h =
    ap (λ t. if t then Err (NameTaken n) else fresh (n ∷ xs) names) (h n)
    ∙ ap (λ m. if is_among ys n then Err (NameTaken n) else m) (fresh_alike (n ∷ xs) (n ∷ ys) names (λ m. ap (λ t. bytes_eq m n || t) (h m)))

-- ---- new names one after another

abbrev tested : Bool → List ℕ → Result (Unit {0}) Refusal → Result (Unit {0}) Refusal
tested t n free = if t then Err (NameTaken n) else free

at_test : (t : Bool) (n : List ℕ) (free : Result (Unit {0}) Refusal) → tested t n free ≡ and_then (tested t n (Ok tt)) (λ u. free)
at_test true n free = refl
at_test false n free = refl

first_fresh : (others names : List (List ℕ)) (n : List ℕ) → fresh others (n ∷ names) ≡ and_then (fresh others (n ∷ [])) (λ free. fresh (n ∷ others) names)
first_fresh others names n = at_test (is_among others n) n (fresh (n ∷ others) names)

pub one_fresh : (others after names : List (List ℕ)) (n : List ℕ) → Alike after (n ∷ others) → fresh others (n ∷ []) ≡ Ok tt → fresh others (n ∷ names) ≡ fresh after names
one_fresh others after names n h e =
    first_fresh others names n ∙ (ap (λ m. and_then m (λ free. fresh (n ∷ others) names)) e ∙ sym (fresh_alike after (n ∷ others) names h))

pub not_fresh : (others names : List (List ℕ)) (n : List ℕ) (r : Refusal) → (r ≡ NoMemory) ⊎ (fresh others (n ∷ []) ≡ Err r) → (r ≡ NoMemory) ⊎ (fresh others (n ∷ names) ≡ Err r)
not_fresh others names n r (inl e) = inl e
not_fresh others names n r (inr e) = inr (first_fresh others names n ∙ ap (λ m. and_then m (λ free. fresh (n ∷ others) names)) e)

-- ---- loops: G is what the rest gives

pub moved : {X Y : Type 0} (G H : List X → Y) (whole : Y) (xs : List X) (i : ℕ) (x : X)
    → i < length xs → x ≡ get_or xs i x → G (x ∷ drop (i + 1) xs) ≡ H (drop (i + 1) xs)
    → G (drop i xs) ≡ whole → H (drop (i + 1) xs) ≡ whole
moved G H whole xs i x lt at step e = sym step ∙ (ap (λ y. G (y ∷ drop (i + 1) xs)) at ∙ (sym (at_drop_more G xs i x lt) ∙ e))

pub halted : {X B : Type 0} (G : List X → Result B Refusal) (r : Refusal) (whole : Result B Refusal) (xs : List X) (i : ℕ) (x : X)
    → i < length xs → x ≡ get_or xs i x → (r ≡ NoMemory) ⊎ (G (x ∷ drop (i + 1) xs) ≡ Err r) → G (drop i xs) ≡ whole → (r ≡ NoMemory) ⊎ (whole ≡ Err r)
halted G r whole xs i x lt at (inl h) e = inl h
halted G r whole xs i x lt at (inr h) e = inr (sym e ∙ (at_drop_more G xs i x lt ∙ (ap (λ y. G (y ∷ drop (i + 1) xs)) (sym at) ∙ h)))

pub all_done : {X Y : Type 0} (G : List X → Y) (whole end : Y) (xs : List X) (i : ℕ) → length xs ≤ i → G [] ≡ end → G (drop i xs) ≡ whole → whole ≡ end
all_done G whole end xs i le none e = sym e ∙ (at_drop_all G xs i le ∙ none)

-- what stands at a place, and what behind it
pub rest_at : {X : Type 0} (xs : List X) (i : ℕ) (x : X) → i < length xs → x ≡ get_or xs i x → drop i xs ≡ x ∷ drop (i + 1) xs
rest_at xs i x lt at = at_drop_more (λ ys. ys) xs i x lt ∙ ap (λ y. y ∷ drop (i + 1) xs) (sym at)

-- ---- names that join others one after another

pub joined_on : (xs : List (Bor (List ℕ))) (i : ℕ) (x : Bor (List ℕ)) (old new whole : List (List ℕ)) → i < length xs → x ≡ get_or xs i x
    → Alike new (x.now ∷ old) → Alike (map (λ b. b.now) (drop i xs) ++ old) whole → Alike (map (λ b. b.now) (drop (i + 1) xs) ++ new) whole
joined_on xs i x old new whole lt at joined h = λ name.
    behind_alike (map (λ b. b.now) (drop (i + 1) xs)) new (x.now ∷ old) joined name
    ∙ (first_alike (map (λ b. b.now) (drop (i + 1) xs)) x.now old name
    ∙ (ap (λ ys. is_among (map (λ b. b.now) ys ++ old) name) (sym (rest_at xs i x lt at)) ∙ h name))

pub all_joined : (xs : List (Bor (List ℕ))) (i : ℕ) (new whole : List (List ℕ)) → length xs ≤ i → Alike (map (λ b. b.now) (drop i xs) ++ new) whole → Alike new whole
all_joined xs i new whole le h = λ name. ap (λ ys. is_among (map (λ b. b.now) ys ++ new) name) (sym (at_drop_all (λ ys. ys) xs i le)) ∙ h name
