-- Lemmas on a step at each of some things.
use Rattle.std.proofs.Common.{◌≡◌, ◌⊎◌, ℕ, ◌+◌, ◌<◌, ◌≤◌, List, [], ◌∷◌, ◌++◌, map, length, drop, get_or, Result, Ok, Err, append-nil, append_assoc}
use mathlib.Core.Path.{refl, sym, ap, subst, ◌∙◌}
use mathlib.Core.Logic.{inl, inr}
use Rattle.std.specs.List.{AllZip}
use Rattle.std.specs.Result.{IsErrAnd}
use Rattle.std.proofs.lemmas.Result.{err_from_is_err_and}
use Rattle.std.specs.Fn.{FnReturnsAt, Shared}
use denote.Ref.{Bor}
use Rattle.std.proofs.lemmas.List.{at_drop_more, at_drop_all}
use Rattle.iv_types.specs.declared.refusal.Refusal.{Refusal}
use Rattle.iv_types.specs.declared.refusal.Refusal.TheVariants.{NoMemory}
use Rattle.iv_meaning.specs.Resolving as defined
use Rattle.iv_meaning.specs.Resolving.{and_then}
use Rattle.bind_resolve.specs.Each.{EachBy, FailsAt}
use Rattle.bind_resolve.specs.Meant.{IsMeant}

-- what is found so far, and how the rest goes on from there
abbrev pub Found : {X A : Type 0} → (X → Result A Refusal → Type 0) → List X → ℕ → List A → Type 0
Found {X} {A} R xs i found =
    ((more : List A) → AllZip (λ x a. R x (Ok a)) (drop i xs) more → AllZip (λ x a. R x (Ok a)) xs (found ++ more))
    × ((r : Refusal) → FailsAt R (drop i xs) r → FailsAt R xs r)

pub starts : {X A : Type 0} (R : X → Result A Refusal → Type 0) (xs : List X) (found : List A) → found ≡ [] → Found R xs 0 found
starts R xs found e = ((λ more h. subst (λ fs. AllZip (λ x a. R x (Ok a)) xs (fs ++ more)) (sym e) h), (λ r h. h))

drop_is : {X : Type 0} (xs : List X) (i : ℕ) (x : X) → i < length xs → x ≡ get_or xs i x → x ∷ drop (i + 1) xs ≡ drop i xs
drop_is xs i x lt at = ap (λ y. y ∷ drop (i + 1) xs) at ∙ sym (at_drop_more (λ ys. ys) xs i x lt)

pub next : {X A : Type 0} (R : X → Result A Refusal → Type 0) (xs : List X) (i : ℕ) (x : X) (a : A) (found after : List A)
    → i < length xs → x ≡ get_or xs i x → R x (Ok a) → after ≡ found ++ a ∷ [] → Found R xs i found → Found R xs (i + 1) after
next R xs i x a found after lt at given is h = (
  (λ more zip. subst (λ fs. AllZip (λ x a. R x (Ok a)) xs fs) (sym (append_assoc found (a ∷ []) more) ∙ ap (λ fs. fs ++ more) (sym is))
      (h.0 (a ∷ more) (subst (λ ys. AllZip (λ x a. R x (Ok a)) ys (a ∷ more)) (drop_is xs i x lt at) (given, zip)))),
  (λ r fails. h.1 r (subst (λ ys. FailsAt R ys r) (drop_is xs i x lt at) (inr (a, given, fails)))),
)

pub fails : {X A : Type 0} (R : X → Result A Refusal → Type 0) (xs : List X) (i : ℕ) (x : X) (found : List A) (r : Refusal)
    → i < length xs → x ≡ get_or xs i x → R x (Err r) → Found R xs i found → (r ≡ NoMemory) ⊎ FailsAt R xs r
fails R xs i x found r lt at refused h =
    inr (h.1 r (subst (λ ys. FailsAt R ys r) (drop_is xs i x lt at) (inl refused)))

pub ends : {X A : Type 0} (R : X → Result A Refusal → Type 0) (xs : List X) (i : ℕ) (found : List A) → length xs ≤ i → Found R xs i found → AllZip (λ x a. R x (Ok a)) xs found
ends R xs i found le h =
    subst (λ fs. AllZip (λ x a. R x (Ok a)) xs fs) (append-nil found) (h.0 [] (subst (λ ys. AllZip (λ x a. R x (Ok a)) ys []) (sym (at_drop_all (λ ys. ys) xs i le)) tt))

-- ---- by what is meant

given_by : {X Y A B : Type 0} (F : Y → Result B Refusal) (h : X → Y) (g : A → B) (R : X → Result A Refusal → Type 0) → ((x : X) (r : Result A Refusal) → R x r → IsMeant g r (F (h x)))
    → (xs : List X) (as_ : List A) → AllZip (λ x a. R x (Ok a)) xs as_ → defined.each F (map h xs) ≡ Ok (map g as_)
given_by F h g R says [] [] z = refl
given_by F h g R says [] (a ∷ as_) z = absurd z
given_by F h g R says (x ∷ xs) [] z = absurd z
given_by F h g R says (x ∷ xs) (a ∷ as_) z =
    ap (λ m. and_then m (λ b. and_then (defined.each F (map h xs)) (λ more. Ok (b ∷ more)))) (says x (Ok a) z.0)
    ∙ ap (λ m. and_then m (λ more. Ok (g a ∷ more))) (given_by F h g R says xs as_ z.1)

refused_first : {X Y B : Type 0} (F : Y → Result B Refusal) (h : X → Y) (xs : List X) (x : X) (r : Refusal) → (r ≡ NoMemory) ⊎ (F (h x) ≡ Err r) → (r ≡ NoMemory) ⊎ (defined.each F (map h (x ∷ xs)) ≡ Err r)
refused_first F h xs x r (inl e) = inl e
refused_first F h xs x r (inr e) = inr (ap (λ m. and_then m (λ b. and_then (defined.each F (map h xs)) (λ more. Ok (b ∷ more)))) e)

refused_behind : {X Y A B : Type 0} (F : Y → Result B Refusal) (h : X → Y) (g : A → B) (xs : List X) (x : X) (a : A) (r : Refusal) → F (h x) ≡ Ok (g a)
    → (r ≡ NoMemory) ⊎ (defined.each F (map h xs) ≡ Err r) → (r ≡ NoMemory) ⊎ (defined.each F (map h (x ∷ xs)) ≡ Err r)
refused_behind F h g xs x a r given (inl e) = inl e
refused_behind F h g xs x a r given (inr e) =
    inr (ap (λ m. and_then m (λ b. and_then (defined.each F (map h xs)) (λ more. Ok (b ∷ more)))) given ∙ ap (λ m. and_then m (λ more. Ok (g a ∷ more))) e)

failed_by : {X Y A B : Type 0} (F : Y → Result B Refusal) (h : X → Y) (g : A → B) (R : X → Result A Refusal → Type 0) → ((x : X) (r : Result A Refusal) → R x r → IsMeant g r (F (h x)))
    → (xs : List X) (r : Refusal) → FailsAt R xs r → (r ≡ NoMemory) ⊎ (defined.each F (map h xs) ≡ Err r)
failed_by F h g R says [] r z = absurd z
failed_by F h g R says (x ∷ xs) r (inl z) = refused_first F h xs x r (says x (Err r) z)
failed_by F h g R says (x ∷ xs) r (inr z) = refused_behind F h g xs x z.0 r (says x (Ok z.0) z.1) (failed_by F h g R says xs r z.2)

pub each_gives : {X Y A B : Type 0} (F : Y → Result B Refusal) (h : X → Y) (g : A → B) (R : X → Result A Refusal → Type 0) → ((x : X) (r : Result A Refusal) → R x r → IsMeant g r (F (h x)))
    → (xs : List X) (result : Result (List A) Refusal) → EachBy R xs result → IsMeant (map g) result (defined.each F (map h xs))
each_gives F h g R says xs (Ok as_) z = given_by F h g R says xs as_ z
each_gives F h g R says xs (Err r) (inl e) = inl e
each_gives F h g R says xs (Err r) (inr z) = failed_by F h g R says xs r z

-- ---- a call of a closure

pub returned : {F T R : Type 0} (g : Shared F (Bor T × Unit {0}) R) (f : F) (b : Bor T) (r s : R) → r ≡ s → g.post f (b, tt) r → FnReturnsAt g f b.now s
returned g f b r s is h = record { shown = b; shows = refl; says = record { met = subst (g.post f (b, tt)) is h } }

-- ---- the exit of a `?`

pub exits : {X A : Type 0} (R : X → Result A Refusal → Type 0) (xs : List X) (result : Result (List A) Refusal) (r : Refusal) → IsErrAnd result (λ y. y ≡ r) → (r ≡ NoMemory) ⊎ FailsAt R xs r → EachBy R xs result
exits R xs result r h bad =
    let p = err_from_is_err_and result h in
    subst (λ x. EachBy R xs x) (sym p.1) (subst (λ y. (y ≡ NoMemory) ⊎ FailsAt R xs y) (sym p.2) bad)

-- a closure at each
pub each_called : {X Y A B K : Type 0} (F : Y → Result B Refusal) (h : X → Y) (g : A → B) (fn : Shared K (Bor X × Unit {0}) (Result A Refusal)) (f : K)
    → ((b : Bor X) (r : Result A Refusal) → fn.post f (b, tt) r → IsMeant g r (F (h b.now)))
    → (xs : List X) (result : Result (List A) Refusal) → EachBy (λ x r. FnReturnsAt fn f x r) xs result → IsMeant (map g) result (defined.each F (map h xs))
each_called F h g fn f says xs result z =
    each_gives F h g (λ x r. FnReturnsAt fn f x r) (λ x r k. subst (λ y. IsMeant g r (F (h y))) k.shows (says k.shown r k.says.met)) xs result z

same_list : {B : Type 0} (bs : List B) → map (λ b. b) bs ≡ bs
same_list [] = refl
same_list (b ∷ bs) = ap (λ cs. b ∷ cs) (same_list bs)

seen_same : {B : Type 0} (result : Result (List B) Refusal) (meant : Result (List B) Refusal) → IsMeant (map (λ b. b)) result meant → IsMeant (λ bs. bs) result meant
seen_same (Ok bs) meant h = h ∙ ap Ok (same_list bs)
seen_same (Err r) meant h = h

-- a closure at each of some things that are seen as they are, and so is what it gives
pub each_same : {X B K : Type 0} (F : X → Result B Refusal) (fn : Shared K (Bor X × Unit {0}) (Result B Refusal)) (f : K)
    → ((b : Bor X) (r : Result B Refusal) → fn.post f (b, tt) r → IsMeant (λ y. y) r (F b.now))
    → (xs : List X) (result : Result (List B) Refusal) → EachBy (λ x r. FnReturnsAt fn f x r) xs result → IsMeant (λ bs. bs) result (defined.each F xs)
each_same F fn f says xs result z =
    subst (λ ys. IsMeant (λ bs. bs) result (defined.each F ys)) (same_list xs)
    (seen_same result (defined.each F (map (λ x. x) xs)) (each_called F (λ x. x) (λ y. y) fn f says xs result z))
