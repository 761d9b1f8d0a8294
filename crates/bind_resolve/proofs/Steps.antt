-- Lemmas on steps that give what is meant, one behind the other.
use Rattle.std.proofs.Common.{◌≡◌, ◌⊎◌, ℕ, ◌+◌, ◌==◌, arith, if◌then◌else◌, Bool, true, false, cond, List, [], ◌∷◌, map, filter, Result, Ok, Err}
use mathlib.Core.Path.{refl, sym, ap, subst, ◌∙◌}
use mathlib.Core.Logic.{inl, inr}
use Rattle.std.specs.List.{count_by}
use Rattle.std.specs.Result.{IsErrAnd}
use Rattle.std.proofs.lemmas.List.Recursion.{is_count_by}
use Rattle.std.proofs.lemmas.Result.{err_from_is_err_and}
use Rattle.iv_types.specs.declared.refusal.Refusal.{Refusal}
use Rattle.iv_types.specs.declared.refusal.Refusal.TheVariants.{NoMemory}
use Rattle.iv_types.specs.declared.expression.ColumnAt.{ColumnAt}
use Rattle.iv_meaning.specs.Resolving.{and_then, how_many}
use Rattle.iv_meaning.specs.Resolving as defined
use Rattle.bind_resolve.specs.declared.resolved.Column.{Column}
use Rattle.bind_resolve.specs.Meant.{IsMeant}
use Rattle.bind_resolve.specs.Seen.{column_seen}

-- what is refused is refused whatever comes behind
pub stops : {A B : Type 0} (meant : Result A Refusal) (more : A → Result B Refusal) (r : Refusal) → (r ≡ NoMemory) ⊎ (meant ≡ Err r) → (r ≡ NoMemory) ⊎ (and_then meant more ≡ Err r)
stops meant more r (inl e) = inl e
stops meant more r (inr e) = inr (ap (λ m. and_then m more) e)

-- what is given goes on
pub goes_on : {A B C : Type 0} (f : C → B) (result : Result C Refusal) (meant : Result A Refusal) (more : A → Result B Refusal) (a : A)
    → meant ≡ Ok a → IsMeant f result (more a) → IsMeant f result (and_then meant more)
goes_on f result meant more a is h = subst (λ m. IsMeant f result (and_then m more)) (sym is) h

one_seen : (t : Bool) (c : Column) (cs : List Column) (ds : List defined.Column) → map (λ c. c.place) cs ≡ map (λ c. c.place) ds
    → map (λ c. c.place) (cond t (c ∷ cs) cs) ≡ map (λ c. c.place) (cond t (column_seen c ∷ ds) ds)
one_seen true c cs ds e = ap (λ ps. c.place ∷ ps) e
one_seen false c cs ds e = e

-- what is seen of columns by a test
pub places_seen : (test : defined.Column → Bool) (cs : List Column) → map (λ c. c.place) (filter (λ c. test (column_seen c)) cs) ≡ map (λ c. c.place) (filter test (map column_seen cs))
places_seen test [] = refl
places_seen test (c ∷ cs) = one_seen (test (column_seen c)) c (filter (λ c. test (column_seen c)) cs) (filter test (map column_seen cs)) (places_seen test cs)

-- the one relation that is called so
pub when_one : (n m : ℕ) (result : Result ColumnAt Refusal) (x y : Result ColumnAt Refusal) → n ≡ m → n ≡ 1 → IsMeant (λ place. place) result x → IsMeant (λ place. place) result (if m == 1 then x else y)
when_one n m result x y is one h = subst (λ (k : ℕ). IsMeant (λ place. place) result (if k == 1 then x else y)) (sym one ∙ is) h

pub one_more : (t : Bool) (n : ℕ) → (if t then n + 1 else n) ≡ cond t (1 + n) n
one_more true n = omega arith
one_more false n = refl

-- how many pass a test, of what is seen
pub count_seen : {X Y : Type 0} (p : Y → Bool) (f : X → Y) (xs : List X) (n : ℕ) → n ≡ count_by (λ x. p (f x)) xs → n ≡ how_many p (map f xs)
count_seen p f xs n e = e ∙ sym (is_count_by (λ ys. how_many p (map f ys)) (λ x. p (f x)) refl (λ x ys. one_more (p (f x)) (how_many p (map f ys))) xs)

-- the exit of a `?`
pub exits_gives : {A B : Type 0} (f : A → B) (result : Result A Refusal) (r : Refusal) (meant : Result B Refusal) → IsErrAnd result (λ y. y ≡ r) → (r ≡ NoMemory) ⊎ (meant ≡ Err r) → IsMeant f result meant
exits_gives f result r meant h bad =
    let p = err_from_is_err_and result h in
    subst (λ x. IsMeant f x meant) (sym p.1) (subst (λ y. (y ≡ NoMemory) ⊎ (meant ≡ Err y)) (sym p.2) bad)
