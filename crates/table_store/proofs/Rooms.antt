-- How many entries are of an index, and what they count, one after the other.
use Rattle.std.specs.Prelude.{◌≡◌, ◌≢◌, ℕ, ◌+◌, ◌≤◌, ◌==◌, Bool, true, false, cond, List, [], ◌∷◌, ◌++◌, length, filter, Option, Some, None}
use Rattle.std.proofs.Common.{arith}
use Rattle.std.proofs.lemmas.Bool.{eq-eqb, ne_eqb, cases_eq}
use Rattle.std.proofs.lemmas.List.Sums.{sum_by-cons, sum_by-append}
use mathlib.Core.Path.{refl, sym, ap, subst, ◌∙◌}
use mathlib.Core.Logic.{inl, inr}
use Rattle.iv_types.specs.declared.lock.IndexEntry.{IndexEntry}
use Rattle.iv_types.specs.Maps.{IsWithin, entry_size}
use Rattle.table_store.specs.Entries.{Off, AreApart, HavePlaces}
use Rattle.table_store.specs.Changes.{sizes, how_many}

abbrev pub size : IndexEntry → ℕ
size e = entry_size (e.key, e.value)

pub sizes_cons : (e : IndexEntry) (es : List IndexEntry) → sizes (e ∷ es) ≡ size e + sizes es
sizes_cons e es = sum_by-cons size e es

pub sizes_last : (es : List IndexEntry) (e : IndexEntry) → sizes (es ++ e ∷ []) ≡ sizes es + size e
sizes_last es e = omega (arith, sum_by-append size es (e ∷ []), sum_by-cons size e [])

pub many_cons : (n : ℕ) (e : IndexEntry) (es : List IndexEntry) → how_many n (e ∷ es) ≡ how_many n (e ∷ []) + how_many n es
many_cons n e es = elim (e.index == n) as (λ b. length (cond b (e ∷ filter (λ x. x.index == n) es) (filter (λ x. x.index == n) es)) ≡ length (cond b (e ∷ []) []) + length (filter (λ x. x.index == n) es)) [
  | true ↦ omega arith
  | false ↦ omega arith
]

pub many_last : (n : ℕ) (es : List IndexEntry) (e : IndexEntry) → how_many n (es ++ e ∷ []) ≡ how_many n es + how_many n (e ∷ [])
many_last n [] e = omega arith
many_last n (x ∷ es) e = omega (arith, many_cons n x (es ++ e ∷ []), many_cons n x es, many_last n es e)

pub many_here : (e : IndexEntry) → how_many e.index (e ∷ []) ≡ 1
many_here e = ap (λ (b : Bool). length (cond b (e ∷ []) [])) (eq-eqb e.index e.index refl)

pub many_other : (n : ℕ) (e : IndexEntry) → n ≢ e.index → how_many n (e ∷ []) ≡ 0
many_other n e ne = ap (λ (b : Bool). length (cond b (e ∷ []) [])) (ne_eqb e.index n (λ p. ne (sym p)))

pub many_at : (n : ℕ) (e : IndexEntry) → n ≡ e.index → how_many n (e ∷ []) ≡ 1
many_at n e p = ap (λ (k : ℕ). how_many k (e ∷ [])) p ∙ many_here e

pub many_off : (n : ℕ) (es : List IndexEntry) → Off n es → how_many n es ≡ 0
many_off n [] off = refl
many_off n (e ∷ es) off = omega (arith, many_cons n e es, many_other n e (λ p. off.0 (sym p)), many_off n es off.1)

-- of entries of different indexes at most one is of an index
pub many_apart : (n : ℕ) (es : List IndexEntry) → AreApart es → how_many n es ≤ 1
many_apart n [] apart = omega arith
many_apart n (e ∷ es) apart = elim (cases_eq n e.index) [
  | inl p ↦ omega (arith, many_cons n e es, many_at n e p, many_off n es (subst (λ k. Off k es) (sym p) apart.0))
  | inr ne ↦ omega (arith, many_cons n e es, many_other n e ne, many_apart n es apart.1)
]

-- where an index has room for those of it, each has a place
pub have_places : (spare : ℕ → ℕ) (es : List IndexEntry) → ((n : ℕ) → how_many n es ≤ spare n) → HavePlaces spare es
have_places spare [] h = tt
have_places spare (e ∷ es) h = (
  omega (arith, h e.index, many_cons e.index e es, many_here e),
  have_places spare es (λ n. omega (arith, h n, many_cons n e es)),
)

pub places_more : (less more : ℕ → ℕ) (es : List IndexEntry) → ((n : ℕ) → less n ≤ more n) → HavePlaces less es → HavePlaces more es
places_more less more [] h p = tt
places_more less more (e ∷ es) h p = (omega (arith, h e.index, p.0), places_more less more es h p.1)

-- where entries of different indexes have places, each index has room for those of it
pub many_placed : (spare : ℕ → ℕ) (es : List IndexEntry) → AreApart es → HavePlaces spare es → (n : ℕ) → how_many n es ≤ spare n
many_placed spare [] apart h n = omega arith
many_placed spare (e ∷ es) apart h n = elim (cases_eq n e.index) [
  | inl p ↦ omega (arith, many_cons n e es, many_at n e p, many_off n es (subst (λ k. Off k es) (sym p) apart.0), h.0, ap spare p)
  | inr ne ↦ omega (arith, many_cons n e es, many_other n e ne, many_placed spare es apart.1 h.1 n)
]

pub within_less : (limit : Option ℕ) (more less : ℕ) → less ≤ more → IsWithin limit more → IsWithin limit less
within_less None more less le h = tt
within_less (Some most) more less le h = omega (arith, le, h)
