-- A walk over the candidates.
use Rattle.std.specs.Prelude.{◌≡◌, ◌≢◌, ℕ, ◌+◌, ◌<◌, ◌≤◌, not, Bool, true, false, cond, List, [], ◌∷◌, ◌++◌, length, Option, None, Some, IsSome, IfSome, refl, if◌then◌else◌}
use Rattle.std.specs.Option.{option_map}
use Rattle.std.specs.Ordering.{is_lt, is_gt, nat_cmp, ordering_reverse, ordering_then}
use Rattle.std.specs.Cmp.Lexicographic.{slice_cmp}
use Rattle.std.specs.declared.cmp.Ordering.{Ordering}
use Rattle.std.specs.declared.cmp.Ordering.TheVariants.{Less, Equal, Greater}
use Rattle.std.specs.List.{Contains}
use Rattle.std.specs.FinMap.{get, entries}
use mathlib.Core.Path.{sym, ap, subst, ◌∙◌}
use Rattle.std.proofs.Common.{arith, Bor}
use Rattle.std.proofs.lemmas.Bool.{true≢false}
use Rattle.table_laws.specs.Place.{Place, place_cmp}
use Rattle.table_laws.proofs.Place.{place_cmp_total, place_cmp-IsAntisymmetric}
use Rattle.table_laws.proofs.Tables.{Contains-entries}
use Rattle.row_codec.proofs.Orders.{cmp_less}
use Rattle.spare_map.specs.Trees.{is_from}
use Rattle.ghost_rows.specs.Candidates.{Places, IsAmong, IsFirstFrom}

abbrev Entries : Type 0
Entries = List (Place × Unit {0})

-- how many places pass
abbrev count : (Place → Bool) → Entries → ℕ
count test [] = 0
count test (e ∷ es) = (if test e.0 then 1 else 0) + count test es

-- a place, or none
abbrev pub place_of : Option (ℕ × Bor (List ℕ)) → Option Place
place_of next = option_map (λ p. (p.0, p.1.now)) next

-- how many candidates are left of a walk that stands at a place, or has ended
abbrev pub left : Places → Option Place → ℕ
left places None = 0
left places (Some p) = count (is_from false p) (entries places)

-- this one is still to come
abbrev pub IsAhead : Option Place → Place → Type 0
IsAhead None q = ⊥
IsAhead (Some p) q = is_from false p q ≡ true

-- what is told of an answer, in the words of places
pub some_as : (P : Place → Type 0) (next : Option (ℕ × Bor (List ℕ))) → IfSome next (λ place. P (place.0, place.1.now)) → (p : Place) → place_of next ≡ Some p → P p
some_as P None h p e = absurd (cc)
some_as P (Some x) h p e = let same : (x.0, x.1.now) ≡ p = cc in subst P same h

pub none_as : {Q : Type 0} (next : Option (ℕ × Bor (List ℕ))) → (next ≡ None → Q) → place_of next ≡ None → Q
none_as None h e = h refl
none_as (Some x) h e = absurd (cc)

-- ---- orders

not_greater : (r : Ordering) → r ≢ Greater → not (is_gt r) ≡ true
not_greater Less n = refl
not_greater Equal n = refl
not_greater Greater n = absurd (n refl)

so_not_greater : (r : Ordering) → not (is_gt r) ≡ true → r ≢ Greater
so_not_greater Less e g = absurd (cc)
so_not_greater Equal e g = absurd (cc)
so_not_greater Greater e g = absurd (cc)

less_of : (r : Ordering) → is_lt r ≡ true → r ≡ Less
less_of Less e = refl
less_of Equal e = absurd (cc)
less_of Greater e = absurd (cc)

-- from a later place on is from this one on
from_later : (p q x : Place) → is_from true p q ≡ true → is_from false q x ≡ true → is_from false p x ≡ true
from_later p q x l f = by (place_cmp q x) refl
  where
    behind : place_cmp p q ≡ Less
    behind = less_of (place_cmp p q) l

    by : (r : Ordering) → place_cmp q x ≡ r → is_from false p x ≡ true
    by Less e = ap (λ o. not (is_gt o)) (place_cmp_total.trans p q x behind e)
    by Equal e = subst (λ y. not (is_gt (place_cmp p y)) ≡ true) (place_cmp-IsAntisymmetric q x e) (ap (λ o. not (is_gt o)) behind)
    by Greater e = absurd (so_not_greater (place_cmp q x) f e)

-- the place before is none of them
not_from : (p q : Place) → is_from true p q ≡ true → is_from false q p ≡ false
not_from p q l = ap (λ o. not (is_gt o)) (place_cmp_total.antisymm q p ∙ ap ordering_reverse (less_of (place_cmp p q) l))

-- what is from this one on and is not this one is behind it
behind_it : (p x : Place) → is_from false p x ≡ true → (p ≡ x → ⊥) → is_from true p x ≡ true
behind_it p x f n = by (place_cmp p x) refl
  where
    by : (r : Ordering) → place_cmp p x ≡ r → is_lt (place_cmp p x) ≡ true
    by Less e = ap is_lt e
    by Equal e = absurd (n (place_cmp-IsAntisymmetric p x e))
    by Greater e = absurd (so_not_greater (place_cmp p x) f e)

-- ---- counts

fewer_or_same : (f g : Place → Bool) → ((p : Place) → f p ≡ true → g p ≡ true) → (es : Entries) → count f es ≤ count g es
fewer_or_same f g so [] = omega arith
fewer_or_same f g so (e ∷ es) = by (f e.0) (g e.0) (so e.0) (fewer_or_same f g so es)
  where
    by : (a b : Bool) → (a ≡ true → b ≡ true) → count f es ≤ count g es → cond a 1 0 + count f es ≤ cond b 1 0 + count g es
    by true true h rest = omega (arith, rest)
    by true false h rest = absurd (true≢false (sym (h refl)))
    by false true h rest = omega (arith, rest)
    by false false h rest = omega (arith, rest)

fewer : (f g : Place → Bool) → ((p : Place) → f p ≡ true → g p ≡ true) → (es : Entries) (p : Place) (k : ℕ) → k < length es → (d : Place × Unit {0}) → Rattle.std.specs.Prelude.slice_index_or es k d ≡ (p, tt) → f p ≡ false → g p ≡ true → count f es < count g es
fewer f g so [] p k lt d at fails passes = absurd (omega (arith, lt))
fewer f g so (e ∷ es) p ℕ.zero lt d at fails passes =
    let here : e.0 ≡ p = ap (λ (x : Place × Unit {0}). x.0) at in
    let a : f e.0 ≡ false = ap f here ∙ fails in
    let b : g e.0 ≡ true = ap g here ∙ passes in
    let rest = fewer_or_same f g so es in
    let one : count f (e ∷ es) ≡ 0 + count f es = ap (λ x. cond x 1 0 + count f es) a in
    let other : count g (e ∷ es) ≡ 1 + count g es = ap (λ x. cond x 1 0 + count g es) b in
    omega (arith, rest, one, other)
fewer f g so (e ∷ es) p (ℕ.suc k) lt d at fails passes = by (f e.0) (g e.0) (so e.0) (fewer f g so es p k (omega (arith, lt)) d at fails passes)
  where
    by : (a b : Bool) → (a ≡ true → b ≡ true) → count f es < count g es → cond a 1 0 + count f es < cond b 1 0 + count g es
    by true true h rest = omega (arith, rest)
    by true false h rest = absurd (true≢false (sym (h refl)))
    by false true h rest = omega (arith, rest)
    by false false h rest = omega (arith, rest)

-- ---- a walk

module _ (places : Places) where
  among_entry : (p : Place) → IsAmong places p → Contains (entries places) (p, tt)
  among_entry p is = (Contains-entries place_cmp_total place_cmp-IsAntisymmetric places p tt).1 (of (get places p) is)
    where
      of : (o : Option (Unit {0})) → IsSome o → o ≡ Some tt
      of None some = absurd (cc)
      of (Some tt) some = refl

  abbrev nowhere : Place → Bool
  nowhere q = false

  -- one place further fewer are left
  pub fewer_left : (p : Place) → IsAmong places p → (next : Option Place) → ((q : Place) → next ≡ Some q → is_from true p q ≡ true) → left places next < left places (Some p)
  fewer_left p is next behind = by next behind
    where
      here : Contains (entries places) (p, tt)
      here = among_entry p is

      itself : is_from false p p ≡ true
      itself = ap (λ o. not (is_gt o)) (Rattle.std.specs.Cmp.tied_itself place_cmp_total p)

      by : (o : Option Place) → ((q : Place) → o ≡ Some q → is_from true p q ≡ true) → left places o < left places (Some p)
      by None h = let some : count nowhere (entries places) < count (is_from false p) (entries places) = fewer nowhere (is_from false p) (λ q e. absurd (true≢false (sym e))) (entries places) p here.0 here.1 (p, tt) here.2 refl itself in omega (arith, some)
      by (Some q) h = fewer (is_from false q) (is_from false p) (λ x f. from_later p q x (h q refl) f) (entries places) p here.0 here.1 (p, tt) here.2 (not_from p q (h q refl)) itself

  -- where the walk stands, with all that is still to come
  pub record IsWalking (next : Option Place) (Wanted : Place → Type 0) : Type 0 where
    pub among : (p : Place) → next ≡ Some p → IsAmong places p
    pub ahead : (q : Place) → Wanted q → IsAhead next q

  -- it begins, or goes on behind a place that is not wanted
  module _ (Wanted : Place → Type 0) (among : (q : Place) → Wanted q → IsAmong places q) where
    found_ahead : (past : Bool) (k : Place) (next : Option Place) → ((p : Place) → next ≡ Some p → IsFirstFrom past k places p) → (next ≡ None → (q : Place) → is_from past k q ≡ true → get places q ≡ None) → ((q : Place) → Wanted q → is_from past k q ≡ true) → IsWalking next Wanted
    found_ahead past k next some none from = record { among = λ p e. (some p e).among; ahead = by next some none }
      where
        by : (o : Option Place) → ((p : Place) → o ≡ Some p → IsFirstFrom past k places p) → (o ≡ None → (q : Place) → is_from past k q ≡ true → get places q ≡ None) → (q : Place) → Wanted q → IsAhead o q
        by None some none q w = let gone : get places q ≡ None = none refl q (from q w) in let bad : IsSome {T = Unit {0}} None = subst IsSome gone (among q w) in absurd (cc)
        by (Some p) some none q w = not_greater (place_cmp p q) ((some p refl).first q (among q w) (from q w))

    pub begins : (next : Option Place) → ((p : Place) → next ≡ Some p → IsFirstFrom false (0, []) places p) → (next ≡ None → (q : Place) → is_from false (0, []) q ≡ true → get places q ≡ None) → IsWalking next Wanted
    begins next some none = found_ahead false (0, []) next some none (λ q w. least q)
      where
        least : (q : Place) → is_from false (0, []) q ≡ true
        least (ℕ.zero, []) = refl
        least (ℕ.zero, b ∷ bs) = refl
        least (ℕ.suc n, bs) = ap (λ o. not (is_gt (ordering_then o (slice_cmp nat_cmp [] bs)))) (cmp_less 0 (ℕ.suc n) (omega arith))

    pub goes_on : (p : Place) (next : Option Place) → IsWalking (Some p) Wanted → (Wanted p → ⊥) → ((q : Place) → next ≡ Some q → IsFirstFrom true p places q) → (next ≡ None → (q : Place) → is_from true p q ≡ true → get places q ≡ None)
        → IsWalking next Wanted × (left places next < left places (Some p))
    goes_on p next w other some none = (
      found_ahead true p next some none (λ q x. behind_it p q (w.ahead q x) (λ same. other (subst Wanted (sym same) x))),
      fewer_left p (w.among p refl) next (λ q e. (some q e).behind),
    )

  -- the first that is wanted
  pub is_first : (Wanted : Place → Type 0) (p : Place) → IsWalking (Some p) Wanted → (q : Place) → Wanted q → place_cmp p q ≢ Greater
  is_first Wanted p w q x = so_not_greater (place_cmp p q) (w.ahead q x)
