-- A walk over the places of a map of entries, from one to the next.
use Rattle.std.proofs.Common.{◌≡◌, ◌<◌, ℕ, zero, suc, Bool, true, false, cond, List, [], ◌∷◌, ◌++◌, length, Option, Some, None, option_map, refl, sym, ap, subst, ◌∙◌, arith, Bor, append_assoc}
use Rattle.std.specs.Prelude.{not, T, if◌then◌else◌, ◌&&◌}
use Rattle.std.specs.declared.cmp.Ordering.{Ordering}
use Rattle.std.specs.declared.cmp.Ordering.TheVariants.{Less, Equal, Greater}
use Rattle.std.specs.Ordering.{is_eq, is_lt, is_gt, ordering_reverse, nat_cmp, ordering_then}
use Rattle.std.specs.Cmp.{tied_itself}
use Rattle.std.specs.Cmp.Lexicographic.{slice_cmp}
use Rattle.std.specs.FinMap.{FinMap, find, get, entries, is_sorted, get-entries, entries_sorted}
use Rattle.std.specs.FinMap.Entries.{below_all}
use Rattle.table_laws.specs.Place.{Place, place_cmp}
use Rattle.row_codec.proofs.Orders.{cmp_less, cmp_equal}
use Rattle.table_laws.proofs.Place.{place_cmp_total}
use Rattle.spare_map.specs.Trees.{first_where, is_from}
use Rattle.txn_log.specs.Damaged.{Found}
use Rattle.image_entries.specs.declared.stored.StoredEntry.{StoredEntry}
use Rattle.image_entries.specs.declared.parts.Part.{Part}
use Rattle.image_entries.specs.Entries.{found_at}
use Rattle.image_entries.specs.Parts.{IsPartOf, IsPartAt, part_found, parts_found, definitions_in, with_definition}

pub and_first : (a b : Bool) → T (a && b) → T a
and_first true b p = tt
and_first false b p = p

pub and_second : (a b : Bool) → T (a && b) → T b
and_second true b p = p
and_second false b p = absurd p

pub lt_less : (o : Ordering) → T (is_lt o) → o ≡ Less
lt_less Less p = refl
lt_less Equal p = absurd p
lt_less Greater p = absurd p

abbrev pub Held : Type 0
Held = List (Place × StoredEntry)

-- what is held from the first place on that passes
abbrev pub rest_from : (Place → Bool) → Held → Held
rest_from test [] = []
rest_from test (e ∷ es) = if test e.0 then e ∷ es else rest_from test es

-- the first place that passes
abbrev pub first_place : (Place → Bool) → Held → Option Place
first_place test es = option_map (λ e. e.0) (first_where test es)

-- what is left of a walk that stands at a place, or has ended
abbrev pub todo : Held → Option Place → Held
todo es None = []
todo es (Some p) = rest_from (is_from false p) es

abbrev pub place_of : Option (ℕ × Bor (List ℕ)) → Option Place
place_of next = option_map (λ p. (p.0, p.1.now)) next

turned : (x y : Place) (r : Ordering) → place_cmp x y ≡ r → place_cmp y x ≡ ordering_reverse r
turned x y r e = place_cmp_total.antisymm y x ∙ ap ordering_reverse e

from_itself : (p : Place) → is_from false p p ≡ true
from_itself p = ap (λ r. not (is_gt r)) (tied_itself place_cmp_total p)

-- what is found among later places is later
first_behind : (p q : Place) (test : Place → Bool) (es : Held) → T (below_all place_cmp p es) → first_place test es ≡ Some q → place_cmp p q ≡ Less
first_behind p q test [] h is = absurd (cc is)
first_behind p q test (e ∷ es) h is = by (test e.0) is (first_behind p q test es (and_second (is_lt (place_cmp p e.0)) (below_all place_cmp p es) h))
  where
    by : (b : Bool) → option_map (λ x. x.0) (cond b (Some e) (first_where test es)) ≡ Some q → (first_place test es ≡ Some q → place_cmp p q ≡ Less) → place_cmp p q ≡ Less
    by true f rest = let same : e.0 ≡ q = cc f in subst (λ x. place_cmp p x ≡ Less) same (lt_less (place_cmp p e.0) (and_first (is_lt (place_cmp p e.0)) (below_all place_cmp p es) h))
    by false f rest = rest f

-- a walk stands at what was found
pub todo_first : (past : Bool) (k : Place) (es : Held) → T (is_sorted place_cmp es) → todo es (first_place (is_from past k) es) ≡ rest_from (is_from past k) es
todo_first past k [] sorted = refl
todo_first past k (x ∷ xs) sorted = by (is_from past k x.0) (todo_first past k xs (and_second (below_all place_cmp x.0 xs) (is_sorted place_cmp xs) sorted))
  where
    below : T (below_all place_cmp x.0 xs)
    below = and_first (below_all place_cmp x.0 xs) (is_sorted place_cmp xs) sorted

    later : (o : Option Place) → first_place (is_from past k) xs ≡ o → todo (x ∷ xs) o ≡ todo xs o
    later None e = refl
    later (Some q) e = ap (λ r. cond (not (is_gt r)) (x ∷ xs) (rest_from (is_from false q) xs)) (turned x.0 q Less (first_behind x.0 q (is_from past k) xs below e))

    by : (b : Bool) → todo xs (first_place (is_from past k) xs) ≡ rest_from (is_from past k) xs
        → todo (x ∷ xs) (option_map (λ e. e.0) (cond b (Some x) (first_where (is_from past k) xs))) ≡ cond b (x ∷ xs) (rest_from (is_from past k) xs)
    by true rest = ap (λ b. cond b (x ∷ xs) (rest_from (is_from false x.0) xs)) (from_itself x.0)
    by false rest = later (first_place (is_from past k) xs) refl ∙ rest

-- where there is a place, it stands first
pub record StandsAt (es : Held) (p : Place) : Type 0 where
  pub held : StoredEntry
  pub rest : Held
  pub is : todo es (Some p) ≡ (p, held) ∷ rest

abbrev pub IfStands : Held → Option Place → Type 0
IfStands es None = Unit {0}
IfStands es (Some p) = StandsAt es p

found_first : (test : Place → Bool) (es : Held) (q : Place) → first_place test es ≡ Some q → (m : StoredEntry) × (rest : Held) × (rest_from test es ≡ (q, m) ∷ rest)
found_first test [] q is = absurd (cc is)
found_first test (e ∷ es) q is = by (test e.0) is (found_first test es q)
  where
    by : (b : Bool) → option_map (λ x. x.0) (cond b (Some e) (first_where test es)) ≡ Some q
        → (first_place test es ≡ Some q → (m : StoredEntry) × (rest : Held) × (rest_from test es ≡ (q, m) ∷ rest))
        → (m : StoredEntry) × (rest : Held) × (cond b (e ∷ es) (rest_from test es) ≡ (q, m) ∷ rest)
    by true f later = let same : e.0 ≡ q = cc f in (e.1, es, ap (λ (p : Place). (p, e.1) ∷ es) same)
    by false f later = later f

stands_first : (past : Bool) (k : Place) (es : Held) → T (is_sorted place_cmp es) → IfStands es (first_place (is_from past k) es)
stands_first past k es sorted = by (first_place (is_from past k) es) refl
  where
    by : (o : Option Place) → first_place (is_from past k) es ≡ o → IfStands es o
    by None e = tt
    by (Some q) e =
        let (m, rest, is) = found_first (is_from past k) es q e in
        record { held = m; rest = rest; is = ap (todo es) (sym e) ∙ (todo_first past k es sorted ∙ is) }

all_past : (p : Place) (es : Held) → T (below_all place_cmp p es) → rest_from (is_from true p) es ≡ es
all_past p [] h = refl
all_past p (e ∷ es) h = ap (λ r. cond (is_lt r) (e ∷ es) (rest_from (is_from true p) es)) (lt_less (place_cmp p e.0) (and_first (is_lt (place_cmp p e.0)) (below_all place_cmp p es) h))

-- one place further
one_past : (p : Place) (m : StoredEntry) (rest es : Held) → T (is_sorted place_cmp es) → rest_from (is_from false p) es ≡ (p, m) ∷ rest → rest_from (is_from true p) es ≡ rest
one_past p m rest [] sorted is = absurd (cc is)
one_past p m rest (x ∷ xs) sorted is = by (place_cmp p x.0) refl is (one_past p m rest xs (and_second (below_all place_cmp x.0 xs) (is_sorted place_cmp xs) sorted))
  where
    here : (x ∷ xs) ≡ (p, m) ∷ rest → rest_from (is_from true p) (x ∷ xs) ≡ rest
    here e =
        let same : x ≡ (p, m) = cc e in
        let more : xs ≡ rest = cc e in
        let place : x.0 ≡ p = ap (λ (v : Place × StoredEntry). v.0) same in
        let tied : place_cmp p x.0 ≡ Equal = subst (λ q. place_cmp p q ≡ Equal) (sym place) (tied_itself place_cmp_total p) in
        ap (λ r. cond (is_lt r) (x ∷ xs) (rest_from (is_from true p) xs)) tied
        ∙ (all_past p xs (subst (λ q. T (below_all place_cmp q xs)) place (and_first (below_all place_cmp x.0 xs) (is_sorted place_cmp xs) sorted)) ∙ more)

    by : (w : Ordering) → place_cmp p x.0 ≡ w → cond (not (is_gt w)) (x ∷ xs) (rest_from (is_from false p) xs) ≡ (p, m) ∷ rest
        → (rest_from (is_from false p) xs ≡ (p, m) ∷ rest → rest_from (is_from true p) xs ≡ rest) → rest_from (is_from true p) (x ∷ xs) ≡ rest
    by Less e f later = here f
    by Equal e f later = here f
    by Greater e f later = ap (λ r. cond (is_lt r) (x ∷ xs) (rest_from (is_from true p) xs)) e ∙ later f

-- ---- what is held there

rest_sorted : (test : Place → Bool) (es : Held) → T (is_sorted place_cmp es) → T (is_sorted place_cmp (rest_from test es))
rest_sorted test [] sorted = tt
rest_sorted test (e ∷ es) sorted = elim (test e.0) as (λ b. T (is_sorted place_cmp (cond b (e ∷ es) (rest_from test es)))) [
  | true ↦ sorted
  | false ↦ rest_sorted test es (and_second (below_all place_cmp e.0 es) (is_sorted place_cmp es) sorted)
]

head_place : (test : Place → Bool) (es : Held) (p : Place) (m : StoredEntry) (rest : Held) → rest_from test es ≡ (p, m) ∷ rest → first_place test es ≡ Some p
head_place test [] p m rest f = absurd (cc f)
head_place test (x ∷ xs) p m rest f = elim (test x.0) as (λ b. cond b (x ∷ xs) (rest_from test xs) ≡ (p, m) ∷ rest → option_map (λ e. e.0) (cond b (Some x) (first_where test xs)) ≡ Some p) [
  | true ↦ λ g. let same : x ≡ (p, m) = cc g in ap (λ (v : Place × StoredEntry). Some v.0) same
  | false ↦ λ g. head_place test xs p m rest g
] f

found_held : (test : Place → Bool) (es : Held) (p : Place) (m : StoredEntry) (rest : Held) → T (is_sorted place_cmp es) → rest_from test es ≡ (p, m) ∷ rest → find place_cmp p es ≡ Some m
found_held test [] p m rest sorted is = absurd (cc is)
found_held test (e ∷ es) p m rest sorted is = by (test e.0) is (found_held test es p m rest (and_second (below_all place_cmp e.0 es) (is_sorted place_cmp es) sorted))
  where
    by : (b : Bool) → cond b (e ∷ es) (rest_from test es) ≡ (p, m) ∷ rest → (rest_from test es ≡ (p, m) ∷ rest → find place_cmp p es ≡ Some m) → find place_cmp p (e ∷ es) ≡ Some m
    by true f later =
        let same : e ≡ (p, m) = cc f in
        ap (λ (v : Place × StoredEntry). find place_cmp p (v ∷ es)) same ∙ ap (λ r. cond (is_eq r) (Some m) (find place_cmp p es)) (tied_itself place_cmp_total p)
    by false f later =
        let behind : place_cmp e.0 p ≡ Less = first_behind e.0 p test es (and_first (below_all place_cmp e.0 es) (is_sorted place_cmp es) sorted) (head_place test es p m rest f) in
        ap (λ r. cond (is_eq r) (Some e.1) (find place_cmp p es)) (turned e.0 p Less behind) ∙ later f

-- ---- the parts of definitions

-- a walk over the entries of a map, of which those of index 0 are taken
pub record IsTaking (m : FinMap place_cmp StoredEntry) (parts : List Part) (next : Option Place) : Type 0 where
  pub stands : IfStands (entries m) next
  pub told : parts_found parts ++ definitions_in (todo (entries m) next) ≡ definitions_in (entries m)

pub from_least : (p : Place) → is_from false (0, []) p ≡ true
from_least (n, key) = by n key
  where
    front : (k : List ℕ) → not (is_gt (slice_cmp nat_cmp [] k)) ≡ true
    front [] = refl
    front (b ∷ bs) = refl

    by : (m : ℕ) (k : List ℕ) → not (is_gt (ordering_then (nat_cmp 0 m) (slice_cmp nat_cmp [] k))) ≡ true
    by zero k = ap (λ o. not (is_gt (ordering_then o (slice_cmp nat_cmp [] k)))) (cmp_equal 0 0 refl) ∙ front k
    by (suc m) k = ap (λ o. not (is_gt (ordering_then o (slice_cmp nat_cmp [] k)))) (cmp_less 0 (suc m) (omega arith))

all_from : (es : Held) → rest_from (is_from false (0, [])) es ≡ es
all_from [] = refl
all_from (e ∷ es) = ap (λ b. cond b (e ∷ es) (rest_from (is_from false (0, [])) es)) (from_least e.0)

pub taking_begins : (m : FinMap place_cmp StoredEntry) (next : Option Place) → next ≡ first_place (is_from false (0, [])) (entries m) → IsTaking m [] next
taking_begins m next is = record {
  stands = subst (IfStands (entries m)) (sym is) (stands_first false (0, []) (entries m) (entries_sorted m));
  told = ap definitions_in (ap (todo (entries m)) is ∙ (todo_first false (0, []) (entries m) (entries_sorted m) ∙ all_from (entries m)));
}

module _ (m : FinMap place_cmp StoredEntry) (parts : List Part) (p : Place) (at : IsTaking m parts (Some p)) where
  pub held_there : get m p ≡ Some at.stands.held
  held_there = get-entries m p ∙ found_held (is_from false p) (entries m) p at.stands.held at.stands.rest (entries_sorted m) at.stands.is

  -- one of another index ends them
  pub taking_ends : (n : ℕ) → p.0 ≡ suc n → parts_found parts ≡ definitions_in (entries m)
  taking_ends n is =
      sym (Rattle.std.proofs.lemmas.List.append-nil (parts_found parts))
      ∙ (ap (λ (ds : List Found). parts_found parts ++ ds) (sym (ap definitions_in at.stands.is ∙ ap (λ k. with_definition k p at.stands.held (definitions_in at.stands.rest)) is)) ∙ at.told)

  pub taking_ends_at : (n : ℕ) → p.0 ≡ n → (n ≡ 0 → ⊥) → parts_found parts ≡ definitions_in (entries m)
  taking_ends_at zero is other = absurd (other refl)
  taking_ends_at (suc n) is other = taking_ends n is

  after : (next : Option Place) → next ≡ first_place (is_from true p) (entries m) → todo (entries m) next ≡ at.stands.rest
  after next is =
      ap (todo (entries m)) is ∙ (todo_first true p (entries m) (entries_sorted m) ∙ one_past p at.stands.held at.stands.rest (entries m) (entries_sorted m) at.stands.is)

  pub taking_smaller : (next : Option Place) → next ≡ first_place (is_from true p) (entries m) → length (todo (entries m) next) < length (todo (entries m) (Some p))
  taking_smaller next is = let e = ap length (after next is) in let f = ap length at.stands.is in omega (arith, e, f)

  pub taking_goes_on : (next : Option Place) → next ≡ first_place (is_from true p) (entries m) → (part : Part) → p.0 ≡ 0 → IsPartAt (get m p) p.1 part → IsTaking m (parts ++ part ∷ []) next
  taking_goes_on next is part index kept_there = record {
    stands = subst (IfStands (entries m)) (sym is) (stands_first true p (entries m) (entries_sorted m));
    told =
        let of : IsPartOf at.stands.held p.1 part = subst (λ (o : Option StoredEntry). IsPartAt o p.1 part) held_there kept_there in
        let this : part_found part ≡ found_at p at.stands.held = λ t. record { page = of.page t; entry = ((sym index t, of.key_is t), of.value t) } in
        let one : definitions_in (todo (entries m) (Some p)) ≡ found_at p at.stands.held ∷ definitions_in at.stands.rest =
        ap definitions_in at.stands.is ∙ ap (λ k. with_definition k p at.stands.held (definitions_in at.stands.rest)) index in
        ap (λ (ds : List Found). ds ++ definitions_in (todo (entries m) next)) (Rattle.std.proofs.lemmas.List.map-append part_found parts (part ∷ []))
        ∙ (append_assoc (parts_found parts) (part_found part ∷ []) (definitions_in (todo (entries m) next))
        ∙ ((λ t. parts_found parts ++ (this t ∷ definitions_in (after next is t))) ∙ (ap (λ (ds : List Found). parts_found parts ++ ds) (sym one) ∙ at.told)));
  }

pub taking_done : (m : FinMap place_cmp StoredEntry) (parts : List Part) → IsTaking m parts None → parts_found parts ≡ definitions_in (entries m)
taking_done m parts at = sym (Rattle.std.proofs.lemmas.List.append-nil (parts_found parts)) ∙ at.told
