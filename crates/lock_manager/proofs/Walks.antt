-- A walk over the places of a map, from one to the next.
use Rattle.std.proofs.Common.{◌≡◌, ◌<◌, ℕ, suc, Bool, true, false, cond, List, [], ◌∷◌, length, Option, Some, None, option_map, refl, sym, ap, subst, ◌∙◌, arith, inl, inr, Bor}
use Rattle.std.specs.Prelude.{not, T, if◌then◌else◌}
use Rattle.std.specs.declared.cmp.Ordering.{Ordering}
use Rattle.std.specs.declared.cmp.Ordering.TheVariants.{Less, Equal, Greater}
use Rattle.std.specs.Ordering.{is_eq, is_lt, is_gt, ordering_reverse}
use Rattle.std.specs.Cmp.{tied_itself}
use Rattle.std.specs.FinMap.{FinMap, find, get, entries, is_sorted, get-entries, entries_sorted}
use Rattle.std.specs.FinMap.Entries.{below_all}
use Rattle.table_laws.specs.Place.{Place, place_cmp}
use Rattle.table_laws.proofs.Place.{place_cmp_total}
use Rattle.iv_types.specs.declared.lock.Want.{Want}
use Rattle.spare_map.specs.Trees.{first_where, is_from}
use Rattle.txn_machine.specs.Locks.{Conflict}
use Rattle.lock_manager.specs.declared.modes.Modes.{Modes}
use Rattle.lock_manager.specs.Order.{is_past}
use Rattle.lock_manager.specs.Points.{lock_at, points_of, MeetsAt}
use Rattle.lock_manager.specs.Table.{HasSome}
use Rattle.lock_manager.proofs.Gains.{contains_none}
use Rattle.lock_manager.proofs.HeldKeys.{and_first, and_second, lt_less, place_cases, held_at}
use Rattle.lock_manager.proofs.Searches.{point_conflict, past_conflict}

abbrev Held : Type 0
Held = List (Place × Modes)

-- what is held from the first place on that passes
abbrev pub rest_from : (Place → Bool) → Held → Held
rest_from test [] = []
rest_from test (e ∷ es) = if test e.0 then e ∷ es else rest_from test es

-- the first place that passes
abbrev pub first_place : (Place → Bool) → Held → Option Place
first_place test es = option_map (λ e. e.0) (first_where test es)

-- what is left of a walk that stands at a place, or has ended
abbrev pub todo : Held → Option Place → Held
todo es None = []
todo es (Some p) = rest_from (is_from false p) es

abbrev pub place_of : Option (ℕ × Bor (List ℕ)) → Option Place
place_of next = option_map (λ p. (p.0, p.1.now)) next

turned : (x y : Place) (r : Ordering) → place_cmp x y ≡ r → place_cmp y x ≡ ordering_reverse r
turned x y r e = place_cmp_total.antisymm y x ∙ ap ordering_reverse e

from_itself : (p : Place) → is_from false p p ≡ true
from_itself p = ap (λ r. not (is_gt r)) (tied_itself place_cmp_total p)

-- what is found among later places is later
first_behind : (p q : Place) (test : Place → Bool) (es : Held) → T (below_all place_cmp p es) → first_place test es ≡ Some q → place_cmp p q ≡ Less
first_behind p q test [] h is = absurd (cc is)
first_behind p q test (e ∷ es) h is = by (test e.0) is (first_behind p q test es (and_second (is_lt (place_cmp p e.0)) (below_all place_cmp p es) h))
  where
    by : (b : Bool) → option_map (λ x. x.0) (cond b (Some e) (first_where test es)) ≡ Some q → (first_place test es ≡ Some q → place_cmp p q ≡ Less) → place_cmp p q ≡ Less
    by true f rest = let same : e.0 ≡ q = cc f in subst (λ x. place_cmp p x ≡ Less) same (lt_less (place_cmp p e.0) (and_first (is_lt (place_cmp p e.0)) (below_all place_cmp p es) h))
    by false f rest = rest f

-- a walk stands at what was found
pub todo_first : (past : Bool) (k : Place) (es : Held) → T (is_sorted place_cmp es) → todo es (first_place (is_from past k) es) ≡ rest_from (is_from past k) es
todo_first past k [] sorted = refl
todo_first past k (x ∷ xs) sorted = by (is_from past k x.0) (todo_first past k xs (and_second (below_all place_cmp x.0 xs) (is_sorted place_cmp xs) sorted))
  where
    below : T (below_all place_cmp x.0 xs)
    below = and_first (below_all place_cmp x.0 xs) (is_sorted place_cmp xs) sorted

    later : (o : Option Place) → first_place (is_from past k) xs ≡ o → todo (x ∷ xs) o ≡ todo xs o
    later None e = refl
    later (Some q) e = ap (λ r. cond (not (is_gt r)) (x ∷ xs) (rest_from (is_from false q) xs)) (turned x.0 q Less (first_behind x.0 q (is_from past k) xs below e))

    by : (b : Bool) → todo xs (first_place (is_from past k) xs) ≡ rest_from (is_from past k) xs
        → todo (x ∷ xs) (option_map (λ e. e.0) (cond b (Some x) (first_where (is_from past k) xs))) ≡ cond b (x ∷ xs) (rest_from (is_from past k) xs)
    by true rest = ap (λ b. cond b (x ∷ xs) (rest_from (is_from false x.0) xs)) (from_itself x.0)
    by false rest = later (first_place (is_from past k) xs) refl ∙ rest

-- where there is a place, it stands first
pub record StandsAt (es : Held) (p : Place) : Type 0 where
  pub held : Modes
  pub rest : Held
  pub is : todo es (Some p) ≡ (p, held) ∷ rest

abbrev pub IfStands : Held → Option Place → Type 0
IfStands es None = Unit {0}
IfStands es (Some p) = StandsAt es p

found_first : (test : Place → Bool) (es : Held) (q : Place) → first_place test es ≡ Some q → (m : Modes) × (rest : Held) × (rest_from test es ≡ (q, m) ∷ rest)
found_first test [] q is = absurd (cc is)
found_first test (e ∷ es) q is = by (test e.0) is (found_first test es q)
  where
    by : (b : Bool) → option_map (λ x. x.0) (cond b (Some e) (first_where test es)) ≡ Some q
        → (first_place test es ≡ Some q → (m : Modes) × (rest : Held) × (rest_from test es ≡ (q, m) ∷ rest))
        → (m : Modes) × (rest : Held) × (cond b (e ∷ es) (rest_from test es) ≡ (q, m) ∷ rest)
    by true f later = let same : e.0 ≡ q = cc f in (e.1, es, ap (λ (p : Place). (p, e.1) ∷ es) same)
    by false f later = later f

stands_first : (past : Bool) (k : Place) (es : Held) → T (is_sorted place_cmp es) → IfStands es (first_place (is_from past k) es)
stands_first past k es sorted = by (first_place (is_from past k) es) refl
  where
    by : (o : Option Place) → first_place (is_from past k) es ≡ o → IfStands es o
    by None e = tt
    by (Some q) e =
        let (m, rest, is) = found_first (is_from past k) es q e in
        record { held = m; rest = rest; is = ap (todo es) (sym e) ∙ (todo_first past k es sorted ∙ is) }

all_past : (p : Place) (es : Held) → T (below_all place_cmp p es) → rest_from (is_from true p) es ≡ es
all_past p [] h = refl
all_past p (e ∷ es) h = ap (λ r. cond (is_lt r) (e ∷ es) (rest_from (is_from true p) es)) (lt_less (place_cmp p e.0) (and_first (is_lt (place_cmp p e.0)) (below_all place_cmp p es) h))

-- one place further
one_past : (p : Place) (m : Modes) (rest es : Held) → T (is_sorted place_cmp es) → rest_from (is_from false p) es ≡ (p, m) ∷ rest → rest_from (is_from true p) es ≡ rest
one_past p m rest [] sorted is = absurd (cc is)
one_past p m rest (x ∷ xs) sorted is = by (place_cmp p x.0) refl is (one_past p m rest xs (and_second (below_all place_cmp x.0 xs) (is_sorted place_cmp xs) sorted))
  where
    here : (x ∷ xs) ≡ (p, m) ∷ rest → rest_from (is_from true p) (x ∷ xs) ≡ rest
    here e =
        let same : x ≡ (p, m) = cc e in
        let more : xs ≡ rest = cc e in
        let place : x.0 ≡ p = ap (λ (v : Place × Modes). v.0) same in
        let tied : place_cmp p x.0 ≡ Equal = subst (λ q. place_cmp p q ≡ Equal) (sym place) (tied_itself place_cmp_total p) in
        ap (λ r. cond (is_lt r) (x ∷ xs) (rest_from (is_from true p) xs)) tied
        ∙ (all_past p xs (subst (λ q. T (below_all place_cmp q xs)) place (and_first (below_all place_cmp x.0 xs) (is_sorted place_cmp xs) sorted)) ∙ more)

    by : (w : Ordering) → place_cmp p x.0 ≡ w → cond (not (is_gt w)) (x ∷ xs) (rest_from (is_from false p) xs) ≡ (p, m) ∷ rest
        → (rest_from (is_from false p) xs ≡ (p, m) ∷ rest → rest_from (is_from true p) xs ≡ rest) → rest_from (is_from true p) (x ∷ xs) ≡ rest
    by Less e f later = here f
    by Equal e f later = here f
    by Greater e f later = ap (λ r. cond (is_lt r) (x ∷ xs) (rest_from (is_from true p) xs)) e ∙ later f

-- ---- what is held there

rest_sorted : (test : Place → Bool) (es : Held) → T (is_sorted place_cmp es) → T (is_sorted place_cmp (rest_from test es))
rest_sorted test [] sorted = tt
rest_sorted test (e ∷ es) sorted = elim (test e.0) as (λ b. T (is_sorted place_cmp (cond b (e ∷ es) (rest_from test es)))) [
  | true ↦ sorted
  | false ↦ rest_sorted test es (and_second (below_all place_cmp e.0 es) (is_sorted place_cmp es) sorted)
]

head_place : (test : Place → Bool) (es : Held) (p : Place) (m : Modes) (rest : Held) → rest_from test es ≡ (p, m) ∷ rest → first_place test es ≡ Some p
head_place test [] p m rest f = absurd (cc f)
head_place test (x ∷ xs) p m rest f = elim (test x.0) as (λ b. cond b (x ∷ xs) (rest_from test xs) ≡ (p, m) ∷ rest → option_map (λ e. e.0) (cond b (Some x) (first_where test xs)) ≡ Some p) [
  | true ↦ λ g. let same : x ≡ (p, m) = cc g in ap (λ (v : Place × Modes). Some v.0) same
  | false ↦ λ g. head_place test xs p m rest g
] f

found_held : (test : Place → Bool) (es : Held) (p : Place) (m : Modes) (rest : Held) → T (is_sorted place_cmp es) → rest_from test es ≡ (p, m) ∷ rest → find place_cmp p es ≡ Some m
found_held test [] p m rest sorted is = absurd (cc is)
found_held test (e ∷ es) p m rest sorted is = by (test e.0) is (found_held test es p m rest (and_second (below_all place_cmp e.0 es) (is_sorted place_cmp es) sorted))
  where
    by : (b : Bool) → cond b (e ∷ es) (rest_from test es) ≡ (p, m) ∷ rest → (rest_from test es ≡ (p, m) ∷ rest → find place_cmp p es ≡ Some m) → find place_cmp p (e ∷ es) ≡ Some m
    by true f later =
        let same : e ≡ (p, m) = cc f in
        ap (λ (v : Place × Modes). find place_cmp p (v ∷ es)) same ∙ ap (λ r. cond (is_eq r) (Some m) (find place_cmp p es)) (tied_itself place_cmp_total p)
    by false f later =
        let behind : place_cmp e.0 p ≡ Less = first_behind e.0 p test es (and_first (below_all place_cmp e.0 es) (is_sorted place_cmp es) sorted) (head_place test es p m rest f) in
        ap (λ r. cond (is_eq r) (Some e.1) (find place_cmp p es)) (turned e.0 p Less behind) ∙ later f

-- ---- conflicts on the way

module _ (want : Want) where
  abbrev pub Meets : Held → Type 0
  Meets es = HasSome (λ lock. Conflict lock want) (points_of es)

  -- a place that is passed over has no conflict
  pub past_one : (p : Place) (m : Modes) (rest : Held) → ¬ MeetsAt (Some m) p want → Meets ((p, m) ∷ rest) → Meets rest
  past_one p m rest none (lock, among, c) = elim (place_cases p m rest lock among) [
    | inl (t, is) ↦ absurd (none (lock.mode, t, subst (λ l. Conflict l want) (sym is) c))
    | inr later ↦ (lock, later, c)
  ]

  low_first : (es : Held) → Meets es → Meets (rest_from (is_from false (want.index, want.interval.low)) es)
  low_first [] h = h
  low_first (e ∷ es) h = by (place_cmp (want.index, want.interval.low) e.0) refl (low_first es)
    where
      by : (w : Ordering) → place_cmp (want.index, want.interval.low) e.0 ≡ w → (Meets es → Meets (rest_from (is_from false (want.index, want.interval.low)) es))
          → Meets (cond (not (is_gt w)) (e ∷ es) (rest_from (is_from false (want.index, want.interval.low)) es))
      by Less is later = h
      by Equal is later = h
      by Greater is later = later (past_one e.0 e.1 es (λ (mode, t, c). point_conflict want (lock_at e.0 mode) refl (ap is_lt (turned (want.index, want.interval.low) e.0 Greater is)) c) h)

  -- no place from one past the high end on has a conflict
  none_past : (x : Place) (es : Held) → is_past x.0 x.1 want.index want.interval.high ≡ true → T (below_all place_cmp x es) → ¬ Meets es
  none_past x [] past h (lock, among, c) = contains_none lock among
  none_past x (e ∷ es) past h m =
      let up : place_cmp e.0 x ≡ Greater = turned x e.0 Less (lt_less (place_cmp x e.0) (and_first (is_lt (place_cmp x e.0)) (below_all place_cmp x es) h)) in
      none_past x es past (and_second (is_lt (place_cmp x e.0)) (below_all place_cmp x es) h)
      (past_one e.0 e.1 es (λ (mode, t, c). past_conflict want (lock_at x mode) (lock_at e.0 mode) past (ap is_lt up) c) m)

  past_end : (x : Place) (m : Modes) (rest : Held) → is_past x.0 x.1 want.index want.interval.high ≡ true → T (is_sorted place_cmp ((x, m) ∷ rest)) → ¬ Meets ((x, m) ∷ rest)
  past_end x m rest past sorted h =
      none_past x rest past (and_first (below_all place_cmp x rest) (is_sorted place_cmp rest) sorted)
      (past_one x m rest (λ (mode, t, c). past_conflict want (lock_at x mode) (lock_at x mode) past (ap is_lt (tied_itself place_cmp_total x)) c) h)

  -- ---- a walk

  module _ (points : FinMap place_cmp Modes) where
    -- a conflict is still to come, if there is one
    pub record IsWalking (next : Option Place) : Type 0 where
      pub stands : IfStands (entries points) next
      pub meets : Meets (entries points) → Meets (todo (entries points) next)

    pub walk_begins : (next : Option Place) → next ≡ first_place (is_from false (want.index, want.interval.low)) (entries points) → IsWalking next
    walk_begins next is = subst IsWalking (sym is) (record {
      stands = stands_first false (want.index, want.interval.low) (entries points) (entries_sorted points);
      meets = λ h. subst Meets (sym (todo_first false (want.index, want.interval.low) (entries points) (entries_sorted points))) (low_first (entries points) h);
    })

    module _ (p : Place) (w : IsWalking (Some p)) where
      pub walk_past : is_past p.0 p.1 want.index want.interval.high ≡ true → ¬ Meets (entries points)
      walk_past past h =
          let s = w.stands in
          past_end p s.held s.rest past (subst (λ es. T (is_sorted place_cmp es)) s.is (rest_sorted (is_from false p) (entries points) (entries_sorted points))) (subst Meets s.is (w.meets h))

      pub walk_on : (next : Option Place) → next ≡ first_place (is_from true p) (entries points) → ¬ MeetsAt (get points p) p want
          → IsWalking next × (length (todo (entries points) next) < length (todo (entries points) (Some p)))
      walk_on next is none =
          let s = w.stands in
          let here : get points p ≡ Some s.held = get-entries points p ∙ found_held (is_from false p) (entries points) p s.held s.rest (entries_sorted points) s.is in
          let rest : todo (entries points) next ≡ s.rest = ap (todo (entries points)) is ∙ (todo_first true p (entries points) (entries_sorted points) ∙ one_past p s.held s.rest (entries points) (entries_sorted points) s.is) in
          let long : length (todo (entries points) (Some p)) ≡ suc (length s.rest) = ap length s.is in
          let short : length (todo (entries points) next) ≡ length s.rest = ap length rest in (
            record {
              stands = subst (IfStands (entries points)) (sym is) (stands_first true p (entries points) (entries_sorted points));
              meets = λ h. subst Meets (sym rest) (past_one p s.held s.rest (subst (λ o. ¬ MeetsAt o p want) here none) (subst Meets s.is (w.meets h)));
            },
            omega (arith, long, short),
          )

  pub met : (points : FinMap place_cmp Modes) (p : Place) → MeetsAt (get points p) p want → Meets (entries points)
  met points p (mode, held, c) = (lock_at p mode, held_at points p mode held, c)
