-- A walk over stored rows to the first that stands between two groups.
use Rattle.std.specs.Prelude.{◌≡◌, ℕ, Bool, true, false, cond, T, List, [], ◌∷◌, Option, Some, None}
use mathlib.Core.Path.{refl, sym, ap, subst, ◌∙◌}
use Rattle.std.proofs.lemmas.Bool.{true≢false}
use Rattle.std.specs.FinMap.{find, is_sorted, get, entries, get-entries, entries_sorted}
use Rattle.std.specs.FinMap.Entries.{below_all}
use Rattle.std.specs.declared.cmp.Ordering.{Ordering}
use Rattle.std.specs.declared.cmp.Ordering.TheVariants.{Less, Equal, Greater}
use Rattle.std.specs.Ordering.{is_eq, is_lt, is_ge, is_gt, ordering_reverse}
use Rattle.std.specs.Cmp.Lexicographic.{nat_list_cmp_total}
use Rattle.iv_types.specs.Maps.{Map, Entry, first_where, entry_at, entry_after}
use Rattle.table_laws.proofs.Tables.{other_key}
use Rattle.table_store.specs.Stored.{before}
use Rattle.table_store.proofs.Places.{first_below, rest_sorted, first, second, both, less, less_true, below_less}
use Rattle.table_store.proofs.Maps.{by_bytes, bytes_same}
use Rattle.table_store.proofs.Walks.{past, at_held, after_held}
use Rattle.image_views.specs.Rows.{ByGroup, AreAlike, IsBytesOf, AreBytesOf, is_behind, Between, Stands, IsStandingIn}
use Rattle.image_views.proofs.Alike.{has_none}

turn : (x y : List ℕ) (r : Ordering) → by_bytes x y ≡ r → by_bytes y x ≡ ordering_reverse r
turn x y r e = nat_list_cmp_total.antisymm y x ∙ ap ordering_reverse e

-- three ways in which two groups stand
pub by_order : {P : Type 0} (g k : List ℕ) → (by_bytes g k ≡ Less → P) → (g ≡ k → P) → (by_bytes k g ≡ Less → P) → P
by_order {P = P} g k f e h = elim (by_bytes g k) as (λ r. by_bytes g k ≡ r → P) [
  | Less ↦ f
  | Equal ↦ λ is. e (bytes_same g k is)
  | Greater ↦ λ is. h (turn g k Greater is)
] refl

pub not_below_itself : (k : List ℕ) → by_bytes k k ≡ Less → ⊥
not_below_itself k e = let bad : Less ≡ Greater = sym e ∙ turn k k Less e in cc

-- ---- what is behind a group

pub behind_later : (last : Option (List ℕ)) (k g : List ℕ) → is_behind last k ≡ true → by_bytes k g ≡ Less → is_behind last g ≡ true
behind_later None k g h lt = refl
behind_later (Some l) k g h lt = ap is_lt (nat_list_cmp_total.trans l k g (less_true _ h) lt)

before_earlier : (next : Option (List ℕ)) (k g : List ℕ) → before next g ≡ true → before next k ≡ false → by_bytes g k ≡ Less
before_earlier None k g h f = absurd (true≢false f)
before_earlier (Some n) k g h f = by_order g k (λ lt. lt)
    (λ same. absurd (true≢false (sym h ∙ (ap (λ x. is_lt (by_bytes x n)) same ∙ f))))
    (λ lt. absurd (true≢false (sym (ap is_lt (nat_list_cmp_total.trans k g n lt (less_true _ h))) ∙ f)))

-- ---- what is passed on the way to the first entry that passes

pub absent_below : (g : List ℕ) (es : List Entry) → T (below_all by_bytes g es) → find by_bytes g es ≡ None
absent_below g [] h = refl
absent_below g (e ∷ es) h = ap (λ r. cond (is_eq r) (Some e.1) (find by_bytes g es)) (less _ (first _ _ h)) ∙ absent_below g es (second _ _ h)

skip : (test : List ℕ → Bool) (x : Entry) (es : List Entry) (g : List ℕ) → test x.0 ≡ false → test g ≡ true → find by_bytes g (x ∷ es) ≡ find by_bytes g es
skip test x es g f t = ap (λ b. cond b (Some x.1) (find by_bytes g es)) (other_key nat_list_cmp_total bytes_same g x.0 (λ same. true≢false (sym t ∙ (ap test same ∙ f))))

none_passed : (test : List ℕ → Bool) (es : List Entry) → T (is_sorted by_bytes es) → first_where test es ≡ None → (g : List ℕ) → test g ≡ true → find by_bytes g es ≡ None
none_passed test [] s is g t = refl
none_passed test (x ∷ es) s is g t = elim (test x.0) as (λ b. test x.0 ≡ b → cond b (Some x) (first_where test es) ≡ None → find by_bytes g (x ∷ es) ≡ None) [
  | true ↦ λ p is. absurd (cc is)
  | false ↦ λ p is. skip test x es g p t ∙ none_passed test es (rest_sorted by_bytes x es s) is g t
] refl is

some_passed : (test : List ℕ → Bool) (es : List Entry) (e : Entry) → T (is_sorted by_bytes es) → first_where test es ≡ Some e → (g : List ℕ) → test g ≡ true → by_bytes g e.0 ≡ Less → find by_bytes g es ≡ None
some_passed test [] e s is g t lt = refl
some_passed test (x ∷ es) e s is g t lt = elim (test x.0) as (λ b. test x.0 ≡ b → cond b (Some x) (first_where test es) ≡ Some e → find by_bytes g (x ∷ es) ≡ None) [
  | true ↦ λ p is.
      let same : e ≡ x = cc is in
      let here : by_bytes g x.0 ≡ Less = subst (λ (y : Entry). by_bytes g y.0 ≡ Less) same lt in
      absent_below g (x ∷ es) (both _ _ (subst (λ r. T (is_lt r)) (sym here) tt) (below_less nat_list_cmp_total bytes_same g x.0 es here (first_below by_bytes x es s)))
  | false ↦ λ p is. skip test x es g p t ∙ some_passed test es e (rest_sorted by_bytes x es s) is g t lt
] refl is

passes : (test : List ℕ → Bool) (es : List Entry) (e : Entry) → first_where test es ≡ Some e → test e.0 ≡ true
passes test [] e is = absurd (cc is)
passes test (x ∷ es) e is = elim (test x.0) as (λ b. test x.0 ≡ b → cond b (Some x) (first_where test es) ≡ Some e → test e.0 ≡ true) [
  | true ↦ λ p is. let same : x ≡ e = cc is in ap (λ (y : Entry). test y.0) (sym same) ∙ p
  | false ↦ λ p is. passes test es e is
] refl is

-- no stored row of this map under the group, where the walk stands behind it
passed_by : (m : Map) (test : List ℕ → Bool) (at : Option Entry) → at ≡ first_where test (entries m) → (g : List ℕ) → test g ≡ true → ((e : Entry) → at ≡ Some e → by_bytes g e.0 ≡ Less) → get m g ≡ None
passed_by m test None is g t lt = get-entries m g ∙ none_passed test (entries m) (entries_sorted m) (sym is) g t
passed_by m test (Some e) is g t lt = get-entries m g ∙ some_passed test (entries m) e (entries_sorted m) (sym is) g t (lt e refl)

absent_alike : (m : Map) (width : ℕ) (stored : ByGroup) → AreBytesOf width (get m) stored → (g : List ℕ) → get m g ≡ None → AreAlike (stored g) None
absent_alike m width stored are g none = subst (λ o. AreAlike o None) (sym (has_none width (stored g) (subst (λ o. IsBytesOf width o (stored g)) none (are g)))) (λ column. refl)

-- ---- a walk

-- it stands at an entry of the map behind a group, or has ended, and no row between the two has a number other than 0
pub record IsAhead (m : Map) (last : Option (List ℕ)) (at : Option Entry) : Type 0 where
  pub held : (e : Entry) → at ≡ Some e → get m e.0 ≡ Some e.1
  pub behind : (e : Entry) → at ≡ Some e → is_behind last e.0 ≡ true
  pub passed : (width : ℕ) (stored : ByGroup) → AreBytesOf width (get m) stored → (g : List ℕ) → is_behind last g ≡ true → ((e : Entry) → at ≡ Some e → by_bytes g e.0 ≡ Less) → AreAlike (stored g) None

all_from : (g : List ℕ) → is_ge (by_bytes g []) ≡ true
all_from [] = refl
all_from (x ∷ g) = refl

pub ahead_at : (m : Map) (at : Option Entry) → at ≡ entry_at m [] → IsAhead m None at
ahead_at m at is = record {
  held = λ e here. at_held m [] e (sym here ∙ is);
  behind = λ e here. refl;
  passed = λ width stored are g h lt. absent_alike m width stored are g (passed_by m (λ k. is_ge (by_bytes k [])) at is g (all_from g) lt);
}

after_is : (k g : List ℕ) → past k g ≡ true → by_bytes k g ≡ Less
after_is k g h = by_order g k
    (λ lt. absurd (true≢false (sym h ∙ ap is_gt lt)))
    (λ same. absurd (true≢false (sym h ∙ not_past same)))
    (λ lt. lt)
  where
    not_past : g ≡ k → past k g ≡ false
    not_past same = elim (by_bytes g k) as (λ r. by_bytes g k ≡ r → is_gt r ≡ false) [
      | Less ↦ λ e. refl
      | Equal ↦ λ e. refl
      | Greater ↦ λ e. absurd (not_below_itself k (subst (λ x. by_bytes k x ≡ Less) same (turn g k Greater e)))
    ] refl

pub ahead_after : (m : Map) (last : List ℕ) (at : Option Entry) → at ≡ entry_after m last → IsAhead m (Some last) at
ahead_after m last at is = record {
  held = λ e here. after_held m last e (sym here ∙ is);
  behind = λ e here. ap is_lt (after_is last e.0 (passes (past last) (entries m) e (sym is ∙ here)));
  passed = λ width stored are g h lt. absent_alike m width stored are g (passed_by m (past last) at is g (ap is_gt (turn last g Less (less_true _ h))) lt);
}

pub ahead_goes_on : (m : Map) (last : Option (List ℕ)) (at next : Option Entry) (e : Entry) → at ≡ Some e → next ≡ entry_after m e.0 → IsAhead m last at
    → ((width : ℕ) (stored : ByGroup) → AreBytesOf width (get m) stored → AreAlike (stored e.0) None) → IsAhead m last next
ahead_goes_on m last at next e here is a zero_is =
    let b : IsAhead m (Some e.0) next = ahead_after m e.0 next is in
    record {
      held = b.held;
      behind = λ f there. behind_later last e.0 f.0 (a.behind e here) (less_true _ (b.behind f there));
      passed = λ width stored are g h lt. by_order g e.0
          (λ less_is. a.passed width stored are g h (λ f there. let same : e ≡ f = cc (sym here ∙ there) in subst (λ (y : Entry). by_bytes g y.0 ≡ Less) same less_is))
          (λ same. subst (λ x. AreAlike (stored x) None) (sym same) (zero_is width stored are))
          (λ less_is. b.passed width stored are g (ap is_lt less_is) lt);
    }

pub ahead_ended : (m : Map) (last next : Option (List ℕ)) (at : Option Entry) → at ≡ None → IsAhead m last at → (width : ℕ) (stored : ByGroup) → AreBytesOf width (get m) stored → IsStandingIn (Between last next) m stored None
ahead_ended m last next at none a width stored are g h = a.passed width stored are g h.0 (λ e there. let bad : None ≡ Some e = sym none ∙ there in absurd (cc))

pub ahead_beyond : (m : Map) (last next : Option (List ℕ)) (at : Option Entry) (e : Entry) → at ≡ Some e → before next e.0 ≡ false → IsAhead m last at → (width : ℕ) (stored : ByGroup) → AreBytesOf width (get m) stored → IsStandingIn (Between last next) m stored None
ahead_beyond m last next at e here beyond a width stored are g h = a.passed width stored are g h.0 (λ f there.
    let same : e ≡ f = cc (sym here ∙ there) in
    subst (λ (y : Entry). by_bytes g y.0 ≡ Less) same (before_earlier next e.0 g h.1 beyond))

pub ahead_stands : (m : Map) (last next : Option (List ℕ)) (at : Option Entry) (e : Entry) → at ≡ Some e → before next e.0 ≡ true → IsAhead m last at → (width : ℕ) (stored : ByGroup) → AreBytesOf width (get m) stored
    → Rattle.image_views.specs.Rows.Differ (stored e.0) None → IsStandingIn (Between last next) m stored (Some e)
ahead_stands m last next at e here within a width stored are differ = record {
  of = (a.behind e here, within);
  there = a.held e here;
  differ = differ;
  first = λ g h lt. a.passed width stored are g h.0 (λ f there. let same : e ≡ f = cc (sym here ∙ there) in subst (λ (y : Entry). by_bytes g y.0 ≡ Less) same lt);
}
