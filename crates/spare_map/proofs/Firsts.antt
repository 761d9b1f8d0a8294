-- The first entry whose place passes a test, among entries in the order of their places.
use Rattle.std.specs.Prelude.{◌≡◌, ◌≢◌, Bool, true, false, cond, T, List, [], ◌∷◌, Some, None, IsSome}
use mathlib.Core.Path.{refl, sym, ap, subst, ◌∙◌}
use Rattle.std.proofs.lemmas.Bool.{true≢false}
use Rattle.std.specs.declared.cmp.Ordering.{Ordering}
use Rattle.std.specs.declared.cmp.Ordering.TheVariants.{Less, Equal, Greater}
use Rattle.std.specs.Ordering.{is_eq, is_lt}
use Rattle.std.specs.FinMap.{find, is_sorted}
use Rattle.std.specs.FinMap.Entries.{below_all}
use Rattle.table_laws.specs.Place.{Place, place_cmp}
use Rattle.table_laws.proofs.Place.{place_cmp_total, place_cmp-IsAntisymmetric}
use Rattle.table_laws.proofs.Tables.{by_bool, by_key, same_key, other_key}
use Rattle.spare_map.specs.Trees.{first_where}
use Rattle.spare_map.proofs.Lists.{first, second, less}

tie : (r : Ordering) → is_eq r ≡ true → r ≡ Equal
tie Less e = absurd (true≢false (sym e))
tie Equal e = refl
tie Greater e = absurd (true≢false (sym e))

itself : (k : Place) → place_cmp k k ≡ Equal
itself k = tie (place_cmp k k) (same_key place_cmp_total place_cmp-IsAntisymmetric k k refl)

by_place : {P : Type 0} (q k : Place) → (q ≡ k → P) → (q ≢ k → P) → P
by_place q k f g = by_key place_cmp_total place_cmp-IsAntisymmetric q k f g

module _ {X : Type 0} where
  find_same : (q : Place) (x : Place × X) (es : List (Place × X)) → q ≡ x.0 → find place_cmp q (x ∷ es) ≡ Some x.1
  find_same q x es e = ap (λ b. cond b (Some x.1) (find place_cmp q es)) (same_key place_cmp_total place_cmp-IsAntisymmetric q x.0 e)

  find_other : (q : Place) (x : Place × X) (es : List (Place × X)) → q ≢ x.0 → find place_cmp q (x ∷ es) ≡ find place_cmp q es
  find_other q x es n = ap (λ b. cond b (Some x.1) (find place_cmp q es)) (other_key place_cmp_total place_cmp-IsAntisymmetric q x.0 n)

  passes : (test : Place → Bool) (x : Place × X) (es : List (Place × X)) → test x.0 ≡ true → first_where test (x ∷ es) ≡ Some x
  passes test x es h = ap (λ b. cond b (Some x) (first_where test es)) h

  fails : (test : Place → Bool) (x : Place × X) (es : List (Place × X)) → test x.0 ≡ false → first_where test (x ∷ es) ≡ first_where test es
  fails test x es h = ap (λ b. cond b (Some x) (first_where test es)) h

  -- what is behind a place comes after it
  comes_after : (k q : Place) (es : List (Place × X)) → T (below_all place_cmp k es) → IsSome (find place_cmp q es) → place_cmp k q ≡ Less
  comes_after k q [] h has = absurd (true≢false (sym has))
  comes_after k q (x ∷ es) h has = by_place q x.0
      (λ e. ap (place_cmp k) e ∙ less (place_cmp k x.0) (first (is_lt (place_cmp k x.0)) (below_all place_cmp k es) h))
      (λ n. comes_after k q es (second (is_lt (place_cmp k x.0)) (below_all place_cmp k es) h) (subst IsSome (find_other q x es n) has))

  pub none_where : (test : Place → Bool) (es : List (Place × X)) → first_where test es ≡ None → (q : Place) → test q ≡ true → find place_cmp q es ≡ None
  none_where test [] none q h = refl
  none_where test (x ∷ es) none q h = by_bool (test x.0)
      (λ p. absurd (let no : Some x ≡ None = sym (passes test x es p) ∙ none in cc))
      (λ f.
      let other : q ≢ x.0 = λ e. true≢false (sym h ∙ (ap test e ∙ f)) in
      find_other q x es other ∙ none_where test es (sym (fails test x es f) ∙ none) q h)

  some_same : (x y : Place × X) → Some x ≡ Some y → x ≡ y
  some_same x y e = cc

  pub record IsFirst (test : Place → Bool) (es : List (Place × X)) (e : Place × X) : Type 0 where
    pub there : find place_cmp e.0 es ≡ Some e.1
    pub passes : test e.0 ≡ true
    pub first : (q : Place) → IsSome (find place_cmp q es) → test q ≡ true → place_cmp e.0 q ≢ Greater

  pub some_where : (test : Place → Bool) (es : List (Place × X)) (e : Place × X) → T (is_sorted place_cmp es) → first_where test es ≡ Some e → IsFirst test es e
  some_where test [] e sorted is = absurd (let no : Some e ≡ None = sym is in cc)
  some_where test (x ∷ es) e sorted is = by_bool (test x.0)
      (λ p.
      let same : x ≡ e = some_same x e (sym (passes test x es p) ∙ is) in
      subst (IsFirst test (x ∷ es)) same (record {
        there = find_same x.0 x es refl;
        passes = p;
        first = λ q has h. by_place q x.0
            (λ k g. let wrong : Equal ≡ Greater = sym (ap (place_cmp x.0) k ∙ itself x.0) ∙ g in cc)
            (λ n g.
            let wrong : Less ≡ Greater = sym (comes_after x.0 q es (first (below_all place_cmp x.0 es) (is_sorted place_cmp es) sorted) (subst IsSome (find_other q x es n) has)) ∙ g in
            cc);
      }))
      (λ f.
      let rest = some_where test es e (second (below_all place_cmp x.0 es) (is_sorted place_cmp es) sorted) (sym (fails test x es f) ∙ is) in
      record {
        there = find_other e.0 x es (λ k. true≢false (sym rest.passes ∙ (ap test k ∙ f))) ∙ rest.there;
        passes = rest.passes;
        first = λ q has h. rest.first q (subst IsSome (find_other q x es (λ k. true≢false (sym h ∙ (ap test k ∙ f)))) has) h;
      })
