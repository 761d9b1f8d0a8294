-- The entries of one index among those of all places.
use Rattle.std.specs.Prelude.{◌≡◌, ◌≢◌, ℕ, ◌==◌, true, false, cond, T, List, [], ◌∷◌, map, Some}
use Rattle.std.proofs.Common.{arith}
use Rattle.std.proofs.lemmas.Bool.Decides.{nat_tests}
use mathlib.Core.Path.{refl, sym, ap, subst, ◌∙◌}
use Rattle.std.specs.FinMap.{find, is_sorted, nat_cmp-IsAntisymmetric}
use Rattle.std.specs.FinMap.Entries.{below_all}
use Rattle.std.specs.declared.cmp.Ordering.{Ordering}
use Rattle.std.specs.declared.cmp.Ordering.TheVariants.{Less, Equal, Greater}
use Rattle.std.specs.Ordering.{nat_cmp, eq_by_cmp, is_eq, is_lt, ordering_then}
use Rattle.std.specs.Cmp.{tied_itself, nat_cmp_total}
use Rattle.table_laws.specs.Place.{Place, place_cmp}
use Rattle.table_laws.specs.Table.{rows_where}
use Rattle.table_laws.proofs.Tables.{other_key}
use Rattle.table_store.proofs.Places.{first, second, both, first_below, rest_sorted}
use Rattle.table_store.proofs.Maps.{by_bytes}

tie : (n k : ℕ) (r : Ordering) → n ≡ k → ordering_then (nat_cmp n k) r ≡ r
tie n k r e = ap (λ x. ordering_then (nat_cmp n x) r) (sym e) ∙ ap (λ x. ordering_then x r) (tied_itself nat_cmp_total n)

no_tie : (x r : Ordering) → is_eq x ≡ false → is_eq (ordering_then x r) ≡ false
no_tie Less r e = refl
no_tie Equal r e = cc
no_tie Greater r e = refl

module _ {X : Type 0} where
  abbrev pub without_index : Place × X → List ℕ × X
  without_index e = (e.0.1, e.1)

  abbrev pub at_index : ℕ → List (Place × X) → List (Place × X)
  at_index n es = rows_where (λ place value. place.0 == n) es

  -- its keys with their values
  abbrev pub of_index : ℕ → List (Place × X) → List (List ℕ × X)
  of_index n es = map without_index (at_index n es)

  below_index : (n : ℕ) (k : List ℕ) (es : List (Place × X)) → T (below_all place_cmp (n, k) es) → T (below_all by_bytes k (of_index n es))
  below_index n k [] h = tt
  below_index n k (e ∷ es) h = elim (e.0.0 == n) as (λ b. (e.0.0 == n) ≡ b → T (below_all by_bytes k (map without_index (cond b (e ∷ at_index n es) (at_index n es))))) [
    | true ↦ λ is.
        let number : e.0.0 ≡ n = grind (arith, nat_tests) in
        both _ _ (subst (λ r. T (is_lt r)) (tie n e.0.0 (by_bytes k e.0.1) (sym number)) (first _ _ h)) (below_index n k es (second _ _ h))
    | false ↦ λ is. below_index n k es (second _ _ h)
  ] refl

  pub index_sorted : (n : ℕ) (es : List (Place × X)) → T (is_sorted place_cmp es) → T (is_sorted by_bytes (of_index n es))
  index_sorted n [] s = tt
  index_sorted n (e ∷ es) s = elim (e.0.0 == n) as (λ b. (e.0.0 == n) ≡ b → T (is_sorted by_bytes (map without_index (cond b (e ∷ at_index n es) (at_index n es))))) [
    | true ↦ λ is.
        let number : e.0.0 ≡ n = grind (arith, nat_tests) in
        both _ _ (below_index n e.0.1 es (subst (λ (x : ℕ). T (below_all place_cmp (x, e.0.1) es)) number (first_below place_cmp e es s))) (index_sorted n es (rest_sorted place_cmp e es s))
    | false ↦ λ is. index_sorted n es (rest_sorted place_cmp e es s)
  ] refl

  pub find_index : (n : ℕ) (q : List ℕ) (es : List (Place × X)) → find by_bytes q (of_index n es) ≡ find place_cmp (n, q) es
  find_index n q [] = refl
  find_index n q (e ∷ es) = elim (e.0.0 == n) as (λ b. (e.0.0 == n) ≡ b → find by_bytes q (map without_index (cond b (e ∷ at_index n es) (at_index n es))) ≡ find place_cmp (n, q) (e ∷ es)) [
    | true ↦ λ is.
        let number : e.0.0 ≡ n = grind (arith, nat_tests) in
        let same : place_cmp (n, q) e.0 ≡ by_bytes q e.0.1 = tie n e.0.0 (by_bytes q e.0.1) (sym number) in
        ap (λ r. cond (is_eq r) (Some e.1) (find by_bytes q (of_index n es))) (sym same)
        ∙ ap (λ x. cond (eq_by_cmp place_cmp (n, q) e.0) (Some e.1) x) (find_index n q es)
    | false ↦ λ is.
        let apart : n ≢ e.0.0 = grind (arith, nat_tests) in
        let other : is_eq (place_cmp (n, q) e.0) ≡ false = no_tie _ _ (other_key nat_cmp_total nat_cmp-IsAntisymmetric n e.0.0 apart) in
        find_index n q es ∙ sym (ap (λ b. cond b (Some e.1) (find place_cmp (n, q) es)) other)
  ] refl
