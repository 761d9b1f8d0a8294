-- A sorted list as a map: what the map has at a key whose place in the list is known, and what edits there do to it.
use Rattle.std.specs.Prelude.{◌≡◌, ℕ, Bool, true, false, cond, not, T, List, [], length, slice_index_or, Option, Some, None, IsSome}
use mathlib.Core.Path.{refl, sym, ap, subst, ◌∙◌}
use Rattle.std.proofs.Common.{set}
use Rattle.std.specs.List as list
use Rattle.std.specs.FinMap.{IsAntisymmetric, find, put, is_sorted, get, entries, insert, remove, from_sorted, empty}
use Rattle.std.specs.FinMap.{get-from_sorted, entries-from_sorted, entries-insert, get-remove, same_map, same_entries_map, empty_of_len, len-entries}
use Rattle.std.specs.FinMap.Entries.{where_key, is_sorted-put, is_sorted-where_key, find-where_key}
use Rattle.std.specs.declared.cmp.Ordering.{Ordering}
use Rattle.std.specs.Ordering.{eq_by_cmp, is_lt}
use Rattle.std.specs.Cmp.{IsTotalOrder, eq_by_cmp_equiv}
use Rattle.table_store.specs.Lists.{IsPlace}
use Rattle.table_store.proofs.Places.{HasKey, find_here, found_here, insert_here, set_here, remove_here}

pub not_some : {A : Type 0} (v : Option A) → (IsSome v → ⊥) → v ≡ None
not_some None f = refl
not_some (Some x) f = absurd (f refl)

turned : {A : Type 0} (b : Bool) (x y : A) → cond (not b) x y ≡ cond b y x
turned true x y = refl
turned false x y = refl

module _ {K : Type 0} {R : K → K → Ordering} (o : IsTotalOrder R) (same : IsAntisymmetric R) {X : Type 0} (es : List (K × X)) (sorted : T (is_sorted R es)) (k : K) where
  same_list : entries (from_sorted {R = R} es) ≡ es
  same_list = entries-from_sorted R es sorted

  put_is : (v : X) → from_sorted {R = R} (put R k v es) ≡ insert (from_sorted es) k v
  put_is v = same_entries_map _ _ (entries-from_sorted R (put R k v es) (is_sorted-put R o k v es sorted)
      ∙ sym (entries-insert o (from_sorted es) k v ∙ ap (put R k v) same_list))

  without : List (K × X)
  without = where_key R (λ x. not (eq_by_cmp R k x)) es

  without_sorted : T (is_sorted R without)
  unfolding without
  without_sorted = is_sorted-where_key R (λ x. not (eq_by_cmp R k x)) es sorted

  without_is : from_sorted without ≡ remove (from_sorted {R = R} es) k
  unfolding without
  without_is = same_map o same _ _ (λ q.
      get-from_sorted R _ q without_sorted
      ∙ (find-where_key R (λ x. not (eq_by_cmp R k x)) q (λ x e. ap (λ y. not (eq_by_cmp R k y)) (sym (same q x e))) es
      ∙ (turned (eq_by_cmp R k q) _ _
      ∙ (ap (λ b. cond b None (find R q es)) ((eq_by_cmp_equiv o).symm k q)
      ∙ sym (get-remove o (from_sorted es) k q ∙ ap (λ (v : Option X). cond (eq_by_cmp R q k) None v) (get-from_sorted R es q sorted))))))

  module _ (i : ℕ) (place : IsPlace (λ x. is_lt (R x k)) es i) where
    pub has_key : IsSome (get (from_sorted {R = R} es) k) → HasKey k es i
    has_key some = found_here o same k es i sorted place (subst IsSome (get-from_sorted R es k sorted) some)

    pub get_here : HasKey k es i → (d : K × X) → get (from_sorted {R = R} es) k ≡ Some (slice_index_or es i d).1
    get_here has d = get-from_sorted R es k sorted ∙ find_here o same k es i d place has

    pub get_not_here : (HasKey k es i → ⊥) → get (from_sorted {R = R} es) k ≡ None
    get_not_here other = not_some _ (λ some. other (has_key some))

    pub inserted : get (from_sorted {R = R} es) k ≡ None → (v : X)
        → T (is_sorted R (list.insert es i (k, v))) × (from_sorted {R = R} (list.insert es i (k, v)) ≡ insert (from_sorted es) k v)
    inserted none v =
        let is : list.insert es i (k, v) ≡ put R k v es = insert_here o same k v es i place (sym (get-from_sorted R es k sorted) ∙ none) in
        (subst (λ (l : List (K × X)). T (is_sorted R l)) (sym is) (is_sorted-put R o k v es sorted), ap (from_sorted {R = R}) is ∙ put_is v)

    pub replaced : HasKey k es i → (v : X) (d : K × X)
        → T (is_sorted R (set es i ((slice_index_or es i d).0, v))) × (from_sorted {R = R} (set es i ((slice_index_or es i d).0, v)) ≡ insert (from_sorted es) k v)
    replaced has v d =
        let is : set es i ((slice_index_or es i d).0, v) ≡ put R k v es = set_here o same k v es i d place has in
        (subst (λ (l : List (K × X)). T (is_sorted R l)) (sym is) (is_sorted-put R o k v es sorted), ap (from_sorted {R = R}) is ∙ put_is v)

    pub removed : HasKey k es i → T (is_sorted R (list.remove es i)) × (from_sorted {R = R} (list.remove es i) ≡ remove (from_sorted es) k)
    unfolding without
    removed has =
        let is : list.remove es i ≡ without = remove_here o same k es i sorted place has in
        (subst (λ (l : List (K × X)). T (is_sorted R l)) (sym is) without_sorted, ap (from_sorted {R = R}) is ∙ without_is)

-- no entries
pub made_none : {K : Type 0} (R : K → K → Ordering) {X : Type 0} (es : List (K × X)) → es ≡ [] → from_sorted {R = R} es ≡ empty
made_none R {X} es e =
    let sorted : T (is_sorted R es) = subst (λ l. T (is_sorted R l)) (sym e) tt in
    empty_of_len (from_sorted es) (len-entries (from_sorted es) ∙ (ap length (entries-from_sorted R es sorted) ∙ ap length e))
