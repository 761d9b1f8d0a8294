-- Lists in the order of their places as finite maps.
use Rattle.std.specs.Prelude.{◌≡◌, Bool, true, false, cond, not, T, List, [], None, length}
use mathlib.Core.Path.{refl, sym, ap, ◌∙◌}
use Rattle.std.specs.Ordering.{eq_by_cmp, is_eq}
use Rattle.std.specs.Cmp.{alike_right, eq_by_cmp_equiv}
use Rattle.std.specs.FinMap.{empty, get, insert, remove, entries, find, put, is_sorted, from_sorted, same_map, same_entries_map, entries-from_sorted, entries-insert, get-from_sorted, get-remove, empty_of_len, len-entries}
use Rattle.std.specs.FinMap.Entries.{is_sorted-put, is_sorted-where_key, find-where_key}
use Rattle.table_laws.specs.Place.{Place, place_cmp}
use Rattle.table_laws.proofs.Place.{place_cmp_total, place_cmp-IsAntisymmetric}
use Rattle.spare_map.specs.Trees.{without}

module _ {X : Type 0} where
  pub nothing : from_sorted {X = X} {R = place_cmp} [] ≡ empty
  nothing = empty_of_len (from_sorted []) (len-entries (from_sorted []) ∙ ap length (entries-from_sorted place_cmp [] tt))

  module _ (es : List (Place × X)) (h : T (is_sorted place_cmp es)) where
    pub is_got : (k : Place) → get (from_sorted {R = place_cmp} es) k ≡ find place_cmp k es
    is_got k = get-from_sorted place_cmp es k h

    pub sorted_with : (k : Place) (v : X) → T (is_sorted place_cmp (put place_cmp k v es))
    sorted_with k v = is_sorted-put place_cmp place_cmp_total k v es h

    pub inserted : (k : Place) (v : X) → from_sorted {R = place_cmp} (put place_cmp k v es) ≡ insert (from_sorted es) k v
    inserted k v = same_entries_map _ _
        (entries-from_sorted place_cmp (put place_cmp k v es) (sorted_with k v)
        ∙ sym (entries-insert place_cmp_total (from_sorted es) k v ∙ ap (put place_cmp k v) (entries-from_sorted place_cmp es h)))

    pub sorted_without : (k : Place) → T (is_sorted place_cmp (without k es))
    sorted_without k = is_sorted-where_key place_cmp (λ x. not (eq_by_cmp place_cmp k x)) es h

    found_without : (k q : Place) → find place_cmp q (without k es) ≡ cond (eq_by_cmp place_cmp q k) None (find place_cmp q es)
    found_without k q =
        find-where_key place_cmp (λ x. not (eq_by_cmp place_cmp k x)) q (λ x t. ap (λ w. not (is_eq w)) (sym (alike_right place_cmp_total q x k t))) es
        ∙ (turned (eq_by_cmp place_cmp k q) ∙ ap (λ b. cond b None (find place_cmp q es)) ((eq_by_cmp_equiv place_cmp_total).symm k q))
      where
        turned : (b : Bool) → cond (not b) (find place_cmp q es) None ≡ cond b None (find place_cmp q es)
        turned true = refl
        turned false = refl

    pub removed : (k : Place) → from_sorted {R = place_cmp} (without k es) ≡ remove (from_sorted es) k
    removed k = same_map place_cmp_total place_cmp-IsAntisymmetric _ _ (λ q.
        get-from_sorted place_cmp (without k es) q (sorted_without k)
        ∙ (found_without k q ∙ sym (get-remove place_cmp_total (from_sorted es) k q ∙ ap (cond (eq_by_cmp place_cmp q k) None) (is_got q))))

    pub listed : entries (from_sorted {R = place_cmp} es) ≡ es
    listed = entries-from_sorted place_cmp es h
