-- The map of a tree's entries, through an edit of the tree.
use Rattle.std.specs.Prelude.{◌≡◌, ℕ, ◌+◌, ◌-◌, ◌^◌, ◌≤◌, Bool, true, false, cond, not, T, List, [], ◌∷◌, map, length, Option, Some, None, IsSome, is_some, MatchOption}
use mathlib.Core.Path.{refl, sym, ap, subst, ◌∙◌}
use Rattle.std.proofs.Common.{arith}
use Rattle.std.proofs.lemmas.List.Elements.{All-from_recursion, All-map}
use Rattle.std.proofs.lemmas.List.{length-map}
use Rattle.std.specs.List.{All, AllByRecursion}
use Rattle.std.specs.Option.{option_map}
use Rattle.std.specs.Ordering.{eq_by_cmp, is_ge, is_gt}
use Rattle.std.specs.FinMap.{empty, get, insert, remove, entries, from_sorted, find, is_sorted, len}
use Rattle.std.specs.FinMap.{entries-from_sorted, entries_sorted, entries-insert, get-entries, get-insert, get-remove, same_map, len-insert, len-remove, len-entries, len-empty, same_entries_map}
use Rattle.std.specs.Cmp.Lexicographic.{nat_list_cmp_total}
use Rattle.table_laws.specs.Place.{Place, place_cmp}
use Rattle.table_laws.proofs.Place.{place_cmp_total}
use Rattle.spare_map.specs.Trees.{is_from, first_where, without}
use Rattle.spare_map.proofs.Firsts.{some_where}
use Rattle.spare_map.proofs.Maps as lists
use Rattle.iv_types.specs.Maps.{Map, Entry, entry_size, map_size, entry_at, entry_after}
use Rattle.iv_types.specs.Maps as maps
use Rattle.table_store.specs.Lists.{largest_entry, most_of_list}
use Rattle.table_store.proofs.Maps.{by_bytes, bytes_same, made_none}
use Rattle.table_store.proofs.KeptLists.{IsSmall, kept_most}
use Rattle.tree_maps.specs.Keyed.{Held, keyed, map_of, AreOwn}
use Rattle.tree_maps.proofs.Own.{Own, find_keyed, sorted_keyed, own_put, own_where, from_at, from_after, first_keyed}

-- ---- no entries

no_length : {A : Type 0} (es : List A) → length es ≡ 0 → es ≡ []
no_length [] e = refl
no_length (x ∷ es) e = absurd (omega arith)

nothing : entries (empty {X = List ℕ} {R = place_cmp}) ≡ []
nothing = no_length _ (sym (len-entries empty) ∙ len-empty place_cmp (List ℕ))

pub own_none : (held : Held) → held ≡ empty → AreOwn held 0
own_none held is = record {
  each = subst Own (sym (ap entries is ∙ nothing)) tt;
  count_is = ap length (ap entries is ∙ nothing);
}

pub map_of_none : (held : Held) → held ≡ empty → map_of held ≡ empty
map_of_none held is = made_none (map keyed (entries held)) (ap (map keyed) (ap entries is ∙ nothing))

-- ---- a tree and its map

module _ (held : Held) (count : ℕ) (own : AreOwn held count) where
  sorted : T (is_sorted by_bytes (map keyed (entries held)))
  sorted = subst T (sorted_keyed (entries held) own.each) (entries_sorted held)

  listed : entries (map_of held) ≡ map keyed (entries held)
  listed = entries-from_sorted by_bytes (map keyed (entries held)) sorted

  pub got : (k : List ℕ) → get held (0, k) ≡ get (map_of held) k
  got k = get-entries held (0, k) ∙ (find_keyed k (entries held) own.each ∙ (sym (ap (find by_bytes k) listed) ∙ sym (get-entries (map_of held) k)))

  pub some : (k : List ℕ) → IsSome (get (map_of held) k) → 1 ≤ count
  some k there = omega (arith, own.count_is, within (entries held) (subst IsSome (sym (got k) ∙ get-entries held (0, k)) there))
    where
      within : (es : List (Place × List ℕ)) → IsSome (find place_cmp (0, k) es) → 1 ≤ length es
      within [] f = cc
      within (e ∷ es) f = omega arith

  -- what the entries count
  pub most : count ≤ 2 ^ 64 → map_size (map_of held) ≤ most_of_list
  most few =
      let small : All IsSmall (map keyed (entries held)) = All-map IsSmall keyed (entries held) (All-from_recursion (λ e. IsSmall (keyed e)) (entries held) (sizes (entries held) own.each)) in
      kept_most (map keyed (entries held)) (record { sorted = sorted; sizes = small }) (omega (arith, few, own.count_is, length-map (entries held) keyed))
    where
      sizes : (es : List (Place × List ℕ)) → Own es → AllByRecursion (λ e. IsSmall (keyed e)) es
      sizes [] h = tt
      sizes (e ∷ es) h = (h.0.size, sizes es h.1)

  -- ---- the first entry from a key on

  pub at : (k : List ℕ) → option_map keyed (first_where (is_from false (0, k)) (entries held)) ≡ entry_at (map_of held) k
  at k =
      first_keyed (is_from false (0, k)) (λ x. is_ge (by_bytes x k)) (from_at k) (entries held) own.each
      ∙ sym (ap (maps.first_where (λ x. is_ge (by_bytes x k))) listed)

  pub after : (k : List ℕ) → option_map keyed (first_where (is_from true (0, k)) (entries held)) ≡ entry_after (map_of held) k
  after k =
      first_keyed (is_from true (0, k)) (λ x. is_gt (by_bytes x k)) (from_after k) (entries held) own.each
      ∙ sym (ap (maps.first_where (λ x. is_gt (by_bytes x k))) listed)

-- ---- the value at the first place from a key on

module _ (held : Held) (test : Place → Bool) where
  pub told_none : None ≡ option_map (λ (e : Place × List ℕ). e.0) (first_where test (entries held)) → None ≡ option_map keyed (first_where test (entries held))
  told_none is = by (first_where test (entries held)) is
    where
      by : (o : Option (Place × List ℕ)) → None ≡ option_map (λ (e : Place × List ℕ). e.0) o → None ≡ option_map keyed o
      by None e = refl
      by (Some x) e = cc

  held_there : (e : Place × List ℕ) → first_where test (entries held) ≡ Some e → get held e.0 ≡ Some e.1
  held_there e is = let first = some_where test (entries held) e (entries_sorted held) is in get-entries held e.0 ∙ first.there

  pub told : (p : Place) (v : List ℕ) → Some p ≡ option_map (λ (e : Place × List ℕ). e.0) (first_where test (entries held)) → Some v ≡ get held p
      → Some (p.1, v) ≡ option_map keyed (first_where test (entries held))
  told p v is got = by (first_where test (entries held)) refl is
    where
      by : (o : Option (Place × List ℕ)) → first_where test (entries held) ≡ o → Some p ≡ option_map (λ (e : Place × List ℕ). e.0) o → Some (p.1, v) ≡ option_map keyed o
      by None f e = cc
      by (Some x) f e =
          let place : p ≡ x.0 = cc in
          let value : Some v ≡ Some x.1 = got ∙ (ap (get held) place ∙ held_there x f) in
          let same : v ≡ x.1 = cc in
          λ i. Some ((place i).1, same i)

  pub told_never : (p : Place) → Some p ≡ option_map (λ (e : Place × List ℕ). e.0) (first_where test (entries held)) → None ≡ get held p → ⊥
  told_never p is none = by (first_where test (entries held)) refl is
    where
      by : (o : Option (Place × List ℕ)) → first_where test (entries held) ≡ o → Some p ≡ option_map (λ (e : Place × List ℕ). e.0) o → ⊥
      by None f e = cc
      by (Some x) f e =
          let place : p ≡ x.0 = cc in
          let value : None ≡ Some x.1 = none ∙ (ap (get held) place ∙ held_there x f) in
          cc

-- ---- edits

module _ (held : Held) (count : ℕ) (own : AreOwn held count) (k : List ℕ) where
  each_put : (v : List ℕ) → entry_size (k, v) ≤ largest_entry → Own (entries (insert held (0, k) v))
  each_put v size = subst Own (sym (entries-insert place_cmp_total held (0, k) v)) (own_put k v (entries held) size own.each)

  length_put : (v : List ℕ) → length (entries (insert held (0, k) v)) ≡ cond (is_some (get (map_of held) k)) (len held) (len held + 1)
  length_put v = sym (len-entries (insert held (0, k) v)) ∙ (len-insert place_cmp_total held (0, k) v ∙ ap (λ o. cond (is_some o) (len held) (len held + 1)) (got held count own k))

  pub own_new : (v : List ℕ) → entry_size (k, v) ≤ largest_entry → get (map_of held) k ≡ None → AreOwn (insert held (0, k) v) (count + 1)
  own_new v size none = record {
    each = each_put v size;
    count_is = length_put v ∙ (ap (λ o. cond (is_some o) (len held) (len held + 1)) none ∙ ap (λ n. n + 1) (len-entries held ∙ own.count_is));
  }

  pub own_replaced : (v : List ℕ) → entry_size (k, v) ≤ largest_entry → IsSome (get (map_of held) k) → AreOwn (insert held (0, k) v) count
  own_replaced v size some = record {
    each = each_put v size;
    count_is = length_put v ∙ (ap (λ b. cond b (len held) (len held + 1)) some ∙ (len-entries held ∙ own.count_is));
  }

  pub put : (v : List ℕ) → entry_size (k, v) ≤ largest_entry → map_of (insert held (0, k) v) ≡ insert (map_of held) k v
  put v size =
      let new : AreOwn (insert held (0, k) v) (length (entries (insert held (0, k) v))) = record { each = each_put v size; count_is = refl } in
      same_map nat_list_cmp_total bytes_same _ _ (λ q.
      sym (got (insert held (0, k) v) _ new q)
      ∙ (get-insert place_cmp_total held (0, k) v (0, q)
      ∙ (ap (cond (eq_by_cmp by_bytes q k) (Some v)) (got held count own q) ∙ sym (get-insert nat_list_cmp_total (map_of held) k v q))))

  each_left : Own (entries (remove held (0, k)))
  each_left =
      let same : from_sorted (entries held) ≡ held = same_entries_map _ _ (entries-from_sorted place_cmp (entries held) (entries_sorted held)) in
      let left : entries (remove held (0, k)) ≡ without (0, k) (entries held) =
      sym (ap (λ m. entries (remove m (0, k))) same)
      ∙ (sym (ap entries (lists.removed (entries held) (entries_sorted held) (0, k)))
      ∙ entries-from_sorted place_cmp (without (0, k) (entries held)) (lists.sorted_without (entries held) (entries_sorted held) (0, k))) in
      subst Own (sym left) (own_where (λ x. not (eq_by_cmp place_cmp (0, k) x)) (entries held) own.each)

  pub own_removed : IsSome (get (map_of held) k) → AreOwn (remove held (0, k)) (count - 1)
  own_removed some = record {
    each = each_left;
    count_is =
        sym (len-entries (remove held (0, k)))
        ∙ (len-remove place_cmp_total held (0, k)
        ∙ (ap (λ o. cond (is_some o) (len held - 1) (len held)) (got held count own k)
        ∙ (ap (λ b. cond b (len held - 1) (len held)) some ∙ ap (λ n. n - 1) (len-entries held ∙ own.count_is))));
  }

  pub removed : map_of (remove held (0, k)) ≡ remove (map_of held) k
  removed =
      let new : AreOwn (remove held (0, k)) (length (entries (remove held (0, k)))) = record { each = each_left; count_is = refl } in
      same_map nat_list_cmp_total bytes_same _ _ (λ q.
      sym (got (remove held (0, k)) _ new q)
      ∙ (get-remove place_cmp_total held (0, k) (0, q)
      ∙ (ap (cond (eq_by_cmp by_bytes q k) None) (got held count own q) ∙ sym (get-remove nat_list_cmp_total (map_of held) k q))))

-- ---- the count of entries

pub popped : {A : Type 0} (r : Option A) (old new : ℕ) → MatchOption r ((old ≡ 0) × (new ≡ 0)) (λ _. new + 1 ≡ old) → new ≡ old - 1
popped None old new is = omega (arith, is.0, is.1)
popped (Some x) old new is = omega (arith, is)
