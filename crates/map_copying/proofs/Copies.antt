-- An index that is filled with the entries of a map is that map.
use Rattle.std.specs.Prelude.{◌≡◌, ◌≢◌, ℕ, ◌+◌, ◌*◌, ◌<◌, ◌≤◌, ◌^◌, cond, T, List, [], ◌∷◌, length, sum_by, Option, Some, None, refl}
use Rattle.std.specs.List.{AllByRecursion}
use Rattle.std.specs.FinMap.{get, insert, empty, entries, find, is_sorted, get-entries, get-empty, get-insert, entries_sorted, same_map}
use Rattle.std.specs.FinMap.Entries.{below_all}
use Rattle.std.specs.Ordering.{eq_by_cmp}
use Rattle.std.specs.Cmp.{tied_itself}
use Rattle.std.specs.Cmp.Lexicographic.{nat_list_cmp_total}
use Rattle.std.specs.declared.cmp.Ordering.TheVariants.{Less, Equal}
use mathlib.Core.Path.{sym, ap, subst, ◌∙◌}
use Rattle.std.proofs.Common.{arith}
use Rattle.iv_types.specs.declared.lock.IndexEntry.{IndexEntry}
use Rattle.iv_types.specs.Maps.{Map, Entry, CanHold, IsWithin, entry_size, map_size, used}
use Rattle.iv_types.proofs.MapSizes.{sums_cons}
use Rattle.table_store.specs.Changes.{sizes}
use Rattle.table_store.specs.Filling.{filled, HaveOwnKeys, CanPutAll}
use Rattle.table_store.proofs.Fresh.{Each, each_found}
use Rattle.table_store.proofs.Maps.{by_bytes, bytes_same}
use Rattle.table_store.proofs.Places.{first_below, rest_sorted, first, second, less}
use Rattle.table_store.proofs.Rooms.{sizes_cons}
use Rattle.map_copying.specs.Entries.{entries_in}

-- what is found among the entries
get_filled : (index : ℕ) (es : List Entry) (q : List ℕ) → get (filled empty (entries_in index es)) q ≡ find by_bytes q es
get_filled index [] q = get-empty by_bytes q
get_filled index (e ∷ es) q =
    get-insert nat_list_cmp_total (filled empty (entries_in index es)) e.0 e.1 q ∙ ap (λ (o : Option (List ℕ)). cond (eq_by_cmp by_bytes q e.0) (Some e.1) o) (get_filled index es q)

pub filled_is : (index : ℕ) (old m : Map) → old ≡ empty → filled old (entries_in index (entries m)) ≡ m
filled_is index old m none =
    ap (λ (o : Map). filled o (entries_in index (entries m))) none
    ∙ same_map nat_list_cmp_total bytes_same (filled empty (entries_in index (entries m))) m (λ q. get_filled index (entries m) q ∙ sym (get-entries m q))

-- ---- they can be put in

apart_from : (index : ℕ) (a : Entry) (bs : List Entry) → T (below_all by_bytes a.0 bs) → AllByRecursion (λ (x : IndexEntry). x.key ≢ a.0) (entries_in index bs)
apart_from index a [] below = tt
apart_from index a (b ∷ bs) below = (
  λ same.
      let is_less : by_bytes a.0 b.0 ≡ Less = less _ (first _ _ below) in
      let tied : by_bytes a.0 a.0 ≡ Equal = tied_itself nat_list_cmp_total a.0 in
      let here : by_bytes a.0 a.0 ≡ Less = ap (by_bytes a.0) (sym same) ∙ is_less in
      let bad : Less ≡ Equal = sym here ∙ tied in
      cc,
  apart_from index a bs (second _ _ below),
)

own_keys : (index : ℕ) (bs : List Entry) → T (is_sorted by_bytes bs) → HaveOwnKeys (entries_in index bs)
own_keys index [] s = tt
own_keys index (a ∷ bs) s = (apart_from index a bs (first_below by_bytes a bs s), own_keys index bs (rest_sorted by_bytes a bs s))

none_there : (index : ℕ) (es : List Entry) (m : Map) → m ≡ empty → AllByRecursion (λ (e : IndexEntry). get m e.key ≡ None) (entries_in index es)
none_there index [] m is = tt
none_there index (e ∷ es) m is = (ap (λ (x : Map). get x e.0) is ∙ get-empty by_bytes e.0, none_there index es m is)

held_each : (index : ℕ) (es : List Entry) → Each (CanHold index) es → AllByRecursion (λ (e : IndexEntry). CanHold index e.key e.value) (entries_in index es)
held_each index [] h = tt
held_each index (e ∷ es) h = (h.0, held_each index es h.1)

-- they count what the map does
pub sizes_are : (index : ℕ) (es : List Entry) → sizes (entries_in index es) ≡ sum_by entry_size es
sizes_are index [] = refl
sizes_are index (e ∷ es) =
    let rest = sizes_are index es in
    let one = sizes_cons (record { index = index; key = e.0; value = e.1 }) (entries_in index es) in
    let other = sums_cons e es in
    omega (arith, rest, one, other)

-- each counts 8 bytes at least
pub many_fewer : (index : ℕ) (es : List Entry) → 8 * length (entries_in index es) ≤ sum_by entry_size es
many_fewer index [] = omega arith
many_fewer index (e ∷ es) = let rest = many_fewer index es in let one = sums_cons e es in omega (arith, rest, one)

pub can_copy : (index : ℕ) (maps : ℕ → Map) (m : Map) (room most : ℕ) (limit : Option ℕ) → maps index ≡ empty → ((key value : List ℕ) → get m key ≡ Some value → CanHold index key value) → length (entries_in index (entries m)) ≤ room
    → limit ≡ Some most → used maps + map_size m ≤ most → CanPutAll index maps room limit (entries_in index (entries m))
can_copy index maps m room most limit none held places is fits = record {
  apart = own_keys index (entries m) (entries_sorted m);
  absent = none_there index (entries m) (maps index) none;
  held = held_each index (entries m) (each_found nat_list_cmp_total bytes_same (CanHold index) (entries m) (entries_sorted m) (λ k v e. held k v (get-entries m k ∙ e)));
  places = places;
  within = within;
}
  where
    total : used maps + sizes (entries_in index (entries m)) ≤ most
    total = let same = sizes_are index (entries m) in omega (arith, same, fits)

    within : IsWithin limit (used maps + sizes (entries_in index (entries m)))
    within = subst (λ o. IsWithin o (used maps + sizes (entries_in index (entries m)))) (sym is) total
