-- Lists of entries at places whose number is 0, and the same entries under the bytes of their places alone.
use Rattle.std.specs.Prelude.{◌≡◌, ◌≤◌, ℕ, Bool, true, false, cond, not, ◌&&◌, List, [], ◌∷◌, map, Option, Some}
use mathlib.Core.Path.{refl, ap, subst, ◌∙◌}
use Rattle.std.specs.List.{AllByRecursion}
use Rattle.std.specs.Option.{option_map}
use Rattle.std.specs.declared.cmp.Ordering.{Ordering}
use Rattle.std.specs.declared.cmp.Ordering.TheVariants.{Less, Equal, Greater}
use Rattle.std.specs.Ordering.{nat_cmp, ordering_then, ordering_reverse, is_eq, is_lt, is_gt, is_ge}
use Rattle.std.specs.Cmp.Lexicographic.{nat_list_cmp_total}
use Rattle.std.specs.FinMap.{find, put, is_sorted}
use Rattle.std.specs.FinMap.Entries.{by_order, below_all, where_key}
use Rattle.table_laws.specs.Place.{Place, place_cmp}
use Rattle.table_laws.proofs.Place.{place_cmp-IsAntisymmetric}
use Rattle.spare_map.specs.Trees.{is_from}
use Rattle.spare_map.specs.Trees as trees
use Rattle.iv_types.specs.Maps as maps
use Rattle.iv_types.specs.Maps.{Entry, entry_size}
use Rattle.table_store.specs.Lists.{largest_entry}
use Rattle.table_store.proofs.Maps.{by_bytes}
use Rattle.tree_maps.specs.Keyed.{keyed, IsOwn}

-- entries under places
abbrev pub Placed : Type 0
Placed = List (Place × List ℕ)

abbrev pub Own : Placed → Type 0
Own es = AllByRecursion IsOwn es

-- the order of two places with one number is that of their bytes
pub same_order : (x y : Place) → x.0 ≡ 0 → y.0 ≡ 0 → place_cmp x y ≡ by_bytes x.1 y.1
same_order x y a b =
    ap (λ n. ordering_then (nat_cmp n y.0) (by_bytes x.1 y.1)) a ∙ ap (λ n. ordering_then (nat_cmp 0 n) (by_bytes x.1 y.1)) b

-- ---- what stands under a key

pub find_keyed : (k : List ℕ) (es : Placed) → Own es → find place_cmp (0, k) es ≡ find by_bytes k (map keyed es)
find_keyed k [] own = refl
find_keyed k (e ∷ es) own =
    ap (λ r. cond (is_eq r) (Some e.1) (find place_cmp (0, k) es)) (same_order (0, k) e.0 refl own.0.number)
    ∙ ap (cond (is_eq (by_bytes k e.0.1)) (Some e.1)) (find_keyed k es own.1)

-- ---- the order

below_keyed : (x : Place) (es : Placed) → x.0 ≡ 0 → Own es → below_all place_cmp x es ≡ below_all by_bytes x.1 (map keyed es)
below_keyed x [] zero own = refl
below_keyed x (e ∷ es) zero own =
    ap (λ r. is_lt r && below_all place_cmp x es) (same_order x e.0 zero own.0.number)
    ∙ ap (λ b. is_lt (by_bytes x.1 e.0.1) && b) (below_keyed x es zero own.1)

pub sorted_keyed : (es : Placed) → Own es → is_sorted place_cmp es ≡ is_sorted by_bytes (map keyed es)
sorted_keyed [] own = refl
sorted_keyed (e ∷ es) own =
    ap (λ b. b && is_sorted place_cmp es) (below_keyed e.0 es own.0.number own.1)
    ∙ ap (λ b. below_all by_bytes e.0.1 (map keyed es) && b) (sorted_keyed es own.1)

-- ---- edits

pub own_put : (k v : List ℕ) (es : Placed) → entry_size (k, v) ≤ largest_entry → Own es → Own (put place_cmp (0, k) v es)
own_put k v [] size own = (record { number = refl; size = size }, tt)
own_put k v (e ∷ es) size own =
    elim (place_cmp (0, k) e.0) as (λ r. place_cmp (0, k) e.0 ≡ r → Own (by_order r (((0, k), v) ∷ e ∷ es) ((e.0, v) ∷ es) (e ∷ put place_cmp (0, k) v es))) [
      | Less ↦ λ is. (record { number = refl; size = size }, own)
      | Equal ↦ λ is.
          let same : (0, k) ≡ e.0 = place_cmp-IsAntisymmetric (0, k) e.0 is in
          (record { number = own.0.number; size = subst (λ (x : Place). entry_size (x.1, v) ≤ largest_entry) same size }, own.1)
      | Greater ↦ λ is. (own.0, own_put k v es size own.1)
    ] refl

pub own_where : (test : Place → Bool) (es : Placed) → Own es → Own (where_key place_cmp test es)
own_where test [] own = tt
own_where test (e ∷ es) own =
    let rest = own_where test es own.1 in
    elim (test e.0) as (λ b. Own (cond b (e ∷ where_key place_cmp test es) (where_key place_cmp test es))) [ true ↦ (own.0, rest) | false ↦ rest ]

-- ---- the first entry from a key on

not_greater : (r : Ordering) → not (is_gt (ordering_reverse r)) ≡ is_ge r
not_greater Less = refl
not_greater Equal = refl
not_greater Greater = refl

is_less : (r : Ordering) → is_lt (ordering_reverse r) ≡ is_gt r
is_less Less = refl
is_less Equal = refl
is_less Greater = refl

turned : (k : List ℕ) (x : Place) → x.0 ≡ 0 → place_cmp (0, k) x ≡ ordering_reverse (by_bytes x.1 k)
turned k x zero = same_order (0, k) x refl zero ∙ nat_list_cmp_total.antisymm k x.1

pub from_at : (k : List ℕ) (x : Place) → x.0 ≡ 0 → is_from false (0, k) x ≡ is_ge (by_bytes x.1 k)
from_at k x zero = ap (λ r. not (is_gt r)) (turned k x zero) ∙ not_greater (by_bytes x.1 k)

pub from_after : (k : List ℕ) (x : Place) → x.0 ≡ 0 → is_from true (0, k) x ≡ is_gt (by_bytes x.1 k)
from_after k x zero = ap is_lt (turned k x zero) ∙ is_less (by_bytes x.1 k)

either : (b : Bool) (e : Place × List ℕ) (o : Option (Place × List ℕ)) (rest : Option Entry) → option_map keyed o ≡ rest
    → option_map keyed (cond b (Some e) o) ≡ cond b (Some (keyed e)) rest
either true e o rest is = refl
either false e o rest is = is

pub first_keyed : (test : Place → Bool) (pass : List ℕ → Bool) → ((x : Place) → x.0 ≡ 0 → test x ≡ pass x.1) → (es : Placed) → Own es
    → option_map keyed (trees.first_where test es) ≡ maps.first_where pass (map keyed es)
first_keyed test pass is [] own = refl
first_keyed test pass is (e ∷ es) own =
    ap (λ b. option_map keyed (cond b (Some e) (trees.first_where test es))) (is e.0 own.0.number)
    ∙ either (pass e.0.1) e (trees.first_where test es) (maps.first_where pass (map keyed es)) (first_keyed test pass is es own.1)
