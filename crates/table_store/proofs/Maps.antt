-- Maps as sorted lists: what an edit of the list does to the map.
use Rattle.std.specs.Prelude.{◌≡◌, ◌≢◌, ℕ, zero, suc, ◌<◌, ◌≤◌, Bool, true, false, cond, not, T, List, Some, None, IsSome, is_some, slice_get, slice_index_or, length, [], ◌∷◌}
use mathlib.Core.Path.{refl, sym, ap, subst, ◌∙◌}
use Rattle.std.proofs.Common.{arith, set}
use Rattle.std.proofs.lemmas.Bool.{cases_lt}
use mathlib.Core.Logic.{inl, inr}
use Rattle.std.specs.List as list
use Rattle.std.specs.FinMap.{IsAntisymmetric, is_sorted, get, entries, insert, remove, from_sorted, empty, nat_cmp-IsAntisymmetric, slice_cmp-IsAntisymmetric}
use Rattle.std.specs.FinMap.{get-entries, entries-from_sorted, entries_sorted, len-empty, len-entries, get-empty}
use Rattle.std.specs.declared.cmp.Ordering.{Ordering}
use Rattle.std.specs.declared.cmp.Ordering.TheVariants.{Less, Equal, Greater}
use Rattle.std.specs.Ordering.{nat_cmp, eq_by_cmp, is_eq, is_lt, is_le, is_ge, is_gt}
use Rattle.std.specs.Cmp.{tied_itself}
use Rattle.std.specs.Cmp.Lexicographic.{slice_cmp, nat_list_cmp_total}
use Rattle.iv_types.specs.Maps.{Map, Entry, first_where, entry_at, entry_after}
use Rattle.table_store.specs.Lists.{IsPlace, Listed, map_at}
use Rattle.table_store.proofs.Edits as edits
use Rattle.table_store.proofs.Edits.{not_some}
use Rattle.table_store.proofs.Places.{HasKey, first_at_place, has_key_is, has_key_within, key_is, equal, find_from, from_key, value_at}

abbrev pub by_bytes : List ℕ → List ℕ → Ordering
by_bytes = slice_cmp nat_cmp

pub bytes_same : IsAntisymmetric by_bytes
bytes_same = slice_cmp-IsAntisymmetric nat_cmp-IsAntisymmetric

ge_not_lt : (r : Ordering) → is_ge r ≡ not (is_lt r)
ge_not_lt Less = refl
ge_not_lt Equal = refl
ge_not_lt Greater = refl

gt_not_le : (r : Ordering) → is_gt r ≡ not (is_le r)
gt_not_le Less = refl
gt_not_le Equal = refl
gt_not_le Greater = refl

-- the map of a sorted list
abbrev pub made : List Entry → Map
made es = from_sorted es

not_true : (b : Bool) → (b ≡ true → ⊥) → b ≡ false
not_true true f = absurd (f refl)
not_true false f = refl

not_tied : (k found : List ℕ) → found ≢ k → eq_by_cmp by_bytes k found ≡ false
not_tied k found other = not_true _ (λ t. other (sym (bytes_same k found (equal _ t))))

abbrev pub IsPlaceOf : List ℕ → List Entry → ℕ → Type 0
IsPlaceOf k es i = IsPlace (λ x. is_lt (by_bytes x k)) es i

module _ (es : List Entry) (sorted : T (is_sorted by_bytes es)) (k : List ℕ) (i : ℕ) where
  same_list : entries (made es) ≡ es
  same_list = entries-from_sorted by_bytes es sorted

  -- ---- reading

  pub entry_at_place : IsPlaceOf k es i → entry_at (made es) k ≡ slice_get es i
  entry_at_place p = ap (first_where (λ x. is_ge (by_bytes x k))) same_list ∙ first_at_place _ _ (λ x. ge_not_lt (by_bytes x k)) es i p

  pub entry_after_place : IsPlace (λ x. is_le (by_bytes x k)) es i → entry_after (made es) k ≡ slice_get es i
  entry_after_place p = ap (first_where (λ x. is_gt (by_bytes x k))) same_list ∙ first_at_place _ _ (λ x. gt_not_le (by_bytes x k)) es i p

  pub get_found : IsPlaceOf k es i → (d : Entry) → i < length es → (slice_index_or es i d).0 ≡ k → get (made es) k ≡ Some (slice_index_or es i d).1
  get_found p d l e = edits.get_here nat_list_cmp_total bytes_same es sorted k i p (has_key_is k es i d l e) d

  has_key : IsPlaceOf k es i → IsSome (get (made es) k) → HasKey k es i
  has_key p some = edits.has_key nat_list_cmp_total bytes_same es sorted k i p some

  pub within : IsPlaceOf k es i → IsSome (get (made es) k) → i < length es
  within p some = has_key_within k es i (has_key p some)

  pub key_here : IsPlaceOf k es i → IsSome (get (made es) k) → (d : Entry) → (slice_index_or es i d).0 ≡ k
  key_here p some d = key_is k es i d (has_key p some)

  pub get_present : IsPlaceOf k es i → IsSome (get (made es) k) → (d : Entry) → get (made es) k ≡ Some (slice_index_or es i d).1
  get_present p some d = edits.get_here nat_list_cmp_total bytes_same es sorted k i p (has_key p some) d

  pub get_other : IsPlaceOf k es i → (d : Entry) → (i < length es → (slice_index_or es i d).0 ≢ k) → get (made es) k ≡ None
  get_other p d other = not_some _ (λ some. other (within p some) (key_is k es i d (has_key p some)))

  -- ---- edits

  pub inserted : IsPlaceOf k es i → get (made es) k ≡ None → (v : List ℕ)
      → T (is_sorted by_bytes (list.insert es i (k, v))) × (made (list.insert es i (k, v)) ≡ insert (made es) k v)
  inserted p none v = edits.inserted nat_list_cmp_total bytes_same es sorted k i p none v

  pub replaced : IsPlaceOf k es i → IsSome (get (made es) k) → (v : List ℕ) (d : Entry)
      → T (is_sorted by_bytes (set es i ((slice_index_or es i d).0, v))) × (made (set es i ((slice_index_or es i d).0, v)) ≡ insert (made es) k v)
  replaced p some v d = edits.replaced nat_list_cmp_total bytes_same es sorted k i p (has_key p some) v d

  pub removed : IsPlaceOf k es i → IsSome (get (made es) k)
      → T (is_sorted by_bytes (list.remove es i)) × (made (list.remove es i) ≡ remove (made es) k)
  removed p some = edits.removed nat_list_cmp_total bytes_same es sorted k i p (has_key p some)

-- no entries
pub made_none : (es : List Entry) → es ≡ [] → made es ≡ empty
made_none es e = edits.made_none by_bytes es e

-- ---- the entry at a place

pub read_here : (es : List Entry) (i : ℕ) (e : Entry) (k v : List ℕ) → i < length es → e ≡ slice_index_or es i e → k ≡ e.0 → v ≡ e.1 → slice_get es i ≡ Some (k, v)
read_here [] i e k v l is key value = absurd (omega arith)
read_here (x ∷ es) zero e k v l is key value =
    let a : k ≡ x.0 = key ∙ ap (λ (y : Entry). y.0) is in
    let b : v ≡ x.1 = value ∙ ap (λ (y : Entry). y.1) is in
    sym (λ j. Some (a j, b j))
read_here (x ∷ es) (suc i) e k v l is key value = read_here es i e k v (omega arith) is key value

pub none_here : (es : List Entry) (i : ℕ) → length es ≤ i → slice_get es i ≡ None
none_here [] i l = refl
none_here (x ∷ es) zero l = absurd (omega arith)
none_here (x ∷ es) (suc i) l = none_here es i (omega arith)

-- ---- a look-up by the first entry from its key on

first_from : (k : List ℕ) (es : List Entry) → from_key by_bytes k es ≡ first_where (λ x. is_ge (by_bytes x k)) es
first_from k [] = refl
first_from k (e ∷ es) = ap (λ r. cond (is_ge (by_bytes e.0 k)) (Some e) r) (first_from k es)

pub get_at : (m : Map) (k : List ℕ) → get m k ≡ value_at by_bytes k (entry_at m k)
get_at m k = get-entries m k ∙ (find_from nat_list_cmp_total bytes_same k (entries m) (entries_sorted m) ∙ ap (value_at by_bytes k) (first_from k (entries m)))

pub get_same : (m : Map) (k found v : List ℕ) → Some (found, v) ≡ entry_at m k → found ≡ k → Some v ≡ get m k
get_same m k found v is e = sym (get_at m k ∙ (ap (value_at by_bytes k) (sym is) ∙ ap (λ r. cond (is_eq r) (Some v) None) (subst (λ x. by_bytes k x ≡ Equal) (sym e) (tied_itself nat_list_cmp_total k))))

pub get_else : (m : Map) (k found v : List ℕ) → Some (found, v) ≡ entry_at m k → found ≢ k → None ≡ get m k
get_else m k found v is other = sym (get_at m k ∙ (ap (value_at by_bytes k) (sym is) ∙ ap (λ b. cond b (Some v) None) (not_tied k found other)))

pub get_end : (m : Map) (k : List ℕ) → None ≡ entry_at m k → None ≡ get m k
get_end m k is = sym (get_at m k ∙ ap (value_at by_bytes k) (sym is))

-- ---- a map without entries

no_length : (es : List Entry) → length es ≡ 0 → es ≡ []
no_length [] e = refl
no_length (x ∷ es) e = absurd (omega arith)

pub entries-empty : entries (empty {X = List ℕ} {R = by_bytes}) ≡ []
entries-empty = no_length _ (sym (len-entries empty) ∙ len-empty by_bytes (List ℕ))

pub empty_at : (k : List ℕ) → entry_at empty k ≡ None
empty_at k = ap (first_where (λ x. is_ge (by_bytes x k))) entries-empty

pub empty_after : (k : List ℕ) → entry_after empty k ≡ None
empty_after k = ap (first_where (λ x. is_gt (by_bytes x k))) entries-empty

-- ---- the maps of several lists

pub past_lists : (lists : List Listed) (i : ℕ) → length lists ≤ i → map_at lists i ≡ empty
past_lists [] i l = refl
past_lists (x ∷ lists) zero l = absurd (omega arith)
past_lists (x ∷ lists) (suc i) l = past_lists lists i (omega arith)

pub held_within : (lists : List Listed) (i : ℕ) (k : List ℕ) → IsSome (get (map_at lists i) k) → i < length lists
held_within lists i k some = elim (cases_lt i (length lists)) [
  | inl lt ↦ lt
  | inr ge ↦ absurd (let no : is_some {T = List ℕ} None ≡ true = sym (ap is_some (ap (λ (m : Map). get m k) (past_lists lists i ge) ∙ get-empty by_bytes k)) ∙ some in cc)
]
