-- What the entries of maps count, through a change of one entry.
use Rattle.std.proofs.Common.{ℕ, suc, zero, ◌≡◌, ◌≢◌, ◌+◌, ◌*◌, ◌<◌, ◌≤◌, inl, inr, Bool, true, false, cond, Option, Some, None, List, [], ◌∷◌, length, sum_by, refl, sym, ap, ◌∙◌, arith}
use Rattle.std.specs.declared.cmp.Ordering.{Ordering}
use Rattle.std.specs.declared.cmp.Ordering.TheVariants.{Less, Equal, Greater}
use Rattle.std.specs.Ordering.{nat_cmp, is_eq, eq_by_cmp}
use Rattle.std.specs.Cmp.{eq_by_cmp_equiv}
use Rattle.std.specs.Cmp.Lexicographic.{slice_cmp}
use Rattle.std.specs.FinMap.{IsAntisymmetric, get, insert, remove, same_map, get-insert, get-remove, get-entries, entries-insert, entries, nat_cmp-IsAntisymmetric, slice_cmp-IsAntisymmetric}
use Rattle.std.specs.FinMap.Entries.{find, put, by_order}
use Rattle.std.proofs.lemmas.Cmp.{nat_list_cmp_total}
use Rattle.std.proofs.lemmas.Bool.{cases_eq, eq-eqb, ne_eqb}
use Rattle.std.proofs.lemmas.List.Sums.{sum_by-cons}
use Rattle.iv_types.specs.Maps.{Map, Entry, entry_size, map_size, size_below, used, with_map, last_index}

abbrev key_cmp : List ℕ → List ℕ → Ordering
key_cmp = slice_cmp nat_cmp

same_key : IsAntisymmetric (slice_cmp nat_cmp)
same_key = slice_cmp-IsAntisymmetric nat_cmp-IsAntisymmetric

-- ---- sums over the indexes

pub size-none : (maps : ℕ → Map) → size_below maps 0 ≡ 0
unfolding size_below
size-none maps = refl

pub size-more : (maps : ℕ → Map) (n : ℕ) → size_below maps (suc n) ≡ size_below maps n + map_size (maps n)
unfolding size_below
size-more maps n = refl

-- where each map counts 0, all do
pub size_nothing : (maps : ℕ → Map) (n : ℕ) → ((i : ℕ) → map_size (maps i) ≡ 0) → size_below maps n ≡ 0
size_nothing maps zero f = size-none maps
size_nothing maps (suc n) f = omega (arith, size-more maps n, size_nothing maps n f, f n)

-- where each map counts at most so much, all do so many times as much
pub size_most : (maps : ℕ → Map) (most n : ℕ) → ((i : ℕ) → map_size (maps i) ≤ most) → size_below maps n ≤ n * most
size_most maps most zero f = omega (arith, size-none maps)
size_most maps most (suc n) f = omega (arith, size-more maps n, size_most maps most n f, f n)

-- maps that are equal below n count the same
pub size_same : (a b : ℕ → Map) (n : ℕ) → ((i : ℕ) → i < n → a i ≡ b i) → size_below a n ≡ size_below b n
size_same a b zero f = size-none a ∙ sym (size-none b)
size_same a b (suc n) f = omega (arith, size-more a n, size-more b n, size_same a b n (λ i lt. f i (omega arith)), ap map_size (f n (omega arith)))

pub used_same : (a b : ℕ → Map) → ((i : ℕ) → a i ≡ b i) → used a ≡ used b
used_same a b f = size_same a b (suc last_index) (λ i lt. f i)

pub with_here : (maps : ℕ → Map) (i : ℕ) (m : Map) → with_map maps i m i ≡ m
with_here maps i m = ap (λ b. cond b m (maps i)) (eq-eqb i i refl)

pub with_other : (maps : ℕ → Map) (i j : ℕ) (m : Map) → j ≢ i → with_map maps i m j ≡ maps j
with_other maps i j m ne = ap (λ b. cond b m (maps j)) (ne_eqb j i ne)

-- what maps count that differ in one index alone
size_moved : (old new : ℕ → Map) (i n : ℕ) → i < n → ((j : ℕ) → j ≢ i → new j ≡ old j) → size_below new n + map_size (old i) ≡ size_below old n + map_size (new i)
size_moved old new i zero lt others = absurd (omega arith)
size_moved old new i (suc n) lt others = elim (cases_eq i n) [
  | inl e ↦
      let before : size_below new n ≡ size_below old n = size_same new old n (λ j h. let ne : j ≢ i = omega arith in others j ne) in
      omega (arith, size-more new n, size-more old n, ap (λ j. map_size (old j)) e, ap (λ j. map_size (new j)) e)
  | inr ne ↦
      let there : map_size (new n) ≡ map_size (old n) = ap map_size (others n (λ x. ne (sym x))) in
      omega (arith, size-more new n, size-more old n, size_moved old new i n (omega arith) others)
]

pub used_moved : (old new : ℕ → Map) (i : ℕ) → i ≤ last_index → ((j : ℕ) → j ≢ i → new j ≡ old j) → used new + map_size (old i) ≡ used old + map_size (new i)
used_moved old new i le others = size_moved old new i (suc last_index) (omega arith) others

-- what all entries count with another map in place of one
pub used_with : (maps : ℕ → Map) (i : ℕ) (m : Map) → i ≤ last_index → used (with_map maps i m) + map_size (maps i) ≡ used maps + map_size m
used_with maps i m le = omega (arith, used_moved maps (with_map maps i m) i le (λ j ne. with_other maps i j m ne), ap map_size (with_here maps i m))

-- ---- one map

pub sums_cons : (e : Entry) (es : List Entry) → sum_by entry_size (e ∷ es) ≡ entry_size e + sum_by entry_size es
sums_cons e es = sum_by-cons entry_size e es

sum-put : (k v : List ℕ) (es : List Entry) → find key_cmp k es ≡ None → sum_by entry_size (put key_cmp k v es) ≡ sum_by entry_size es + (length k + length v + 8)
sum-put k v [] none = omega (arith, sums_cons (k, v) [])
sum-put k v (e ∷ es) none = elim (key_cmp k e.0) as (λ r. key_cmp k e.0 ≡ r → sum_by entry_size (by_order r ((k, v) ∷ e ∷ es) ((e.0, v) ∷ es) (e ∷ put key_cmp k v es)) ≡ sum_by entry_size (e ∷ es) + (length k + length v + 8)) [
  | Less ↦ λ is. let g : sum_by entry_size ((k, v) ∷ e ∷ es) ≡ sum_by entry_size (e ∷ es) + (length k + length v + 8) = omega (arith, sums_cons (k, v) (e ∷ es)) in g
  | Equal ↦ λ is. let some : Some e.1 ≡ None = sym (ap (λ r. cond (is_eq r) (Some e.1) (find key_cmp k es)) is) ∙ none in absurd (cc some)
  | Greater ↦ λ is.
      let rest : find key_cmp k es ≡ None = sym (ap (λ r. cond (is_eq r) (Some e.1) (find key_cmp k es)) is) ∙ none in
      let g : sum_by entry_size (e ∷ put key_cmp k v es) ≡ sum_by entry_size (e ∷ es) + (length k + length v + 8) = omega (arith, sums_cons e (put key_cmp k v es), sums_cons e es, sum-put k v es rest) in g
] refl

pub size_insert : (m : Map) (k v : List ℕ) → get m k ≡ None → map_size (insert m k v) ≡ map_size m + (length k + length v + 8)
size_insert m k v none = ap (sum_by entry_size) (entries-insert nat_list_cmp_total m k v) ∙ sum-put k v (entries m) (sym (get-entries m k) ∙ none)

-- ---- an entry in place of one that is there

over_none : (b : Bool) (v : List ℕ) (x : Option (List ℕ)) → cond b (Some v) (cond b None x) ≡ cond b (Some v) x
over_none true v x = refl
over_none false v x = refl

-- an entry put where one was taken
pub insert_removed : (m : Map) (k v : List ℕ) → insert (remove m k) k v ≡ insert m k v
insert_removed m k v = same_map nat_list_cmp_total same_key _ _ (λ q.
    get-insert nat_list_cmp_total (remove m k) k v q
    ∙ ap (λ z. cond (eq_by_cmp key_cmp q k) (Some v) z) (get-remove nat_list_cmp_total m k q)
    ∙ over_none (eq_by_cmp key_cmp q k) v (get m q)
    ∙ sym (get-insert nat_list_cmp_total m k v q))

pub get_removed : (m : Map) (k : List ℕ) → get (remove m k) k ≡ None
get_removed m k = get-remove nat_list_cmp_total m k k ∙ ap (λ b. cond b None (get m k)) ((eq_by_cmp_equiv nat_list_cmp_total).refl k)

is_tied : (r : Ordering) → is_eq r ≡ true → r ≡ Equal
is_tied Less e = absurd (cc e)
is_tied Equal e = refl
is_tied Greater e = absurd (cc e)

equal_of : (a b : List ℕ) → eq_by_cmp key_cmp a b ≡ true → a ≡ b
equal_of a b e = same_key a b (is_tied (key_cmp a b) e)

restored_at : (m : Map) (k w q : List ℕ) (b : Bool) → get m k ≡ Some w → eq_by_cmp key_cmp q k ≡ b → cond b (Some w) (cond b None (get m q)) ≡ get m q
restored_at m k w q true some e = sym (ap (get m) (equal_of q k e) ∙ some)
restored_at m k w q false some e = refl

-- an entry put back where it was taken
pub restored : (m : Map) (k w : List ℕ) → get m k ≡ Some w → insert (remove m k) k w ≡ m
restored m k w some = same_map nat_list_cmp_total same_key _ _ (λ q.
    get-insert nat_list_cmp_total (remove m k) k w q
    ∙ ap (λ z. cond (eq_by_cmp key_cmp q k) (Some w) z) (get-remove nat_list_cmp_total m k q)
    ∙ restored_at m k w q (eq_by_cmp key_cmp q k) some refl)

-- what a map counts less an entry that is there
pub size_remove : (m : Map) (k w : List ℕ) → get m k ≡ Some w → map_size (remove m k) + (length k + length w + 8) ≡ map_size m
size_remove m k w some = sym (size_insert (remove m k) k w (get_removed m k)) ∙ ap map_size (restored m k w some)

pub size_replaced : (m : Map) (k v w : List ℕ) → get m k ≡ Some w → map_size (insert m k v) + length w ≡ map_size m + length v
size_replaced m k v w some =
    omega (arith, size_remove m k w some, ap map_size (insert_removed m k v), size_insert (remove m k) k v (get_removed m k))

-- ---- all maps

-- what all entries count with one more
pub used_insert : (maps : ℕ → Map) (i : ℕ) (k v : List ℕ) → i ≤ last_index → get (maps i) k ≡ None → used (with_map maps i (insert (maps i) k v)) ≡ used maps + (length k + length v + 8)
used_insert maps i k v le none = omega (arith, used_with maps i (insert (maps i) k v) le, size_insert (maps i) k v none)

-- with another value under a key
pub used_present : (maps : ℕ → Map) (i : ℕ) (k v w : List ℕ) → i ≤ last_index → get (maps i) k ≡ Some w → used (with_map maps i (insert (maps i) k v)) + length w ≡ used maps + length v
used_present maps i k v w le some = omega (arith, used_with maps i (insert (maps i) k v) le, size_replaced (maps i) k v w some)

-- and with one less
pub used_remove : (maps : ℕ → Map) (i : ℕ) (k w : List ℕ) → i ≤ last_index → get (maps i) k ≡ Some w → used (with_map maps i (remove (maps i) k)) + (length k + length w + 8) ≡ used maps
used_remove maps i k w le some = omega (arith, used_with maps i (remove (maps i) k) le, size_remove (maps i) k w some)
