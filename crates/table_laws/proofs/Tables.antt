-- The laws of a table: what is read after a write, what a write does to a sum, and what is found among the rows that pass.
use Rattle.std.specs.Prelude.{◌≡◌, ◌≢◌, ◌↔◌, ℕ, zero, suc, ◌<◌, Bool, true, false, cond, not, T, ◌&&◌, List, [], ◌∷◌, length}
use Rattle.std.specs.Prelude.{ℤ, pos, ◌+ℤ◌, Option, Some, None, if◌then◌else◌, slice_index_or, Contains}
use mathlib.Core.Path.{refl, sym, ap, subst, ◌∙◌}
use Rattle.std.proofs.Common.{arith}
use Rattle.std.proofs.lemmas.Bool.{true≢false}
use Rattle.std.proofs.lemmas.Int.{ints}
use Rattle.std.specs.FinMap.{FinMap, empty, remove, get, entries, retain_keys, IsAntisymmetric}
use Rattle.std.specs.FinMap.{get-empty, get-insert, get-remove, get-retain_keys, get-entries, get-from_sorted}
use Rattle.std.specs.FinMap.{same_map, entries_sorted, entries-insert, entries-from_sorted, from_sorted, find, put, is_sorted}
use Rattle.std.specs.FinMap.Entries.{below_all, where_key, by_order, is_sorted-where_key, find-where_key, same_entries}
use Rattle.std.specs.declared.cmp.Ordering.{Ordering}
use Rattle.std.specs.declared.cmp.Ordering.TheVariants.{Less, Equal, Greater}
use Rattle.std.specs.Ordering.{eq_by_cmp, is_eq, is_lt}
use Rattle.std.specs.Cmp.{IsTotalOrder, tied_itself}
use Rattle.table_laws.specs.Table.{write, rows_where}
use Rattle.table_laws.specs.Sums.{sum_of, total, part, passing}

-- ---- tests

equal : (r : Ordering) → is_eq r ≡ true → r ≡ Equal
equal Less p = grind arith
equal Equal p = refl
equal Greater p = grind arith

not_true : (b : Bool) → (b ≡ true → ⊥) → b ≡ false
not_true true f = absurd (f refl)
not_true false f = refl

pub by_bool : {P : Type 0} (b : Bool) → (b ≡ true → P) → (b ≡ false → P) → P
by_bool true f g = f refl
by_bool false f g = g refl

first : (a b : Bool) → T (a && b) → T a
first true b p = tt
first false b p = p

second : (a b : Bool) → T (a && b) → T b
second true b p = p
second false b p = absurd p

less : (r : Ordering) → T (is_lt r) → r ≡ Less
less Less p = refl
less Equal p = absurd p
less Greater p = absurd p

both : (a b : Bool) → T a → T b → T (a && b)
both true b p q = q
both false b p q = p

turned : {A : Type 0} (b : Bool) (x y : A) → cond (not b) x y ≡ cond b y x
turned true x y = refl
turned false x y = refl

some_same : {A : Type 0} (x y : A) → Some x ≡ Some y → x ≡ y
some_same x y e = cc

-- a row that passes is the row, and its test is true
pub passing_some : {X : Type 0} (test : X → Bool) (found : Option X) (row : X)
    → passing test found ≡ Some row → (found ≡ Some row) × (test row ≡ true)
passing_some test None row e = (e, cc)
passing_some test (Some x) row e = by_bool (test x)
    (λ t.
    let is : x ≡ row = some_same x row (ap (λ b. cond b (Some x) None) (sym t) ∙ e) in
    (ap Some is, ap test (sym is) ∙ t))
    (λ t. let none : None ≡ Some row = ap (λ b. cond b (Some x) None) (sym t) ∙ e in (cc, cc))

pub passing_true : {X : Type 0} (test : X → Bool) (found : Option X) (row : X)
    → found ≡ Some row → test row ≡ true → passing test found ≡ Some row
passing_true test found row e t = ap (passing test) e ∙ ap (λ b. cond b (Some row) None) t

-- ---- the order of the entries

module _ {K : Type 0} (R : K → K → Ordering) {X : Type 0} where
  first_below : (e : K × X) (es : List (K × X)) → T (is_sorted R (e ∷ es)) → T (below_all R e.0 es)
  first_below e es h = first (below_all R e.0 es) (is_sorted R es) h

  rest_sorted : (e : K × X) (es : List (K × X)) → T (is_sorted R (e ∷ es)) → T (is_sorted R es)
  rest_sorted e es h = second (below_all R e.0 es) (is_sorted R es) h

  below_where : (x : K) (test : K → X → Bool) (es : List (K × X)) → T (below_all R x es) → T (below_all R x (rows_where test es))
  below_where x test [] h = tt
  below_where x test (e ∷ es) h =
      let rest = below_where x test es (second _ _ h) in
      elim (test e.0 e.1) as (λ b. T (below_all R x (cond b (e ∷ rows_where test es) (rows_where test es)))) [
        | true ↦ both _ _ (first _ _ h) rest
        | false ↦ rest
      ]

  sorted_where : (test : K → X → Bool) (es : List (K × X)) → T (is_sorted R es) → T (is_sorted R (rows_where test es))
  sorted_where test [] h = tt
  sorted_where test (e ∷ es) h =
      let rest = sorted_where test es (rest_sorted e es h) in
      elim (test e.0 e.1) as (λ b. T (is_sorted R (cond b (e ∷ rows_where test es) (rows_where test es)))) [
        | true ↦ both _ _ (below_where e.0 test es (first_below e es h)) rest
        | false ↦ rest
      ]

-- the rows that pass stand in the order of their keys
pub rows_where_sorted : {K : Type 0} {R : K → K → Ordering} {X : Type 0} (test : K → X → Bool) (m : FinMap R X)
    → T (is_sorted R (rows_where test (entries m)))
rows_where_sorted {R = R} test m = sorted_where R test (entries m) (entries_sorted m)

-- ---- keys

module _ {K : Type 0} {R : K → K → Ordering} (o : IsTotalOrder R) (same : IsAntisymmetric R) where
  pub same_key : (q k : K) → q ≡ k → eq_by_cmp R q k ≡ true
  same_key q k e = subst (λ x. is_eq (R q x) ≡ true) e (ap is_eq (tied_itself o q))

  pub other_key : (q k : K) → q ≢ k → eq_by_cmp R q k ≡ false
  other_key q k n = not_true _ (λ e. n (same q k (equal _ e)))

  -- a key is this one or another
  pub by_key : {P : Type 0} (q k : K) → (q ≡ k → P) → (q ≢ k → P) → P
  by_key {P = P} q k f g = by_bool (eq_by_cmp R q k)
      (λ e. f (same q k (equal _ e)))
      (λ e. g (λ i. true≢false (sym (same_key q k i) ∙ e)))

  alike : (p : K → Bool) (q x : K) → R q x ≡ Equal → p x ≡ p q
  alike p q x e = ap p (sym (same q x e))

  same_test : (q k : K) → eq_by_cmp R q k ≡ eq_by_cmp R k q
  same_test q k = by_key q k
      (λ e. same_key q k e ∙ sym (same_key k q (sym e)))
      (λ n. other_key q k n ∙ sym (other_key k q (λ e. n (sym e))))

module _ {K : Type 0} {R : K → K → Ordering} (o : IsTotalOrder R) (same : IsAntisymmetric R) {X : Type 0} where
  -- ---- what stands under a key after a write

  pub get-write_same : (m : FinMap R X) (k : K) (v : Option X) → get (write m k v) k ≡ v
  get-write_same m k None = get-remove o m k k ∙ ap (λ b. cond b None (get m k)) (same_key o same k k refl)
  get-write_same m k (Some x) = get-insert o m k x k ∙ ap (λ b. cond b (Some x) (get m k)) (same_key o same k k refl)

  pub get-write_other : (m : FinMap R X) (k : K) (v : Option X) (q : K) → q ≢ k → get (write m k v) q ≡ get m q
  get-write_other m k None q n = get-remove o m k q ∙ ap (λ b. cond b None (get m q)) (other_key o same q k n)
  get-write_other m k (Some x) q n = get-insert o m k x q ∙ ap (λ b. cond b (Some x) (get m q)) (other_key o same q k n)

  pub get-write_at : (m : FinMap R X) (k : K) (v : Option X) (q : K) → q ≡ k → get (write m k v) q ≡ v
  get-write_at m k v q e = ap (get (write m k v)) e ∙ get-write_same m k v

  -- tables with the same row under each key are one table
  pub same_table : (m n : FinMap R X) → ((q : K) → get m q ≡ get n q) → m ≡ n
  same_table m n h = same_map o same m n h

  -- of two writes under one key the last counts
  pub write_twice : (m : FinMap R X) (k : K) (a b : Option X) → write (write m k a) k b ≡ write m k b
  write_twice m k a b = same_table _ _ (λ q. by_key o same q k
      (λ e. get-write_at (write m k a) k b q e ∙ sym (get-write_at m k b q e))
      (λ n. get-write_other (write m k a) k b q n ∙ (get-write_other m k a q n ∙ sym (get-write_other m k b q n))))

  -- writes under two keys may change places
  pub write_apart : (m : FinMap R X) (k l : K) (a b : Option X) → k ≢ l → write (write m k a) l b ≡ write (write m l b) k a
  write_apart m k l a b apart = same_table _ _ (λ q. by_key o same q k
      (λ e.
      let other : q ≢ l = λ i. apart (sym e ∙ i) in
      get-write_other (write m k a) l b q other ∙ (get-write_at m k a q e ∙ sym (get-write_at (write m l b) k a q e)))
      (λ n. sym (get-write_other (write m l b) k a q n ∙ by_key o same q l
      (λ e. get-write_at m l b q e ∙ sym (get-write_at (write m k a) l b q e))
      (λ d. get-write_other m l b q d ∙ sym (get-write_other (write m k a) l b q d ∙ get-write_other m k a q n)))))

  -- to write what stands there changes nothing
  pub write_there : (m : FinMap R X) (k : K) (v : Option X) → get m k ≡ v → write m k v ≡ m
  write_there m k v is = same_table _ _ (λ q. by_key o same q k
      (λ e. get-write_at m k v q e ∙ (sym is ∙ ap (get m) (sym e)))
      (λ n. get-write_other m k v q n))

  -- to write what stood there before takes a write back
  pub write_back : (m : FinMap R X) (k : K) (v : Option X) → write (write m k v) k (get m k) ≡ m
  write_back m k v = write_twice m k v (get m k) ∙ write_there m k (get m k) refl

  -- ---- sorted lists of entries

  below_less : (x y : K) (es : List (K × X)) → R x y ≡ Less → T (below_all R y es) → T (below_all R x es)
  below_less x y [] p h = tt
  below_less x y (e ∷ es) p h = both _ _
      (subst (λ r. T (is_lt r)) (sym (o.trans x y e.0 p (less _ (first _ _ h)))) tt)
      (below_less x y es p (second _ _ h))

  below : (q : K) (es : List (K × X)) → T (below_all R q es) → find R q es ≡ None
  below q [] h = refl
  below q (e ∷ es) h = ap (λ r. cond (is_eq r) (Some e.1) (find R q es)) (less _ (first _ _ h)) ∙ below q es (second _ _ h)

  found_first : (e : K × X) (es : List (K × X)) → find R e.0 (e ∷ es) ≡ Some e.1
  found_first e es = ap (λ b. cond b (Some e.1) (find R e.0 es)) (same_key o same e.0 e.0 refl)

  found_later : (e : K × X) (es : List (K × X)) (q : K) → q ≢ e.0 → find R q (e ∷ es) ≡ find R q es
  found_later e es q n = ap (λ b. cond b (Some e.1) (find R q es)) (other_key o same q e.0 n)

  -- what is found is in the list
  contains_found : (es : List (K × X)) (k : K) (x : X) → find R k es ≡ Some x → Contains es (k, x)
  contains_found [] k x e = absurd (cc)
  contains_found (e ∷ es) k x is = by_key o same k e.0
      (λ i.
      let here : find R k (e ∷ es) ≡ Some e.1 = ap (λ y. find R y (e ∷ es)) i ∙ found_first e es in
      let row : e.1 ≡ x = some_same e.1 x (sym here ∙ is) in
      (0, omega arith, λ j. (sym i j, row j)))
      (λ n.
      let rest : Contains es (k, x) = contains_found es k x (sym (found_later e es k n) ∙ is) in
      (suc rest.0, omega arith, rest.2))

  -- what is in a sorted list is found
  found_at : (es : List (K × X)) → T (is_sorted R es) → (i : ℕ) (d : K × X) → i < length es
      → find R (slice_index_or es i d).0 es ≡ Some (slice_index_or es i d).1
  found_at [] h i d l = absurd (omega arith)
  found_at (e ∷ es) h zero d l = found_first e es
  found_at (e ∷ es) h (suc i) d l =
      let f : K × X = slice_index_or es i d in
      let rest : find R f.0 es ≡ Some f.1 = found_at es (rest_sorted R e es h) i d (omega arith) in
      by_key o same f.0 e.0
      (λ k. let none : find R f.0 es ≡ None = ap (λ y. find R y es) k ∙ below e.0 es (first_below R e es h) in absurd (cc))
      (λ n. found_later e es f.0 n ∙ rest)

  found_contained : (es : List (K × X)) → T (is_sorted R es) → (k : K) (x : X) → Contains es (k, x) → find R k es ≡ Some x
  found_contained es h k x c = subst (λ (e : K × X). find R e.0 es ≡ Some e.1) c.2 (found_at es h c.0 (k, x) c.1)

  pub Contains-entries : (m : FinMap R X) (k : K) (x : X) → Contains (entries m) (k, x) ↔ (get m k ≡ Some x)
  Contains-entries m k x = (
    λ c. get-entries m k ∙ found_contained (entries m) (entries_sorted m) k x c,
    λ e. contains_found (entries m) k x (sym (get-entries m k) ∙ e),
  )

  -- ---- sums

  same_none : (f : K → X → ℤ) (k : K) (v : Option X) → v ≡ None → part f k v ≡ pos 0
  same_none f k v e = ap (part f k) e

  sum_put : (f : K → X → ℤ) (k : K) (v : X) (es : List (K × X)) → T (is_sorted R es)
      → sum_of f (put R k v es) +ℤ part f k (find R k es) ≡ sum_of f es +ℤ f k v
  sum_put f k v [] h = omega (arith, ints)
  sum_put f k v (e ∷ es) h =
      elim (R k e.0) as (λ r. R k e.0 ≡ r → sum_of f (by_order r ((k, v) ∷ e ∷ es) ((e.0, v) ∷ es) (e ∷ put R k v es))
      +ℤ part f k (cond (is_eq r) (Some e.1) (find R k es)) ≡ sum_of f (e ∷ es) +ℤ f k v) [
        | Less ↦ λ p.
            let none = same_none f k (find R k es) (below k es (below_less k e.0 es p (first_below R e es h))) in
            omega (arith, ints)
        | Equal ↦ λ p.
            subst (λ (x : K). (f x v +ℤ sum_of f es) +ℤ f k e.1 ≡ (f x e.1 +ℤ sum_of f es) +ℤ f k v) (same k e.0 p) (omega (arith, ints))
        | Greater ↦ λ p. let rest = sum_put f k v es (rest_sorted R e es h) in omega (arith, ints)
      ] refl

  sum_without : (f : K → X → ℤ) (k : K) (es : List (K × X)) → T (is_sorted R es)
      → sum_of f (where_key R (λ x. not (eq_by_cmp R k x)) es) +ℤ part f k (find R k es) ≡ sum_of f es
  sum_without f k [] h = omega (arith, ints)
  sum_without f k (e ∷ es) h =
      let left = where_key R (λ x. not (eq_by_cmp R k x)) es in
      let rest = sum_without f k es (rest_sorted R e es h) in
      elim (eq_by_cmp R k e.0) as (λ t. eq_by_cmp R k e.0 ≡ t → sum_of f (cond (not t) (e ∷ left) left)
      +ℤ part f k (cond t (Some e.1) (find R k es)) ≡ sum_of f (e ∷ es)) [
        | true ↦ λ t.
            let key = same k e.0 (equal _ t) in
            let none = same_none f k (find R k es) (below k es (subst (λ x. T (below_all R x es)) (sym key) (first_below R e es h))) in
            subst (λ (x : K). sum_of f left +ℤ f k e.1 ≡ f x e.1 +ℤ sum_of f es) key (omega (arith, ints))
        | false ↦ λ t. omega (arith, ints)
      ] refl

  -- the entries that are kept are those that pass the test
  pub entries-retain_keys : (m : FinMap R X) (p : K → Bool) → entries (retain_keys m p) ≡ where_key R p (entries m)
  entries-retain_keys m p =
      let es = where_key R p (entries m) in
      let sorted = is_sorted-where_key R p (entries m) (entries_sorted m) in
      ap entries (same_table (retain_keys m p) (from_sorted es) (λ q.
      get-retain_keys m p q (alike o same p q)
      ∙ (ap (λ v. cond (p q) v None) (get-entries m q)
      ∙ (sym (find-where_key R p q (alike o same p q) (entries m)) ∙ sym (get-from_sorted R es q sorted)))))
      ∙ entries-from_sorted R es sorted

  removed : (m : FinMap R X) (k : K) → remove m k ≡ retain_keys m (λ x. not (eq_by_cmp R k x))
  removed m k = same_table _ _ (λ q.
      get-remove o m k q
      ∙ (ap (λ b. cond b None (get m q)) (same_test o same q k)
      ∙ (sym (turned (eq_by_cmp R k q) (get m q) None)
      ∙ sym (get-retain_keys m (λ x. not (eq_by_cmp R k x)) q (alike o same (λ x. not (eq_by_cmp R k x)) q)))))

  -- what a write does to a sum over the table
  pub total-write : (f : K → X → ℤ) (m : FinMap R X) (k : K) (v : Option X)
      → total f (write m k v) +ℤ part f k (get m k) ≡ total f m +ℤ part f k v
  total-write f m k None =
      rw (removed m k, entries-retain_keys, get-entries m k)
      (sum_without f k (entries m) (entries_sorted m) ∙ omega (arith, ints))
  total-write f m k (Some x) =
      rw (entries-insert o m k x, get-entries m k) (sum_put f k x (entries m) (entries_sorted m))

  sum_same : (f g : K → X → ℤ) (es : List (K × X)) → T (is_sorted R es)
      → ((q : K) → part f q (find R q es) ≡ part g q (find R q es)) → sum_of f es ≡ sum_of g es
  sum_same f g [] h a = refl
  sum_same f g (e ∷ es) h a =
      let here : f e.0 e.1 ≡ g e.0 e.1 = sym (ap (part f e.0) (found_first e es)) ∙ (a e.0 ∙ ap (part g e.0) (found_first e es)) in
      let none : find R e.0 es ≡ None = below e.0 es (first_below R e es h) in
      let rest : sum_of f es ≡ sum_of g es = sum_same f g es (rest_sorted R e es h) (λ q. by_key o same q e.0
      (λ i. let gone : find R q es ≡ None = ap (λ x. find R x es) i ∙ none in ap (part f q) gone ∙ sym (ap (part g q) gone))
      (λ n. sym (ap (part f q) (found_later e es q n)) ∙ (a q ∙ ap (part g q) (found_later e es q n)))) in
      omega (arith, ints)

  -- numbers that agree at each row of the table have one sum
  pub total_same : (f g : K → X → ℤ) (m : FinMap R X) → ((q : K) → part f q (get m q) ≡ part g q (get m q)) → total f m ≡ total g m
  total_same f g m a = sum_same f g (entries m) (entries_sorted m)
      (λ q. ap (part f q) (sym (get-entries m q)) ∙ (a q ∙ ap (part g q) (get-entries m q)))

  sum_zeros : (es : List (K × X)) → sum_of (λ k x. pos 0) es ≡ pos 0
  sum_zeros [] = refl
  sum_zeros (e ∷ es) = ap (λ z. pos 0 +ℤ z) (sum_zeros es)

  no_part : (k : K) (v : Option X) → part (λ k x. pos 0) k v ≡ pos 0
  no_part k None = refl
  no_part k (Some x) = refl

  pub total_zero : (f : K → X → ℤ) (m : FinMap R X) → ((q : K) → part f q (get m q) ≡ pos 0) → total f m ≡ pos 0
  total_zero f m a = total_same f (λ k x. pos 0) m (λ q. a q ∙ sym (no_part q (get m q))) ∙ sum_zeros (entries m)

  pub total-empty : (f : K → X → ℤ) → total f (empty {X = X} {R = R}) ≡ pos 0
  total-empty f = total_zero f empty (λ q. ap (part f q) (get-empty R q))

  -- ---- the rows that pass a test of key and row

  find_where : (test : K → X → Bool) (q : K) (es : List (K × X)) → T (is_sorted R es)
      → find R q (rows_where test es) ≡ passing (test q) (find R q es)
  find_where test q [] h = refl
  find_where test q (e ∷ es) h =
      let rest = find_where test q es (rest_sorted R e es h) in
      by_key o same q e.0
      (λ k.
      let none : find R q es ≡ None = ap (λ x. find R x es) k ∙ below e.0 es (first_below R e es h) in
      let here : find R q (e ∷ es) ≡ Some e.1 = ap (λ x. find R x (e ∷ es)) k ∙ found_first e es in
      elim (test e.0 e.1) as (λ b. test e.0 e.1 ≡ b
      → find R q (cond b (e ∷ rows_where test es) (rows_where test es)) ≡ passing (test q) (find R q (e ∷ es))) [
        | true ↦ λ t. ap (λ x. find R x (e ∷ rows_where test es)) k ∙ (found_first e (rows_where test es)
            ∙ (ap (λ b. cond b (Some e.1) None) (sym (ap (λ x. test x e.1) k ∙ t)) ∙ ap (passing (test q)) (sym here)))
        | false ↦ λ t. rest ∙ (ap (passing (test q)) none
            ∙ (ap (λ b. cond b (Some e.1) None) (sym (ap (λ x. test x e.1) k ∙ t)) ∙ ap (passing (test q)) (sym here)))
      ] refl)
      (λ n.
      let skip : find R q (e ∷ es) ≡ find R q es = found_later e es q n in
      elim (test e.0 e.1) as (λ b. find R q (cond b (e ∷ rows_where test es) (rows_where test es)) ≡ passing (test q) (find R q (e ∷ es))) [
        | true ↦ found_later e (rows_where test es) q n ∙ (rest ∙ ap (passing (test q)) (sym skip))
        | false ↦ rest ∙ ap (passing (test q)) (sym skip)
      ])

  -- what is found among the rows that pass is the table's row, if it passes
  pub find-rows_where : (test : K → X → Bool) (m : FinMap R X) (q : K) → find R q (rows_where test (entries m)) ≡ passing (test q) (get m q)
  find-rows_where test m q = find_where test q (entries m) (entries_sorted m) ∙ ap (passing (test q)) (sym (get-entries m q))

  -- a row is among those that pass exactly where the table has it under its key and the test is true of it
  pub Contains-rows_where : (test : K → X → Bool) (m : FinMap R X) (k : K) (x : X)
      → Contains (rows_where test (entries m)) (k, x) ↔ ((get m k ≡ Some x) × (test k x ≡ true))
  Contains-rows_where test m k x = (
    λ c. passing_some (test k) (get m k) x (sym (find-rows_where test m k) ∙ found_contained _ (rows_where_sorted test m) k x c),
    λ h. contains_found _ k x (find-rows_where test m k ∙ passing_true (test k) (get m k) x h.0 h.1),
  )

  -- tables whose rows pass alike have the same list of rows that pass
  pub rows_where_same : (test : K → X → Bool) (m n : FinMap R X)
      → ((q : K) → passing (test q) (get m q) ≡ passing (test q) (get n q)) → rows_where test (entries m) ≡ rows_where test (entries n)
  rows_where_same test m n h = same_entries R o same _ _ (rows_where_sorted test m) (rows_where_sorted test n)
      (λ q. find-rows_where test m q ∙ (h q ∙ sym (find-rows_where test n q)))

  -- a write leaves the rows that pass, where the old row and the new one pass alike
  pub rows_where-write : (test : K → X → Bool) (m : FinMap R X) (k : K) (v : Option X)
      → passing (test k) v ≡ passing (test k) (get m k) → rows_where test (entries (write m k v)) ≡ rows_where test (entries m)
  rows_where-write test m k v alike = rows_where_same test _ _ (λ q. by_key o same q k
      (λ e. ap (passing (test q)) (get-write_at m k v q e)
      ∙ subst (λ x. passing (test x) v ≡ passing (test x) (get m x)) (sym e) alike)
      (λ n. ap (passing (test q)) (get-write_other m k v q n)))

  -- tests that agree at each row of the table find the same rows
  pub rows_where_alike : (p q : K → X → Bool) (m : FinMap R X) → ((k : K) → passing (p k) (get m k) ≡ passing (q k) (get m k))
      → rows_where p (entries m) ≡ rows_where q (entries m)
  rows_where_alike p q m h = same_entries R o same _ _ (rows_where_sorted p m) (rows_where_sorted q m)
      (λ k. find-rows_where p m k ∙ (h k ∙ sym (find-rows_where q m k)))

module _ {K X : Type 0} where
  pub sum_plus : (f g : K → X → ℤ) (es : List (K × X)) → sum_of (λ k x. f k x +ℤ g k x) es ≡ sum_of f es +ℤ sum_of g es
  sum_plus f g [] = refl
  sum_plus f g (e ∷ es) =
      let rest : sum_of (λ k x. f k x +ℤ g k x) es ≡ sum_of f es +ℤ sum_of g es = sum_plus f g es in
      omega (arith, ints)

  -- the sum over the rows that pass, as a sum over all
  pub sum_of_where : (f : K → X → ℤ) (test : K → X → Bool) (es : List (K × X))
      → sum_of f (rows_where test es) ≡ sum_of (λ k x. if test k x then f k x else pos 0) es
  sum_of_where f test [] = refl
  sum_of_where f test (e ∷ es) =
      let rest : sum_of f (rows_where test es) ≡ sum_of (λ k x. if test k x then f k x else pos 0) es = sum_of_where f test es in
      elim (test e.0 e.1) as (λ b. sum_of f (cond b (e ∷ rows_where test es) (rows_where test es))
      ≡ cond b (f e.0 e.1) (pos 0) +ℤ sum_of (λ k x. if test k x then f k x else pos 0) es) [
        | true ↦ omega (arith, ints)
        | false ↦ omega (arith, ints)
      ]

  -- a test after another
  pub rows_where_both : (p q : K → X → Bool) (es : List (K × X)) → rows_where p (rows_where q es) ≡ rows_where (λ k x. q k x && p k x) es
  rows_where_both p q [] = refl
  rows_where_both p q (e ∷ es) =
      let rest = rows_where_both p q es in
      elim (q e.0 e.1) as (λ b. rows_where p (cond b (e ∷ rows_where q es) (rows_where q es))
      ≡ cond (b && p e.0 e.1) (e ∷ rows_where (λ k x. q k x && p k x) es) (rows_where (λ k x. q k x && p k x) es)) [
        | true ↦ ap (λ (xs : List (K × X)). cond (p e.0 e.1) (e ∷ xs) xs) rest
        | false ↦ rest
      ]

  pub rows_where_all : (es : List (K × X)) → rows_where (λ k x. true) es ≡ es
  rows_where_all [] = refl
  rows_where_all (e ∷ es) = ap (λ (xs : List (K × X)). e ∷ xs) (rows_where_all es)

pub total_plus : {K : Type 0} {R : K → K → Ordering} {X : Type 0} (f g : K → X → ℤ) (m : FinMap R X)
    → total (λ k x. f k x +ℤ g k x) m ≡ total f m +ℤ total g m
total_plus f g m = sum_plus f g (entries m)
