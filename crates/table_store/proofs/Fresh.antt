-- The rows that entries of a map are, and those that the plain meaning gives.
use Rattle.std.specs.Prelude.{◌≡◌, ◌≢◌, ℕ, zero, suc, ◌==◌, Bool, true, false, cond, T, List, [], ◌∷◌, map, filter, Some, None, slice_get, Option, length, IfSome, ◌+◌}
use Rattle.std.specs.Option.{option_map}
use Rattle.std.proofs.Common.{arith}
use Rattle.std.proofs.lemmas.Bool.Decides.{nat_tests}
use Rattle.std.proofs.lemmas.List.Sums.{sum_by-cons}
use mathlib.Core.Path.{refl, sym, ap, subst, ◌∙◌}
use Rattle.std.specs.FinMap.{FinMap, IsAntisymmetric, get, entries, find, is_sorted, from_entries, get-entries, entries_sorted, get-from_entries}
use Rattle.std.specs.FinMap.Entries.{below_all, same_entries}
use Rattle.std.specs.declared.cmp.Ordering.{Ordering}
use Rattle.std.specs.declared.cmp.Ordering.TheVariants.{Less, Equal, Greater}
use Rattle.std.specs.Ordering.{nat_cmp, eq_by_cmp, is_eq, ordering_then}
use Rattle.std.specs.Cmp.{IsTotalOrder, tied_itself, nat_cmp_total}
use Rattle.std.specs.FinMap.{nat_cmp-IsAntisymmetric}
use Rattle.std.specs.Cmp.Lexicographic.{nat_list_cmp_total}
use Rattle.iv_types.specs.declared.value.Value.{Value}
use Rattle.iv_types.specs.declared.value.Interval.{Interval}
use Rattle.iv_types.specs.declared.catalog.TableDef.{TableDef}
use Rattle.iv_types.specs.declared.catalog.Definition.{Definition}
use Rattle.iv_types.specs.declared.catalog.Definition.TheVariants.{Table, Index, View}
use Rattle.iv_types.specs.Definitions.{Definitions}
use Rattle.iv_types.specs.Encoding.{kinds_of, FitAll, value_bytes, row_bytes, lies_in}
use Rattle.iv_types.specs.Maps.{Map, Entry}
use Rattle.iv_meaning.specs.Schema as schema
use Rattle.iv_meaning.specs.Objects.{schema_of, object_of}
use Rattle.iv_meaning.specs.Database.{Database, Rows, rows_of, key_of}
use Rattle.iv_meaning.specs.View.{rows_between, object_rows, read}
use Rattle.row_codec.specs.Laws.{OneSpelling}
use Rattle.table_laws.specs.Place.{Place, place_cmp}
use Rattle.table_laws.specs.Table.{rows_where}
use Rattle.table_laws.proofs.Place.{place_cmp_total, place_cmp-IsAntisymmetric}
use Rattle.table_laws.proofs.Tables.{by_bool, other_key}
use Rattle.table_store.specs.Stored.{stored, as_table, table_of, StandsUnder, HoldsTable, AreRows, Decode, between, noted_row, noted_entries, noted_rows}
use Rattle.table_store.proofs.Places.{first, second, both, below, first_below, rest_sorted, equal}
use Rattle.table_store.proofs.Maps.{by_bytes, bytes_same}

some_same : {A : Type 0} (x y : A) → Some x ≡ Some y → x ≡ y
some_same x y e = cc

-- ---- what holds of each entry

abbrev pub Each : {K X : Type 0} → (K → X → Type 0) → List (K × X) → Type 0
Each P [] = Unit {0}
Each P (e ∷ es) = P e.0 e.1 × Each P es

pub each_filter : {K X : Type 0} (P : K → X → Type 0) (test : K × X → Bool) (es : List (K × X)) → Each P es → Each P (filter test es)
each_filter P test [] h = tt
each_filter P test (e ∷ es) h = elim (test e) as (λ b. Each P (cond b (e ∷ filter test es) (filter test es))) [
  | true ↦ (h.0, each_filter P test es h.1)
  | false ↦ each_filter P test es h.1
]

module _ {K : Type 0} {R : K → K → Ordering} (o : IsTotalOrder R) (same : IsAntisymmetric R) {X : Type 0} where
  found_later : (e : K × X) (es : List (K × X)) (k : K) (x : X) → T (below_all R e.0 es) → find R k es ≡ Some x → find R k (e ∷ es) ≡ Some x
  found_later e es k x h is = by_bool (eq_by_cmp R k e.0)
      (λ t.
      let k_is : k ≡ e.0 = same k e.0 (equal _ t) in
      let none : find R k es ≡ None = subst (λ y. find R y es ≡ None) (sym k_is) (below o same e.0 es h) in
      absurd (let no_entry : None ≡ Some x = sym none ∙ is in cc))
      (λ f. ap (λ b. cond b (Some e.1) (find R k es)) f ∙ is)

  -- what holds of all that is found holds of each entry
  pub each_found : (P : K → X → Type 0) (es : List (K × X)) → T (is_sorted R es) → ((k : K) (x : X) → find R k es ≡ Some x → P k x) → Each P es
  each_found P [] s h = tt
  each_found P (e ∷ es) s h = (
    h e.0 e.1 (ap (λ r. cond (is_eq r) (Some e.1) (find R e.0 es)) (tied_itself o e.0)),
    each_found P es (rest_sorted R e es s) (λ k x is. h k x (found_later e es k x (first_below R e es s) is)),
  )

-- ---- values that are written otherwise

module _ {K : Type 0} (R : K → K → Ordering) {X Y : Type 0} (f : X → Y) where
  abbrev pub changed : List (K × X) → List (K × Y)
  changed es = map (λ e. (e.0, f e.1)) es

  changed_below : (k : K) (es : List (K × X)) → T (below_all R k es) → T (below_all R k (changed es))
  changed_below k [] h = tt
  changed_below k (e ∷ es) h = both _ _ (first _ _ h) (changed_below k es (second _ _ h))

  pub changed_sorted : (es : List (K × X)) → T (is_sorted R es) → T (is_sorted R (changed es))
  changed_sorted [] s = tt
  changed_sorted (e ∷ es) s = both _ _ (changed_below e.0 es (first_below R e es s)) (changed_sorted es (rest_sorted R e es s))

  pub find_changed : (q : K) (es : List (K × X)) → find R q (changed es) ≡ option_map f (find R q es)
  find_changed q [] = refl
  find_changed q (e ∷ es) = elim (eq_by_cmp R q e.0) as (λ b. cond b (Some (f e.1)) (find R q (changed es)) ≡ option_map f (cond b (Some e.1) (find R q es))) [
    | true ↦ refl
    | false ↦ find_changed q es
  ]

  pub filter_changed : (test : K → Bool) (es : List (K × X)) → filter (λ (e : K × Y). test e.0) (changed es) ≡ changed (filter (λ (e : K × X). test e.0) es)
  filter_changed test [] = refl
  filter_changed test (e ∷ es) = elim (test e.0) as (λ b. cond b ((e.0, f e.1) ∷ filter (λ (e : K × Y). test e.0) (changed es)) (filter (λ (e : K × Y). test e.0) (changed es))
      ≡ changed (cond b (e ∷ filter (λ (e : K × X). test e.0) es) (filter (λ (e : K × X). test e.0) es))) [
        | true ↦ ap (λ (l : List (K × Y)). (e.0, f e.1) ∷ l) (filter_changed test es)
        | false ↦ filter_changed test es
      ]

-- ---- a table's rows by their keys

abbrev Row : Type 0
Row = List Value

module _ (t : TableDef) where
  abbrev keyed : List Row → List (List ℕ × Row)
  keyed rows = map (λ row. (key_of t row, row)) rows

  abbrev rows_at : ℕ → List (Place × Row) → List Row
  rows_at n es = map (λ e. e.1) (rows_where (λ place row. place.0 == n) es)

  tie_then : (n k : ℕ) (r s : Ordering) → n ≡ k → r ≡ s → ordering_then (nat_cmp n k) r ≡ s
  tie_then n k r s e is = ap (λ x. ordering_then (nat_cmp n x) r) (sym e) ∙ (ap (λ x. ordering_then x r) (tied_itself nat_cmp_total n) ∙ is)

  no_tie : (x r : Ordering) → is_eq x ≡ false → is_eq (ordering_then x r) ≡ false
  no_tie Less r e = refl
  no_tie Equal r e = cc
  no_tie Greater r e = refl

  find_keyed : (n : ℕ) (q : List ℕ) (es : List (Place × Row)) → Each (λ place row. place.0 ≡ n → place.1 ≡ key_of t row) es
      → find by_bytes q (keyed (rows_at n es)) ≡ find place_cmp (n, q) es
  find_keyed n q [] h = refl
  find_keyed n q (e ∷ es) h = by_bool (e.0.0 == n)
      (λ is.
      let number : e.0.0 ≡ n = grind (arith, nat_tests) in
      let key : e.0.1 ≡ key_of t e.1 = h.0 number in
      let tie : place_cmp (n, q) e.0 ≡ by_bytes q (key_of t e.1) = tie_then n e.0.0 _ _ (sym number) (ap (by_bytes q) key) in
      ap (λ b. find by_bytes q (keyed (map (λ (x : Place × Row). x.1) (cond b (e ∷ rows_where (λ place row. place.0 == n) es) (rows_where (λ place row. place.0 == n) es))))) is
      ∙ (ap (λ r. cond (is_eq r) (Some e.1) (find by_bytes q (keyed (rows_at n es)))) (sym tie)
      ∙ ap (λ r. cond (eq_by_cmp place_cmp (n, q) e.0) (Some e.1) r) (find_keyed n q es h.1)))
      (λ is.
      let apart : n ≢ e.0.0 = grind (arith, nat_tests) in
      let other : is_eq (place_cmp (n, q) e.0) ≡ false = no_tie _ _ (other_key nat_cmp_total nat_cmp-IsAntisymmetric n e.0.0 apart) in
      ap (λ b. find by_bytes q (keyed (map (λ (x : Place × Row). x.1) (cond b (e ∷ rows_where (λ place row. place.0 == n) es) (rows_where (λ place row. place.0 == n) es))))) is
      ∙ (find_keyed n q es h.1 ∙ sym (ap (λ b. cond b (Some e.1) (find place_cmp (n, q) es)) other)))

-- ---- what is read

module _ (rows : Rows) (t : TableDef) (m : Map) (holds : HoldsTable rows t m) where
  abbrev by_key : FinMap by_bytes Row
  by_key = from_entries (keyed t (rows_of rows t.number))

  get_by_key : (q : List ℕ) → get by_key q ≡ get rows (t.number, q)
  get_by_key q = get-from_entries nat_list_cmp_total (keyed t (rows_of rows t.number)) q
      ∙ (find_keyed t t.number q (entries rows) (each_found place_cmp_total place_cmp-IsAntisymmetric _ (entries rows) (entries_sorted rows)
      (λ place row is e. let found : get rows (t.number, place.1) ≡ Some row = ap (λ n. get rows (n, place.1)) (sym e) ∙ (get-entries rows place ∙ is) in (holds.fitting place.1 row found).1))
      ∙ sym (get-entries rows (t.number, q)))

  encoded : entries m ≡ changed by_bytes (row_bytes (kinds_of t)) (entries by_key)
  encoded = same_entries by_bytes nat_list_cmp_total bytes_same (entries m) (changed by_bytes (row_bytes (kinds_of t)) (entries by_key)) (entries_sorted m)
      (changed_sorted by_bytes (row_bytes (kinds_of t)) (entries by_key) (entries_sorted by_key))
      (λ q. sym (get-entries m q) ∙ (holds.same q ∙ (ap (stored t) (sym (get_by_key q) ∙ get-entries by_key q) ∙ sym (find_changed by_bytes (row_bytes (kinds_of t)) q (entries by_key)))))

  each_fits : Each (λ k row. FitAll (kinds_of t) row) (entries by_key)
  each_fits = each_found nat_list_cmp_total bytes_same _ (entries by_key) (entries_sorted by_key)
      (λ k row is. (holds.fitting k row (sym (get_by_key k) ∙ (get-entries by_key k ∙ is))).0)

decoded : (t : TableDef) → OneSpelling value_bytes → (es : List (List ℕ × Row)) (rows : List Row) → Each (λ k row. FitAll (kinds_of t) row) es
    → Decode t (changed by_bytes (row_bytes (kinds_of t)) es) rows → rows ≡ map (λ e. e.1) es
decoded t one [] [] fits told = refl
decoded t one [] (row ∷ rows) fits told = absurd told
decoded t one (e ∷ es) [] fits told = absurd told
decoded t one (e ∷ es) (row ∷ rows) fits told =
    let here : row ≡ e.1 = one (kinds_of t) row e.1 told.0 fits.0 (sym told.1) in
    let rest = decoded t one es rows fits.1 told.2 in
    λ i. here i ∷ rest i

pub rows_are : (rows : Rows) (t : TableDef) (m : Map) → HoldsTable rows t m → OneSpelling value_bytes → (interval : Interval) (list : List Row)
    → Decode t (between interval (entries m)) list → list ≡ rows_between (key_of t) interval (rows_of rows t.number)
rows_are rows t m holds one interval list told =
    let whole = ap (between interval) (encoded rows t m holds) ∙ filter_changed by_bytes (row_bytes (kinds_of t)) (λ k. lies_in k interval) (entries (by_key rows t m holds)) in
    decoded t one (filter (λ e. lies_in e.0 interval) (entries (by_key rows t m holds))) list
    (each_filter _ (λ e. lies_in e.0 interval) (entries (by_key rows t m holds)) (each_fits rows t m holds))
    (subst (λ (l : List Entry). Decode t l list) whole told)

-- ---- one row

-- the row whose bytes stand under a key stands under it
pub row_stands : OneSpelling value_bytes → (t : TableDef) (m : Map) → AreRows t m → (key : List ℕ) (row : Row) → FitAll (kinds_of t) row
    → get m key ≡ Some (row_bytes (kinds_of t) row) → StandsUnder t key row
row_stands one t m are key row fits is =
    let s = are key (row_bytes (kinds_of t) row) is in
    let same : row ≡ s.0 = one (kinds_of t) row s.0 fits s.1.0 s.2 in
    subst (StandsUnder t key) (sym same) s.1

row_found : OneSpelling value_bytes → (t : TableDef) (key : List ℕ) (found row : Option Row) → IfSome found (StandsUnder t key) → IfSome row (FitAll (kinds_of t)) → stored t found ≡ stored t row → found ≡ row
row_found one t key None None f g e = refl
row_found one t key None (Some row) f g e = absurd (cc)
row_found one t key (Some found) None f g e = absurd (cc)
row_found one t key (Some found) (Some row) f g e = ap Some (one (kinds_of t) found row f.0 g (some_same _ _ e))

fitting_found : (rows : Rows) (t : TableDef) (m : Map) → HoldsTable rows t m → (key : List ℕ) (found : Option Row) → get rows (t.number, key) ≡ found → IfSome found (StandsUnder t key)
fitting_found rows t m holds key None is = tt
fitting_found rows t m holds key (Some row) is = holds.fitting key row is

-- the row under a key is the one that its bytes are
pub row_is : OneSpelling value_bytes → (rows : Rows) (t : TableDef) (m : Map) → HoldsTable rows t m → (key : List ℕ) (row : Option Row) → IfSome row (FitAll (kinds_of t))
    → get m key ≡ stored t row → get rows (t.number, key) ≡ row
row_is one rows t m holds key row fits is =
    row_found one t key (get rows (t.number, key)) row (fitting_found rows t m holds key (get rows (t.number, key)) refl) fits (sym (holds.same key) ∙ is)

-- ---- what rows count in a note

noted_changed : (t : TableDef) (es : List (List ℕ × Row)) → noted_entries (changed by_bytes (row_bytes (kinds_of t)) es) ≡ noted_rows t (map (λ e. e.1) es)
noted_changed t [] = refl
noted_changed t (e ∷ es) =
    omega (
      arith,
      sum_by-cons (λ (x : Entry). length x.1 + noted_row) (e.0, row_bytes (kinds_of t) e.1) (changed by_bytes (row_bytes (kinds_of t)) es),
      sum_by-cons (λ (row : Row). length (row_bytes (kinds_of t) row) + noted_row) e.1 (map (λ x. x.1) es),
      noted_changed t es,
    )

pub noted_are : (db : Database) (index : ℕ) (t : TableDef) (m : Map) (interval : Interval) → schema.numbered db.schema index ≡ Some (schema.table t) → HoldsTable db.rows t m
    → noted_entries (between interval (entries m)) ≡ noted_rows t (read db index interval)
noted_are db index t m interval is holds =
    let all = entries (by_key db.rows t m holds) in
    ap noted_entries (ap (between interval) (encoded db.rows t m holds) ∙ filter_changed by_bytes (row_bytes (kinds_of t)) (λ k. lies_in k interval) all)
    ∙ (noted_changed t (filter (λ e. lies_in e.0 interval) all) ∙ sym (ap (λ o. noted_rows t (object_rows db o interval)) is))

-- ---- the table in the schema

table_object : (d : Definition) (t : TableDef) → as_table (Some d) ≡ Some t → object_of d ≡ schema.table t
table_object (Table u) t is = ap schema.table (some_same u t is)
table_object (Index i) t is = absurd (cc)
table_object (View v) t is = absurd (cc)

table_at : (ds : Definitions) (n : ℕ) (t : TableDef) → as_table (slice_get ds n) ≡ Some t → slice_get (map object_of ds) n ≡ Some (schema.table t)
table_at [] n t is = absurd (cc)
table_at (d ∷ ds) zero t is = ap Some (table_object d t is)
table_at (d ∷ ds) (suc n) t is = table_at ds n t is

pub in_schema : (ds : Definitions) (n : ℕ) (t : TableDef) → table_of ds n ≡ Some t → schema.numbered (schema_of ds) n ≡ Some (schema.table t)
in_schema ds zero t is = absurd (cc)
in_schema ds (suc n) t is = table_at ds n t is

pub reads : (db : Database) (ds : Definitions) (index : ℕ) (t : TableDef) (m : Map) (interval : Interval) (list : List Row) → OneSpelling value_bytes → db.schema ≡ schema_of ds
    → table_of ds index ≡ Some t → HoldsTable db.rows t m → Decode t (between interval (entries m)) list → read db index interval ≡ list
reads db ds index t m interval list one schema_is is holds told =
    ap (λ o. object_rows db o interval) (ap (λ s. schema.numbered s index) schema_is ∙ in_schema ds index t is)
    ∙ sym (rows_are db.rows t m holds one interval list told)
