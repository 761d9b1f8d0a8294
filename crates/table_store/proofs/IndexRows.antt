-- The rows that entries of an index stand for, and those that the plain meaning gives.
use Rattle.std.specs.Prelude.{◌≡◌, ℕ, ◌==◌, true, false, cond, List, [], ◌∷◌, map, filter, Option, Some, None, slice_get}
use Rattle.std.specs.List.{AllByRecursion}
use Rattle.std.specs.Option.{option_map}
use Rattle.std.proofs.Common.{arith}
use Rattle.std.proofs.lemmas.Bool.Decides.{nat_tests}
use Rattle.std.proofs.lemmas.Bool.{eq-eqb}
use mathlib.Core.Path.{refl, sym, ap, subst, ◌∙◌}
use Rattle.std.specs.FinMap.{FinMap, get, entries, find, from_entries, get-entries, entries_sorted, get-from_entries}
use Rattle.std.specs.FinMap.Entries.{same_entries}
use Rattle.std.specs.Ordering.{eq_by_cmp, is_eq}
use Rattle.std.specs.Cmp.{tied_itself}
use Rattle.std.specs.Cmp.Lexicographic.{nat_list_cmp_total}
use Rattle.iv_types.specs.declared.value.Value.{Value}
use Rattle.iv_types.specs.declared.value.Interval.{Interval}
use Rattle.iv_types.specs.declared.catalog.TableDef.{TableDef}
use Rattle.iv_types.specs.declared.catalog.IndexDef.{IndexDef}
use Rattle.iv_types.specs.declared.catalog.Definition.{Definition}
use Rattle.iv_types.specs.declared.catalog.Definition.TheVariants.{Table, Index, View}
use Rattle.iv_types.specs.Definitions.{Definitions}
use Rattle.iv_types.specs.Encoding.{kinds_of, value_bytes, key_value_bytes, row_bytes, lies_in}
use Rattle.iv_types.specs.Maps.{Map, Entry}
use Rattle.iv_meaning.specs.Schema as schema
use Rattle.iv_meaning.specs.Objects.{schema_of, object_of}
use Rattle.iv_meaning.specs.Database.{Database, Rows, rows_of, key_of}
use Rattle.iv_meaning.specs.View.{index_key, rows_between, index_rows, object_rows, read}
use Rattle.row_codec.specs.Laws.{OneSpelling}
use Rattle.table_laws.specs.Place.{Place, place_cmp}
use Rattle.table_laws.specs.Table.{rows_where}
use Rattle.table_laws.proofs.Place.{place_cmp_total, place_cmp-IsAntisymmetric}
use Rattle.table_laws.proofs.Tables.{by_bool}
use Rattle.table_store.specs.Stored.{stored, as_index, index_of, table_of, HoldsTable, HoldsIndex, IsEntryOf, Follow, between}
use Rattle.table_store.proofs.Places.{equal}
use Rattle.table_store.proofs.Maps.{by_bytes, bytes_same}
use Rattle.table_store.proofs.Fresh.{Each, each_filter, each_found, changed, changed_sorted, find_changed, filter_changed, in_schema}
use Rattle.table_store.proofs.IndexKeys.{one_key}

abbrev Row : Type 0
Row = List Value

same_some : {A : Type 0} (x y : A) → Some x ≡ Some y → x ≡ y
same_some x y e = cc

-- ---- rows by a key of theirs

module _ (f : Row → List ℕ) where
  abbrev pub keyed_by : List Row → List (List ℕ × Row)
  keyed_by rows = map (λ row. (f row, row)) rows

  abbrev rows_at : ℕ → List (Place × Row) → List Row
  rows_at n es = map (λ e. e.1) (rows_where (λ place row. place.0 == n) es)

  -- what is found is one of them
  found_one : (P : Row → Type 0) (rows : List Row) (q : List ℕ) (row : Row) → AllByRecursion P rows → find by_bytes q (keyed_by rows) ≡ Some row → (q ≡ f row) × P row
  found_one P [] q row h is = absurd (cc)
  found_one P (r ∷ rows) q row h is = by_bool (eq_by_cmp by_bytes q (f r))
      (λ e.
      let here : Some r ≡ Some row = sym (ap (λ b. cond b (Some r) (find by_bytes q (keyed_by rows))) e) ∙ is in
      let same : r ≡ row = same_some r row here in
      (bytes_same q (f r) (equal _ e) ∙ ap f same, subst P same h.0))
      (λ e. found_one P rows q row h.1 (sym (ap (λ b. cond b (Some r) (find by_bytes q (keyed_by rows))) e) ∙ is))

  -- one of them is found, or another with its key
  not_missed : (n : ℕ) (key : List ℕ) (row : Row) (es : List (Place × Row)) → find place_cmp (n, key) es ≡ Some row → find by_bytes (f row) (keyed_by (rows_at n es)) ≡ None → ⊥
  not_missed n key row [] is none = cc
  not_missed n key row (e ∷ es) is none = by_bool (eq_by_cmp place_cmp (n, key) e.0)
      (λ tie.
      let place : (n, key) ≡ e.0 = place_cmp-IsAntisymmetric (n, key) e.0 (equal _ tie) in
      let number : e.0.0 ≡ n = ap (λ (p : Place). p.0) (sym place) in
      let same : e.1 ≡ row = same_some e.1 row (sym (ap (λ b. cond b (Some e.1) (find place_cmp (n, key) es)) tie) ∙ is) in
      let there : rows_at n (e ∷ es) ≡ e.1 ∷ rows_at n es = ap (λ b. map (λ (x : Place × Row). x.1) (cond b (e ∷ rows_where (λ place row. place.0 == n) es) (rows_where (λ place row. place.0 == n) es))) (eq-eqb e.0.0 n number) in
      let self : find by_bytes (f row) (keyed_by (rows_at n (e ∷ es))) ≡ Some e.1 =
      ap (λ (l : List Row). find by_bytes (f row) (keyed_by l)) there
      ∙ (ap (λ (r : Row). find by_bytes (f r) ((f e.1, e.1) ∷ keyed_by (rows_at n es))) (sym same)
      ∙ ap (λ r. cond (is_eq r) (Some e.1) (find by_bytes (f e.1) (keyed_by (rows_at n es)))) (tied_itself nat_list_cmp_total (f e.1))) in
      let no : None ≡ Some e.1 = sym none ∙ self in absurd (cc))
      (λ other.
      let rest : find place_cmp (n, key) es ≡ Some row = sym (ap (λ b. cond b (Some e.1) (find place_cmp (n, key) es)) other) ∙ is in
      not_missed n key row es rest (fewer (f row) n e es none))
    where
      drop_first : (q k : List ℕ) (x : Row) (l : List (List ℕ × Row)) → find by_bytes q ((k, x) ∷ l) ≡ None → find by_bytes q l ≡ None
      drop_first q k x l none = by_bool (eq_by_cmp by_bytes q k)
          (λ e. let no : Some x ≡ None = sym (ap (λ b. cond b (Some x) (find by_bytes q l)) e) ∙ none in absurd (cc))
          (λ e. sym (ap (λ b. cond b (Some x) (find by_bytes q l)) e) ∙ none)

      fewer : (q : List ℕ) (n : ℕ) (e : Place × Row) (es : List (Place × Row)) → find by_bytes q (keyed_by (rows_at n (e ∷ es))) ≡ None → find by_bytes q (keyed_by (rows_at n es)) ≡ None
      fewer q n e es none = elim (e.0.0 == n) as (λ b. find by_bytes q (keyed_by (map (λ (x : Place × Row). x.1) (cond b (e ∷ rows_where (λ place row. place.0 == n) es) (rows_where (λ place row. place.0 == n) es)))) ≡ None → find by_bytes q (keyed_by (rows_at n es)) ≡ None) [
        | true ↦ λ h. drop_first q (f e.1) e.1 (keyed_by (rows_at n es)) h
        | false ↦ λ h. h
      ] none

-- what is known of each of a table's rows
abbrev Is : Rows → ℕ → Row → Type 0
Is rows n row = (key : List ℕ) × (get rows (n, key) ≡ Some row)

each_at : (rows : Rows) (n : ℕ) (es : List (Place × Row)) → Each (λ place row. get rows place ≡ Some row) es → AllByRecursion (Is rows n) (map (λ e. e.1) (rows_where (λ place row. place.0 == n) es))
each_at rows n [] h = tt
each_at rows n (e ∷ es) h = elim (e.0.0 == n) as (λ b. (e.0.0 == n) ≡ b → AllByRecursion (Is rows n) (map (λ (x : Place × Row). x.1) (cond b (e ∷ rows_where (λ place row. place.0 == n) es) (rows_where (λ place row. place.0 == n) es)))) [
  | true ↦ λ is.
      let number : e.0.0 ≡ n = grind (arith, nat_tests) in
      ((e.0.1, ap (λ k. get rows (k, e.0.1)) (sym number) ∙ h.0), each_at rows n es h.1)
  | false ↦ λ is. each_at rows n es h.1
] refl

each_row : (rows : Rows) (n : ℕ) → AllByRecursion (Is rows n) (rows_of rows n)
each_row rows n = each_at rows n (entries rows) (each_found place_cmp_total place_cmp-IsAntisymmetric (λ place row. get rows place ≡ Some row) (entries rows) (entries_sorted rows) (λ place row is. get-entries rows place ∙ is))

-- ---- an index

module _ (rows : Rows) (t : TableDef) (i : IndexDef) (n : Map) (holds : HoldsIndex rows t i n) where
  abbrev by_index : FinMap by_bytes Row
  by_index = from_entries (keyed_by (index_key t i) (rows_of rows t.number))

  found : (q : List ℕ) → get by_index q ≡ find by_bytes q (keyed_by (index_key t i) (rows_of rows t.number))
  found q = get-from_entries nat_list_cmp_total (keyed_by (index_key t i) (rows_of rows t.number)) q

  -- the values of the index's entries are empty
  abbrev nothing : Row → List ℕ
  nothing row = []

  same_at : (q : List ℕ) (x : Option Row) → find by_bytes q (keyed_by (index_key t i) (rows_of rows t.number)) ≡ x → (y : Option (List ℕ)) → get n q ≡ y → y ≡ option_map nothing x
  same_at q None is None there = refl
  same_at q None is (Some value) there =
      let o = holds.only q value there in
      absurd (not_missed (index_key t i) t.number o.key o.row (entries rows) (sym (get-entries rows (t.number, o.key)) ∙ o.is_there)
      (ap (λ k. find by_bytes k (keyed_by (index_key t i) (rows_of rows t.number))) (sym o.at_is) ∙ is))
  same_at q (Some row) is y there =
      let o = found_one (index_key t i) (Is rows t.number) (rows_of rows t.number) q row (each_row rows t.number) is in
      sym there ∙ (ap (get n) o.0 ∙ holds.each o.1.0 row o.1.1)

  emptied : entries n ≡ changed by_bytes nothing (entries by_index)
  emptied = same_entries by_bytes nat_list_cmp_total bytes_same (entries n) (changed by_bytes nothing (entries by_index)) (entries_sorted n)
      (changed_sorted by_bytes nothing (entries by_index) (entries_sorted by_index))
      (λ q. sym (get-entries n q) ∙ (same_at q (get by_index q) (sym (found q)) (get n q) refl ∙ (ap (option_map nothing) (get-entries by_index q) ∙ sym (find_changed by_bytes nothing q (entries by_index)))))

  each_is : Each (λ k row. (k ≡ index_key t i row) × Is rows t.number row) (entries by_index)
  each_is = each_found nat_list_cmp_total bytes_same (λ k row. (k ≡ index_key t i row) × Is rows t.number row) (entries by_index) (entries_sorted by_index)
      (λ k row is. found_one (index_key t i) (Is rows t.number) (rows_of rows t.number) k row (each_row rows t.number) (sym (found k) ∙ (get-entries by_index k ∙ is)))

module _ (one : OneSpelling value_bytes) (keys : OneSpelling key_value_bytes) (rows : Rows) (t : TableDef) (i : IndexDef) (m : Map) (table : HoldsTable rows t m) where
  -- the row of an entry is the one that has its key
  followed : (at : List ℕ) (row told : Row) → at ≡ index_key t i row → Is rows t.number row → IsEntryOf t i m told at → told ≡ row
  followed at row told at_is here is =
      let fits = table.fitting here.0 row here.1 in
      let same_key : key_of t told ≡ key_of t row = one_key keys t i told row is.fits fits.0 (sym is.at_is ∙ at_is) in
      let bytes : Some (row_bytes (kinds_of t) told) ≡ Some (row_bytes (kinds_of t) row) =
      sym is.stands ∙ (ap (get m) (same_key ∙ sym fits.1) ∙ (table.same here.0 ∙ ap (stored t) here.1)) in
      one (kinds_of t) told row is.fits fits.0 (same_some _ _ bytes)

  follows : (es : List (List ℕ × Row)) (list : List Row) → Each (λ k row. (k ≡ index_key t i row) × Is rows t.number row) es
      → Follow t i m (changed by_bytes (λ row. []) es) list → list ≡ map (λ e. e.1) es
  follows [] [] h told = refl
  follows [] (row ∷ list) h told = absurd told
  follows (e ∷ es) [] h told = absurd told
  follows (e ∷ es) (row ∷ list) h told =
      let here : row ≡ e.1 = followed e.0 e.1 row h.0.0 h.0.1 told.0 in
      let rest = follows es list h.1 told.1 in
      λ k. here k ∷ rest k

  -- the rows of the index are what its entries stand for
  stand_for : (es : List (List ℕ × Row)) → Each (λ k row. (k ≡ index_key t i row) × Is rows t.number row) es → Follow t i m (changed by_bytes (λ row. []) es) (map (λ e. e.1) es)
  stand_for [] h = tt
  stand_for (e ∷ es) h =
      let key = h.0.1.0 in
      let fits = table.fitting key e.1 h.0.1.1 in
      (record { fits = fits.0; at_is = h.0.0; stands = ap (get m) (sym fits.1) ∙ (table.same key ∙ ap (stored t) h.0.1.1) }, stand_for es h.1)

-- ---- the index in the schema

index_object : (d : Definition) (i : IndexDef) → as_index (Some d) ≡ Some i → object_of d ≡ schema.index i
index_object (Index j) i is = ap schema.index (same_some j i is)
index_object (Table u) i is = absurd (cc)
index_object (View v) i is = absurd (cc)

index_at : (ds : Definitions) (n : ℕ) (i : IndexDef) → as_index (slice_get ds n) ≡ Some i → slice_get (map object_of ds) n ≡ Some (schema.index i)
index_at [] n i is = absurd (cc)
index_at (d ∷ ds) ℕ.zero i is = ap Some (index_object d i is)
index_at (d ∷ ds) (ℕ.suc n) i is = index_at ds n i is

index_in_schema : (ds : Definitions) (n : ℕ) (i : IndexDef) → index_of ds n ≡ Some i → schema.numbered (schema_of ds) n ≡ Some (schema.index i)
index_in_schema ds ℕ.zero i is = absurd (cc)
index_in_schema ds (ℕ.suc n) i is = index_at ds n i is

pub reads_by : (db : Database) (ds : Definitions) (number : ℕ) (i : IndexDef) (t : TableDef) (m n : Map) (interval : Interval) (list : List Row) → OneSpelling value_bytes → OneSpelling key_value_bytes
    → db.schema ≡ schema_of ds → index_of ds number ≡ Some i → table_of ds i.table ≡ Some t → HoldsTable db.rows t m → HoldsIndex db.rows t i n → Follow t i m (between interval (entries n)) list → read db number interval ≡ list
reads_by db ds number i t m n interval list one keys schema_is is table_is table holds told =
    let all = entries (by_index db.rows t i n holds) in
    let some = filter (λ (e : List ℕ × Row). lies_in e.0 interval) all in
    let whole : between interval (entries n) ≡ changed by_bytes (λ row. []) some = ap (between interval) (emptied db.rows t i n holds) ∙ filter_changed by_bytes (λ row. []) (λ k. lies_in k interval) all in
    let told' : Follow t i m (changed by_bytes (λ row. []) some) list = subst (λ (es : List Entry). Follow t i m es list) whole told in
    let list_is : list ≡ rows_between (index_key t i) interval (rows_of db.rows t.number) =
    follows one keys db.rows t i m table some list (each_filter (λ k row. (k ≡ index_key t i row) × Is db.rows t.number row) (λ e. lies_in e.0 interval) all (each_is db.rows t i n holds)) told' in
    ap (λ o. object_rows db o interval) (ap (λ s. schema.numbered s number) schema_is ∙ index_in_schema ds number i is)
    ∙ (ap (λ o. index_rows db i o interval) (ap (λ s. schema.numbered s i.table) schema_is ∙ in_schema ds i.table t table_is)
    ∙ sym list_is)

-- what is read is what the entries of the interval stand for
pub read_follows : (db : Database) (ds : Definitions) (number : ℕ) (i : IndexDef) (t : TableDef) (m n : Map) (interval : Interval) → OneSpelling value_bytes → OneSpelling key_value_bytes
    → db.schema ≡ schema_of ds → index_of ds number ≡ Some i → table_of ds i.table ≡ Some t → HoldsTable db.rows t m → HoldsIndex db.rows t i n → Follow t i m (between interval (entries n)) (read db number interval)
read_follows db ds number i t m n interval one keys schema_is is table_is table holds =
    let all = entries (by_index db.rows t i n holds) in
    let some = filter (λ (e : List ℕ × Row). lies_in e.0 interval) all in
    let whole : between interval (entries n) ≡ changed by_bytes (λ row. []) some = ap (between interval) (emptied db.rows t i n holds) ∙ filter_changed by_bytes (λ row. []) (λ k. lies_in k interval) all in
    let told : Follow t i m (changed by_bytes (λ row. []) some) (map (λ e. e.1) some) =
    stand_for one keys db.rows t i m table some (each_filter (λ k row. (k ≡ index_key t i row) × Is db.rows t.number row) (λ e. lies_in e.0 interval) all (each_is db.rows t i n holds)) in
    let told' : Follow t i m (between interval (entries n)) (map (λ e. e.1) some) = subst (λ (es : List Entry). Follow t i m es (map (λ e. e.1) some)) (sym whole) told in
    subst (Follow t i m (between interval (entries n))) (sym (reads_by db ds number i t m n interval (map (λ e. e.1) some) one keys schema_is is table_is table holds told')) told'

-- ---- one entry after the other

-- the row of the first entry, and those of the others
pub record First (t : TableDef) (i : IndexDef) (m : Map) (e : Entry) (es : List Entry) (rows : List Row) : Type 0 where
  pub row : Row
  pub rest : List Row
  pub rows_are : rows ≡ row ∷ rest
  pub of_row : IsEntryOf t i m row e.0
  pub others : Follow t i m es rest

pub first_row : (t : TableDef) (i : IndexDef) (m : Map) (e : Entry) (es : List Entry) (rows : List Row) → Follow t i m (e ∷ es) rows → First t i m e es rows
first_row t i m e es [] f = absurd f
first_row t i m e es (row ∷ rows) f = record { row = row; rest = rows; rows_are = refl; of_row = f.0; others = f.1 }

pub no_rows : (t : TableDef) (i : IndexDef) (m : Map) (rows : List Row) → Follow t i m [] rows → rows ≡ []
no_rows t i m [] f = refl
no_rows t i m (row ∷ rows) f = absurd f
