-- The bytes of data that a definition makes, besides its text.
use Rattle.std.specs.Prelude.{◌≡◌, ℕ, zero, suc, ◌+◌, ◌≤◌, ◌==◌, Bool, true, false, cond, List, [], ◌∷◌, ◌++◌, map, filter, length, ℤ, pos, Option, Some, None}
use Rattle.std.specs.List.{AllByRecursion, sum, filter_map}
use Rattle.std.specs.Option.{option_map_or, unwrap_or, option_to_list}
use Rattle.std.specs.FinMap.{get, entries, empty, get-empty, len-entries, len-empty}
use mathlib.Core.Path.{refl, sym, ap, ◌∙◌}
use Rattle.std.proofs.Common.{arith, eq-eqb, eqb-true}
use Rattle.std.proofs.lemmas.Bool.{false≢true}
use Rattle.std.proofs.lemmas.List.Elements.{filter_map-append, filter-append, recursion_from_All}
use Rattle.std.proofs.lemmas.List.{nil_from_length}
use Rattle.std.proofs.lemmas.Option.{none-some}
use Rattle.iv_types.specs.declared.value.Kind.{Kind}
use Rattle.iv_types.specs.declared.catalog.TableDef.{TableDef}
use Rattle.iv_types.specs.declared.catalog.IndexDef.{IndexDef}
use Rattle.iv_types.specs.declared.catalog.Second.{Second}
use Rattle.iv_types.specs.declared.lock.GroupDelta.{GroupDelta}
use Rattle.iv_types.specs.Encoding.{kinds_of, key_bytes}
use Rattle.table_laws.specs.Place.{Place, place_cmp}
use Rattle.table_laws.specs.Table.{rows_where}
use Rattle.iv_meaning.specs.Schema.{Schema, Object, table, index, view, ViewTree, numbered, as_index, indexes_of, sources_of, kind_at, kinds_of_table, group_kinds, primary_of}
use Rattle.iv_meaning.specs.Database.{Row, Rows, rows_of}
use Rattle.iv_meaning.specs.Values.{is_true, value_at}
use Rattle.iv_meaning.specs.Query.{combinations, conjunction, values_at, Combination}
use Rattle.iv_meaning.specs.Grouping.{number_in}
use Rattle.iv_meaning.specs.View.{index_key, conditions_of, join_conditions}
use Rattle.iv_meaning.specs.Sound.{IsTable, IsRow}
use Rattle.txn_machine.specs.Counts.{row_size}
use Rattle.txn_machine.specs.Deltas.{place_of, columns_of, contribution, is_counted}
use Rattle.txn_machine.specs.Fresh.{all_contributions, made_of}
use Rattle.txn_machine.specs.Log.{entry_bytes, row_entries, view_entry, view_entries, made_entries}
use Rattle.txn_machine.specs.Stored.{ViewRows, IsStoredRow, AreStored, plus, add_to, add_all}
use Rattle.txn_machine.specs.ViewLaws.{AreSound}
use Rattle.txn_machine.proofs.Agreeing.{by_place, written_at, written_other}
use Rattle.txn_machine.proofs.Looking.{all_entries}
use Rattle.txn_machine.proofs.LogSums.{sum_first}
use Rattle.txn_machine.proofs.Making.{numbered_more, map_same}
use Rattle.txn_machine.proofs.Shapes.{last_numbered}
use Rattle.txn_log.specs.Room.{rows_bytes}
use Rattle.txn_log.proofs.Rooming.{wrote_total}

-- ---- sums

pub sum_append : {X : Type 0} (f : X → ℕ) (xs ys : List X) → sum (map f (xs ++ ys)) ≡ sum (map f xs) + sum (map f ys)
sum_append f [] ys = omega arith
sum_append f (x ∷ xs) ys =
    let rest = sum_append f xs ys in
    let one : sum (map f (x ∷ xs)) ≡ f x + sum (map f xs) = sum_first (f x) (map f xs) in
    let both : sum (map f (x ∷ (xs ++ ys))) ≡ f x + sum (map f (xs ++ ys)) = sum_first (f x) (map f (xs ++ ys)) in
    omega (arith, rest, one, both)

-- ---- rows

abbrev key_entry : TableDef → Row → IndexDef → ℕ
key_entry t row i = entry_bytes (length (index_key t i row)) 0

-- the entries of a row of a table
known_row : (objects : Schema) (place : Place) (row : Row) (t : TableDef) → numbered objects place.0 ≡ Some (table t)
    → row_entries objects place row ≡ entry_bytes (length place.1) (row_size (kinds_of t) row) + sum (map (key_entry t row) (indexes_of objects place.0))
known_row objects place row t e =
    ap (λ (o : Option Object). entry_bytes (length place.1) (row_size (kinds_of_table o) row) + elim o [ Some (table u) ↦ sum (map (key_entry u row) (indexes_of objects place.0)) | _ ↦ 0 ]) e

-- of these definitions those that are indexes of the table
abbrev indexes_in : List Object → ℕ → List IndexDef
indexes_in os n = filter (λ (i : IndexDef). i.table == n) (filter_map as_index os)

-- a row has the entries that it had, and one in a new index of its table
row_more : (objects : Schema) (o : Object) (place : Place) (row : Row) → (r : IsRow objects place row)
    → row_entries (objects ++ o ∷ []) place row ≡ row_entries objects place row + sum (map (key_entry r.of row) (indexes_in (o ∷ []) place.0))
row_more objects o place row r =
    let more : Schema = objects ++ o ∷ [] in
    let old = known_row objects place row r.of r.table_is in
    let new = known_row more place row r.of (numbered_more objects o place.0 (table r.of) r.table_is ∙ r.table_is) in
    let all : indexes_of more place.0 ≡ indexes_of objects place.0 ++ indexes_in (o ∷ []) place.0 =
    ap (filter (λ (i : IndexDef). i.table == place.0)) (filter_map-append as_index objects (o ∷ [])) ∙ filter-append (λ (i : IndexDef). i.table == place.0) (filter_map as_index objects) (filter_map as_index (o ∷ [])) in
    let sums = ap (λ (is : List IndexDef). sum (map (key_entry r.of row) is)) all ∙ sum_append (key_entry r.of row) (indexes_of objects place.0) (indexes_in (o ∷ []) place.0) in
    omega (arith, old, new, sums)

abbrev AreRows : Schema → List (Place × Row) → Type 0
AreRows objects es = AllByRecursion (λ (e : Place × Row). IsRow objects e.0 e.1) es

abbrev bytes_in : Schema → List (Place × Row) → ℕ
bytes_in objects es = sum (map (λ (e : Place × Row). row_entries objects e.0 e.1) es)

first_bytes : (objects : Schema) (e : Place × Row) (es : List (Place × Row)) → bytes_in objects (e ∷ es) ≡ row_entries objects e.0 e.1 + bytes_in objects es
first_bytes objects e es = sum_first (row_entries objects e.0 e.1) (map (λ (x : Place × Row). row_entries objects x.0 x.1) es)

-- a table or a view gives rows no entry
none_more : (objects : Schema) (o : Object) → filter_map as_index (o ∷ []) ≡ [] → (es : List (Place × Row)) → AreRows objects es → bytes_in (objects ++ o ∷ []) es ≡ bytes_in objects es
none_more objects o none [] h = refl
none_more objects o none (e ∷ es) h =
    let rest = none_more objects o none es h.1 in
    let old = first_bytes objects e es in
    let new = first_bytes (objects ++ o ∷ []) e es in
    let one = row_more objects o e.0 e.1 h.0 in
    let nothing : sum (map (key_entry h.0.of e.1) (indexes_in (o ∷ []) e.0.0)) ≡ 0 = ap (λ (is : List IndexDef). sum (map (key_entry h.0.of e.1) (filter (λ (i : IndexDef). i.table == e.0.0) is))) none in
    omega (arith, rest, old, new, one, nothing)

-- ---- an index

module _ (i : IndexDef) where
  abbrev of_table : List (Place × Row) → List (Place × Row)
  of_table es = rows_where (λ place row. place.0 == i.table) es

  -- the entries that it makes for these rows
  abbrev made_in : Option Object → List (Place × Row) → ℕ
  made_in o es = elim o [
    | Some (table t) ↦ sum (map (λ row. entry_bytes (length (index_key t i row)) 0) (map (λ (e : Place × Row). e.1) (of_table es)))
    | _ ↦ 0
  ]

  none_made : (o : Option Object) → made_in o [] ≡ 0
  none_made None = refl
  none_made (Some (table t)) = refl
  none_made (Some (index x)) = refl
  none_made (Some (view v)) = refl

  same_test : (n : ℕ) → (i.table == n) ≡ (n == i.table)
  same_test n = elim (n == i.table) as (λ b. (n == i.table) ≡ b → (i.table == n) ≡ b) [
    | true ↦ λ t. eq-eqb i.table n (sym (eqb-true n i.table t))
    | false ↦ λ t. other t (i.table == n) refl
  ] refl
    where
      other : (n == i.table) ≡ false → (b : Bool) → (i.table == n) ≡ b → (i.table == n) ≡ false
      other t true e = absurd (false≢true (sym t ∙ eq-eqb n i.table (sym (eqb-true i.table n e))))
      other t false e = e

  module _ (objects : Schema) where
    abbrev at : Option Object
    at = numbered objects i.table

    -- one row more
    one_made : (e : Place × Row) (es : List (Place × Row)) → (r : IsRow objects e.0 e.1)
        → made_in at (e ∷ es) ≡ sum (map (key_entry r.of e.1) (indexes_in (index i ∷ []) e.0.0)) + made_in at es
    one_made e es r = by_test (e.0.0 == i.table) refl
      where
        entry : (b : Bool) → (e.0.0 == i.table) ≡ b → sum (map (key_entry r.of e.1) (indexes_in (index i ∷ []) e.0.0)) ≡ sum (map (key_entry r.of e.1) (cond b (i ∷ []) []))
        entry b t = ap (λ c. sum (map (key_entry r.of e.1) (cond c (i ∷ []) []))) (same_test e.0.0 ∙ t)

        made : (b : Bool) → (e.0.0 == i.table) ≡ b → made_in at (e ∷ es) ≡ elim at [
          | Some (table t) ↦ sum (map (λ row. entry_bytes (length (index_key t i row)) 0) (map (λ (x : Place × Row). x.1) (cond b (e ∷ of_table es) (of_table es))))
          | _ ↦ 0
        ]
        made b t = ap (λ c. elim at [
          | Some (table t) ↦ sum (map (λ row. entry_bytes (length (index_key t i row)) 0) (map (λ (x : Place × Row). x.1) (cond c (e ∷ of_table es) (of_table es))))
          | _ ↦ 0
        ]) t

        by_test : (b : Bool) → (e.0.0 == i.table) ≡ b → made_in at (e ∷ es) ≡ sum (map (key_entry r.of e.1) (indexes_in (index i ∷ []) e.0.0)) + made_in at es
        by_test false t = (let one = entry false t in let all = made false t in omega (arith, one, all))
        by_test true t =
            let is : at ≡ Some (table r.of) = ap (numbered objects) (sym (eqb-true e.0.0 i.table t)) ∙ r.table_is in
            let one = entry true t in
            let all = made true t ∙ ap (λ (o : Option Object). elim o [
              | Some (table t) ↦ sum (map (λ row. entry_bytes (length (index_key t i row)) 0) (map (λ (x : Place × Row). x.1) (e ∷ of_table es)))
              | _ ↦ 0
            ]) is in
            let others = ap (λ (o : Option Object). made_in o es) is in
            let first = sum_first (key_entry r.of e.1 i) (map (λ row. entry_bytes (length (index_key r.of i row)) 0) (map (λ (x : Place × Row). x.1) (of_table es))) in
            omega (arith, one, all, others, first)

    index_more : (es : List (Place × Row)) → AreRows objects es → bytes_in (objects ++ index i ∷ []) es ≡ bytes_in objects es + made_in at es
    index_more [] h = (let none = none_made at in omega (arith, none))
    index_more (e ∷ es) h =
        let rest = index_more es h.1 in
        let old = first_bytes objects e es in
        let new = first_bytes (objects ++ index i ∷ []) e es in
        let one = row_more objects (index i) e.0 e.1 h.0 in
        let made = one_made e es h.0 in
        omega (arith, rest, old, new, one, made)

-- ---- a view

-- a table is none of the last objects that are views
table_stays : (objects : Schema) (v : ViewTree) (n : ℕ) (t : TableDef) → numbered (objects ++ view v ∷ []) n ≡ Some (table t) → numbered (objects ++ view v ∷ []) n ≡ numbered objects n
table_stays objects v zero t e = refl
table_stays [] v (suc zero) t e = absurd (cc)
table_stays [] v (suc (suc n)) t e = refl
table_stays (x ∷ objects) v (suc zero) t e = refl
table_stays (x ∷ objects) v (suc (suc n)) t e = table_stays objects v (suc n) t e

none_numbered : (objects : Schema) → numbered objects (suc (length objects)) ≡ None
none_numbered [] = refl
none_numbered (x ∷ objects) = none_numbered objects

no_entries : entries (empty {X = List ℤ} {R = place_cmp}) ≡ []
no_entries = nil_from_length _ (sym (len-entries (empty {X = List ℤ} {R = place_cmp})) ∙ len-empty place_cmp (List ℤ))

-- deltas of a view add as many entries to rows that agree on the view's places
made_apart : (n : ℕ) (one other : ViewRows) (ds : List GroupDelta) → AllByRecursion (λ (d : GroupDelta). d.view ≡ n) ds → ((p : Place) → p.0 ≡ n → get one p ≡ get other p)
    → view_entries (add_all one ds) + view_entries other ≡ view_entries one + view_entries (add_all other ds)
made_apart n one other [] h agree = refl
made_apart n one other (d ∷ ds) h agree =
    let p : Place = place_of d in
    let same : get one p ≡ get other p = agree p h.0 in
    let rest = made_apart n (add_to one d) (add_to other d) ds h.1 (λ q at. by_place q p
    (λ e. written_at one p (Some (with_it (get one p))) q e ∙ (ap (λ o. Some (with_it o)) same ∙ sym (written_at other p (Some (with_it (get other p))) q e)))
    (λ m. written_other one p (Some (with_it (get one p))) q m ∙ (agree q at ∙ sym (written_other other p (Some (with_it (get other p))) q m)))) in
    let first = wrote_total (λ (q : Place) (xs : List ℤ). view_entry q (length xs)) one p (Some (with_it (get one p))) in
    let second = wrote_total (λ (q : Place) (xs : List ℤ). view_entry q (length xs)) other p (Some (with_it (get other p))) in
    let before = ap (λ (o : Option (List ℤ)). option_map_or (λ xs. view_entry p (length xs)) o 0) same in
    let after = ap (λ o. view_entry p (length (with_it o))) same in
    omega (arith, rest, first, second, before, after)
  where
    with_it : Option (List ℤ) → List ℤ
    with_it o = plus (unwrap_or o []) (columns_of d)

-- what a view is made of is the same where its tables are
same_made : (more objects : Schema) (rows : Rows) (v : ViewTree) → AllByRecursion (λ n. numbered more n ≡ numbered objects n) (sources_of v) → all_contributions more rows v ≡ all_contributions objects rows v
same_made more objects rows v h = λ i. map (λ c. record { view = v.number; group = key_bytes (kinds i) (values_at v.group c); count = pos 1; sums = map (λ column. number_in (value_at c column)) v.sums })
    (filter (λ c. is_true (conjunction (conditions i) c)) (combinations (map (rows_of rows) (sources_of v))))
  where
    each : (ns : List ℕ) → AllByRecursion (λ n. numbered more n ≡ numbered objects n) ns → AllByRecursion (λ n. kinds_of_table (numbered more n) ≡ kinds_of_table (numbered objects n)) ns
    each [] a = tt
    each (n ∷ ns) a = (ap kinds_of_table a.0, each ns a.1)

    kinds : group_kinds more v ≡ group_kinds objects v
    kinds = ap (λ (l : List (List Kind)). filter_map (kind_at l) v.group) (map_same (λ n. kinds_of_table (numbered more n)) (λ n. kinds_of_table (numbered objects n)) (sources_of v) (each (sources_of v) h))

    conditions : conditions_of more v ≡ conditions_of objects v
    conditions = go v.second h.1
      where
        go : (o : Option Second) → AllByRecursion (λ n. numbered more n ≡ numbered objects n) (elim o [ None ↦ [] | Some second ↦ second.table ∷ [] ])
            → option_map_or (λ second. join_conditions second.joined (primary_of (numbered more second.table))) o [] ++ option_to_list v.condition
            ≡ option_map_or (λ second. join_conditions second.joined (primary_of (numbered objects second.table))) o [] ++ option_to_list v.condition
        go None a = refl
        go (Some second) a = ap (λ x. join_conditions second.joined (primary_of x) ++ option_to_list v.condition) a.0

of_view : (objects : Schema) (v : ViewTree) (cs : List Combination) → AllByRecursion (λ (d : GroupDelta). d.view ≡ v.number) (map (contribution objects v) cs)
of_view objects v [] = tt
of_view objects v (c ∷ cs) = (refl, of_view objects v cs)

module _ (objects : Schema) (v : ViewTree) (rows : Rows) (stored : ViewRows) (are : AreStored objects stored) (sound : AreSound (objects ++ view v ∷ []) rows) where
  abbrev more : Schema
  more = objects ++ view v ∷ []

  number_is : v.number ≡ suc (length objects)
  number_is = (sound.objects (suc (length objects)) (view v) (last_numbered objects (view v))).0

  tables_stay : AllByRecursion (λ n. numbered more n ≡ numbered objects n) (sources_of v)
  tables_stay = each (sources_of v) (recursion_from_All (IsTable more) (sources_of v) (sound.objects (suc (length objects)) (view v) (last_numbered objects (view v))).1.tables)
    where
      each : (ns : List ℕ) → AllByRecursion (IsTable more) ns → AllByRecursion (λ n. numbered more n ≡ numbered objects n) ns
      each [] a = tt
      each (n ∷ ns) a = (table_stays objects v n a.0.0 a.0.1, each ns a.1)

  -- no row of it is stored
  none_stored : (p : Place) → p.0 ≡ v.number → get stored p ≡ None
  none_stored p at = go (get stored p) refl
    where
      go : (o : Option (List ℤ)) → get stored p ≡ o → get stored p ≡ None
      go None e = e
      go (Some ns) e =
          let row : IsStoredRow objects p ns = are p ns e in
          absurd (none-some (view row.of) (sym (none_numbered objects) ∙ (ap (numbered objects) (sym (at ∙ number_is)) ∙ row.view_is)))

  view_more : view_entries (add_all stored (made_of more rows (view v))) ≡ view_entries stored + view_entries (add_all empty (made_of objects rows (view v)))
  view_more =
      let apart = made_apart v.number stored empty (made_of more rows (view v)) (of_view more v (filter (is_counted more v) (combinations (map (rows_of rows) (sources_of v)))))
      (λ p at. none_stored p at ∙ sym (get-empty place_cmp p)) in
      let same = ap (λ (ds : List GroupDelta). view_entries (add_all empty ds)) (same_made more objects rows v tables_stay) in
      let nothing : view_entries empty ≡ 0 = ap (λ (es : List (Place × List ℤ)). sum (map (λ e. view_entry e.0 (length e.1)) es)) no_entries in
      omega (arith, apart, same, nothing)

-- ---- any object

-- what a definition makes besides its text
pub made_is : (objects : Schema) (o : Object) (rows : Rows) (stored : ViewRows) → AreSound objects rows → AreStored objects stored → AreSound (objects ++ o ∷ []) rows
    → rows_bytes (objects ++ o ∷ []) rows + view_entries (add_all stored (made_of (objects ++ o ∷ []) rows o)) ≡ rows_bytes objects rows + view_entries stored + made_entries objects rows o
made_is objects (table t) rows stored sound are later =
    (let same = none_more objects (table t) refl (entries rows) (all_entries (λ e. IsRow objects e.0 e.1) rows sound.rows) in omega (arith, same))
made_is objects (index i) rows stored sound are later =
    (let same = index_more i objects (entries rows) (all_entries (λ e. IsRow objects e.0 e.1) rows sound.rows) in omega (arith, same))
made_is objects (view v) rows stored sound are later =
    let same = none_more objects (view v) refl (entries rows) (all_entries (λ e. IsRow objects e.0 e.1) rows sound.rows) in
    let made = view_more objects v rows stored are later in
    omega (arith, same, made)

pub made_more : (objects : Schema) (o : Object) (rows : Rows) (stored : ViewRows) → AreSound objects rows → AreStored objects stored → AreSound (objects ++ o ∷ []) rows
    → rows_bytes (objects ++ o ∷ []) rows + view_entries (add_all stored (made_of (objects ++ o ∷ []) rows o)) ≤ rows_bytes objects rows + view_entries stored + made_entries objects rows o
made_more objects o rows stored sound are later = (let same = made_is objects o rows stored sound are later in omega (arith, same))
