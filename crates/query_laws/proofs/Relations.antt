-- What the indexes of a relation have in an interval.
use Rattle.std.specs.Prelude.{◌≡◌, ℕ, zero, suc, ◌+◌, ◌<◌, ◌==◌, Bool, true, false, cond, List, [], ◌∷◌, ◌++◌, length, map, filter, take, slice_get, Some}
use Rattle.std.specs.List.{AllByRecursion, filter_map, cons_option}
use Rattle.std.specs.Option.{option_map_or}
use mathlib.Core.Path.{refl, sym, ap, subst, ◌∙◌}
use Rattle.std.proofs.Common.{arith, append_assoc, append-nil, inl, inr, eqb-true}
use Rattle.std.proofs.lemmas.List.{length-map, length-append}
use Rattle.std.proofs.lemmas.List.Elements.{recursion_from_All}
use Rattle.iv_types.specs.declared.value.Kind.{Kind}
use Rattle.iv_types.specs.declared.value.Kind.TheVariants.{Huge}
use Rattle.iv_types.specs.declared.value.Value.{Value}
use Rattle.iv_types.specs.declared.value.Interval.{Interval}
use Rattle.iv_types.specs.declared.statement.Mode.{Mode}
use Rattle.iv_types.specs.declared.statement.Mode.TheVariants.{Serial, Snapshot}
use Rattle.iv_types.specs.declared.statement.ColumnDef.{ColumnDef}
use Rattle.iv_types.specs.declared.catalog.TableDef.{TableDef}
use Rattle.iv_types.specs.declared.catalog.IndexDef.{IndexDef}
use Rattle.iv_types.specs.Encoding.{kinds_of, FitAll, key_bytes, lies_in}
use Rattle.row_codec.proofs.Columns.{fit_lengths}
use Rattle.iv_meaning.specs.Schema.{Schema, Object, table, index, view, ViewTree, numbered, as_index, indexes_of, items_at, kinds_of_table, sources_of, group_kinds, object_kinds, primary_of}
use Rattle.iv_meaning.specs.Database.{Row, Database, rows_of, key_of}
use Rattle.iv_meaning.specs.Values.{is_true}
use Rattle.iv_meaning.specs.Query.{Combination, combinations, conjunction, sorted_by}
use Rattle.iv_meaning.specs.View.{conditions_of, counted_combinations, view_rows, relation_rows, rows_between, index_key, index_rows, view_key, object_rows, read}
use Rattle.iv_meaning.specs.Sound.{IsSound, IsView, IsTable, AreColumns}
use Rattle.iv_meaning.specs.Plan.{KeyIndex, first_columns, read_by, Part, kinds_for}
use Rattle.iv_meaning.specs.Reading.{Source, by_columns, in_key_order, source_by, source_of}
use Rattle.query_laws.specs.Laws.{Rises, IsRelation}
use Rattle.query_laws.proofs.Each.{each_to, each_filtered}
use Rattle.query_laws.proofs.Rising.{between_rising}
use Rattle.query_laws.proofs.TableRows.{rows_rise, rows_fit, some_table}
use Rattle.query_laws.proofs.Fitting.{AreOf, all_are_of, ArePlaces, HaveColumns, have_columns}
use Rattle.query_laws.proofs.TermLemmas.{FitRows, get_behind}
use Rattle.query_laws.proofs.IndexRows.{sorted_between, rises_by}
use Rattle.query_laws.proofs.GroupRows.{IsKnown, kinds_long, huge_kinds, IsRowOf, IsViewRow, AreViewRows, grouped_rows, combinations_fit}

-- ---- places

places_of_columns : (t : TableDef) (places : List ℕ) → AreColumns t places → ArePlaces (kinds_of t) places
places_of_columns t places h =
    subst (λ n. AllByRecursion (λ p. p < n) places) (sym (length-map t.columns (λ (c : ColumnDef). c.kind))) (recursion_from_All (λ p. p < length t.columns) places h)

-- the first columns have the first items
first_items : {X : Type 0} (before xs after : List X) (from : ℕ) → from ≡ length before → items_at (before ++ (xs ++ after)) (first_columns from (length xs)) ≡ xs
first_items before [] after from e = refl
first_items before (x ∷ xs) after from e =
    let more : from + 1 ≡ length (before ++ x ∷ []) = omega (arith, e, length-append before (x ∷ [])) in
    let rest = first_items (before ++ x ∷ []) xs after (from + 1) more in
    let here : slice_get (before ++ x ∷ (xs ++ after)) from ≡ Some x = ap (slice_get (before ++ x ∷ (xs ++ after))) e ∙ get_behind before (xs ++ after) x in
    ap (λ o. cons_option o (items_at (before ++ x ∷ (xs ++ after)) (first_columns (from + 1) (length xs)))) here
    ∙ ap (λ l. x ∷ l) (ap (λ l. items_at l (first_columns (from + 1) (length xs))) (sym (append_assoc before (x ∷ []) (xs ++ after))) ∙ rest)

-- where the first items fit, so do the first columns
first_have : (done_kinds : List Kind) (done : List Value) (ks more_kinds : List Kind) (vs more : List Value) (n from : ℕ) → from ≡ length done_kinds → from ≡ length done → length ks ≡ n → FitAll ks vs
    → HaveColumns (done_kinds ++ (ks ++ more_kinds)) (done ++ (vs ++ more)) (first_columns from n)
first_have done_kinds done [] more_kinds vs more zero from e f l h = tt
first_have done_kinds done [] more_kinds vs more (suc n) from e f l h = absurd (omega (arith, l))
first_have done_kinds done (k ∷ ks) more_kinds [] more n from e f l h = absurd h
first_have done_kinds done (k ∷ ks) more_kinds (v ∷ vs) more zero from e f l h = absurd (omega (arith, l))
first_have done_kinds done (k ∷ ks) more_kinds (v ∷ vs) more (suc n) from e f l h =
    let rest : HaveColumns ((done_kinds ++ k ∷ []) ++ (ks ++ more_kinds)) ((done ++ v ∷ []) ++ (vs ++ more)) (first_columns (from + 1) n) =
    first_have (done_kinds ++ k ∷ []) (done ++ v ∷ []) ks more_kinds vs more n (from + 1) (omega (arith, e, length-append done_kinds (k ∷ []))) (omega (arith, f, length-append done (v ∷ []))) (omega (arith, l)) h.1 in (
      record {
        kind = k;
        value = v;
        kind_is = ap (slice_get (done_kinds ++ k ∷ (ks ++ more_kinds))) e ∙ get_behind done_kinds (ks ++ more_kinds) k;
        value_is = ap (slice_get (done ++ v ∷ (vs ++ more))) f ∙ get_behind done (vs ++ more) v;
        fits = h.0;
      },
      subst (λ (l : List Kind). HaveColumns l (done ++ v ∷ (vs ++ more)) (first_columns (from + 1) n)) (append_assoc done_kinds (k ∷ []) (ks ++ more_kinds))
          (subst (λ (l : List Value). HaveColumns ((done_kinds ++ k ∷ []) ++ (ks ++ more_kinds)) l (first_columns (from + 1) n)) (append_assoc done (v ∷ []) (vs ++ more)) rest),
    )

filter_same : (p q : Row → Bool) (rows : List Row) → AllByRecursion (λ row. p row ≡ q row) rows → filter p rows ≡ filter q rows
filter_same p q [] h = refl
filter_same p q (row ∷ rows) h = λ i. cond (h.0 i) (row ∷ filter_same p q rows h.1 i) (filter_same p q rows h.1 i)

-- ---- reading by an index

-- what a source lists of an interval, where intervals have these rows
abbrev pub lists : (ℕ → Interval → List Row) → Source → ℕ → Interval → List Row
lists rows s number interval = in_key_order s.key (rows number interval)

-- the index's columns and those behind them fit the relation's kinds, and by it those rows are listed whose keys lie in an interval
pub record IsReadBy (objects : Schema) (rows : ℕ → Interval → List Row) (ks : List Kind) (all_rows : List Row) (i : KeyIndex) : Type 0 where
  pub more : List ℕ
  pub all : List ℕ
  pub all_is : all ≡ i.columns ++ more
  pub columns_in : AllByRecursion (λ row. HaveColumns ks row i.columns) all_rows
  pub more_in : AllByRecursion (λ row. HaveColumns ks row more) all_rows
  pub part_is : (part : Part) → part.index ≡ i.number → (source_of objects part).part ≡ part
  pub kinds_are : (part : Part) → part.index ≡ i.number → (source_of objects part).kinds ≡ items_at ks i.columns
  pub lists_are : (part : Part) → part.index ≡ i.number → (interval : Interval)
      → lists rows (source_of objects part) part.index interval ≡ filter (λ row. lies_in (key_bytes (items_at ks all) (items_at row all)) interval) all_rows

-- The rows of the indexes of a sound database.
module _ (db : Database) (sound : IsSound db) where
  abbrev rows : ℕ → Interval → List Row
  rows = read db

  -- what is read by an object's number
  told_of : (n : ℕ) (o : Object) (interval : Interval) → numbered db.schema n ≡ Some o → rows n interval ≡ object_rows db (Some o) interval
  told_of n o interval is = ap (λ x. object_rows db x interval) is

  module _ (n : ℕ) (t : TableDef) (is : numbered db.schema n ≡ Some (table t)) where
    own_number : t.number ≡ n
    own_number = (sound.objects n (table t) is).0

    primary_in : ArePlaces (kinds_of t) t.primary
    primary_in = places_of_columns t t.primary (sound.objects n (table t) is).1

    rises : Rises (key_of t) (rows_of db.rows t.number)
    rises = subst (λ m. Rises (key_of t) (rows_of db.rows m)) (sym own_number) (rows_rise db sound n t is)

    fits : AllByRecursion (FitAll (kinds_of t)) (rows_of db.rows t.number)
    fits = subst (λ m. AllByRecursion (FitAll (kinds_of t)) (rows_of db.rows m)) (sym own_number) (recursion_from_All (FitAll (kinds_of t)) (rows_of db.rows n) (rows_fit db sound n t is))

    -- each row has the columns of some places
    have : (places : List ℕ) → ArePlaces (kinds_of t) places → AllByRecursion (λ row. HaveColumns (kinds_of t) row places) (rows_of db.rows t.number)
    have places h = each_to (FitAll (kinds_of t)) (λ row. HaveColumns (kinds_of t) row places) (λ row f. have_columns (kinds_of t) row places f h) (rows_of db.rows t.number) fits

    -- the object of a part's index
    object_is : (number m : ℕ) (o : Object) → number ≡ m → numbered db.schema m ≡ Some o → numbered db.schema number ≡ Some o
    object_is number m o e f = ap (numbered db.schema) e ∙ f

    by_primary : IsReadBy db.schema rows (kinds_of t) (rows_of db.rows t.number) (record { number = t.number; columns = t.primary })
    by_primary = record {
      more = [];
      all = t.primary;
      all_is = sym (append-nil t.primary);
      columns_in = have t.primary primary_in;
      more_in = have [] tt;
      part_is = λ part e. ap (λ o. (source_by db.schema part o).part) (object_is part.index n (table t) (e ∙ own_number) is);
      kinds_are = λ part e. ap (λ o. (source_by db.schema part o).kinds) (object_is part.index n (table t) (e ∙ own_number) is);
      lists_are = λ part e interval.
          let at : numbered db.schema part.index ≡ Some (table t) = object_is part.index n (table t) (e ∙ own_number) is in
          ap (λ o. in_key_order (source_by db.schema part o).key (rows part.index interval)) at
          ∙ (told_of part.index (table t) interval at
          ∙ between_rising (key_of t) interval (rows_of db.rows t.number) rises);
    }

    by_index : (i : IndexDef) (m : ℕ) → numbered db.schema m ≡ Some (index i) → i.table ≡ t.number → IsReadBy db.schema rows (kinds_of t) (rows_of db.rows t.number) (record { number = i.number; columns = i.columns })
    by_index i m there of_table =
        let o = sound.objects m (index i) there in
        let its_table : numbered db.schema i.table ≡ Some (table t) = object_is i.table n (table t) (of_table ∙ own_number) is in
        let same : o.1.of ≡ t = some_table o.1.of t (sym o.1.table_is ∙ its_table) in
        let columns : ArePlaces (kinds_of t) i.columns = subst (λ u. ArePlaces (kinds_of u) i.columns) same (places_of_columns o.1.of i.columns o.1.columns) in
        record {
          more = t.primary;
          all = i.columns ++ t.primary;
          all_is = refl;
          columns_in = have i.columns columns;
          more_in = have t.primary primary_in;
          part_is = λ part e. ap (λ o. (source_by db.schema part o).part) (object_is part.index m (index i) (e ∙ o.0) there);
          kinds_are = λ part e. ap (λ o. (source_by db.schema part o).kinds) (object_is part.index m (index i) (e ∙ o.0) there) ∙ ap (λ x. items_at (kinds_of_table x) i.columns) its_table;
          lists_are = λ part e interval.
              let at : numbered db.schema part.index ≡ Some (index i) = object_is part.index m (index i) (e ∙ o.0) there in
              let found : rows part.index interval ≡ rows_between (index_key t i) interval (rows_of db.rows t.number) =
              told_of part.index (index i) interval at ∙ ap (λ x. index_rows db i x interval) its_table in
              ap (λ x. in_key_order (source_by db.schema part x).key (rows part.index interval)) at
              ∙ (ap (λ x. in_key_order (Some (primary_of x)) (rows part.index interval)) its_table
              ∙ (ap (sorted_by (by_columns t.primary)) found
              ∙ sorted_between (kinds_of t) i.columns t.primary columns primary_in (rows_of db.rows t.number) fits (rises_by (kinds_of t) t.primary primary_in (rows_of db.rows t.number) fits rises) interval));
        }

    -- an index stands somewhere among the objects
    abbrev IsThere : Object → Type 0
    IsThere o = (m : ℕ) × (numbered db.schema m ≡ Some o)

    all_there : (objects : List Object) → ((p : ℕ) (o : Object) → slice_get objects p ≡ Some o → IsThere o) → AllByRecursion IsThere objects
    all_there [] h = tt
    all_there (o ∷ objects) h = (h 0 o refl, all_there objects (λ p x e. h (suc p) x e))

    abbrev IsIndexThere : IndexDef → Type 0
    IsIndexThere i = IsThere (index i)

    indexes_there : (objects : List Object) → AllByRecursion IsThere objects → AllByRecursion IsIndexThere (filter_map as_index objects)
    indexes_there [] h = tt
    indexes_there (table u ∷ objects) h = indexes_there objects h.1
    indexes_there (index i ∷ objects) h = (h.0, indexes_there objects h.1)
    indexes_there (view v ∷ objects) h = indexes_there objects h.1

    of_this : (is : List IndexDef) → AllByRecursion IsIndexThere is → AllByRecursion (IsReadBy db.schema rows (kinds_of t) (rows_of db.rows t.number)) (map (λ i. record { number = i.number; columns = i.columns }) (filter (λ i. i.table == t.number) is))
    of_this [] h = tt
    of_this (i ∷ is) h =
        let rest = of_this is h.1 in
        elim (i.table == t.number) as (λ b. (i.table == t.number) ≡ b → AllByRecursion (IsReadBy db.schema rows (kinds_of t) (rows_of db.rows t.number))
        (map (λ i. record { number = i.number; columns = i.columns }) (cond b (i ∷ filter (λ i. i.table == t.number) is) (filter (λ i. i.table == t.number) is)))) [
          | true ↦ λ e. (by_index i h.0.0 h.0.1 (eqb-true i.table t.number e), rest)
          | false ↦ λ e. rest
        ] refl

    by_others : (mode : Mode) → AllByRecursion (IsReadBy db.schema rows (kinds_of t) (rows_of db.rows t.number)) (elim mode [
      | Serial ↦ map (λ i. record { number = i.number; columns = i.columns }) (indexes_of db.schema t.number)
      | Snapshot ↦ []
    ])
    by_others Serial = of_this (filter_map as_index db.schema) (indexes_there db.schema (all_there db.schema (λ p o e. (suc p, e))))
    by_others Snapshot = tt

  -- ---- views

  module _ (n : ℕ) (v : ViewTree) (is : numbered db.schema n ≡ Some (view v)) where
    abbrev kinds : List (List Kind)
    kinds = map (λ m. kinds_of_table (numbered db.schema m)) (sources_of v)

    is_view : IsView db.schema v
    is_view = (sound.objects n (view v) is).1

    pub known : AllByRecursion (IsKnown kinds) v.group
    known = recursion_from_All (IsKnown kinds) v.group is_view.group

    table_fits : (m : ℕ) → IsTable db.schema m → AllByRecursion (FitAll (kinds_of_table (numbered db.schema m))) (rows_of db.rows m)
    table_fits m h =
        subst (λ o. AllByRecursion (FitAll (kinds_of_table o)) (rows_of db.rows m)) (sym h.1) (recursion_from_All (FitAll (kinds_of h.0)) (rows_of db.rows m) (rows_fit db sound m h.0 h.1))

    tables_fit : (ms : List ℕ) → AllByRecursion (IsTable db.schema) ms → AllByRecursion (λ m. AllByRecursion (FitAll (kinds_of_table (numbered db.schema m))) (rows_of db.rows m)) ms
    tables_fit [] h = tt
    tables_fit (m ∷ ms) h = (table_fits m h.0, tables_fit ms h.1)

    all_fit : AllByRecursion (FitRows kinds) (combinations (map (rows_of db.rows) (sources_of v)))
    all_fit = combinations_fit (λ m. kinds_of_table (numbered db.schema m)) (rows_of db.rows) (sources_of v) (tables_fit (sources_of v) (recursion_from_All (IsTable db.schema) (sources_of v) is_view.tables))

    -- the combinations that it counts
    abbrev counted : List Combination
    counted = counted_combinations db.schema db.rows v

    counted_fit : AllByRecursion (FitRows kinds) counted
    counted_fit = each_filtered (FitRows kinds) (λ c. is_true (conjunction (conditions_of db.schema v) c)) (combinations (map (rows_of db.rows) (sources_of v))) all_fit

    abbrev found : List Row
    found = view_rows db.schema db.rows v

    pub view_rows_are : AreViewRows kinds v.group v.sums known found
    view_rows_are = grouped_rows kinds v.group v.sums known counted counted_fit

    -- the kinds of the view's columns
    abbrev row_kinds : List Kind
    row_kinds = object_kinds db.schema (view v)

    long : length (group_kinds db.schema v) ≡ length v.group
    long = kinds_long kinds v.group known

    group_items : items_at row_kinds (first_columns 0 (length v.group)) ≡ group_kinds db.schema v
    group_items = ap (λ m. items_at row_kinds (first_columns 0 m)) (sym long) ∙ first_items [] (group_kinds db.schema v) (Huge ∷ huge_kinds v.sums) 0 refl

    row_items : (row : Row) → IsViewRow kinds v.group v.sums known row → items_at row (first_columns 0 (length v.group)) ≡ take (length v.group) row
    row_items row r =
        let of : IsRowOf kinds v.group v.sums known r.0 row = r.1 in
        let cut : length r.0 ≡ length v.group = sym (fit_lengths (group_kinds db.schema v) r.0 of.group_fits) ∙ long in
        ap (λ l. items_at l (first_columns 0 (length v.group))) of.row_is
        ∙ (ap (λ m. items_at (r.0 ++ of.rest) (first_columns 0 m)) (sym cut)
        ∙ (first_items [] r.0 of.rest 0 refl ∙ sym of.front))

    same_key : (row : Row) → IsViewRow kinds v.group v.sums known row → view_key db.schema v row ≡ key_bytes (items_at row_kinds (first_columns 0 (length v.group))) (items_at row (first_columns 0 (length v.group)))
    same_key row r = ap (key_bytes (group_kinds db.schema v)) (sym (row_items row r)) ∙ ap (λ l. key_bytes l (items_at row (first_columns 0 (length v.group)))) (sym group_items)

    -- the group's columns
    group_columns : (row : Row) → IsViewRow kinds v.group v.sums known row → HaveColumns row_kinds row (first_columns 0 (length v.group))
    group_columns row r =
        let of : IsRowOf kinds v.group v.sums known r.0 row = r.1 in
        subst (λ (l : Row). HaveColumns row_kinds l (first_columns 0 (length v.group))) (sym of.row_is)
        (first_have [] [] (group_kinds db.schema v) (Huge ∷ huge_kinds v.sums) r.0 of.rest (length v.group) 0 refl refl long of.group_fits)

    by_group : IsReadBy db.schema rows row_kinds found (record { number = v.number; columns = first_columns 0 (length v.group) })
    by_group =
        let own : v.number ≡ n = (sound.objects n (view v) is).0 in
        record {
          more = [];
          all = first_columns 0 (length v.group);
          all_is = sym (append-nil (first_columns 0 (length v.group)));
          columns_in = each_to (IsViewRow kinds v.group v.sums known) (λ row. HaveColumns row_kinds row (first_columns 0 (length v.group))) group_columns found view_rows_are.0;
          more_in = each_to (IsViewRow kinds v.group v.sums known) (λ row. HaveColumns row_kinds row []) (λ row r. tt) found view_rows_are.0;
          part_is = λ part e. ap (λ o. (source_by db.schema part o).part) (ap (numbered db.schema) (e ∙ own) ∙ is);
          kinds_are = λ part e. ap (λ o. (source_by db.schema part o).kinds) (ap (numbered db.schema) (e ∙ own) ∙ is) ∙ sym group_items;
          lists_are = λ part e interval.
              let at : numbered db.schema part.index ≡ Some (view v) = ap (numbered db.schema) (e ∙ own) ∙ is in
              ap (λ o. in_key_order (source_by db.schema part o).key (rows part.index interval)) at
              ∙ (told_of part.index (view v) interval at
              ∙ (between_rising (view_key db.schema v) interval found view_rows_are.1
              ∙ filter_same (λ row. lies_in (view_key db.schema v row) interval) (λ row. lies_in (key_bytes (items_at row_kinds (first_columns 0 (length v.group))) (items_at row (first_columns 0 (length v.group)))) interval) found
              (each_to (IsViewRow kinds v.group v.sums known) (λ row. lies_in (view_key db.schema v row) interval ≡ lies_in (key_bytes (items_at row_kinds (first_columns 0 (length v.group))) (items_at row (first_columns 0 (length v.group)))) interval)
              (λ row f. ap (λ k. lies_in k interval) (same_key row f)) found view_rows_are.0)));
        }

  -- ---- relations

  -- its rows are of its columns, and it is read by a first index and others
  pub record IsReadable (mode : Mode) (n : ℕ) (all_rows : List Row) : Type 0 where
    pub rows_of : AllByRecursion (AreOf (kinds_for db.schema n)) all_rows
    pub first : KeyIndex
    pub others : List KeyIndex
    pub indexes_are : read_by db.schema mode (numbered db.schema n) ≡ first ∷ others
    pub by_first : IsReadBy db.schema rows (kinds_for db.schema n) all_rows first
    pub by_others : AllByRecursion (IsReadBy db.schema rows (kinds_for db.schema n) all_rows) others

  pub readable : (mode : Mode) (n : ℕ) → IsRelation db.schema n → IsReadable mode n (relation_rows db (numbered db.schema n))
  readable mode n (inl (t, is)) =
      let ks : kinds_of t ≡ kinds_for db.schema n = sym (ap (λ o. option_map_or (object_kinds db.schema) o []) is) in
      let rs : rows_of db.rows t.number ≡ relation_rows db (numbered db.schema n) = sym (ap (relation_rows db) is) in
      record {
        rows_of = subst (λ l. AllByRecursion (AreOf (kinds_for db.schema n)) l) rs (subst (λ k. AllByRecursion (AreOf k) (rows_of db.rows t.number)) ks (each_to (FitAll (kinds_of t)) (AreOf (kinds_of t)) (all_are_of (kinds_of t)) (rows_of db.rows t.number) (fits n t is)));
        first = record { number = t.number; columns = t.primary };
        others = elim mode [ Serial ↦ map (λ i. record { number = i.number; columns = i.columns }) (indexes_of db.schema t.number) | Snapshot ↦ [] ];
        indexes_are = ap (read_by db.schema mode) is;
        by_first = subst (λ l. IsReadBy db.schema rows (kinds_for db.schema n) l (record { number = t.number; columns = t.primary })) rs
            (subst (λ k. IsReadBy db.schema rows k (rows_of db.rows t.number) (record { number = t.number; columns = t.primary })) ks (by_primary n t is));
        by_others = subst (λ l. AllByRecursion (IsReadBy db.schema rows (kinds_for db.schema n) l) (elim mode [ Serial ↦ map (λ i. record { number = i.number; columns = i.columns }) (indexes_of db.schema t.number) | Snapshot ↦ [] ])) rs
            (subst (λ k. AllByRecursion (IsReadBy db.schema rows k (rows_of db.rows t.number)) (elim mode [ Serial ↦ map (λ i. record { number = i.number; columns = i.columns }) (indexes_of db.schema t.number) | Snapshot ↦ [] ])) ks (by_others n t is mode));
      }
  readable mode n (inr (v, is)) =
      let ks : object_kinds db.schema (view v) ≡ kinds_for db.schema n = sym (ap (λ o. option_map_or (object_kinds db.schema) o []) is) in
      let rs : view_rows db.schema db.rows v ≡ relation_rows db (numbered db.schema n) = sym (ap (relation_rows db) is) in
      record {
        rows_of = subst (λ l. AllByRecursion (AreOf (kinds_for db.schema n)) l) rs (subst (λ k. AllByRecursion (AreOf k) (view_rows db.schema db.rows v)) ks
            (each_to (IsViewRow (kinds n v is) v.group v.sums (known n v is)) (AreOf (row_kinds n v is)) (λ row r. r.1.row_of) (view_rows db.schema db.rows v) (view_rows_are n v is).0));
        first = record { number = v.number; columns = first_columns 0 (length v.group) };
        others = [];
        indexes_are = ap (read_by db.schema mode) is;
        by_first = subst (λ l. IsReadBy db.schema rows (kinds_for db.schema n) l (record { number = v.number; columns = first_columns 0 (length v.group) })) rs
            (subst (λ k. IsReadBy db.schema rows k (view_rows db.schema db.rows v) (record { number = v.number; columns = first_columns 0 (length v.group) })) ks (by_group n v is));
        by_others = tt;
      }
