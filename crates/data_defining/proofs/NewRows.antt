-- The rows of a new view, as it is evaluated whole and as its deltas add them up.
use Rattle.std.specs.Prelude.{◌≡◌, ◌≢◌, ℕ, zero, suc, ◌+◌, cond, true, false, T, List, [], ◌∷◌, ◌++◌, map, filter, length, take, drop, slice_get, get_or, ℤ, pos, Option, Some, None}
use Rattle.std.specs.List.{AllByRecursion, Contains, filter_map}
use Rattle.std.specs.Option.{option_map, option_map_or, option_to_list, unwrap_or}
use mathlib.Core.Logic.{inl, inr}
use Rattle.iv_types.specs.declared.catalog.TableDef.{TableDef}
use Rattle.iv_types.specs.declared.catalog.Second.{Second}
use Rattle.iv_meaning.specs.Sound.{IsTable, IsView}
use Rattle.iv_meaning.specs.Values.{is_true}
use Rattle.query_laws.proofs.SoundLemmas.{numbered_cases}
use Rattle.txn_machine.specs.ViewLaws.{IsJoined, IsJoin}
use mathlib.Core.Path.{refl, sym, ap, subst, ◌∙◌}
use Rattle.std.proofs.Common.{arith}
use Rattle.std.proofs.lemmas.Int.{ints}
use Rattle.std.proofs.lemmas.List.{take_at, length-map}
use Rattle.std.proofs.lemmas.List.Elements.{recursion_from_All}
use Rattle.std.specs.FinMap.{get, insert, empty, from_entries, from_sorted, get-empty, entries-from_sorted, get-from_sorted, entries_sorted}
use Rattle.std.specs.FinMap.Entries.{find, is_sorted, below_all}
use Rattle.std.specs.Ordering.{eq_by_cmp, is_eq}
use Rattle.std.specs.declared.cmp.Ordering.TheVariants.{Less, Equal}
use Rattle.std.specs.Cmp.{tied_itself}
use Rattle.iv_types.specs.declared.value.Kind.{Kind}
use Rattle.iv_types.specs.declared.value.Value.TheVariants.{Number}
use Rattle.iv_types.specs.declared.lock.GroupDelta.{GroupDelta}
use Rattle.iv_types.specs.declared.lock.IndexEntry.{IndexEntry}
use Rattle.iv_types.specs.declared.lock.ViewRow.{ViewRow}
use Rattle.iv_types.specs.Encoding.{FitAll, key_bytes}
use Rattle.row_codec.proofs.Columns.{fit_lengths}
use Rattle.table_laws.specs.Place.{Place}
use Rattle.table_laws.proofs.Tables.{Contains-entries, get-write_at, get-write_other}
use Rattle.iv_meaning.specs.Schema.{Schema, table, view, ViewTree, numbered, sources_of, kinds_of_table, kind_at, primary_of, group_kinds}
use Rattle.iv_meaning.specs.Database.{Row, Rows, Database, rows_of}
use Rattle.iv_meaning.specs.Query.{Combination, combinations, conjunction, values_at}
use Rattle.iv_meaning.specs.Grouping.{groups_of, members, number_in}
use Rattle.iv_meaning.specs.View.{counted_combinations, conditions_of, join_conditions, rows_by_group, view_rows, shares, view_key}
use Rattle.query_laws.specs.Laws.{Rises}
use Rattle.query_laws.proofs.Rising.{key_cmp, key_total, key_exact, keyed, entries_rising}
use Rattle.query_laws.proofs.GroupRows.{IsGroupIn, groups_are, first_member, kinds_long}
use Rattle.query_laws.proofs.Relations.{view_rows_are}
use Rattle.row_eval.specs.Fresh.{kept_row, view_row}
use Rattle.table_store.specs.Filling.{filled, HaveOwnKeys}
use Rattle.table_store.proofs.Places.{first, second, first_below, rest_sorted, less, equal}
use Rattle.txn_machine.specs.Deltas.{contribution, columns_of, place_of}
use Rattle.txn_machine.specs.Stored.{ViewRows, stored_number, AreStored, IsStoredRow, plus, add_to, add_all}
use Rattle.txn_machine.specs.Fresh.{fresh, all_contributions}
use Rattle.txn_machine.specs.ViewLaws.{AreSound}
use Rattle.txn_machine.proofs.Agreeing.{by_place, written_other}
use Rattle.txn_machine.proofs.Columns.{stored_add_all}
use Rattle.txn_machine.proofs.Holding.{by_contains, contains_here, contains_next, contains_none, contains_map}
use Rattle.txn_machine.proofs.Looking.{all_of_list}
use Rattle.txn_machine.proofs.Ranging.{all_contains, group_there}
use Rattle.txn_machine.proofs.Shapes.{add_all_stored, made_are}
use Rattle.txn_machine.proofs.Sharing.{fresh_of, groups_fit, fresh_law}
use Rattle.ghost_rows.specs.Numbers.{numbers_bytes}
use Rattle.data_defining.specs.Defining.{view_entry}

-- ---- rows that deltas make

-- what is there after some deltas were added where nothing was is theirs
pub added : (m : ViewRows) (ds : List GroupDelta) (p : Place) (ns : List ℤ) → get m p ≡ None → get (add_all m ds) p ≡ Some ns → (d : GroupDelta) × Contains ds d × (p ≡ place_of d)
added m [] p ns none is = let bad : None ≡ Some ns = sym none ∙ is in absurd (cc)
added m (d ∷ ds) p ns none is = by_place p (place_of d)
    (λ e. (d, contains_here d ds, e))
    (λ n. let later = added (add_to m d) ds p ns (written_other m (place_of d) (Some (plus (unwrap_or (get m (place_of d)) []) (columns_of d))) p n ∙ none) is in (later.0, contains_next d ds later.0 later.1, later.2))

-- and elsewhere all stays
pub added_elsewhere : (m : ViewRows) (ds : List GroupDelta) (p : Place) → ((d : GroupDelta) → Contains ds d → p ≢ place_of d) → get (add_all m ds) p ≡ get m p
added_elsewhere m [] p other = refl
added_elsewhere m (d ∷ ds) p other = added_elsewhere (add_to m d) ds p (λ e c. other e (contains_next d ds e c)) ∙ written_other m (place_of d) (Some (plus (unwrap_or (get m (place_of d)) []) (columns_of d))) p (other d (contains_here d ds))

pub map_has : {X Y : Type 0} (f : X → Y) (xs : List X) (y : Y) → Contains (map f xs) y → (x : X) × Contains xs x × (y ≡ f x)
map_has f [] y c = absurd (contains_none y c)
map_has f (x ∷ xs) y c = by_contains (f x) (map f xs) y c
    (λ e. (x, contains_here x xs, sym e))
    (λ d. let r = map_has f xs y d in (r.0, contains_next x xs r.0 r.1, r.2))

keyed_has : (key : Row → List ℕ) (rows : List Row) (q : List ℕ) (row : Row) → Contains (keyed key rows) (q, row) → Contains rows row × (key row ≡ q)
keyed_has key [] q r c = absurd (contains_none (q, r) c)
keyed_has key (row ∷ rows) q r c = by_contains (key row, row) (keyed key rows) (q, r) c
    (λ e. (subst (Contains (row ∷ rows)) (ap (λ (x : List ℕ × Row). x.1) e) (contains_here row rows), ap key (sym (ap (λ (x : List ℕ × Row). x.1) e)) ∙ ap (λ (x : List ℕ × Row). x.0) e))
    (λ d. let h = keyed_has key rows q r d in (contains_next row rows r h.0, h.1))

-- ---- numbers in a row

front_number : (g : Row) (k : ℤ) (ks : List ℤ) → number_in (slice_get (g ++ map Number (k ∷ ks)) (length g)) ≡ k
front_number [] k ks = refl
front_number (x ∷ g) k ks = front_number g k ks

numbers_back : (ks : List ℤ) → map (λ value. number_in (Some value)) (map Number ks) ≡ ks
numbers_back [] = refl
numbers_back (k ∷ ks) = ap (λ l. k ∷ l) (numbers_back ks)

rest_numbers : (g : Row) (k : ℤ) (ks : List ℤ) → map (λ value. number_in (Some value)) (drop (suc (length g)) (g ++ map Number (k ∷ ks))) ≡ ks
rest_numbers [] k ks = numbers_back ks
rest_numbers (x ∷ g) k ks = rest_numbers g k ks

same_numbers : (k : ℕ) (ms ns : List ℤ) → length ms ≡ k → length ns ≡ k → ((i : ℕ) → get_or ms i (pos 0) ≡ get_or ns i (pos 0)) → ms ≡ ns
same_numbers zero [] [] l m h = refl
same_numbers zero (x ∷ ms) ns l m h = absurd (omega (arith, l))
same_numbers zero [] (y ∷ ns) l m h = absurd (omega (arith, m))
same_numbers (suc k) [] ns l m h = absurd (omega (arith, l))
same_numbers (suc k) (x ∷ ms) [] l m h = absurd (omega (arith, m))
same_numbers (suc k) (x ∷ ms) (y ∷ ns) l m h = λ i. h 0 i ∷ same_numbers k ms ns (omega (arith, l)) (omega (arith, m)) (λ j. h (suc j)) i

-- ---- a map of entries

-- lists in the order of their keys have what is found in them
has : (es : List (List ℕ × Row)) → T (is_sorted key_cmp es) → (q : List ℕ) (row : Row) → find key_cmp q es ≡ Some row → Contains es (q, row)
has es s q row e = subst (λ (l : List (List ℕ × Row)). Contains l (q, row)) (entries-from_sorted key_cmp es s)
    ((Contains-entries key_total key_exact (from_sorted {R = key_cmp} es) q row).1 (get-from_sorted key_cmp es q s ∙ e))

has_found : (es : List (List ℕ × Row)) → T (is_sorted key_cmp es) → (q : List ℕ) (row : Row) → Contains es (q, row) → find key_cmp q es ≡ Some row
has_found es s q row c = sym (get-from_sorted key_cmp es q s) ∙ (Contains-entries key_total key_exact (from_sorted {R = key_cmp} es) q row).0
    (subst (λ (l : List (List ℕ × Row)). Contains l (q, row)) (sym (entries-from_sorted key_cmp es s)) c)

module _ (objects : Schema) (v : ViewTree) (n : ℕ) where
  abbrev key_of : Row → List ℕ
  key_of = view_key objects v

  abbrev kept : Row → ViewRow
  kept = view_row objects v

  abbrev pub value_of : Row → List ℕ
  value_of row = numbers_bytes ((kept row).count ∷ (kept row).sums)

  abbrev pub entries_for : List Row → List IndexEntry
  entries_for rows = map (view_entry n) (map kept rows)

  pub filled_found : (rows : List Row) (q : List ℕ) → get (filled empty (entries_for rows)) q ≡ option_map value_of (find key_cmp q (keyed key_of rows))
  filled_found [] q = get-empty key_cmp q
  filled_found (row ∷ rows) q = elim (eq_by_cmp key_cmp q (key_of row)) as (λ b. eq_by_cmp key_cmp q (key_of row) ≡ b → get (insert (filled empty (entries_for rows)) (key_of row) (value_of row)) q ≡ option_map value_of (cond b (Some row) (find key_cmp q (keyed key_of rows)))) [
    | true ↦ λ t. get-write_at key_total key_exact (filled empty (entries_for rows)) (key_of row) (Some (value_of row)) q (key_exact q (key_of row) (equal _ t))
    | false ↦ λ f. get-write_other key_total key_exact (filled empty (entries_for rows)) (key_of row) (Some (value_of row)) q (differ f) ∙ filled_found rows q
  ] refl
    where
      differ : eq_by_cmp key_cmp q (key_of row) ≡ false → q ≢ key_of row
      differ f same = let bad : false ≡ true = sym f ∙ (ap (eq_by_cmp key_cmp q) (sym same) ∙ ap is_eq (tied_itself key_total q)) in cc

  apart_from : (row : Row) (rows : List Row) → T (below_all key_cmp (key_of row) (keyed key_of rows)) → AllByRecursion (λ x. x.key ≢ key_of row) (entries_for rows)
  apart_from row [] h = tt
  apart_from row (x ∷ rows) h = (
    λ same.
        let lt : key_cmp (key_of row) (key_of x) ≡ Less = less _ (first _ _ h) in
        let bad : Equal ≡ Less = sym (tied_itself key_total (key_of row)) ∙ (ap (key_cmp (key_of row)) (sym same) ∙ lt) in
        cc,
    apart_from row rows (second _ _ h),
  )

  pub own_keys : (rows : List Row) → T (is_sorted key_cmp (keyed key_of rows)) → HaveOwnKeys (entries_for rows)
  own_keys [] s = tt
  own_keys (row ∷ rows) s = (apart_from row rows (first_below key_cmp (key_of row, row) (keyed key_of rows) s), own_keys rows (rest_sorted key_cmp (key_of row, row) (keyed key_of rows) s))

-- ---- a new view before it is there and after

module _ (objects : Schema) (v : ViewTree) (is : IsView (objects ++ view v ∷ []) v) (joined : IsJoined (objects ++ view v ∷ []) v) where
  abbrev more : Schema
  more = objects ++ view v ∷ []

  -- what it reads was there
  pub was_table : (k : ℕ) (t : TableDef) → numbered more k ≡ Some (table t) → numbered objects k ≡ Some (table t)
  was_table k t e = elim (numbered_cases objects (view v) k (table t) e) [ inl old ↦ old | inr new ↦ absurd (let bad : view v ≡ table t = new.1 in cc) ]

  pub tables_were : AllByRecursion (IsTable objects) (sources_of v)
  tables_were = go (sources_of v) (recursion_from_All (IsTable more) (sources_of v) is.tables)
    where
      go : (ns : List ℕ) → AllByRecursion (IsTable more) ns → AllByRecursion (IsTable objects) ns
      go [] h = tt
      go (k ∷ ns) h = ((h.0.0, was_table k h.0.0 h.0.1), go ns h.1)

  same_kinds : (ns : List ℕ) → AllByRecursion (IsTable more) ns → map (λ k. kinds_of_table (numbered objects k)) ns ≡ map (λ k. kinds_of_table (numbered more k)) ns
  same_kinds [] h = refl
  same_kinds (k ∷ ns) h = let at : numbered objects k ≡ numbered more k = was_table k h.0.0 h.0.1 ∙ sym h.0.1 in λ i. kinds_of_table (at i) ∷ same_kinds ns h.1 i

  pub kinds_were : group_kinds objects v ≡ group_kinds more v
  kinds_were = ap (λ (l : List (List Kind)). filter_map (kind_at l) v.group) (same_kinds (sources_of v) (recursion_from_All (IsTable more) (sources_of v) is.tables))

  conditions_were : conditions_of objects v ≡ conditions_of more v
  conditions_were = go v.second joined
    where
      go : (s : Option Second) → elim s as (λ (x : Option Second). Type 0) [ None ↦ Unit {0} | Some second ↦ IsJoin more v second ]
          → option_map_or (λ second. join_conditions second.joined (primary_of (numbered objects second.table))) s [] ++ option_to_list v.condition
          ≡ option_map_or (λ second. join_conditions second.joined (primary_of (numbered more second.table))) s [] ++ option_to_list v.condition
      go None j = refl
      go (Some second) j = ap (λ x. join_conditions second.joined (primary_of x) ++ option_to_list v.condition) (was_table second.table j.other j.other_is ∙ sym j.other_is)

  pub rows_were : (rows : Rows) → view_rows objects rows v ≡ view_rows more rows v
  rows_were rows = ap (λ cs. rows_by_group v (filter (λ c. is_true (conjunction cs c)) (combinations (map (rows_of rows) (sources_of v))))) conditions_were

  pub entries_were : (n : ℕ) (rows : Rows) → entries_for objects v n (view_rows objects rows v) ≡ entries_for more v n (view_rows more rows v)
  entries_were n rows = λ i. map (view_entry n) (map (λ row. kept_row (key_bytes (kinds_were i) (take (length v.group) row)) (length v.group) row) (rows_were rows i))

module _ (db : Database) (sound : AreSound db.schema db.rows) (n : ℕ) (v : ViewTree) (of : numbered db.schema n ≡ Some (view v)) where
  abbrev found : List Combination
  found = counted_combinations db.schema db.rows v

  abbrev kinds : List Kind
  kinds = group_kinds db.schema v

  abbrev key : Row → List ℕ
  key = view_key db.schema v

  -- a group that a combination has
  abbrev IsGroup : Row → Type 0
  IsGroup = IsGroupIn (values_at v.group) found

  abbrev numbers : Row → List ℤ
  numbers g = shares v (members (values_at v.group) found g)

  abbrev row_for : Row → Row
  row_for g = g ++ map Number (numbers g)

  abbrev all : List Row
  all = view_rows db.schema db.rows v

  group_fits : (g : Row) → IsGroup g → FitAll kinds g
  group_fits g is = subst (FitAll kinds) is.2 (all_contains (λ c. FitAll kinds (values_at v.group c)) found is.0 (groups_fit db.schema db.rows sound n v of) is.1)

  group_long : (g : Row) → FitAll kinds g → length g ≡ length v.group
  group_long g fits = sym (fit_lengths kinds g fits) ∙ kinds_long (map (λ m. kinds_of_table (numbered db.schema m)) (sources_of v)) v.group (recursion_from_All _ v.group (sound.objects n (view v) of).1.group)

  key_for : (g : Row) → FitAll kinds g → key (row_for g) ≡ key_bytes kinds g
  key_for g fits = ap (key_bytes kinds) (take_at g (map Number (numbers g)) (length v.group) (group_long g fits))

  -- the numbers of a row as it is kept
  kept_numbers : (g : Row) → FitAll kinds g → (view_row db.schema v (row_for g)).count ∷ (view_row db.schema v (row_for g)).sums ≡ numbers g
  kept_numbers g fits =
      let long : length g ≡ length v.group = group_long g fits in
      let ms : List Combination = members (values_at v.group) found g in
      let sums : List ℤ = map (λ column. Rattle.iv_meaning.specs.Grouping.sum_by (λ rows. number_in (Rattle.iv_meaning.specs.Values.value_at rows column)) ms) v.sums in
      let counted : number_in (slice_get (row_for g) (length v.group)) ≡ pos (length ms) = ap (λ w. number_in (slice_get (row_for g) w)) (sym long) ∙ front_number g (pos (length ms)) sums in
      let more : length v.group + 1 ≡ suc (length g) = omega (arith, long) in
      let summed : map (λ value. number_in (Some value)) (drop (length v.group + 1) (row_for g)) ≡ sums = ap (λ w. map (λ value. number_in (Some value)) (drop w (row_for g))) more ∙ rest_numbers g (pos (length ms)) sums in
      λ i. counted i ∷ summed i

  of_group : (row : Row) → Contains all row → (g : Row) × IsGroup g × (row ≡ row_for g)
  of_group row c =
      let m = map_has row_for (groups_of (values_at v.group) found) row c in
      (m.0, all_contains IsGroup (groups_of (values_at v.group) found) m.0 (groups_are (values_at v.group) found) m.1, m.2)

  in_meaning : (g : Row) → IsGroup g → Contains all (row_for g)
  in_meaning g is = contains_map row_for (groups_of (values_at v.group) found) g (subst (Contains (groups_of (values_at v.group) found)) is.2 (group_there (values_at v.group) found is.0 is.1))

  rises : Rises key all
  rises = (view_rows_are db (record { objects = sound.objects; rows = sound.rows }) n v of).1

  pub all_sorted : T (is_sorted key_cmp (keyed key all))
  all_sorted = subst (λ (l : List (List ℕ × Row)). T (is_sorted key_cmp l)) (entries_rising key all rises) (entries_sorted (from_entries {R = key_cmp} (keyed key all)))

  -- what holds of the key and of the value of each row that a group may have
  pub each_entry : (P : List ℕ → List ℕ → Type 0) → ((g : Row) → FitAll kinds g → P (key_bytes kinds g) (numbers_bytes (numbers g))) → (k : ℕ) → AllByRecursion (λ e. P e.key e.value) (entries_for db.schema v k all)
  each_entry P f k = all_of_list (λ e. P e.key e.value) (entries_for db.schema v k all) (λ e cont.
      let one = map_has (view_entry k) (map (view_row db.schema v) all) e cont in
      let two = map_has (view_row db.schema v) all one.0 one.1 in
      let g = of_group two.0 two.1 in
      let fits : FitAll kinds g.0 = group_fits g.0 g.1 in
      let row_is : one.0 ≡ view_row db.schema v (row_for g.0) = two.2 ∙ ap (view_row db.schema v) g.2 in
      let there : P (key (row_for g.0)) (value_of db.schema v k (row_for g.0)) = subst (λ x. P x (value_of db.schema v k (row_for g.0))) (sym (key_for g.0 fits))
      (subst (λ ns. P (key_bytes kinds g.0) (numbers_bytes ns)) (sym (kept_numbers g.0 fits)) (f g.0 fits)) in
      subst (λ (x : IndexEntry). P x.key x.value) (sym (one.2 ∙ ap (view_entry k) row_is)) there)

  pub many_numbers : (g : Row) → length (numbers g) ≡ suc (length v.sums)
  many_numbers g = ap suc (length-map v.sums _)

  group_count : (g : Row) → IsGroup g → (k : ℕ) × (fresh db.schema db.rows (v.number, key_bytes kinds g) 0 ≡ pos (suc k))
  group_count g is =
      let m = first_member (values_at v.group) found g is in
      (length m.others, fresh_law db sound n v of g (group_fits g is) 0 ∙ ap (λ (ms : List Combination). pos (length ms)) m.members_are)

  -- ---- its deltas added where none of its rows is stored

  module _ (m : ViewRows) (stored : AreStored db.schema m) (none : (q : List ℕ) → get m (v.number, q) ≡ None) where
    abbrev made : List GroupDelta
    made = all_contributions db.schema db.rows v

    abbrev pub after : ViewRows
    after = add_all m made

    own : v.number ≡ n
    own = (sound.objects n (view v) of).0

    number_is : (q : List ℕ) (column : ℕ) → stored_number after (v.number, q) column ≡ fresh db.schema db.rows (v.number, q) column
    number_is q column =
        let sum = stored_add_all m made (v.number, q) column in
        let zero_is : stored_number m (v.number, q) column ≡ pos 0 = ap (λ (o : Option (List ℤ)). option_map_or (λ ns. get_or ns column (pos 0)) o (pos 0)) (none q) in
        let is = fresh_of db.schema db.rows sound n v of q column in
        omega (arith, ints)

    after_stored : AreStored db.schema after
    after_stored = add_all_stored db.schema m made stored (made_are db.schema db.rows sound n (view v) of)

    same_view : (w : ViewTree) → Some (view w) ≡ Some (view v) → w ≡ v
    same_view w e = cc

    width_is : (q : List ℕ) (ns : List ℤ) → get after (v.number, q) ≡ Some ns → length ns ≡ suc (length v.sums)
    width_is q ns is =
        let r : IsStoredRow db.schema (v.number, q) ns = after_stored (v.number, q) ns is in
        r.width ∙ ap (λ (w : ViewTree). suc (length w.sums)) (same_view r.of (sym r.view_is ∙ (ap (numbered db.schema) own ∙ of)))

    number_at : (q : List ℕ) (ns : List ℤ) → get after (v.number, q) ≡ Some ns → (column : ℕ) → get_or ns column (pos 0) ≡ fresh db.schema db.rows (v.number, q) column
    number_at q ns is column = sym (ap (λ (o : Option (List ℤ)). option_map_or (λ xs. get_or xs column (pos 0)) o (pos 0)) is) ∙ number_is q column

    -- a row that is stored is that of a group
    group_of : (q : List ℕ) (ns : List ℤ) → get after (v.number, q) ≡ Some ns → (g : Row) × IsGroup g × (q ≡ key_bytes kinds g) × (ns ≡ numbers g)
    group_of q ns is =
        let d = added m made (v.number, q) ns (none q) is in
        let c = map_has (contribution db.schema v) found d.0 d.1 in
        let g : Row = values_at v.group c.0 in
        let there : IsGroup g = (c.0, c.1, refl) in
        let q_is : q ≡ key_bytes kinds g = ap (λ (p : Place). p.1) d.2 ∙ ap (λ (x : GroupDelta). x.group) c.2 in
        let fits : FitAll kinds g = group_fits g there in (
          g,
          there,
          q_is,
          same_numbers (suc (length v.sums)) ns (numbers g) (width_is q ns is) (ap suc (length-map v.sums _))
              (λ i. number_at q ns is i ∙ (ap (λ k. fresh db.schema db.rows (v.number, k) i) q_is ∙ fresh_law db sound n v of g fits i)),
        )

    not_stored : (q : List ℕ) → get after (v.number, q) ≡ None → (row : Row) → find key_cmp q (keyed key all) ≡ Some row → ⊥
    not_stored q is row f =
        let k = keyed_has key all q row (has (keyed key all) all_sorted q row f) in
        let g = of_group row k.0 in
        let fits : FitAll kinds g.0 = group_fits g.0 g.1 in
        let q_is : key_bytes kinds g.0 ≡ q = sym (key_for g.0 fits) ∙ (ap key (sym g.2) ∙ k.1) in
        let count = group_count g.0 g.1 in
        let here : stored_number after (v.number, q) 0 ≡ pos 0 = ap (λ (o : Option (List ℤ)). option_map_or (λ ns. get_or ns 0 (pos 0)) o (pos 0)) is in
        let bad : pos 0 ≡ pos (suc count.0) = sym here ∙ (number_is q 0 ∙ (ap (λ x. fresh db.schema db.rows (v.number, x) 0) (sym q_is) ∙ count.1)) in
        cc

    by_stored : (q : List ℕ) (o : Option (List ℤ)) → get after (v.number, q) ≡ o → option_map (value_of db.schema v n) (find key_cmp q (keyed key all)) ≡ option_map numbers_bytes o
    by_stored q None is = nothing (find key_cmp q (keyed key all)) refl
      where
        nothing : (f : Option Row) → find key_cmp q (keyed key all) ≡ f → option_map (value_of db.schema v n) f ≡ None
        nothing None e = refl
        nothing (Some row) e = absurd (not_stored q is row e)
    by_stored q (Some ns) is =
        let g = group_of q ns is in
        let fits : FitAll kinds g.0 = group_fits g.0 g.1 in
        let key_is : key (row_for g.0) ≡ q = key_for g.0 fits ∙ sym g.2 in
        let there : find key_cmp q (keyed key all) ≡ Some (row_for g.0) = has_found (keyed key all) all_sorted q (row_for g.0)
        (subst (λ k. Contains (keyed key all) (k, row_for g.0)) key_is (contains_map (λ (r : Row). (key r, r)) all (row_for g.0) (in_meaning g.0 g.1))) in
        ap (option_map (value_of db.schema v n)) there ∙ ap (λ ns. Some (numbers_bytes ns)) (kept_numbers g.0 fits ∙ sym g.3)

    -- the entries of all its rows are what is stored then
    pub filled_as_stored : (q : List ℕ) → get (filled empty (entries_for db.schema v n all)) q ≡ option_map numbers_bytes (get after (v.number, q))
    filled_as_stored q = filled_found db.schema v n all q ∙ by_stored q (get after (v.number, q)) refl

    -- and no row of it is a ghost
    pub has_count : (q : List ℕ) (ns : List ℤ) → get after (v.number, q) ≡ Some ns → get_or ns 0 (pos 0) ≡ pos 0 → ⊥
    has_count q ns is zero_is =
        let g = group_of q ns is in
        let count = group_count g.0 g.1 in
        let bad : pos 0 ≡ pos (suc count.0) = sym zero_is ∙ (number_at q ns is 0 ∙ (ap (λ k. fresh db.schema db.rows (v.number, k) 0) g.2 ∙ count.1)) in
        cc

    pub numbers_are : (q : List ℕ) (ns : List ℤ) → get after (v.number, q) ≡ Some ns → (column : ℕ) → get_or ns column (pos 0) ≡ fresh db.schema db.rows (v.number, q) column
    numbers_are = number_at

    pub widths_are : (q : List ℕ) (ns : List ℤ) → get after (v.number, q) ≡ Some ns → length ns ≡ suc (length v.sums)
    widths_are = width_is
