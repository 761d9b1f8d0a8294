-- What is listed of a view is what is read of its meaning.
use Rattle.std.specs.Prelude.{◌≡◌, ◌≢◌, ℕ, zero, suc, ◌==◌, ◌&&◌, cond, not, Bool, true, false, T, List, [], ◌∷◌, ◌++◌, map, filter, length, get_or, ℤ, pos, Option, Some, None}
use Rattle.std.specs.List.{AllByRecursion, AllZip, Contains}
use Rattle.std.specs.Option.{option_map_or}
use mathlib.Core.Path.{refl, sym, ap, subst, ◌∙◌}
use Rattle.std.proofs.Common.{arith, eq-eqb, eqb-true}
use Rattle.std.proofs.lemmas.List.{take_at, length-map}
use Rattle.std.proofs.lemmas.List.Elements.{recursion_from_All}
use Rattle.std.specs.FinMap.{get, entries, from_entries, from_sorted, entries-from_sorted, get-from_sorted, int_cmp-IsAntisymmetric}
use Rattle.std.specs.FinMap.Entries.{find, is_sorted, below_all, same_entries}
use Rattle.std.specs.declared.cmp.Ordering.TheVariants.{Less, Equal, Greater}
use Rattle.std.specs.Ordering.{int_cmp, nat_cmp, is_eq, is_lt, eq_by_cmp, ordering_then}
use Rattle.std.specs.Cmp.{tied_itself, nat_cmp_total}
use Rattle.iv_types.specs.declared.value.Interval.{Interval}
use Rattle.iv_types.specs.declared.value.Kind.{Kind}
use Rattle.iv_types.specs.declared.value.Value.TheVariants.{Number}
use Rattle.iv_types.specs.Encoding.{FitAll, key_bytes, row_cmp, lies_in}
use Rattle.iv_types.proofs.Orders.{row_cmp_exact}
use Rattle.row_codec.proofs.Columns.{fit_lengths}
use Rattle.table_laws.specs.Place.{Place, place_cmp}
use Rattle.table_laws.specs.Table.{rows_where}
use Rattle.table_laws.proofs.Place.{place_cmp_total, place_cmp-IsAntisymmetric}
use Rattle.table_laws.proofs.Tables.{Contains-entries, Contains-rows_where, rows_where_sorted}
use Rattle.iv_meaning.specs.Schema.{Schema, view, ViewTree, numbered, sources_of, kinds_of_table, group_kinds}
use Rattle.iv_meaning.specs.Database.{Row, Rows, Database}
use Rattle.iv_meaning.specs.Query.{Combination, values_at}
use Rattle.iv_meaning.specs.Grouping.{groups_of, members}
use Rattle.iv_meaning.specs.View.{counted_combinations, view_rows, shares, view_key, rows_between, object_rows}
use Rattle.query_laws.specs.Laws.{Rises}
use Rattle.query_laws.proofs.Rising.{is_true, key_cmp, key_total, key_exact, keyed, entries_rising}
use Rattle.query_laws.proofs.GroupRows.{IsGroupIn, groups_are, first_member, kinds_long}
use Rattle.query_laws.proofs.TermLemmas.{equal_is}
use Rattle.query_laws.proofs.Relations.{view_rows_are}
use Rattle.txn_machine.specs.Stored.{ViewRows, stored_number, first_numbers, IsShown, is_shown, Lists}
use Rattle.txn_machine.specs.Fresh.{fresh}
use Rattle.txn_machine.specs.ViewLaws.{AreSound}
use Rattle.txn_machine.proofs.Agreeing.{same_option}
use Rattle.txn_machine.proofs.Columns.{and_true}
use Rattle.txn_machine.proofs.Reading.{both_true}
use Rattle.txn_machine.proofs.KeysApart.{keys_tell}
use Rattle.txn_machine.proofs.Holding.{by_contains, contains_here, contains_next, contains_none, contains_map}
use Rattle.txn_machine.proofs.Looking.{all_of_list}
use Rattle.txn_machine.proofs.Sharing.{groups_fit, fresh_law}
use Rattle.txn_machine.proofs.Ranging.{all_contains, group_there}

-- ---- numbers

-- numbers that are the same in every column
first_same : (n : ℕ) (ms ns : List ℤ) → length ns ≡ n → ((i : ℕ) → get_or ms i (pos 0) ≡ get_or ns i (pos 0)) → first_numbers n ms ≡ ns
first_same zero ms [] l h = refl
first_same zero ms (x ∷ ns) l h = absurd (omega (arith, l))
first_same (suc n) ms [] l h = absurd (omega (arith, l))
first_same (suc n) [] (x ∷ ns) l h = λ i. h 0 i ∷ first_same n [] ns (omega (arith, l)) (λ k. h (suc k)) i
first_same (suc n) (m ∷ ms) (x ∷ ns) l h = λ i. h 0 i ∷ first_same n ms ns (omega (arith, l)) (λ k. h (suc k)) i

-- ---- lists place by place

-- rows under the keys of some entries
abbrev zipped : {X : Type 0} → List (Place × X) → List Row → List (List ℕ × Row)
zipped [] rows = []
zipped (e ∷ es) [] = []
zipped (e ∷ es) (row ∷ rows) = (e.0.1, row) ∷ zipped es rows

module _ {X : Type 0} (Q : Place × X → Row → Type 0) where
  zipped_rows : (es : List (Place × X)) (rows : List Row) → AllZip Q es rows → map (λ (e : List ℕ × Row). e.1) (zipped es rows) ≡ rows
  zipped_rows [] [] z = refl
  zipped_rows [] (row ∷ rows) z = absurd z
  zipped_rows (e ∷ es) [] z = absurd z
  zipped_rows (e ∷ es) (row ∷ rows) z = ap (λ (l : List Row). row ∷ l) (zipped_rows es rows z.1)

  zipped_has : (es : List (Place × X)) (rows : List Row) → AllZip Q es rows → (q : List ℕ) (row : Row) → Contains (zipped es rows) (q, row) → (e : Place × X) × Contains es e × (e.0.1 ≡ q) × Q e row
  zipped_has [] rows z q r c = absurd (contains_none (q, r) c)
  zipped_has (e ∷ es) [] z q r c = absurd z
  zipped_has (e ∷ es) (row ∷ rows) z q r c = by_contains (e.0.1, row) (zipped es rows) (q, r) c
      (λ i. (e, contains_here e es, ap (λ (x : List ℕ × Row). x.0) i, subst (Q e) (ap (λ (x : List ℕ × Row). x.1) i) z.0))
      (λ d. let h = zipped_has es rows z.1 q r d in (h.0, contains_next e es h.0 h.1, h.2, h.3))

  zipped_in : (es : List (Place × X)) (rows : List Row) → AllZip Q es rows → (e : Place × X) → Contains es e → (row : Row) × Contains (zipped es rows) (e.0.1, row) × Q e row
  zipped_in [] rows z e c = absurd (contains_none e c)
  zipped_in (x ∷ es) [] z e c = absurd z
  zipped_in (x ∷ es) (row ∷ rows) z e c = by_contains x es e c
      (λ i. (row, subst (λ (y : Place × X). Contains (zipped (x ∷ es) (row ∷ rows)) (y.0.1, row)) i (contains_here (x.0.1, row) (zipped es rows)), subst (λ y. Q y row) i z.0))
      (λ d. let h = zipped_in es rows z.1 e d in (h.0, contains_next (x.0.1, row) (zipped es rows) (e.0.1, h.0) h.1, h.2))

within : (p q : Place) → p.0 ≡ q.0 → place_cmp p q ≡ key_cmp p.1 q.1
within p q e = ap (λ o. ordering_then o (key_cmp p.1 q.1)) (ap (λ m. nat_cmp m q.0) e ∙ tied_itself nat_cmp_total q.0)

T_true : (b : Bool) → T b → b ≡ true
T_true true t = refl
T_true false t = absurd t

module _ {X : Type 0} (n : ℕ) where
  abbrev OfOne : List (Place × X) → Type 0
  OfOne = AllByRecursion (λ (e : Place × X). e.0.0 ≡ n)

  zipped_below : (p : Place) → p.0 ≡ n → (es : List (Place × X)) (rows : List Row) → OfOne es → below_all place_cmp p es ≡ true → below_all key_cmp p.1 (zipped es rows) ≡ true
  zipped_below p i [] rows o h = refl
  zipped_below p i (e ∷ es) [] o h = refl
  zipped_below p i (e ∷ es) (row ∷ rows) o h =
      let parts = both_true (is_lt (place_cmp p e.0)) (below_all place_cmp p es) h in
      and_true (is_lt (key_cmp p.1 e.0.1)) (below_all key_cmp p.1 (zipped es rows))
      (ap is_lt (sym (within p e.0 (i ∙ sym o.0))) ∙ parts.0) (zipped_below p i es rows o.1 parts.1)

  zipped_sorted : (es : List (Place × X)) (rows : List Row) → OfOne es → is_sorted place_cmp es ≡ true → is_sorted key_cmp (zipped es rows) ≡ true
  zipped_sorted [] rows o h = refl
  zipped_sorted (e ∷ es) [] o h = refl
  zipped_sorted (e ∷ es) (row ∷ rows) o h =
      let parts = both_true (below_all place_cmp e.0 es) (is_sorted place_cmp es) h in
      and_true (below_all key_cmp e.0.1 (zipped es rows)) (is_sorted key_cmp (zipped es rows)) (zipped_below e.0 o.0 es rows o.1 parts.0) (zipped_sorted es rows o.1 parts.1)

-- lists in the order of their keys that have the same elements are one list
same_members : (xs ys : List (List ℕ × Row)) → T (is_sorted key_cmp xs) → T (is_sorted key_cmp ys)
    → ((q : List ℕ) (row : Row) → Contains xs (q, row) → Contains ys (q, row)) → ((q : List ℕ) (row : Row) → Contains ys (q, row) → Contains xs (q, row)) → xs ≡ ys
same_members xs ys sx sy f g = same_entries key_cmp key_total key_exact xs ys sx sy (λ q. same_option (find key_cmp q xs) (find key_cmp q ys)
    (λ row e. found ys sy q row (f q row (has xs sx q row e)))
    (λ row e. found xs sx q row (g q row (has ys sy q row e))))
  where
    has : (es : List (List ℕ × Row)) → T (is_sorted key_cmp es) → (q : List ℕ) (row : Row) → find key_cmp q es ≡ Some row → Contains es (q, row)
    has es s q row e = subst (λ (l : List (List ℕ × Row)). Contains l (q, row)) (entries-from_sorted key_cmp es s)
        ((Contains-entries key_total key_exact (from_sorted {R = key_cmp} es) q row).1 (get-from_sorted key_cmp es q s ∙ e))

    found : (es : List (List ℕ × Row)) → T (is_sorted key_cmp es) → (q : List ℕ) (row : Row) → Contains es (q, row) → find key_cmp q es ≡ Some row
    found es s q row c = sym (get-from_sorted key_cmp es q s) ∙ (Contains-entries key_total key_exact (from_sorted {R = key_cmp} es) q row).0
        (subst (λ (l : List (List ℕ × Row)). Contains l (q, row)) (sym (entries-from_sorted key_cmp es s)) c)

-- ---- the rows of a meaning

-- a group that has a member is one of theirs
some_member : {X : Type 0} (group : X → Row) (g : Row) (xs : List X) → members group xs g ≢ [] → IsGroupIn group xs g
some_member group g [] n = absurd (n refl)
some_member group g (x ∷ xs) n = elim (eq_by_cmp row_cmp g (group x)) as (λ b. eq_by_cmp row_cmp g (group x) ≡ b → cond b (x ∷ members group xs g) (members group xs g) ≢ [] → IsGroupIn group (x ∷ xs) g) [
  | true ↦ λ e m. (x, contains_here x xs, sym (row_cmp_exact g (group x) (equal_is (row_cmp g (group x)) e)))
  | false ↦ λ e m. let r = some_member group g xs m in (r.0, contains_next x xs r.0 r.1, r.2)
] refl n

not_zero : (n : ℤ) → n ≢ pos 0 → not (is_eq (int_cmp n (pos 0))) ≡ true
not_zero n d = elim (int_cmp n (pos 0)) as (λ o. int_cmp n (pos 0) ≡ o → not (is_eq o) ≡ true) [
  | Less ↦ λ e. refl
  | Equal ↦ λ e. absurd (d (int_cmp-IsAntisymmetric n (pos 0) e))
  | Greater ↦ λ e. refl
] refl

-- a row is stored that has a count
row_there : (o : Option (List ℤ)) (k : ℕ) → option_map_or (λ ns. get_or ns 0 (pos 0)) o (pos 0) ≡ pos (suc k) → (ns : List ℤ) × (o ≡ Some ns) × (get_or ns 0 (pos 0) ≡ pos (suc k))
row_there None k e = absurd (cc)
row_there (Some ns) k e = (ns, refl, e)

filter_where : (t : List ℕ → Bool) (es : List (List ℕ × Row)) → filter (λ (e : List ℕ × Row). t e.0) es ≡ rows_where (λ k row. t k) es
filter_where t [] = refl
filter_where t (e ∷ es) = λ i. cond (t e.0) (e ∷ filter_where t es i) (filter_where t es i)

keyed_has : (key : Row → List ℕ) (rows : List Row) (q : List ℕ) (row : Row) → Contains (keyed key rows) (q, row) → Contains rows row × (key row ≡ q)
keyed_has key [] q r c = absurd (contains_none (q, r) c)
keyed_has key (row ∷ rows) q r c = by_contains (key row, row) (keyed key rows) (q, r) c
    (λ e. (subst (Contains (row ∷ rows)) (ap (λ (x : List ℕ × Row). x.1) e) (contains_here row rows), ap key (sym (ap (λ (x : List ℕ × Row). x.1) e)) ∙ ap (λ (x : List ℕ × Row). x.0) e))
    (λ d. let h = keyed_has key rows q r d in (contains_next row rows r h.0, h.1))

-- what a list is made of
map_has : {X Y : Type 0} (f : X → Y) (xs : List X) (y : Y) → Contains (map f xs) y → (x : X) × Contains xs x × (y ≡ f x)
map_has f [] y c = absurd (contains_none y c)
map_has f (x ∷ xs) y c = by_contains (f x) (map f xs) y c
    (λ e. (x, contains_here x xs, sym e))
    (λ d. let r = map_has f xs y d in (r.0, contains_next x xs r.0 r.1, r.2))

-- numbers that are as many, and the same in every column
numbers_same : (n : ℕ) (ms ns : List ℤ) → length ms ≡ n → length ns ≡ n → ((i : ℕ) → get_or ms i (pos 0) ≡ get_or ns i (pos 0)) → ms ≡ ns
numbers_same n ms ns l k h = sym (first_same n ms ms l (λ i. refl)) ∙ first_same n ms ns k h

module _ (db : Database) (sound : AreSound db.schema db.rows) (n : ℕ) (v : ViewTree) (of : numbered db.schema n ≡ Some (view v)) where
  abbrev found : List Combination
  found = counted_combinations db.schema db.rows v

  abbrev kinds : List Kind
  kinds = group_kinds db.schema v

  abbrev key : Row → List ℕ
  key = view_key db.schema v

  -- a group that a combination has
  abbrev IsGroup : Row → Type 0
  IsGroup = IsGroupIn (values_at v.group) found

  abbrev numbers : Row → List ℤ
  numbers g = shares v (members (values_at v.group) found g)

  abbrev row_for : Row → Row
  row_for g = g ++ map Number (numbers g)

  group_fits : (g : Row) → IsGroup g → FitAll kinds g
  group_fits g is = subst (FitAll kinds) is.2 (all_contains (λ c. FitAll kinds (values_at v.group c)) found is.0 (groups_fit db.schema db.rows sound n v of) is.1)

  key_for : (g tail : Row) → FitAll kinds g → key (g ++ tail) ≡ key_bytes kinds g
  key_for g tail fits = ap (key_bytes kinds) (take_at g tail (length v.group) (sym (fit_lengths kinds g fits)
      ∙ kinds_long (map (λ m. kinds_of_table (numbered db.schema m)) (sources_of v)) v.group (recursion_from_All _ v.group (sound.objects n (view v) of).1.group)))

  -- the rows of its meaning
  abbrev all : List Row
  all = view_rows db.schema db.rows v

  of_group : (row : Row) → Contains all row → (g : Row) × IsGroup g × (row ≡ row_for g)
  of_group row c =
      let m = map_has row_for (groups_of (values_at v.group) found) row c in
      (m.0, all_contains IsGroup (groups_of (values_at v.group) found) m.0 (groups_are (values_at v.group) found) m.1, m.2)

  in_meaning : (g : Row) → IsGroup g → Contains all (row_for g)
  in_meaning g is = contains_map row_for (groups_of (values_at v.group) found) g (subst (Contains (groups_of (values_at v.group) found)) is.2 (group_there (values_at v.group) found is.0 is.1))

  rises : Rises key all
  rises = (view_rows_are db (record { objects = sound.objects; rows = sound.rows }) n v of).1

  -- a group that has a count is one that a combination has
  has_count : (g : Row) → FitAll kinds g → (k : ℕ) → fresh db.schema db.rows (v.number, key_bytes kinds g) 0 ≡ pos (suc k) → IsGroup g
  has_count g fits k e =
      let counted : pos (length (members (values_at v.group) found g)) ≡ pos (suc k) = sym (fresh_law db sound n v of g fits 0) ∙ e in
      some_member (values_at v.group) g found (λ none. let zero_is : pos 0 ≡ pos (suc k) = ap (λ (ms : List Combination). pos (length ms)) (sym none) ∙ counted in absurd (cc))

  group_count : (g : Row) → IsGroup g → (k : ℕ) × (fresh db.schema db.rows (v.number, key_bytes kinds g) 0 ≡ pos (suc k))
  group_count g is =
      let m = first_member (values_at v.group) found g is in
      (length m.others, fresh_law db sound n v of g (group_fits g is) 0 ∙ ap (λ (ms : List Combination). pos (length ms)) m.members_are)

  -- ---- what is read in an interval

  module _ (interval : Interval) where
    abbrev read_entries : List (List ℕ × Row)
    read_entries = rows_where (λ k row. lies_in k interval) (entries (from_entries {R = key_cmp} (keyed key all)))

    entries_read : rows_between key interval all ≡ map (λ (e : List ℕ × Row). e.1) read_entries
    entries_read = ap (map (λ (e : List ℕ × Row). e.1)) (filter_where (λ k. lies_in k interval) (entries (from_entries {R = key_cmp} (keyed key all))))

    of_read : (q : List ℕ) (row : Row) → Contains read_entries (q, row) → (g : Row) × IsGroup g × (row ≡ row_for g) × (key_bytes kinds g ≡ q) × (lies_in (key_bytes kinds g) interval ≡ true)
    of_read q row c =
        let h = (Contains-rows_where key_total key_exact (λ k (row : Row). lies_in k interval) (from_entries {R = key_cmp} (keyed key all)) q row).0 c in
        let k = keyed_has key all q row (subst (λ (l : List (List ℕ × Row)). Contains l (q, row)) (entries_rising key all rises) ((Contains-entries key_total key_exact (from_entries {R = key_cmp} (keyed key all)) q row).1 h.0)) in
        let z = of_group row k.0 in
        let key_is : key_bytes kinds z.0 ≡ q = sym (key_for z.0 (map Number (numbers z.0)) (group_fits z.0 z.1)) ∙ (ap key (sym z.2) ∙ k.1) in
        (z.0, z.1, z.2, key_is, ap (λ x. lies_in x interval) key_is ∙ h.1)

    in_read : (g : Row) → IsGroup g → lies_in (key_bytes kinds g) interval ≡ true → Contains read_entries (key_bytes kinds g, row_for g)
    in_read g is lies =
        let key_is : key (row_for g) ≡ key_bytes kinds g = key_for g (map Number (numbers g)) (group_fits g is) in
        let among : Contains (keyed key all) (key_bytes kinds g, row_for g) = subst (λ k. Contains (keyed key all) (k, row_for g)) {x = key (row_for g)} {y = key_bytes kinds g} key_is (contains_map (λ (r : Row). (key r, r)) all (row_for g) (in_meaning g is)) in
        (Contains-rows_where key_total key_exact (λ k (row : Row). lies_in k interval) (from_entries {R = key_cmp} (keyed key all)) (key_bytes kinds g) (row_for g)).1 (
          (Contains-entries key_total key_exact (from_entries {R = key_cmp} (keyed key all)) (key_bytes kinds g) (row_for g)).0 (subst (λ (l : List (List ℕ × Row)). Contains l (key_bytes kinds g, row_for g)) (sym (entries_rising key all rises)) among),
          lies,
        )

    module _ (view_map : ViewRows) (agree : (k : List ℕ) → lies_in k interval ≡ true → (column : ℕ) → stored_number view_map (v.number, k) column ≡ fresh db.schema db.rows (v.number, k) column)
        (rows : List Row) (lists : Lists db.schema v interval view_map rows) where
      abbrev stored : List (Place × List ℤ)
      stored = rows_where (is_shown v.number interval) (entries view_map)

      abbrev Shown : Place × List ℤ → Row → Type 0
      Shown = IsShown db.schema v

      -- the numbers of a group in the interval
      number_is : (g : Row) → FitAll kinds g → lies_in (key_bytes kinds g) interval ≡ true → (column : ℕ) → stored_number view_map (v.number, key_bytes kinds g) column ≡ get_or (numbers g) column (pos 0)
      number_is g fits lies column = agree (key_bytes kinds g) lies column ∙ fresh_law db sound n v of g fits column

      shown_row : (g : Row) → FitAll kinds g → lies_in (key_bytes kinds g) interval ≡ true → (ns : List ℤ) → get view_map (v.number, key_bytes kinds g) ≡ Some ns → (h row : Row) → h ≡ g
          → row ≡ h ++ map Number (first_numbers (suc (length v.sums)) ns) → row ≡ row_for g
      shown_row g fits lies ns there h row same e =
          let columns : (i : ℕ) → get_or ns i (pos 0) ≡ get_or (numbers g) i (pos 0) = λ i.
          sym (ap (λ (o : Option (List ℤ)). option_map_or (λ ms. get_or ms i (pos 0)) o (pos 0)) there) ∙ number_is g fits lies i in
          e ∙ (λ i. same i ++ map Number (first_same (suc (length v.sums)) ns (numbers g) (ap suc (length-map v.sums _)) columns i))

      shown_parts : (p : Place) (ns : List ℤ) → is_shown v.number interval p ns ≡ true → (p.0 ≡ v.number) × (lies_in p.1 interval ≡ true) × (not (is_eq (int_cmp (get_or ns 0 (pos 0)) (pos 0))) ≡ true)
      shown_parts p ns h =
          let one = both_true ((p.0 == v.number) && lies_in p.1 interval) (not (is_eq (int_cmp (get_or ns 0 (pos 0)) (pos 0)))) h in
          let two = both_true (p.0 == v.number) (lies_in p.1 interval) one.0 in
          (eqb-true p.0 v.number two.0, two.1, one.1)

      is_shown_at : (k : List ℕ) (ns : List ℤ) (more : ℕ) → lies_in k interval ≡ true → get_or ns 0 (pos 0) ≡ pos (suc more) → is_shown v.number interval (v.number, k) ns ≡ true
      is_shown_at k ns more lies e =
          and_true ((v.number == v.number) && lies_in k interval) (not (is_eq (int_cmp (get_or ns 0 (pos 0)) (pos 0))))
          (and_true (v.number == v.number) (lies_in k interval) (eq-eqb v.number v.number refl) lies)
          (not_zero (get_or ns 0 (pos 0)) (λ z. let none : pos (suc more) ≡ pos 0 = sym e ∙ z in absurd (cc)))

      in_stored : (e : Place × List ℤ) → Contains stored e → (get view_map e.0 ≡ Some e.1) × (is_shown v.number interval e.0 e.1 ≡ true)
      in_stored e c = (Contains-rows_where place_cmp_total place_cmp-IsAntisymmetric (is_shown v.number interval) view_map e.0 e.1).0 c

      one_place : AllByRecursion (λ (e : Place × List ℤ). e.0.0 ≡ v.number) stored
      one_place = all_of_list (λ (e : Place × List ℤ). e.0.0 ≡ v.number) stored (λ e c. (shown_parts e.0 e.1 (in_stored e c).1).0)

      group_listed : (g : Row) → IsGroup g → lies_in (key_bytes kinds g) interval ≡ true → Contains (zipped stored rows) (key_bytes kinds g, row_for g)
      group_listed g is lies =
          let fits : FitAll kinds g = group_fits g is in
          let m = first_member (values_at v.group) found g is in
          let p : Place = (v.number, key_bytes kinds g) in
          let there = row_there (get view_map p) (length m.others) (number_is g fits lies 0 ∙ ap (λ (ms : List Combination). pos (length ms)) m.members_are) in
          let shown : is_shown v.number interval p there.0 ≡ true = is_shown_at (key_bytes kinds g) there.0 (length m.others) lies there.2 in
          let row = zipped_in Shown stored rows lists (p, there.0) ((Contains-rows_where place_cmp_total place_cmp-IsAntisymmetric (is_shown v.number interval) view_map p there.0).1 (there.1, shown)) in
          let x : IsShown db.schema v (p, there.0) row.0 = row.2 in
          subst (λ r. Contains (zipped stored rows) (key_bytes kinds g, r)) {x = row.0} (shown_row g fits lies there.0 there.1 x.group row.0 (keys_tell kinds x.group g x.fits fits x.key) x.row_is) row.1

      read_listed : (q : List ℕ) (row : Row) → Contains read_entries (q, row) → Contains (zipped stored rows) (q, row)
      read_listed q row c =
          let z = of_read q row c in
          subst (λ (y : List ℕ × Row). Contains (zipped stored rows) y) {x = (key_bytes kinds z.0, row_for z.0)} {y = (q, row)} (λ i. (z.3 i, sym z.2 i)) (group_listed z.0 z.1 z.4)

      listed_read : (q : List ℕ) (row : Row) → Contains (zipped stored rows) (q, row) → Contains read_entries (q, row)
      listed_read q row c =
          let h = zipped_has Shown stored rows lists q row c in
          let e : Place × List ℤ = h.0 in
          let x : IsShown db.schema v e row = h.3 in
          let is = in_stored e h.1 in
          let parts = shown_parts e.0 e.1 is.1 in
          let g : Row = x.group in
          let lies : lies_in (key_bytes kinds g) interval ≡ true = ap (λ k. lies_in k interval) x.key ∙ parts.1 in
          let there : get view_map (v.number, key_bytes kinds g) ≡ Some e.1 = ap (get view_map) (λ i. (sym parts.0 i, x.key i)) ∙ is.0 in
          let counted : get_or e.1 0 (pos 0) ≡ pos (length (members (values_at v.group) found g)) =
          sym (ap (λ (o : Option (List ℤ)). option_map_or (λ ns. get_or ns 0 (pos 0)) o (pos 0)) there) ∙ number_is g x.fits lies 0 in
          let is_group : IsGroup g = some_member (values_at v.group) g found (λ none. absurd (cc (sym parts.2 ∙ ap (λ y. not (is_eq (int_cmp y (pos 0)))) (counted ∙ ap (λ (ms : List Combination). pos (length ms)) none)))) in
          let same : row ≡ row_for g = shown_row g x.fits lies e.1 there g row refl x.row_is in
          subst (λ (y : List ℕ × Row). Contains read_entries y) {x = (key_bytes kinds g, row_for g)} {y = (q, row)} (λ i. ((x.key ∙ h.2) i, sym same i)) (in_read g is_group lies)

      pub listed_is_read : rows_between key interval all ≡ rows
      listed_is_read =
          entries_read
          ∙ (ap (map (λ (e : List ℕ × Row). e.1)) (same_members read_entries (zipped stored rows) (rows_where_sorted (λ k row. lies_in k interval) (from_entries {R = key_cmp} (keyed key all)))
          (is_true _ (zipped_sorted v.number stored rows one_place (T_true _ (rows_where_sorted (is_shown v.number interval) view_map)))) read_listed listed_read)
          ∙ zipped_rows Shown stored rows lists)

-- what a view's object has in an interval is what is listed of stored rows that agree with it
pub view_read : (db : Database) → AreSound db.schema db.rows → (n : ℕ) (v : ViewTree) → numbered db.schema n ≡ Some (view v) → (interval : Interval) (view_map : ViewRows)
    → ((k : List ℕ) → lies_in k interval ≡ true → (column : ℕ) → stored_number view_map (v.number, k) column ≡ fresh db.schema db.rows (v.number, k) column)
    → (rows : List Row) → Lists db.schema v interval view_map rows → object_rows db (Some (view v)) interval ≡ rows
view_read db sound n v of interval view_map agree rows lists = listed_is_read db sound n v of interval view_map agree rows lists

-- ---- two databases of which a view has the same numbers in an interval

module _ (objects : Schema) (a b : ℕ) (one other : Rows) (so : AreSound objects one) (ss : AreSound objects other) (n : ℕ) (v : ViewTree) (of : numbered objects n ≡ Some (view v)) (interval : Interval)
    (same : (k : List ℕ) → lies_in k interval ≡ true → (column : ℕ) → fresh objects one (v.number, k) column ≡ fresh objects other (v.number, k) column) where
  abbrev here : Database
  here = record { number = a; schema = objects; rows = one }

  abbrev there : Database
  there = record { number = b; schema = objects; rows = other }

  pub carried : (q : List ℕ) (row : Row) → Contains (read_entries here so n v of interval) (q, row) → Contains (read_entries there ss n v of interval) (q, row)
  carried q row c =
      let z = of_read here so n v of interval q row c in
      let g : Row = z.0 in
      let fits : FitAll (group_kinds objects v) g = group_fits here so n v of g z.1 in
      let count = group_count here so n v of g z.1 in
      let group : IsGroup there ss n v of g = has_count there ss n v of g fits count.0 (sym (same (key_bytes (group_kinds objects v) g) z.4 0) ∙ count.1) in
      let columns : (i : ℕ) → get_or (numbers here so n v of g) i (pos 0) ≡ get_or (numbers there ss n v of g) i (pos 0) = λ i.
      sym (fresh_law here so n v of g fits i) ∙ (same (key_bytes (group_kinds objects v) g) z.4 i ∙ fresh_law there ss n v of g fits i) in
      let numbers_are : numbers here so n v of g ≡ numbers there ss n v of g = numbers_same (suc (length v.sums)) (numbers here so n v of g) (numbers there ss n v of g) (ap suc (length-map v.sums _)) (ap suc (length-map v.sums _)) columns in
      subst (λ (y : List ℕ × Row). Contains (read_entries there ss n v of interval) y) {x = (key_bytes (group_kinds objects v) g, row_for there ss n v of g)} {y = (q, row)}
      (λ i. (z.3 i, (ap (λ (ms : List ℤ). g ++ map Number ms) (sym numbers_are) ∙ sym z.2) i)) (in_read there ss n v of interval g group z.4)

pub views_same : (objects : Schema) (a b : ℕ) (one other : Rows) (so : AreSound objects one) (ss : AreSound objects other) (n : ℕ) (v : ViewTree) (of : numbered objects n ≡ Some (view v)) (interval : Interval)
    → ((k : List ℕ) → lies_in k interval ≡ true → (column : ℕ) → fresh objects one (v.number, k) column ≡ fresh objects other (v.number, k) column)
    → object_rows (record { number = a; schema = objects; rows = one }) (Some (view v)) interval ≡ object_rows (record { number = b; schema = objects; rows = other }) (Some (view v)) interval
views_same objects a b one other so ss n v of interval same =
    let here : Database = record { number = a; schema = objects; rows = one } in
    let there : Database = record { number = b; schema = objects; rows = other } in
    entries_read here so n v of interval
    ∙ (ap (map (λ (e : List ℕ × Row). e.1)) (same_members (read_entries here so n v of interval) (read_entries there ss n v of interval)
    (rows_where_sorted (λ k row. lies_in k interval) (from_entries {R = key_cmp} (keyed (view_key objects v) (view_rows objects one v))))
    (rows_where_sorted (λ k row. lies_in k interval) (from_entries {R = key_cmp} (keyed (view_key objects v) (view_rows objects other v))))
    (carried objects a b one other so ss n v of interval same) (carried objects b a other one ss so n v of interval (λ k l column. sym (same k l column))))
    ∙ sym (entries_read there ss n v of interval))
