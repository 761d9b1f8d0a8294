-- The numbers of a view by encoded groups are those of its meaning by the groups' values.
use Rattle.std.specs.Prelude.{◌≡◌, ◌≢◌, ℕ, zero, suc, ◌+◌, ◌<◌, ◌==◌, ◌&&◌, cond, true, false, List, [], ◌∷◌, ◌++◌, map, slice_get, get_or, ℤ, pos, ◌+ℤ◌, Some}
use Rattle.std.specs.List.{AllByRecursion, flat_map, filter_map}
use mathlib.Core.Path.{refl, sym, ap, subst, ◌∙◌}
use Rattle.std.proofs.Common.{arith, eq-eqb, eqb-true}
use Rattle.std.proofs.lemmas.Bool.{false≢true}
use Rattle.std.proofs.lemmas.Int.{ints}
use Rattle.std.proofs.lemmas.List.Elements.{recursion_from_All}
use Rattle.std.proofs.lemmas.Option.{none-some}
use Rattle.std.proofs.lemmas.Slice.Eq.{bytes_eq-Decides}
use Rattle.std.specs.FinMap.{entries}
use Rattle.std.specs.Ordering.{is_eq, eq_by_cmp}
use Rattle.std.specs.Cmp.{tied_itself}
use Rattle.std.specs.Str.{bytes_eq}
use Rattle.iv_types.specs.declared.value.Kind.{Kind}
use Rattle.iv_types.specs.declared.value.Value.{Value}
use Rattle.iv_types.specs.declared.lock.GroupDelta.{GroupDelta}
use Rattle.iv_types.specs.declared.expression.ColumnAt.{ColumnAt}
use Rattle.iv_types.specs.Encoding.{FitAll, key_bytes, row_cmp}
use Rattle.iv_types.proofs.Orders.{row_cmp_total, row_cmp_exact}
use Rattle.table_laws.specs.Place.{Place}
use Rattle.table_laws.specs.Table.{rows_where}
use Rattle.iv_meaning.specs.Schema.{Schema, Object, table, index, view, ViewTree, numbered, as_view, sources_of, kind_at, kinds_of_table, group_kinds}
use Rattle.iv_meaning.specs.Database.{Row, Rows, rows_of}
use Rattle.iv_meaning.specs.Values.{value_at}
use Rattle.iv_meaning.specs.Query.{Combination, combinations, values_at}
use Rattle.iv_meaning.specs.Grouping.{members, number_in, sum_by}
use Rattle.iv_meaning.specs.View.{counted_combinations, shares}
use Rattle.iv_meaning.specs.Sound.{IsTable, IsRow}
use Rattle.query_laws.proofs.Each.{each_filtered}
use Rattle.query_laws.proofs.TermLemmas.{FitRows, equal_is}
use Rattle.query_laws.proofs.GroupRows.{IsKnown, combinations_fit, values_fit}
use Rattle.txn_machine.specs.Deltas.{contribution, is_counted, is_for, worth, due}
use Rattle.txn_machine.specs.Fresh.{all_contributions, fresh}
use Rattle.txn_machine.specs.ViewLaws.{AreSound}
use Rattle.txn_machine.specs.Laws.{FreshLaw}
use Rattle.txn_machine.proofs.KeysApart.{keys_tell}
use Rattle.txn_machine.proofs.Columns.{adds, is_for_place}
use Rattle.txn_machine.proofs.Summing.{AreOnes, all_ones, due_append}
use Rattle.txn_machine.proofs.Looking.{all_entries}

-- ---- one view of a number

pub apart_due : (p : Place) (column number : ℕ) (ds : List GroupDelta) → AreOnes number ds → number ≢ p.0 → due p column ds ≡ pos 0
apart_due p column number [] h n = refl
apart_due p column number (d ∷ ds) h n =
    let rest : due p column ds ≡ pos 0 = apart_due p column number ds h.1 n in
    let here : adds p column d ≡ pos 0 = elim (is_for p d) as (λ b. is_for p d ≡ b → cond b (worth column d) (pos 0) ≡ pos 0) [
      | true ↦ λ e. absurd (n (sym h.0.0 ∙ sym (ap (λ (x : Place). x.0) (is_for_place p d e))))
      | false ↦ λ e. refl
    ] refl in
    omega (arith, ints)

module _ (objects : Schema) (rows : Rows) (p : Place) (column : ℕ) where
  abbrev all : ViewTree → List GroupDelta
  all w = all_contributions objects rows w

  others_due : (os : List Object) (k : ℕ) → ((i : ℕ) (w : ViewTree) → slice_get os i ≡ Some (view w) → w.number ≡ suc (k + i)) → p.0 < suc k → due p column (flat_map all (filter_map as_view os)) ≡ pos 0
  others_due [] k h l = refl
  others_due (table t ∷ os) k h l = others_due os (suc k) (λ i w e. let n = h (suc i) w e in omega (arith, n)) (omega (arith, l))
  others_due (index x ∷ os) k h l = others_due os (suc k) (λ i w e. let n = h (suc i) w e in omega (arith, n)) (omega (arith, l))
  others_due (view w ∷ os) k h l =
      let number : w.number ≡ suc (k + 0) = h 0 w refl in
      let rest : due p column (flat_map all (filter_map as_view os)) ≡ pos 0 = others_due os (suc k) (λ i x e. let n = h (suc i) x e in omega (arith, n)) (omega (arith, l)) in
      let here : due p column (all w) ≡ pos 0 = apart_due p column w.number (all w) (all_ones objects w rows) (λ e. omega (arith, number, l, e)) in
      let whole : due p column (all w ++ flat_map all (filter_map as_view os)) ≡ due p column (all w) +ℤ due p column (flat_map all (filter_map as_view os)) = due_append p column (all w) (flat_map all (filter_map as_view os)) in
      omega (arith, ints)

  one_due : (os : List Object) (k j : ℕ) (v : ViewTree) → ((i : ℕ) (w : ViewTree) → slice_get os i ≡ Some (view w) → w.number ≡ suc (k + i)) → slice_get os j ≡ Some (view v) → p.0 ≡ v.number
      → due p column (flat_map all (filter_map as_view os)) ≡ due p column (all v)
  one_due [] k j v h e f = absurd (none-some (view v) e)
  one_due (table t ∷ os) k zero v h e f = absurd (cc)
  one_due (index x ∷ os) k zero v h e f = absurd (cc)
  one_due (view w ∷ os) k zero v h e f =
      let number : w.number ≡ suc (k + 0) = h 0 w refl in
      let same : w ≡ v = same_view w v e in
      let at_v : p.0 ≡ w.number = f ∙ sym (ap (λ (x : ViewTree). x.number) same) in
      let rest : due p column (flat_map all (filter_map as_view os)) ≡ pos 0 = others_due os (suc k) (λ i x g. let n = h (suc i) x g in omega (arith, n)) (omega (arith, number, at_v)) in
      let whole : due p column (all w ++ flat_map all (filter_map as_view os)) ≡ due p column (all w) +ℤ due p column (flat_map all (filter_map as_view os)) = due_append p column (all w) (flat_map all (filter_map as_view os)) in
      let here : due p column (all w) ≡ due p column (all v) = ap (λ (x : ViewTree). due p column (all x)) same in
      omega (arith, ints)
    where
      same_view : (a b : ViewTree) → Some (view a) ≡ Some (view b) → a ≡ b
      same_view a b e = cc
  one_due (table t ∷ os) k (suc j) v h e f = one_due os (suc k) j v (λ i w g. let n = h (suc i) w g in omega (arith, n)) e f
  one_due (index x ∷ os) k (suc j) v h e f = one_due os (suc k) j v (λ i w g. let n = h (suc i) w g in omega (arith, n)) e f
  one_due (view w ∷ os) k (suc j) v h e f =
      let first : w.number ≡ suc (k + 0) = h 0 w refl in
      let later : v.number ≡ suc (k + suc j) = h (suc j) v e in
      let here : due p column (all w) ≡ pos 0 = apart_due p column w.number (all w) (all_ones objects w rows) (λ g. omega (arith, first, later, f, g)) in
      let rest : due p column (flat_map all (filter_map as_view os)) ≡ due p column (all v) = one_due os (suc k) j v (λ i x g. let n = h (suc i) x g in omega (arith, n)) e f in
      let whole : due p column (all w ++ flat_map all (filter_map as_view os)) ≡ due p column (all w) +ℤ due p column (flat_map all (filter_map as_view os)) = due_append p column (all w) (flat_map all (filter_map as_view os)) in
      omega (arith, ints)

pub fresh_of : (objects : Schema) (rows : Rows) → AreSound objects rows → (n : ℕ) (v : ViewTree) → numbered objects n ≡ Some (view v) → (key : List ℕ) (column : ℕ)
    → fresh objects rows (v.number, key) column ≡ due (v.number, key) column (all_contributions objects rows v)
fresh_of objects rows sound zero v e key column = absurd (none-some (view v) e)
fresh_of objects rows sound (suc n) v e key column = one_due objects rows (v.number, key) column objects 0 n v (λ i w g. let number = (sound.objects (suc i) (view w) g).0 in omega (arith, number)) e refl

-- ---- combinations fit

pub rows_fit : (ks : List Kind) (n : ℕ) (es : List (Place × Row)) → AllByRecursion (λ (e : Place × Row). e.0.0 ≡ n → FitAll ks e.1) es → AllByRecursion (FitAll ks) (map (λ (e : Place × Row). e.1) (rows_where (λ place row. place.0 == n) es))
rows_fit ks n [] h = tt
rows_fit ks n (e ∷ es) h = elim (e.0.0 == n) as (λ b. (e.0.0 == n) ≡ b → AllByRecursion (FitAll ks) (map (λ (e : Place × Row). e.1) (cond b (e ∷ rows_where (λ place row. place.0 == n) es) (rows_where (λ place row. place.0 == n) es)))) [
  | true ↦ λ t. (h.0 (eqb-true e.0.0 n t), rows_fit ks n es h.1)
  | false ↦ λ t. rows_fit ks n es h.1
] refl

pub table_fits : (objects : Schema) (rows : Rows) → AreSound objects rows → (n : ℕ) → IsTable objects n → AllByRecursion (FitAll (kinds_of_table (numbered objects n))) (rows_of rows n)
table_fits objects rows sound n t = rows_fit (kinds_of_table (numbered objects n)) n (entries rows)
    (all_entries (λ (e : Place × Row). e.0.0 ≡ n → FitAll (kinds_of_table (numbered objects n)) e.1) rows (λ k r e g.
    let row : IsRow objects k r = sound.rows k r e in
    subst (λ ks. FitAll ks r) (sym (ap kinds_of_table (sym (ap (numbered objects) g) ∙ row.table_is))) row.fits))

-- the kinds of the rows that a view reads
abbrev pub source_kinds : Schema → ViewTree → List (List Kind)
source_kinds objects v = map (λ m. kinds_of_table (numbered objects m)) (sources_of v)

pub all_fit : (objects : Schema) (rows : Rows) → AreSound objects rows → (n : ℕ) (v : ViewTree) → numbered objects n ≡ Some (view v) → AllByRecursion (FitRows (source_kinds objects v)) (combinations (map (rows_of rows) (sources_of v)))
all_fit objects rows sound n v e =
    combinations_fit (λ m. kinds_of_table (numbered objects m)) (rows_of rows) (sources_of v) (each_same (sources_of v) (recursion_from_All (IsTable objects) (sources_of v) (sound.objects n (view v) e).1.tables))
  where
    each_same : (ns : List ℕ) → AllByRecursion (IsTable objects) ns → AllByRecursion (λ m. AllByRecursion (FitAll (kinds_of_table (numbered objects m))) (rows_of rows m)) ns
    each_same [] h = tt
    each_same (m ∷ ns) h = (table_fits objects rows sound m h.0, each_same ns h.1)

pub groups_fit : (objects : Schema) (rows : Rows) → AreSound objects rows → (n : ℕ) (v : ViewTree) → numbered objects n ≡ Some (view v) → AllByRecursion (λ c. FitAll (group_kinds objects v) (values_at v.group c)) (counted_combinations objects rows v)
groups_fit objects rows sound n v e =
    let kinds : List (List Kind) = source_kinds objects v in
    each_filtered (λ c. FitAll (group_kinds objects v) (values_at v.group c)) (is_counted objects v) (combinations (map (rows_of rows) (sources_of v)))
    (each_all kinds (combinations (map (rows_of rows) (sources_of v))) (all_fit objects rows sound n v e) (recursion_from_All (IsKnown kinds) v.group (sound.objects n (view v) e).1.group))
  where
    each_all : (kinds : List (List Kind)) (cs : List Combination) → AllByRecursion (FitRows kinds) cs → AllByRecursion (IsKnown kinds) v.group → AllByRecursion (λ c. FitAll (filter_map (kind_at kinds) v.group) (values_at v.group c)) cs
    each_all kinds [] h k = tt
    each_all kinds (c ∷ cs) h k = (values_fit kinds c v.group h.0 k, each_all kinds cs h.1 k)

-- ---- by key and by values

same_group : (kinds : List Kind) (g h : List Value) → FitAll kinds g → FitAll kinds h → bytes_eq (key_bytes kinds h) (key_bytes kinds g) ≡ eq_by_cmp row_cmp g h
same_group kinds g h fg fh = elim (eq_by_cmp row_cmp g h) as (λ b. eq_by_cmp row_cmp g h ≡ b → bytes_eq (key_bytes kinds h) (key_bytes kinds g) ≡ b) [
  | true ↦ λ e. let same : g ≡ h = row_cmp_exact g h (equal_is (row_cmp g h) e) in (bytes_eq-Decides (key_bytes kinds h) (key_bytes kinds g)).1 (ap (key_bytes kinds) (sym same))
  | false ↦ λ e. elim (bytes_eq (key_bytes kinds h) (key_bytes kinds g)) as (λ b. bytes_eq (key_bytes kinds h) (key_bytes kinds g) ≡ b → b ≡ false) [
    | true ↦ λ t. let same : h ≡ g = keys_tell kinds h g fh fg ((bytes_eq-Decides (key_bytes kinds h) (key_bytes kinds g)).0 t) in
        absurd (false≢true (sym e ∙ (ap (eq_by_cmp row_cmp g) same ∙ ap is_eq (tied_itself row_cmp_total g))))
    | false ↦ λ t. refl
  ] refl
] refl

abbrev amount : ColumnAt → Combination → ℤ
amount column c = number_in (value_at c column)

sums_more : (c : Combination) (cs : List Combination) (sums : List ColumnAt) (i : ℕ)
    → get_or (map (λ column. sum_by (amount column) (c ∷ cs)) sums) i (pos 0) ≡ get_or (map (λ column. amount column c) sums) i (pos 0) +ℤ get_or (map (λ column. sum_by (amount column) cs) sums) i (pos 0)
sums_more c cs [] i = omega (arith, ints)
sums_more c cs (column ∷ sums) zero = refl
sums_more c cs (column ∷ sums) (suc i) = sums_more c cs sums i

no_sums : (sums : List ColumnAt) (i : ℕ) → get_or (map (λ column. sum_by (amount column) []) sums) i (pos 0) ≡ pos 0
no_sums [] i = refl
no_sums (column ∷ sums) zero = refl
no_sums (column ∷ sums) (suc i) = no_sums sums i

shares_none : (v : ViewTree) (column : ℕ) → get_or (shares v []) column (pos 0) ≡ pos 0
shares_none v zero = refl
shares_none v (suc i) = no_sums v.sums i

shares_more : (objects : Schema) (v : ViewTree) (c : Combination) (cs : List Combination) (column : ℕ) → get_or (shares v (c ∷ cs)) column (pos 0) ≡ worth column (contribution objects v c) +ℤ get_or (shares v cs) column (pos 0)
shares_more objects v c cs zero = omega (arith, ints)
shares_more objects v c cs (suc i) = sums_more c cs v.sums i

module _ (objects : Schema) (v : ViewTree) (g : Row) (fits : FitAll (group_kinds objects v) g) where
  abbrev place : Place
  place = (v.number, key_bytes (group_kinds objects v) g)

  pub due_members : (column : ℕ) (cs : List Combination) → AllByRecursion (λ c. FitAll (group_kinds objects v) (values_at v.group c)) cs
      → due place column (map (contribution objects v) cs) ≡ get_or (shares v (members (values_at v.group) cs g)) column (pos 0)
  due_members column [] h = sym (shares_none v column)
  due_members column (c ∷ cs) h =
      let rest : due place column (map (contribution objects v) cs) ≡ get_or (shares v (members (values_at v.group) cs g)) column (pos 0) = due_members column cs h.1 in
      let test : is_for place (contribution objects v c) ≡ eq_by_cmp row_cmp g (values_at v.group c) =
      ap (λ b. b && bytes_eq (key_bytes (group_kinds objects v) (values_at v.group c)) (key_bytes (group_kinds objects v) g)) (eq-eqb v.number v.number refl) ∙ same_group (group_kinds objects v) g (values_at v.group c) fits h.0 in
      let one : adds place column (contribution objects v c) ≡ cond (eq_by_cmp row_cmp g (values_at v.group c)) (worth column (contribution objects v c)) (pos 0) = ap (λ b. cond b (worth column (contribution objects v c)) (pos 0)) test in
      let both : cond (eq_by_cmp row_cmp g (values_at v.group c)) (worth column (contribution objects v c)) (pos 0) +ℤ get_or (shares v (members (values_at v.group) cs g)) column (pos 0)
      ≡ get_or (shares v (cond (eq_by_cmp row_cmp g (values_at v.group c)) (c ∷ members (values_at v.group) cs g) (members (values_at v.group) cs g))) column (pos 0) =
      elim (eq_by_cmp row_cmp g (values_at v.group c)) as (λ b. cond b (worth column (contribution objects v c)) (pos 0) +ℤ get_or (shares v (members (values_at v.group) cs g)) column (pos 0)
      ≡ get_or (shares v (cond b (c ∷ members (values_at v.group) cs g) (members (values_at v.group) cs g))) column (pos 0)) [
        | true ↦ sym (shares_more objects v c (members (values_at v.group) cs g) column)
        | false ↦ omega (arith, ints)
      ] in
      (λ i. one i +ℤ rest i) ∙ both

pub fresh_law : FreshLaw
fresh_law db sound n v e g fits column =
    fresh_of db.schema db.rows sound n v e (key_bytes (group_kinds db.schema v) g) column
    ∙ due_members db.schema v g fits column (counted_combinations db.schema db.rows v) (groups_fit db.schema db.rows sound n v e)
