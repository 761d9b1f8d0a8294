-- A view that can be read has its numbers in range.
use Rattle.std.specs.Prelude.{◌≡◌, ℕ, zero, suc, cond, Bool, true, false, List, [], ◌∷◌, ◌++◌, map, filter, length, slice_get, get_or, ℤ, pos, ◌+ℤ◌, Option, Some, None, is_some, IsSome}
use Rattle.std.specs.List.{AllByRecursion, Contains}
use Rattle.std.specs.Option.{option_map, option_map_or, option_to_list, option_and_then, option_zip}
use mathlib.Core.Path.{refl, sym, ap, subst, ◌∙◌}
use Rattle.std.proofs.Common.{arith}
use Rattle.std.proofs.lemmas.Bool.{false≢true}
use Rattle.std.proofs.lemmas.Int.{ints}
use Rattle.std.specs.declared.cmp.Ordering.TheVariants.{Less, Equal, Greater}
use Rattle.std.specs.Ordering.{match_ordering}
use Rattle.iv_types.specs.declared.value.Value.{Value}
use Rattle.iv_types.specs.declared.expression.ColumnAt.{ColumnAt}
use Rattle.iv_types.specs.declared.catalog.TableDef.{TableDef}
use Rattle.iv_types.specs.declared.catalog.Second.{Second}
use Rattle.iv_types.specs.Syntax as syntax_tree
use Rattle.iv_types.specs.Syntax.{Tree}
use Rattle.iv_types.specs.Encoding.{IsHuge, FitAll, key_bytes, row_cmp, is_huge}
use Rattle.iv_types.proofs.Orders.{row_cmp_exact}
use Rattle.table_laws.specs.Place.{Place}
use Rattle.table_laws.proofs.Stored.{by_session}
use Rattle.iv_meaning.specs.Schema.{Schema, Object, table, view, ViewTree, numbered, sources_of, group_kinds, primary_of}
use Rattle.iv_meaning.specs.Database.{Row, Rows, Database, rows_of}
use Rattle.iv_meaning.specs.Values.{number, refused, is_true, ranged, value_at, value_of}
use Rattle.iv_meaning.specs.Query.{Combination, BoundItem, count, sum, plain, combinations, conjunction, joined, item_alone, item_of_group, row_by, values_at, listed, ordered}
use Rattle.iv_meaning.specs.Grouping.{all_of, among, groups_of, members, number_in, sum_by}
use Rattle.iv_meaning.specs.View.{conditions_of, join_conditions, query_of, whole_view, counted_combinations, shares}
use Rattle.query_laws.proofs.WholeViews.{chosen_is, not_listed}
use Rattle.txn_machine.specs.Deltas.{contribution, is_for, worth, due}
use Rattle.txn_machine.specs.Fresh.{all_contributions, fresh}
use Rattle.txn_machine.specs.ViewLaws.{IsJoin, AreSound}
use Rattle.txn_machine.specs.Laws.{RangeLaw}
use Rattle.txn_machine.proofs.Columns.{adds, is_for_place}
use Rattle.txn_machine.proofs.Summing.{all_ones}
use Rattle.txn_machine.proofs.Making.{made_law}
use Rattle.txn_machine.proofs.Keeps.{shift}
use Rattle.txn_machine.proofs.Holding.{by_contains, contains_here, contains_next, contains_none}
use Rattle.txn_machine.proofs.Sharing.{apart_due, fresh_of, groups_fit, due_members}
use Rattle.iv_types.proofs.Fitting.{huge_is}

-- ---- numbers in range

pub huge_zero : IsHuge (pos 0)
huge_zero = (omega (arith, ints), λ e. cc)

in_range : (n : ℤ) (y : Value) → value_of (ranged n) ≡ Some y → IsHuge n
in_range n y e = go (is_huge n) refl e
  where
    go : (b : Bool) → is_huge n ≡ b → value_of (cond b (number n) refused) ≡ Some y → IsHuge n
    go true is e = huge_is n is
    go false is e = absurd (cc)

-- ---- lists of which none is wanting

abbrev IsThere : {X : Type 0} → Option X → Type 0
IsThere {X} o = (x : X) × (o ≡ Some x)

all_of_cons : {X : Type 0} (o : Option X) (os : List (Option X)) (xs : List X) → all_of (o ∷ os) ≡ Some xs → IsThere o × ((rest : List X) × (all_of os ≡ Some rest))
all_of_cons None os xs e = absurd (cc)
all_of_cons {X = X} (Some x) os xs e = go (all_of os) refl e
  where
    go : (r : Option (List X)) → all_of os ≡ r → option_map (λ (p : X × List X). p.0 ∷ p.1) (option_zip (Some x) r) ≡ Some xs → IsThere (Some x) × ((rest : List X) × (all_of os ≡ Some rest))
    go None is h = absurd (cc)
    go (Some rest) is h = ((x, refl), (rest, is))

all_there : {X Y : Type 0} (f : X → Option Y) (xs : List X) (ys : List Y) → all_of (map f xs) ≡ Some ys → AllByRecursion (λ x. IsThere (f x)) xs
all_there f [] ys e = tt
all_there f (x ∷ xs) ys e = let p = all_of_cons (f x) (map f xs) ys e in (p.0, all_there f xs p.1.0 p.1.1)

pub all_contains : {X : Type 0} (P : X → Type 0) (xs : List X) (x : X) → AllByRecursion P xs → Contains xs x → P x
all_contains P [] x h c = absurd (contains_none x c)
all_contains P (y ∷ xs) x h c = by_contains y xs x c (λ e. subst P e h.0) (λ d. all_contains P xs x h.1 d)

all_right : {X : Type 0} (P : X → Type 0) (xs ys : List X) → AllByRecursion P (xs ++ ys) → AllByRecursion P ys
all_right P [] ys h = h
all_right P (x ∷ xs) ys h = all_right P xs ys h.1

-- ---- what is chosen, and its groups

among_keeps : (g : List Value) (hs : List (List Value)) (h : List Value) → Contains hs h → Contains (among g hs) h
among_keeps g [] h c = absurd (contains_none h c)
among_keeps g (x ∷ hs) h c = elim (row_cmp g x) as (λ o. Contains (match_ordering o (g ∷ x ∷ hs) (x ∷ hs) (x ∷ among g hs)) h) [
  | Less ↦ contains_next g (x ∷ hs) h c
  | Equal ↦ c
  | Greater ↦ by_contains x hs h c (λ e. subst (Contains (x ∷ among g hs)) e (contains_here x (among g hs))) (λ d. contains_next x (among g hs) h (among_keeps g hs h d))
]

among_has : (g : List Value) (hs : List (List Value)) → Contains (among g hs) g
among_has g [] = contains_here g []
among_has g (x ∷ hs) = elim (row_cmp g x) as (λ o. row_cmp g x ≡ o → Contains (match_ordering o (g ∷ x ∷ hs) (x ∷ hs) (x ∷ among g hs)) g) [
  | Less ↦ λ e. contains_here g (x ∷ hs)
  | Equal ↦ λ e. subst (Contains (x ∷ hs)) (sym (row_cmp_exact g x e)) (contains_here x hs)
  | Greater ↦ λ e. contains_next x (among g hs) g (among_has g hs)
] refl

pub group_there : {X : Type 0} (group : X → List Value) (xs : List X) (x : X) → Contains xs x → Contains (groups_of group xs) (group x)
group_there group [] x c = absurd (contains_none x c)
group_there group (y ∷ xs) x c = by_contains y xs x c
    (λ e. subst (λ z. Contains (among (group y) (groups_of group xs)) (group z)) e (among_has (group y) (groups_of group xs)))
    (λ d. among_keeps (group y) (groups_of group xs) (group x) (group_there group xs x d))

-- ---- the numbers of a group that is listed

sums_in_range : (ms : List Combination) (sums : List ColumnAt) (i : ℕ) → AllByRecursion (λ x. IsThere (value_of (item_of_group ms x))) (map sum sums) → IsHuge (get_or (map (λ column. sum_by (λ rows. number_in (value_at rows column)) ms) sums) i (pos 0))
sums_in_range ms [] i h = huge_zero
sums_in_range ms (column ∷ sums) zero h = in_range (sum_by (λ rows. number_in (value_at rows column)) ms) h.0.0 h.0.1
sums_in_range ms (column ∷ sums) (suc i) h = sums_in_range ms sums i h.1

group_in_range : (v : ViewTree) (ms : List Combination) (row : Row) (column : ℕ) → row_by item_of_group (map (λ column. plain (syntax_tree.at column)) v.group ++ count ∷ map sum v.sums) ms ≡ Some row → IsHuge (get_or (shares v ms) column (pos 0))
group_in_range v ms row column e = go column
  where
    tail : AllByRecursion (λ x. IsThere (value_of (item_of_group ms x))) (count ∷ map sum v.sums)
    tail = all_right (λ x. IsThere (value_of (item_of_group ms x))) (map (λ column. plain (syntax_tree.at column)) v.group) (count ∷ map sum v.sums)
        (all_there (λ x. value_of (item_of_group ms x)) (map (λ column. plain (syntax_tree.at column)) v.group ++ count ∷ map sum v.sums) row e)

    go : (column : ℕ) → IsHuge (get_or (shares v ms) column (pos 0))
    go zero = in_range (pos (length ms)) tail.0.0 tail.0.1
    go (suc i) = sums_in_range ms v.sums i tail.1

module _ (v : ViewTree) (objects : Schema) (found : List Combination) (rows : List Row) (c : Combination) (there : Contains found c) (column : ℕ) where
  abbrev items : List BoundItem
  items = map (λ column. plain (syntax_tree.at column)) v.group ++ count ∷ map sum v.sums

  listed_in_range : listed (query_of objects v) found ≡ Some rows → IsHuge (get_or (shares v (members (values_at v.group) found (values_at v.group c))) column (pos 0))
  listed_in_range e = go v.group refl e
    where
      go : (columns : List ColumnAt) → v.group ≡ columns
          → elim columns as (λ (l : List ColumnAt). Option (List Row)) [
            | [] ↦ all_of (map (row_by item_alone items) found)
            | x ∷ xs ↦ all_of (map (λ g. row_by item_of_group items (members (values_at (x ∷ xs)) found g)) (groups_of (values_at (x ∷ xs)) found))
          ] ≡ Some rows → IsHuge (get_or (shares v (members (values_at v.group) found (values_at v.group c))) column (pos 0))
      go [] none e = absurd (empty found there (subst (λ (l : List ColumnAt). all_of (map (row_by item_alone (map (λ column. plain (syntax_tree.at column)) l ++ count ∷ map sum v.sums)) found) ≡ Some rows) none e))
        where
          empty : (cs : List Combination) → Contains cs c → all_of (map (row_by item_alone (count ∷ map sum v.sums)) cs) ≡ Some rows → ⊥
          empty [] h e = contains_none c h
          empty (d ∷ cs) h e = not_listed v.sums d cs rows e
      go (x ∷ xs) is e =
          let each = all_there (λ g. row_by item_of_group items (members (values_at (x ∷ xs)) found g)) (groups_of (values_at (x ∷ xs)) found) rows e in
          let one = all_contains (λ g. IsThere (row_by item_of_group items (members (values_at (x ∷ xs)) found g))) (groups_of (values_at (x ∷ xs)) found) (values_at (x ∷ xs) c) each (group_there (values_at (x ∷ xs)) found c there) in
          subst (λ (l : List ColumnAt). IsHuge (get_or (shares v (members (values_at l) found (values_at l c))) column (pos 0))) (sym is)
          (group_in_range v (members (values_at (x ∷ xs)) found (values_at (x ∷ xs) c)) one.0 column one.1)

-- ---- a view that may be made

readable : (v : ViewTree) (db : Database) → IsSome (whole_view db.schema db.rows v) → (found : List Combination) × (rows : List Row) × (joined (conditions_of db.schema v) (map (rows_of db.rows) (sources_of v)) ≡ Some found) × (listed (query_of db.schema v) found ≡ Some rows)
readable v db h = go (joined (conditions_of db.schema v) (map (rows_of db.rows) (sources_of v))) refl h
  where
    with_rows : (found : List Combination) (o : Option (List Row)) → listed (query_of db.schema v) found ≡ o → is_some (option_map (ordered []) o) ≡ true → (rows : List Row) × (listed (query_of db.schema v) found ≡ Some rows)
    with_rows found None e h = absurd (false≢true h)
    with_rows found (Some rows) e h = (rows, e)

    go : (o : Option (List Combination)) → joined (conditions_of db.schema v) (map (rows_of db.rows) (sources_of v)) ≡ o → is_some (option_map (ordered []) (option_and_then (listed (query_of db.schema v)) o)) ≡ true
        → (found : List Combination) × (rows : List Row) × (joined (conditions_of db.schema v) (map (rows_of db.rows) (sources_of v)) ≡ Some found) × (listed (query_of db.schema v) found ≡ Some rows)
    go None e h = absurd (false≢true h)
    go (Some found) e h = let l = with_rows found (listed (query_of db.schema v) found) refl h in (found, l.0, e, l.1)

-- a combination has the key, or none has
by_key : {P : Type 0} (objects : Schema) (v : ViewTree) (key : List ℕ) (column : ℕ) (cs : List Combination)
    → ((c : Combination) → Contains cs c → key ≡ key_bytes (group_kinds objects v) (values_at v.group c) → P)
    → (due (v.number, key) column (map (contribution objects v) cs) ≡ pos 0 → P) → P
by_key objects v key column [] f g = g refl
by_key {P = P} objects v key column (c ∷ cs) f g = elim (is_for (v.number, key) (contribution objects v c)) as (λ b. is_for (v.number, key) (contribution objects v c) ≡ b → P) [
  | true ↦ λ e. f c (contains_here c cs) (ap (λ (x : Place). x.1) (is_for_place (v.number, key) (contribution objects v c) e))
  | false ↦ λ e. by_key objects v key column cs (λ d h k. f d (contains_next c cs d h) k) (λ z. g (
      let here : adds (v.number, key) column (contribution objects v c) ≡ pos 0 = ap (λ b. cond b (worth column (contribution objects v c)) (pos 0)) e in
      λ i. here i +ℤ z i))
] refl

-- the numbers of a view, where its query is not refused beside objects that join it on the same conditions
pub view_in_range : (objects : Schema) (rows : Rows) → AreSound objects rows → (n : ℕ) (v : ViewTree) → numbered objects n ≡ Some (view v)
    → (by : Schema) → conditions_of by v ≡ conditions_of objects v → IsSome (whole_view by rows v) → (key : List ℕ) (column : ℕ) → IsHuge (fresh objects rows (v.number, key) column)
view_in_range objects rows sound n v of by same whole_is key column =
    let whole : fresh objects rows (v.number, key) column ≡ due (v.number, key) column (all_contributions objects rows v) = fresh_of objects rows sound n v of key column in
    let r = readable v (record { number = 0; schema = by; rows = rows }) whole_is in
    let cs : List Combination = counted_combinations objects rows v in
    let all : List Combination = combinations (map (rows_of rows) (sources_of v)) in
    let found_is : r.0 ≡ cs = chosen_is (conjunction (conditions_of by v)) all r.0 r.2 ∙ ap (λ (l : List Tree). filter (λ c. is_true (conjunction l c)) all) same in
    let all_fit = groups_fit objects rows sound n v of in
    by_key objects v key column cs
    (λ c there k.
    let g : Row = values_at v.group c in
    let fits : FitAll (group_kinds objects v) g = all_contains (λ d. FitAll (group_kinds objects v) (values_at v.group d)) cs c all_fit there in
    let by_values : due (v.number, key_bytes (group_kinds objects v) g) column (map (contribution objects v) cs) ≡ get_or (shares v (members (values_at v.group) cs g)) column (pos 0) = due_members objects v g fits column cs all_fit in
    let share_huge : IsHuge (get_or (shares v (members (values_at v.group) cs g)) column (pos 0)) = subst (λ (l : List Combination). IsHuge (get_or (shares v (members (values_at v.group) l g)) column (pos 0))) found_is
    (listed_in_range v by r.0 r.1 c (subst (λ (l : List Combination). Contains l c) (sym found_is) there) column r.3) in
    shift (get_or (shares v (members (values_at v.group) cs g)) column (pos 0)) (fresh objects rows (v.number, key) column) share_huge
    (sym by_values ∙ (sym (ap (λ x. due (v.number, x) column (map (contribution objects v) cs)) k) ∙ sym whole)))
    (λ z. shift (pos 0) (fresh objects rows (v.number, key) column) huge_zero (sym z ∙ sym whole))

-- ---- a new view

module _ (objects : Schema) (rows : Rows) (v : ViewTree) (after : AreSound (objects ++ view v ∷ []) rows) (readable_rows : IsSome (whole_view objects rows v)) where
  abbrev more : Schema
  more = objects ++ view v ∷ []

  abbrev n : ℕ
  n = suc (length objects)

  get_last : (xs : List Object) (x : Object) → slice_get (xs ++ x ∷ []) (length xs) ≡ Some x
  get_last [] x = refl
  get_last (y ∷ xs) x = get_last xs x

  is_last : numbered more n ≡ Some (view v)
  is_last = get_last objects (view v)

  get_less : (xs : List Object) (i : ℕ) (t : TableDef) → slice_get (xs ++ view v ∷ []) i ≡ Some (table t) → slice_get xs i ≡ slice_get (xs ++ view v ∷ []) i
  get_less [] zero t e = absurd (cc)
  get_less [] (suc i) t e = refl
  get_less (x ∷ xs) zero t e = refl
  get_less (x ∷ xs) (suc i) t e = get_less xs i t e

  numbered_less : (m : ℕ) (t : TableDef) → numbered more m ≡ Some (table t) → numbered objects m ≡ numbered more m
  numbered_less zero t e = refl
  numbered_less (suc m) t e = get_less objects m t e

  conditions_same : conditions_of objects v ≡ conditions_of more v
  conditions_same = go v.second (after.joins n v is_last)
    where
      go : (o : Option Second) → elim o as (λ (x : Option Second). Type 0) [ None ↦ Unit {0} | Some second ↦ IsJoin more v second ]
          → option_map_or (λ second. join_conditions second.joined (primary_of (numbered objects second.table))) o [] ++ option_to_list v.condition
          ≡ option_map_or (λ second. join_conditions second.joined (primary_of (numbered more second.table))) o [] ++ option_to_list v.condition
      go None j = refl
      go (Some second) j = ap (λ x. join_conditions second.joined (primary_of x) ++ option_to_list v.condition) (numbered_less second.table j.other j.other_is)

  -- it has its numbers in range, whatever those of other views are
  pub new_in_range : (key : List ℕ) (column : ℕ) → IsHuge (fresh more rows (v.number, key) column)
  new_in_range = view_in_range more rows after n v is_last objects conditions_same readable_rows

pub range_law : RangeLaw
range_law db v sound after readable_rows old p column = by_session p.0 v.number
    (λ e. subst (λ (q : Place). IsHuge (fresh more db.rows q column)) (λ i. (sym e i, p.1)) (new_in_range db.schema db.rows v after readable_rows p.1 column))
    (λ n.
    let made : fresh more db.rows p column ≡ fresh db.schema db.rows p column +ℤ due p column (all_contributions more db.rows v) = made_law db.schema db.rows (view v) sound p column in
    let none : due p column (all_contributions more db.rows v) ≡ pos 0 = apart_due p column v.number (all_contributions more db.rows v) (all_ones more v db.rows) (λ f. n (sym f)) in
    shift (fresh db.schema db.rows p column) (fresh more db.rows p column) (old p column) (omega (arith, ints)))
  where
    more : Schema
    more = db.schema ++ view v ∷ []
