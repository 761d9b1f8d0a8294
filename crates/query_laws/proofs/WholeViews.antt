-- What the query of a view answers as a SELECT of the whole tables, where it is not refused, is the view's rows.
use Rattle.std.specs.Prelude.{◌≡◌, ℕ, pos, Bool, true, false, cond, List, [], ◌∷◌, ◌++◌, length, map, filter, Option, Some, None}
use Rattle.std.specs.List.{AllByRecursion, AllZip, cons_option}
use Rattle.std.specs.Option.{option_map, option_and_then, option_zip}
use mathlib.Core.Path.{refl, sym, ap, subst, ◌∙◌}
use Rattle.iv_types.specs.declared.value.Value.{Value}
use Rattle.iv_types.specs.declared.value.Value.TheVariants.{Number}
use Rattle.iv_types.specs.declared.expression.ColumnAt.{ColumnAt}
use Rattle.iv_types.specs.Syntax as s
use Rattle.iv_types.specs.Syntax.{Tree}
use Rattle.iv_meaning.specs.Schema.{Schema, ViewTree, sources_of}
use Rattle.iv_meaning.specs.Database.{Row, Rows, rows_of}
use Rattle.iv_meaning.specs.Values.{Outcome, refused, is_true, is_false, value_at, value_of, outcome_of}
use Rattle.iv_meaning.specs.Grouping.{all_of, groups_of, members, number_in, sum_by}
use Rattle.iv_meaning.specs.Query.{Combination, BoundItem, count, sum, plain, BoundQuery, combinations, chosen, conjunction, joined, item_of_group, item_alone, row_by, values_at, listed, order_cmp, put_by, ordered}
use Rattle.iv_meaning.specs.View.{conditions_of, query_of, whole_view, counted_combinations, shares, rows_by_group, view_rows}
use Rattle.iv_meaning.proofs.RangeLemmas.{ranged_is, value_back}
use Rattle.query_laws.proofs.GroupRows.{some_same, IsGroupIn, groups_are, first_member}

-- ---- options and lists

-- the parts of a list of which none is wanting
pub all_of_cons : {X : Type 0} (o : Option X) (os : List (Option X)) (xs : List X) → all_of (o ∷ os) ≡ Some xs → (x : X) × (rest : List X) × (o ≡ Some x) × (all_of os ≡ Some rest) × (xs ≡ x ∷ rest)
all_of_cons {X = X} None os xs e = absurd (cc)
all_of_cons {X = X} (Some x) os xs e = go (all_of os) refl e
  where
    go : (r : Option (List X)) → all_of os ≡ r → option_map (λ (p : X × List X). p.0 ∷ p.1) (option_zip (Some x) r) ≡ Some xs → (y : X) × (rest : List X) × (Some x ≡ Some y) × (all_of os ≡ Some rest) × (xs ≡ y ∷ rest)
    go None is h = absurd (cc)
    go (Some rest) is h = (x, rest, refl, is, cc)

pub all_of_zip : {X Y : Type 0} (f : X → Option Y) (xs : List X) (ys : List Y) → all_of (map f xs) ≡ Some ys → AllZip (λ x y. f x ≡ Some y) xs ys
all_of_zip f [] [] e = tt
all_of_zip f [] (y ∷ ys) e = absurd (cc)
all_of_zip {Y = Y} f (x ∷ xs) ys e =
    let p = all_of_cons (f x) (map f xs) ys e in
    subst (λ (l : List Y). AllZip (λ x y. f x ≡ Some y) (x ∷ xs) l) (sym p.4) (p.2, all_of_zip f xs p.1 p.3)

-- what is chosen are those of which the test is true
pub chosen_is : {X : Type 0} (test : X → Outcome) (xs ys : List X) → chosen test xs ≡ Some ys → ys ≡ filter (λ x. is_true (test x)) xs
chosen_is test [] ys e = sym (some_same [] ys e)
chosen_is {X} test (x ∷ xs) ys e = next (is_true (test x)) (is_false (test x)) (chosen test xs) (chosen_is test xs) e
  where
    kept : List X
    kept = filter (λ x. is_true (test x)) xs

    more : (o : Option (List X)) → ((zs : List X) → o ≡ Some zs → zs ≡ kept) → option_map (λ more. x ∷ more) o ≡ Some ys → ys ≡ x ∷ kept
    more None h e = absurd (cc)
    more (Some zs) h e = sym (some_same (x ∷ zs) ys e) ∙ ap (λ l. x ∷ l) (h zs refl)

    next : (t f : Bool) (o : Option (List X)) → ((zs : List X) → o ≡ Some zs → zs ≡ kept) → cond t (option_map (λ more. x ∷ more) o) (cond f o None) ≡ Some ys → ys ≡ cond t (x ∷ kept) kept
    next true f o h e = more o h e
    next false true o h e = h ys e
    next false false o h e = absurd (cc)

-- no order leaves the rows as they are
pub unordered : (rows : List Row) → ordered [] rows ≡ rows
unordered [] = refl
unordered (row ∷ rows) = ap (put_by (order_cmp []) row) (unordered rows) ∙ first_stays rows
  where
    first_stays : (others : List Row) → put_by (order_cmp []) row others ≡ row ∷ others
    first_stays [] = refl
    first_stays (r ∷ others) = refl

-- ---- the row of a group

-- the items of a view
abbrev pub view_items : List ColumnAt → List ColumnAt → List BoundItem
view_items group sums = map (λ column. plain (s.at column)) group ++ count ∷ map sum sums

-- a query with the items of a view
abbrev pub query_by : List ℕ → List Tree → List ColumnAt → List ColumnAt → BoundQuery
query_by relations conditions group sums = record { relations = relations; conditions = conditions; items = view_items group sums; group = group; order = [] }

sums_are : (ms : List Combination) (sums : List ColumnAt) (us : List Value) → all_of (map (λ i. value_of (item_of_group ms i)) (map sum sums)) ≡ Some us
    → us ≡ map Number (map (λ column. sum_by (λ c. number_in (value_at c column)) ms) sums)
sums_are ms [] us e = sym (some_same [] us e)
sums_are ms (column ∷ sums) us e =
    let p = all_of_cons (value_of (item_of_group ms (sum column))) (map (λ i. value_of (item_of_group ms i)) (map sum sums)) us e in
    p.4 ∙ (λ i. ranged_is (sum_by (λ c. number_in (value_at c column)) ms) p.0 p.2 i ∷ sums_are ms sums p.1 p.3 i)

-- the group's values, and then the count and the sums
items_are : (one : Combination) (others : List Combination) (group sums : List ColumnAt) (row : Row) → all_of (map (λ i. value_of (item_of_group (one ∷ others) i)) (view_items group sums)) ≡ Some row
    → row ≡ values_at group one ++ map Number (pos (length (one ∷ others)) ∷ map (λ column. sum_by (λ c. number_in (value_at c column)) (one ∷ others)) sums)
items_are one others [] sums row e =
    let p = all_of_cons (value_of (item_of_group (one ∷ others) count)) (map (λ i. value_of (item_of_group (one ∷ others) i)) (map sum sums)) row e in
    p.4 ∙ (λ i. ranged_is (pos (length (one ∷ others))) p.0 p.2 i ∷ sums_are (one ∷ others) sums p.1 p.3 i)
items_are one others (column ∷ group) sums row e =
    let p = all_of_cons (value_of (outcome_of (value_at one column))) (map (λ i. value_of (item_of_group (one ∷ others) i)) (view_items group sums)) row e in
    let tail : Row = map Number (pos (length (one ∷ others)) ∷ map (λ column. sum_by (λ c. number_in (value_at c column)) (one ∷ others)) sums) in
    p.4 ∙ (ap (λ (l : List Value). p.0 ∷ l) (items_are one others group sums p.1 p.3) ∙ ap (λ (o : Option Value). cons_option o (values_at group one) ++ tail) (sym (value_back (value_at one column) p.0 p.2)))

-- of a view without a group column nothing is listed where there is a combination
pub not_listed : (sums : List ColumnAt) (c : Combination) (cs : List Combination) (rows : List Row) → all_of (map (row_by item_alone (count ∷ map sum sums)) (c ∷ cs)) ≡ Some rows → ⊥
not_listed sums c cs rows e =
    let p = all_of_cons (row_by item_alone (count ∷ map sum sums) c) (map (row_by item_alone (count ∷ map sum sums)) cs) rows e in
    let q = all_of_cons (value_of refused) (map (λ i. value_of (item_alone c i)) (map sum sums)) p.0 p.2 in
    absurd (cc q.2)

-- each group has its row
each_listed : (relations : List ℕ) (conditions : List Tree) (group sums : List ColumnAt) (found : List Combination) (all : List Row) → listed (query_by relations conditions group sums) found ≡ Some all
    → AllZip (λ g row. row_by item_of_group (view_items group sums) (members (values_at group) found g) ≡ Some row) (groups_of (values_at group) found) all
each_listed relations conditions [] sums [] all e = subst (AllZip (λ g row. row_by item_of_group (view_items [] sums) (members (values_at []) [] g) ≡ Some row) []) (some_same [] all e) tt
each_listed relations conditions [] sums (c ∷ found) all e = absurd (not_listed sums c found all e)
each_listed relations conditions (x ∷ xs) sums found all e = all_of_zip (λ (g : Row). row_by item_of_group (view_items (x ∷ xs) sums) (members (values_at (x ∷ xs)) found g)) (groups_of (values_at (x ∷ xs)) found) all e

-- ---- all rows

module _ (objects : Schema) (v : ViewTree) (found : List Combination) where
  abbrev row_for : Row → Row
  row_for g = g ++ map Number (shares v (members (values_at v.group) found g))

  row_is : (g : Row) → IsGroupIn (values_at v.group) found g → (row : Row) → row_by item_of_group (view_items v.group v.sums) (members (values_at v.group) found g) ≡ Some row → row ≡ row_for g
  row_is g is row e =
      let m = first_member (values_at v.group) found g is in
      items_are m.one m.others v.group v.sums row (ap (row_by item_of_group (view_items v.group v.sums)) (sym m.members_are) ∙ e)
      ∙ (λ i. sym m.group_is i ++ map Number (shares v (sym m.members_are i)))

  rows_are : (gs all : List Row) → AllByRecursion (IsGroupIn (values_at v.group) found) gs
      → AllZip (λ g row. row_by item_of_group (view_items v.group v.sums) (members (values_at v.group) found g) ≡ Some row) gs all → all ≡ map row_for gs
  rows_are [] [] h z = refl
  rows_are [] (row ∷ all) h z = absurd z
  rows_are (g ∷ gs) [] h z = absurd z
  rows_are (g ∷ gs) (row ∷ all) h z = λ i. row_is g h.0 row z.0 i ∷ rows_are gs all h.1 z.1 i

  pub listed_rows : (all : List Row) → listed (query_of objects v) found ≡ Some all → all ≡ rows_by_group v found
  listed_rows all e = rows_are (groups_of (values_at v.group) found) all (groups_are (values_at v.group) found) (each_listed (sources_of v) (conditions_of objects v) v.group v.sums found all e)

pub whole_rows : (objects : Schema) (rows : Rows) (v : ViewTree) (all : List Row) → whole_view objects rows v ≡ Some all → all ≡ view_rows objects rows v
whole_rows objects rows v all e = go (joined (conditions_of objects v) (map (rows_of rows) (sources_of v))) refl e
  where
    unordered_is : (o : Option (List Row)) → option_map (ordered []) o ≡ Some all → o ≡ Some all
    unordered_is None e = absurd (cc)
    unordered_is (Some others) e = ap Some (sym (unordered others) ∙ some_same (ordered [] others) all e)

    go : (o : Option (List Combination)) → joined (conditions_of objects v) (map (rows_of rows) (sources_of v)) ≡ o → option_map (ordered []) (option_and_then (listed (query_of objects v)) o) ≡ Some all → all ≡ view_rows objects rows v
    go None is h = absurd (cc)
    go (Some found) is h =
        let same : found ≡ counted_combinations objects rows v = chosen_is (conjunction (conditions_of objects v)) (combinations (map (rows_of rows) (sources_of v))) found is in
        listed_rows objects v found all (unordered_is (listed (query_of objects v) found) h) ∙ ap (rows_by_group v) same
