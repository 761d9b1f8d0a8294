-- The rows of a view: their values fit its columns, and they stand in the order of their groups.
use Rattle.std.specs.Prelude.{◌≡◌, ℕ, zero, suc, ℤ, pos, true, false, cond, List, [], ◌∷◌, ◌++◌, length, map, take, slice_get, Option, Some, None, Contains}
use Rattle.std.specs.List.{AllByRecursion, AllZip, flat_map, filter_map, cons_option}
use Rattle.std.specs.Option.{option_and_then}
use mathlib.Core.Path.{refl, sym, ap, subst, ◌∙◌}
use Rattle.std.proofs.Common.{arith}
use Rattle.std.proofs.lemmas.List.{take_at}
use Rattle.std.proofs.lemmas.List.Elements.{All-contains, All-from_recursion}
use Rattle.std.specs.declared.cmp.Ordering.TheVariants.{Less, Equal, Greater}
use Rattle.std.specs.Ordering.{is_eq, eq_by_cmp, match_ordering, ordering_reverse}
use Rattle.std.specs.Cmp.{tied_itself}
use Rattle.iv_types.specs.declared.value.Kind.{Kind}
use Rattle.iv_types.specs.declared.value.Kind.TheVariants.{Huge}
use Rattle.iv_types.specs.declared.value.Value.{Value}
use Rattle.iv_types.specs.declared.value.Value.TheVariants.{Number}
use Rattle.iv_types.specs.declared.expression.ColumnAt.{ColumnAt}
use Rattle.iv_types.specs.Encoding.{Fits, FitAll, key_bytes, row_cmp}
use Rattle.iv_types.proofs.Orders.{row_cmp_total, row_cmp_exact}
use Rattle.row_codec.proofs.Columns.{fit_lengths}
use Rattle.row_codec.proofs.KeyOrders.{key_order}
use Rattle.iv_meaning.specs.Database.{Row}
use Rattle.iv_meaning.specs.Schema.{kind_at}
use Rattle.iv_meaning.specs.Values.{value_at}
use Rattle.iv_meaning.specs.Grouping.{among, groups_of, members, number_in, sum_by}
use Rattle.iv_meaning.specs.Query.{Combination, combinations, values_at}
use Rattle.query_laws.specs.Laws.{IsBefore, Rises}
use Rattle.query_laws.proofs.Each.{each_append, each_map}
use Rattle.query_laws.proofs.Rising.{key_cmp, BeforeAll, is_before, rises_from}
use Rattle.query_laws.proofs.Fitting.{AreOf, all_are_of, Column, column_at, inside}
use Rattle.query_laws.proofs.TermLemmas.{FitRows, equal_is}

-- ---- options and lists

pub some_same : {X : Type 0} (x y : X) → Some x ≡ Some y → x ≡ y
some_same x y e = cc

-- ---- combinations

combined_fit : (kinds : List (List Kind)) (ks : List Kind) (rests : List Combination) (rows : List Row) → AllByRecursion (FitAll ks) rows → AllByRecursion (FitRows kinds) rests
    → AllByRecursion (FitRows (ks ∷ kinds)) (flat_map (λ row. map (λ (rest : Combination). row ∷ rest) rests) rows)
combined_fit kinds ks rests [] f h = tt
combined_fit kinds ks rests (row ∷ rows) f h =
    each_append (FitRows (ks ∷ kinds)) (map (λ (rest : Combination). row ∷ rest) rests) (flat_map (λ row. map (λ (rest : Combination). row ∷ rest) rests) rows)
    (each_map (FitRows kinds) (FitRows (ks ∷ kinds)) (λ (rest : Combination). row ∷ rest) (λ rest g. (f.0, g)) rests h) (combined_fit kinds ks rests rows f.1 h)

pub combinations_fit : {X : Type 0} (kinds : X → List Kind) (rows : X → List Row) (xs : List X) → AllByRecursion (λ x. AllByRecursion (FitAll (kinds x)) (rows x)) xs → AllByRecursion (FitRows (map kinds xs)) (combinations (map rows xs))
combinations_fit kinds rows [] h = (tt, tt)
combinations_fit kinds rows (x ∷ xs) h = combined_fit (map kinds xs) (kinds x) (combinations (map rows xs)) (rows x) h.0 (combinations_fit kinds rows xs h.1)

-- ---- groups

-- each list of values is before those behind it
abbrev pub RowsRise : List (List Value) → Type 0
RowsRise [] = Unit {0}
RowsRise (g ∷ gs) = AllByRecursion (λ h. row_cmp g h ≡ Less) gs × RowsRise gs

less_through : (g h : List Value) (gs : List (List Value)) → row_cmp g h ≡ Less → AllByRecursion (λ x. row_cmp h x ≡ Less) gs → AllByRecursion (λ x. row_cmp g x ≡ Less) gs
less_through g h [] e a = tt
less_through g h (x ∷ gs) e a = (row_cmp_total.trans g h x e a.0, less_through g h gs e a.1)

among_each : (P : List Value → Type 0) (g : List Value) (hs : List (List Value)) → P g → AllByRecursion P hs → AllByRecursion P (among g hs)
among_each P g [] p h = (p, tt)
among_each P g (x ∷ hs) p h =
    let rest = among_each P g hs p h.1 in
    elim (row_cmp g x) as (λ o. AllByRecursion P (match_ordering o (g ∷ x ∷ hs) (x ∷ hs) (x ∷ among g hs))) [
      | Less ↦ (p, h)
      | Equal ↦ h
      | Greater ↦ (h.0, rest)
    ]

among_rises : (g : List Value) (hs : List (List Value)) → RowsRise hs → RowsRise (among g hs)
among_rises g [] r = (tt, tt)
among_rises g (x ∷ hs) r =
    let rest = among_rises g hs r.1 in
    elim (row_cmp g x) as (λ o. row_cmp g x ≡ o → RowsRise (match_ordering o (g ∷ x ∷ hs) (x ∷ hs) (x ∷ among g hs))) [
      | Less ↦ λ e. ((e, less_through g x hs e r.0), r)
      | Equal ↦ λ e. r
      | Greater ↦ λ e. (among_each (λ h. row_cmp x h ≡ Less) g hs (row_cmp_total.antisymm x g ∙ ap ordering_reverse e) r.0, rest)
    ] refl

module _ {X : Type 0} (group : X → List Value) where
  pub groups_rise : (xs : List X) → RowsRise (groups_of group xs)
  groups_rise [] = tt
  groups_rise (x ∷ xs) = among_rises (group x) (groups_of group xs) (groups_rise xs)

  -- a group is that of one of them
  abbrev pub IsGroupIn : List X → List Value → Type 0
  IsGroupIn xs g = (x : X) × Contains xs x × (group x ≡ g)

  later_group : (x : X) (xs : List X) (gs : List (List Value)) → AllByRecursion (IsGroupIn xs) gs → AllByRecursion (IsGroupIn (x ∷ xs)) gs
  later_group x xs [] h = tt
  later_group x xs (g ∷ gs) h = ((h.0.0, (suc h.0.1.0, omega (arith, h.0.1.1), h.0.1.2), h.0.2), later_group x xs gs h.1)

  pub groups_are : (xs : List X) → AllByRecursion (IsGroupIn xs) (groups_of group xs)
  groups_are [] = tt
  groups_are (x ∷ xs) =
      among_each (IsGroupIn (x ∷ xs)) (group x) (groups_of group xs) (x, (0, omega arith, refl), refl) (later_group x xs (groups_of group xs) (groups_are xs))

  -- a group has a first member
  pub record FirstMember (xs : List X) (g : List Value) : Type 0 where
    pub one : X
    pub others : List X
    pub members_are : members group xs g ≡ one ∷ others
    pub group_is : g ≡ group one
    pub there : Contains xs one

  passing : (x : X) (g : List Value) → group x ≡ g → eq_by_cmp row_cmp g (group x) ≡ true
  passing x g e = ap is_eq (ap (row_cmp g) e ∙ tied_itself row_cmp_total g)

  pub first_member : (xs : List X) (g : List Value) → IsGroupIn xs g → FirstMember xs g
  first_member [] g c = absurd (omega (arith, c.1.1))
  first_member (x ∷ xs) g c =
      elim (eq_by_cmp row_cmp g (group x)) as (λ b. eq_by_cmp row_cmp g (group x) ≡ b → FirstMember (x ∷ xs) g) [
        | true ↦ λ e. record {
          one = x;
          others = members group xs g;
          members_are = ap (λ b. cond b (x ∷ members group xs g) (members group xs g)) e;
          group_is = row_cmp_exact g (group x) (equal_is (row_cmp g (group x)) e);
          there = (0, omega arith, refl);
        }
        | false ↦ λ e.
            let rest : FirstMember xs g = first_member xs g (behind c.0 c.1 c.2 e) in
            record {
              one = rest.one;
              others = rest.others;
              members_are = ap (λ b. cond b (x ∷ members group xs g) (members group xs g)) e ∙ rest.members_are;
              group_is = rest.group_is;
              there = (suc rest.there.0, omega (arith, rest.there.1), rest.there.2);
            }
      ] refl
    where
      behind : (y : X) → Contains (x ∷ xs) y → group y ≡ g → eq_by_cmp row_cmp g (group x) ≡ false → IsGroupIn xs g
      behind y (zero, lt, is) e f = absurd (cc (sym f ∙ passing x g (ap group is ∙ e)))
      behind y (suc k, lt, is) e f = (y, (k, omega (arith, lt), is), e)

-- ---- the values of a group fit

pub fitted_value : (kinds : List (List Kind)) (rows : Combination) (source place : ℕ) (kind : Kind) → FitRows kinds rows
    → option_and_then (λ ks. slice_get ks place) (slice_get kinds source) ≡ Some kind
    → (x : Value) × (option_and_then (λ row. slice_get row place) (slice_get rows source) ≡ Some x) × Fits kind x
fitted_value [] rows source place kind f e = absurd (cc)
fitted_value (ks ∷ kinds) [] source place kind f e = absurd f
fitted_value (ks ∷ kinds) (row ∷ rows) zero place kind f e =
    let c : Column ks row place = column_at ks row place f.0 (inside ks place kind e) in
    (c.value, c.value_is, subst (λ k. Fits k c.value) (some_same c.kind kind (sym c.kind_is ∙ e)) c.fits)
fitted_value (ks ∷ kinds) (row ∷ rows) (suc source) place kind f e = fitted_value kinds rows source place kind f.1 e

pub kind_at_is : (kinds : List (List Kind)) (place : ColumnAt) → kind_at kinds place ≡ option_and_then (λ ks. slice_get ks place.column) (slice_get kinds place.source)
kind_at_is kinds place = go (slice_get kinds place.source)
  where
    go : (o : Option (List Kind)) → elim o [ None ↦ None | Some ks ↦ slice_get ks place.column ] ≡ option_and_then (λ ks. slice_get ks place.column) o
    go None = refl
    go (Some ks) = refl

-- the kind of a column is known
abbrev pub IsKnown : List (List Kind) → ColumnAt → Type 0
IsKnown kinds place = (kind : Kind) × (kind_at kinds place ≡ Some kind)

pub kinds_long : (kinds : List (List Kind)) (group : List ColumnAt) → AllByRecursion (IsKnown kinds) group → length (filter_map (kind_at kinds) group) ≡ length group
kinds_long kinds [] h = refl
kinds_long kinds (place ∷ group) h =
    ap (λ (o : Option Kind). length (cons_option o (filter_map (kind_at kinds) group))) h.0.1 ∙ ap suc (kinds_long kinds group h.1)

pub values_fit : (kinds : List (List Kind)) (rows : Combination) (group : List ColumnAt) → FitRows kinds rows → AllByRecursion (IsKnown kinds) group
    → FitAll (filter_map (kind_at kinds) group) (values_at group rows)
values_fit kinds rows [] f h = tt
values_fit kinds rows (place ∷ group) f h =
    let rest = values_fit kinds rows group f h.1 in
    let v = fitted_value kinds rows place.source place.column h.0.0 f (sym (kind_at_is kinds place) ∙ h.0.1) in
    subst (λ (o : Option Kind). FitAll (cons_option o (filter_map (kind_at kinds) group)) (cons_option (value_at rows place) (values_at group rows))) (sym h.0.1)
    (subst (λ (o : Option Value). FitAll (h.0.0 ∷ filter_map (kind_at kinds) group) (cons_option o (values_at group rows))) (sym v.1) (v.2, rest))

-- ---- the row of a group

abbrev pub huge_kinds : List ColumnAt → List Kind
huge_kinds sums = map (λ (column : ColumnAt). Huge) sums

numbers_are : (sums : List ColumnAt) (f : ColumnAt → ℤ) → AreOf (huge_kinds sums) (map Number (map f sums))
numbers_are [] f = tt
numbers_are (column ∷ sums) f = (tt, numbers_are sums f)

both_are : (ks js : List Kind) (vs ws : List Value) → AreOf ks vs → AreOf js ws → AreOf (ks ++ js) (vs ++ ws)
both_are [] js [] ws f g = g
both_are [] js (v ∷ vs) ws f g = absurd f
both_are (k ∷ ks) js [] ws f g = absurd f
both_are (k ∷ ks) js (v ∷ vs) ws f g = (f.0, both_are ks js vs ws f.1 g)

-- Rows of which each has the values of a group in front.
module _ (kinds : List (List Kind)) (group sums : List ColumnAt) (known : AllByRecursion (IsKnown kinds) group) where
  abbrev pub kinds_of_group : List Kind
  kinds_of_group = filter_map (kind_at kinds) group

  abbrev pub kinds_of_row : List Kind
  kinds_of_row = kinds_of_group ++ Huge ∷ huge_kinds sums

  -- the row of a group: its values, and then numbers
  pub record IsRowOf (g : List Value) (row : Row) : Type 0 where
    pub group_fits : FitAll kinds_of_group g
    pub front : take (length group) row ≡ g
    pub rest : List Value
    pub row_is : row ≡ g ++ rest
    pub row_of : AreOf kinds_of_row row

  -- what a group of some combinations has
  abbrev pub group_numbers : List Combination → List ℤ
  group_numbers ms = pos (length ms) ∷ map (λ column. sum_by (λ c. number_in (value_at c column)) ms) sums

  abbrev pub row_for : List Combination → List Value → Row
  row_for found g = g ++ map Number (group_numbers (members (values_at group) found g))

  of_group : (found : List Combination) → AllByRecursion (FitRows kinds) found → (g : List Value) → IsGroupIn (values_at group) found g → IsRowOf g (row_for found g)
  of_group found fits g is =
      let one_fits : FitRows kinds is.0 = All-contains (FitRows kinds) found is.0 (All-from_recursion (FitRows kinds) found fits) is.1 in
      let group_fits : FitAll kinds_of_group g = subst (FitAll kinds_of_group) is.2 (values_fit kinds is.0 group one_fits known) in
      let long : length g ≡ length group = sym (fit_lengths kinds_of_group g group_fits) ∙ kinds_long kinds group known in
      let numbers : List Value = map Number (group_numbers (members (values_at group) found g)) in
      record {
        group_fits = group_fits;
        front = take_at g numbers (length group) long;
        rest = numbers;
        row_is = refl;
        row_of = both_are kinds_of_group (Huge ∷ huge_kinds sums) g numbers (all_are_of kinds_of_group g group_fits)
            (tt, numbers_are sums (λ column. sum_by (λ c. number_in (value_at c column)) (members (values_at group) found g)));
      }

  rows_of_groups : (found : List Combination) → AllByRecursion (FitRows kinds) found → (gs : List (List Value)) → AllByRecursion (IsGroupIn (values_at group) found) gs
      → AllZip IsRowOf gs (map (row_for found) gs)
  rows_of_groups found fits [] h = tt
  rows_of_groups found fits (g ∷ gs) h = (of_group found fits g h.0, rows_of_groups found fits gs h.1)

  -- the key of a row of the view
  abbrev pub group_key : Row → List ℕ
  group_key row = key_bytes kinds_of_group (take (length group) row)

  keys_before : (g h : List Value) (one other : Row) → IsRowOf g one → IsRowOf h other → row_cmp g h ≡ Less → IsBefore (group_key one) (group_key other)
  keys_before g h one other a b e =
      is_before (group_key one) (group_key other)
      (ap (λ (l : List Value). key_cmp (key_bytes kinds_of_group l) (group_key other)) a.front
      ∙ (ap (λ (l : List Value). key_cmp (key_bytes kinds_of_group g) (key_bytes kinds_of_group l)) b.front
      ∙ (key_order kinds_of_group g h a.group_fits b.group_fits ∙ e)))

  before_rows : (g : List Value) (one : Row) → IsRowOf g one → (hs : List (List Value)) (rows : List Row) → AllZip IsRowOf hs rows → AllByRecursion (λ h. row_cmp g h ≡ Less) hs → BeforeAll group_key (group_key one) rows
  before_rows g one a [] [] z l = tt
  before_rows g one a [] (row ∷ rows) z l = absurd z
  before_rows g one a (h ∷ hs) [] z l = absurd z
  before_rows g one a (h ∷ hs) (row ∷ rows) z l = (keys_before g h one row a z.0 l.0, before_rows g one a hs rows z.1 l.1)

  pub rows_rise : (gs : List (List Value)) (rows : List Row) → AllZip IsRowOf gs rows → RowsRise gs → Rises group_key rows
  rows_rise [] [] z r = tt
  rows_rise [] (row ∷ rows) z r = absurd z
  rows_rise (g ∷ gs) [] z r = absurd z
  rows_rise (g ∷ gs) (row ∷ rows) z r = rises_from group_key row rows (before_rows g row z.0 gs rows z.1 r.0) (rows_rise gs rows z.1 r.1)

  -- the values of the row's group fit, and its numbers may have any size
  abbrev pub IsViewRow : Row → Type 0
  IsViewRow row = (g : List Value) × IsRowOf g row

  rows_are : (gs : List (List Value)) (rows : List Row) → AllZip IsRowOf gs rows → AllByRecursion IsViewRow rows
  rows_are [] [] z = tt
  rows_are [] (row ∷ rows) z = absurd z
  rows_are (g ∷ gs) [] z = absurd z
  rows_are (g ∷ gs) (row ∷ rows) z = ((g, z.0), rows_are gs rows z.1)

  -- the rows of groups are of the view's columns, and rise by the keys of their groups
  abbrev pub AreViewRows : List Row → Type 0
  AreViewRows rows = AllByRecursion IsViewRow rows × Rises group_key rows

  pub grouped_rows : (found : List Combination) → AllByRecursion (FitRows kinds) found → AreViewRows (map (row_for found) (groups_of (values_at group) found))
  grouped_rows found fits =
      let gs : List (List Value) = groups_of (values_at group) found in
      let all = rows_of_groups found fits gs (groups_are (values_at group) found) in
      (rows_are gs (map (row_for found) gs) all, rows_rise gs (map (row_for found) gs) all (groups_rise (values_at group) found))
