-- One row of each table of a view: whether they are counted, and what they contribute.
use Rattle.std.specs.Prelude.{◌≡◌, ℕ, zero, suc, Bool, true, false, cond, ◌&&◌, ℤ, pos, List, [], ◌∷◌, ◌++◌, map, Option, Some, None}
use mathlib.Core.Path.{refl, sym, ap, subst, ◌∙◌}
use Rattle.std.specs.List.{AllByRecursion, filter_map}
use Rattle.std.specs.Option.{option_to_list, option_map_or}
use Rattle.std.proofs.Common.{rules, arith}
use Rattle.std.proofs.lemmas.Int.{ints}
use Rattle.std.specs.Int.{w64, w128}
use Rattle.std.specs.Prelude.{FitsSigned}
use Rattle.iv_types.specs.declared.value.Kind.{Kind}
use Rattle.iv_types.specs.declared.value.Kind.TheVariants.{Int, Huge, Text}
use Rattle.iv_types.specs.declared.value.Value.{Value}
use Rattle.iv_types.specs.declared.value.Value.TheVariants.{Number, Word}
use Rattle.iv_types.specs.declared.catalog.Second.{Second}
use Rattle.iv_types.specs.declared.expression.ColumnAt.{ColumnAt}
use Rattle.iv_types.specs.Encoding.{Fits, FitAll, IsHuge}
use Rattle.iv_types.proofs.Fitting.{int_is, huge_is}
use Rattle.iv_types.proofs.FittingAt.{FitsAt, fits_at, fit_more}
use Rattle.iv_meaning.specs.Schema.{Schema, ViewTree, numbered, kinds_of_table, kind_at, group_kinds, sources_of, primary_of}
use Rattle.iv_meaning.specs.Database.{Row, Rows}
use Rattle.iv_meaning.specs.Values.{is_true, value_at}
use Rattle.iv_meaning.specs.Query.{Combination, conjunction, values_at}
use Rattle.iv_meaning.specs.Grouping.{number_in}
use Rattle.iv_meaning.specs.View.{join_conditions}
use Rattle.row_eval.proofs.Joins.{both_parts}
use Rattle.txn_machine.specs.Deltas.{contribution, contributions, is_counted}
use Rattle.view_delta.specs.Parts.{FitEach, FitTables, contributed}

-- ---- conditions

pub counted_two : (objects : Schema) (v : ViewTree) (second : Second) (c : Combination) → v.second ≡ Some second → (joined key : List ℕ) → joined ≡ second.joined → key ≡ primary_of (numbered objects second.table)
    → is_counted objects v c ≡ (is_true (conjunction (join_conditions joined key) c) && is_true (conjunction (option_to_list v.condition) c))
counted_two objects v second c e joined key j k =
    ap (λ (o : Option Second). is_true (conjunction (option_map_or (λ (s : Second). join_conditions s.joined (primary_of (numbered objects s.table))) o [] ++ option_to_list v.condition) c)) e
    ∙ (both_parts (join_conditions second.joined (primary_of (numbered objects second.table))) (option_to_list v.condition) c
    ∙ λ i. is_true (conjunction (join_conditions (sym j i) (sym k i)) c) && is_true (conjunction (option_to_list v.condition) c))

-- ---- values of rows that fit

place_matches : (objects : Schema) (ns : List ℕ) (rows : Combination) (source column : ℕ) → FitEach objects ns rows
    → FitsAt (kind_at (map (λ n. kinds_of_table (numbered objects n)) ns) (record { source = source; column = column })) (value_at rows (record { source = source; column = column }))
place_matches objects [] [] source column f = tt
place_matches objects [] (row ∷ rows) source column f = absurd f
place_matches objects (n ∷ ns) [] source column f = absurd f
place_matches objects (n ∷ ns) (row ∷ rows) zero column f = fits_at (kinds_of_table (numbered objects n)) row column f.0
place_matches objects (n ∷ ns) (row ∷ rows) (suc source) column f = place_matches objects ns rows source column f.1

module _ (objects : Schema) (v : ViewTree) (c : Combination) (f : FitTables objects v c) where
  fit_at : (group : List ColumnAt) → FitAll (filter_map (kind_at (map (λ n. kinds_of_table (numbered objects n)) (sources_of v))) group) (values_at group c)
  fit_at [] = tt
  fit_at (place ∷ group) =
      fit_more (kind_at (map (λ n. kinds_of_table (numbered objects n)) (sources_of v)) place) (value_at c place)
      (filter_map (kind_at (map (λ n. kinds_of_table (numbered objects n)) (sources_of v))) group) (values_at group c)
      (place_matches objects (sources_of v) c place.source place.column f) (fit_at group)

  -- the values of the group fit its columns
  pub group_fits : FitAll (group_kinds objects v) (values_at v.group c)
  group_fits = fit_at v.group

-- ---- sums of rows that fit

zero_huge : IsHuge (pos 0)
zero_huge = search rules

fits_wider : (n : ℤ) → FitsSigned w64 n → FitsSigned w128 n
fits_wider n f = omega (arith, ints)

-- a 64-bit number is in the HUGE range
int_huge : (n : ℤ) → FitsSigned w64 n → IsHuge n
int_huge n f = (fits_wider n f, λ e. omega (arith, ints, e))

number_huge : (k : Kind) (n : ℤ) → Fits k (Number n) → IsHuge n
number_huge Int n f = int_huge n (int_is n f)
number_huge Huge n f = huge_is n f
number_huge Text n f = absurd (cc)

matched_huge : (o : Option Kind) (p : Option Value) → FitsAt o p → IsHuge (number_in p)
matched_huge o None m = zero_huge
matched_huge o (Some (Word w)) m = zero_huge
matched_huge (Some k) (Some (Number n)) m = number_huge k n m
matched_huge None (Some (Number n)) m = absurd m

pub sums_huge : (objects : Schema) (v : ViewTree) (c : Combination) → FitTables objects v c → (sums : List ColumnAt) → AllByRecursion IsHuge (map (λ column. number_in (value_at c column)) sums)
sums_huge objects v c f [] = tt
sums_huge objects v c f (place ∷ sums) =
    (matched_huge (kind_at (map (λ n. kinds_of_table (numbered objects n)) (sources_of v)) place) (value_at c place) (place_matches objects (sources_of v) c place.source place.column f), sums_huge objects v c f sums)

-- ---- contributions

pub counted_is : (objects : Schema) (v : ViewTree) (c : Combination) (b : Bool) → b ≡ is_counted objects v c → contributed objects v c ≡ cond b (contribution objects v c ∷ []) []
counted_is objects v c b e = ap (λ t. map (contribution objects v) (cond t (c ∷ []) [])) (sym e) ∙ either_way b
  where
    either_way : (t : Bool) → map (contribution objects v) (cond t (c ∷ []) []) ≡ cond t (contribution objects v c ∷ []) []
    either_way true = refl
    either_way false = refl

-- a row of a view's one table
pub contributed_alone : (objects : Schema) (v : ViewTree) (rows : Rows) (row : Row) → v.second ≡ None → contributions objects v rows (Some row) ≡ contributed objects v (row ∷ [])
contributed_alone objects v rows row e = subst (λ w. contributions objects w rows (Some row) ≡ contributed objects w (row ∷ [])) (λ i. record v { second = sym e i }) refl

pub fit_alone : (objects : Schema) (v : ViewTree) (row : Row) → v.second ≡ None → FitAll (kinds_of_table (numbered objects v.first)) row → FitTables objects v (row ∷ [])
fit_alone objects v row e f = subst (λ (o : Option Second). FitEach objects (v.first ∷ elim o [ None ↦ [] | Some s ↦ s.table ∷ [] ]) (row ∷ [])) (sym e) (f, tt)
