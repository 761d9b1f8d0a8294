-- Lemmas on the columns by which a view joins its second table, and the index by which it does.
use Rattle.std.proofs.Common.{◌≡◌, ℕ, ◌==◌, nat_eq, Bool, true, false, cond, ◌&&◌, List, [], ◌∷◌, ◌++◌, map, find, Option, Some, None, if◌then◌else◌}
use mathlib.Core.Path.{refl, sym, ap, ◌∙◌}
use Rattle.std.specs.List.{flat_map, filter_map, starts_with}
use Rattle.std.specs.Option.{option_map, option_to_list, option_and_then}
use Rattle.iv_types.specs.declared.catalog.Definition.{Definition}
use Rattle.iv_types.specs.declared.catalog.Definition.TheVariants.{Table, Index, View}
use Rattle.iv_types.specs.declared.catalog.IndexDef.{IndexDef}
use Rattle.iv_types.specs.declared.catalog.TableDef.{TableDef}
use Rattle.iv_types.specs.Syntax.{Tree}
use Rattle.iv_meaning.specs.Schema.{indexes_of}
use Rattle.iv_meaning.specs.Objects.{object_of, schema_of}
use Rattle.iv_meaning.specs.Shape.{joins_by, object_number, terms}
use Rattle.iv_meaning.specs.Tests.{joined_with, join_columns, begins_with, first_index}
use Rattle.iv_types.proofs.Walks.{cons_is}
use Rattle.bind_check.specs.Joining.{first_left, is_of_column, left_in, pairs_of, serves}

-- ---- the columns of the first table

at_pair : (t : Bool) (p : ℕ × ℕ) (more : List ℕ) (rest : Option (Option (ℕ × ℕ))) → more ≡ option_to_list (option_and_then left_in rest)
    → (if t then p.0 ∷ [] else more) ≡ option_to_list (option_and_then left_in (cond t (Some (Some p)) rest))
at_pair true p more rest e = refl
at_pair false p more rest e = e

at_term : (place : ℕ) (o : Option (ℕ × ℕ)) (more : List ℕ) (rest : Option (Option (ℕ × ℕ))) → more ≡ option_to_list (option_and_then left_in rest)
    → (elim o [ None ↦ more | Some p ↦ if p.1 == place then p.0 ∷ [] else more ]) ≡ option_to_list (option_and_then left_in (cond (is_of_column place o) (Some o) rest))
at_term place None more rest e = e
at_term place (Some p) more rest e = at_pair (p.1 == place) p more rest e

joined_are : (es : List Tree) (place : ℕ) → joined_with es place ≡ option_to_list (first_left (map joins_by es) place)
joined_are [] place = refl
joined_are (e ∷ es) place = at_term place (joins_by e) (joined_with es place) (find (is_of_column place) (map joins_by es)) (joined_are es place)

columns_at : (es : List Tree) (places : List ℕ) → filter_map (first_left (map joins_by es)) places ≡ flat_map (joined_with es) places
columns_at es [] = refl
columns_at es (place ∷ places) =
    cons_is (first_left (map joins_by es) place) (filter_map (first_left (map joins_by es)) places)
    ∙ (ap (λ ps. ps ++ filter_map (first_left (map joins_by es)) places) (sym (joined_are es place))
    ∙ ap (λ ps. joined_with es place ++ ps) (columns_at es places))

abbrev found_with : TableDef → List ℕ → Option (TableDef × List ℕ)
found_with second columns = Some (second, columns)

abbrev with_columns : Tree → TableDef → TableDef × List ℕ
with_columns t second = (second, join_columns (terms t) second)

-- the second table as it was found, and the columns that were read
pub second_found : (o : Option TableDef) (second : TableDef) (t : Tree) (pairs : List (Option (ℕ × ℕ))) (primary columns : List ℕ) → Some second ≡ o → pairs ≡ pairs_of t → primary ≡ second.primary
    → columns ≡ filter_map (first_left pairs) primary → found_with second columns ≡ option_map (with_columns t) o
second_found o second t pairs primary columns found e f is =
    ap (found_with second)
    (is ∙ (ap (λ ps. filter_map (first_left ps) primary) e
    ∙ (ap (λ (qs : List ℕ). filter_map (first_left (pairs_of t)) qs) f ∙ columns_at (terms t) second.primary)))
    ∙ ap (option_map (with_columns t)) found

-- ---- the first index

pub starts_are : (columns places : List ℕ) → starts_with nat_eq places columns ≡ begins_with columns places
starts_are [] [] = refl
starts_are [] (q ∷ qs) = refl
starts_are (p ∷ ps) [] = refl
starts_are (p ∷ ps) (q ∷ qs) = ap (λ t. (p == q) && t) (starts_are ps qs)

at_begin : (t : Bool) (i : IndexDef) (rest : Option ℕ) (more : Option Definition) → rest ≡ option_map (λ d. object_number (object_of d)) more
    → (if t then Some i.number else rest) ≡ option_map (λ d. object_number (object_of d)) (cond t (Some (Index i)) more)
at_begin true i rest more e = refl
at_begin false i rest more e = e

at_index : (t : Bool) (columns : List ℕ) (i : IndexDef) (is : List IndexDef) (more : Option Definition) → first_index columns is ≡ option_map (λ d. object_number (object_of d)) more
    → first_index columns (cond t (i ∷ is) is) ≡ option_map (λ d. object_number (object_of d)) (cond (t && begins_with columns i.columns) (Some (Index i)) more)
at_index true columns i is more e = at_begin (begins_with columns i.columns) i (first_index columns is) more e
at_index false columns i is more e = e

first_serves : (columns : List ℕ) (number : ℕ) (ds : List Definition)
    → first_index columns (indexes_of (schema_of ds) number) ≡ option_map (λ d. object_number (object_of d)) (find (λ d. serves number columns (object_of d)) ds)
first_serves columns number [] = refl
first_serves columns number (Table t ∷ ds) = first_serves columns number ds
first_serves columns number (View v ∷ ds) = first_serves columns number ds
first_serves columns number (Index i ∷ ds) =
    at_index (i.table == number) columns i (indexes_of (schema_of ds) number) (find (λ d. serves number columns (object_of d)) ds) (first_serves columns number ds)

pub one_serves : (columns : List ℕ) (number : ℕ) (ds : List Definition) (d : Definition) → Some d ≡ find (λ e. serves number columns (object_of e)) ds
    → Some (object_number (object_of d)) ≡ first_index columns (indexes_of (schema_of ds) number)
one_serves columns number ds d e = ap (option_map (λ f. object_number (object_of f))) e ∙ sym (first_serves columns number ds)

pub none_serves : (columns : List ℕ) (number : ℕ) (ds : List Definition) → None ≡ find (λ e. serves number columns (object_of e)) ds
    → None ≡ first_index columns (indexes_of (schema_of ds) number)
none_serves columns number ds e = ap (option_map (λ f. object_number (object_of f))) e ∙ sym (first_serves columns number ds)
