-- UPDATE and DELETE read what their condition can be true of: the rows of the plan's interval, in the order of the primary key.
use Rattle.std.specs.Prelude.{◌≡◌, ℕ, not, Bool, true, false, cond, List, [], ◌∷◌, ◌++◌, map, filter, Option, Some}
use Rattle.std.specs.List.{AllByRecursion, flat_map}
use Rattle.std.specs.Option.{option_to_list}
use mathlib.Core.Path.{refl, sym, ap, ◌∙◌}
use mathlib.Core.Logic.{inl}
use Rattle.std.proofs.Common.{append-nil}
use Rattle.iv_types.specs.declared.value.Kind.{Kind}
use Rattle.iv_types.specs.declared.statement.Mode.{Mode}
use Rattle.iv_types.specs.declared.catalog.TableDef.{TableDef}
use Rattle.iv_types.specs.Syntax.{Tree}
use Rattle.iv_types.specs.Encoding.{key_bytes, lies_in}
use Rattle.iv_meaning.specs.Schema.{table, numbered, items_at}
use Rattle.iv_meaning.specs.Database.{Row, Database, rows_of}
use Rattle.iv_meaning.specs.Values.{Outcome, is_false}
use Rattle.iv_meaning.specs.Query.{conjunction, chosen}
use Rattle.iv_meaning.specs.View.{relation_rows, read}
use Rattle.iv_meaning.specs.Shape.{terms}
use Rattle.iv_meaning.specs.Sound.{IsSound}
use Rattle.iv_meaning.specs.Plan.{ColumnTerm, terms_for, KeyIndex, Part, part_of, best, best_of, part_for, parts_from, kinds_for, interval_of, goes_on}
use Rattle.iv_meaning.specs.Reading.{Source, in_key_order, source_of}
use Rattle.query_laws.proofs.Each.{each_map}
use Rattle.query_laws.proofs.Fitting.{HaveColumns}
use Rattle.query_laws.proofs.TermLemmas.{IsSaid, terms_said}
use Rattle.query_laws.proofs.PartLemmas.{inside_part}
use Rattle.query_laws.proofs.Choosing.{live, chosen_live, conditions_false}
use Rattle.query_laws.proofs.Relations.{IsReadBy, IsReadable, readable}
use Rattle.query_laws.proofs.ReadingLemmas.{part_index, best_has}

-- ---- rows of which the condition is false may be left out

module _ {X : Type 0} (test : X → Outcome) (passes : X → Bool) where
  live_filtered : (xs : List X) → AllByRecursion (λ x. passes x ≡ false → is_false (test x) ≡ true) xs → live test (filter passes xs) ≡ live test xs
  live_filtered [] h = refl
  live_filtered (x ∷ xs) h =
      let rest = live_filtered xs h.1 in
      elim (passes x) as (λ b. passes x ≡ b → live test (cond b (x ∷ filter passes xs) (filter passes xs)) ≡ cond (not (is_false (test x))) (x ∷ live test xs) (live test xs)) [
        | true ↦ λ e. ap (λ l. cond (not (is_false (test x))) (x ∷ l) l) rest
        | false ↦ λ e. rest ∙ sym (ap (λ b. cond (not b) (x ∷ live test xs) (live test xs)) (h.0 e))
      ] refl

  pub chosen_filtered : (xs : List X) → AllByRecursion (λ x. passes x ≡ false → is_false (test x) ≡ true) xs → chosen test (filter passes xs) ≡ chosen test xs
  chosen_filtered xs h = chosen_live test (filter passes xs) ∙ (ap (chosen test) (live_filtered xs h) ∙ sym (chosen_live test xs))

-- ---- the plan's one part

module _ (db : Database) (sound : IsSound db) (mode : Mode) (n : ℕ) (t : TableDef) (is : numbered db.schema n ≡ Some (table t)) (condition : Option Tree) where
  abbrev conditions : List Tree
  conditions = option_to_list condition

  abbrev ks : List Kind
  ks = kinds_for db.schema n

  abbrev all_rows : List Row
  all_rows = relation_rows db (numbered db.schema n)

  abbrev by : IsReadable db sound mode n all_rows
  by = readable db sound mode n (inl (t, is))

  abbrev pub said_terms : List ColumnTerm
  said_terms = terms_for (ks ∷ []) conditions 0

  -- the part is that of an index by which the table is read
  record IsPart (part : Part) : Type 0 where
    index_by : KeyIndex
    is_part : part ≡ part_of said_terms index_by
    read_by_it : IsReadBy db.schema (read db) ks all_rows index_by

  abbrev pub the_part : Part
  the_part = best (part_of said_terms by.first) (map (part_of said_terms) by.others)

  pub one_part : parts_from db.schema mode (ks ∷ []) conditions 0 (n ∷ []) ≡ the_part ∷ []
  one_part = append-nil (part_for db.schema mode (ks ∷ []) conditions 0 n) ∙ ap (λ i. best_of (map (part_of said_terms) i)) by.indexes_are

  part_of_index : (i : KeyIndex) → IsReadBy db.schema (read db) ks all_rows i → IsPart (part_of said_terms i)
  part_of_index i h = record { index_by = i; is_part = refl; read_by_it = h }

  is_part : IsPart the_part
  is_part = best_has IsPart (part_of said_terms by.first) (map (part_of said_terms) by.others) (part_of_index by.first by.by_first)
      (each_map (IsReadBy db.schema (read db) ks all_rows) IsPart (part_of said_terms) part_of_index by.others by.by_others)

  module _ (part : Part) (h : IsPart part) where
    index_is : part.index ≡ h.index_by.number
    index_is = ap (λ (p : Part). p.index) h.is_part ∙ part_index said_terms h.index_by.number h.index_by.columns []

    -- the row's key lies in the interval
    abbrev lies_inside : Row → Bool
    lies_inside row = lies_in (key_bytes (items_at ks h.read_by_it.all) (items_at row h.read_by_it.all)) (interval_of (items_at ks h.index_by.columns) part [])

    -- what is listed of the interval
    abbrev listing : List Row
    listing = in_key_order (source_of db.schema part).key (read db (source_of db.schema part).part.index (interval_of (source_of db.schema part).kinds (source_of db.schema part).part []))

    listing_is : listing ≡ filter lies_inside all_rows
    listing_is =
        let s : Source = source_of db.schema part in
        ap (λ (p : Part). in_key_order s.key (read db p.index (interval_of s.kinds p []))) (h.read_by_it.part_is part index_is)
        ∙ (ap (λ (l : List Kind). in_key_order s.key (read db part.index (interval_of l part []))) (h.read_by_it.kinds_are part index_is)
        ∙ h.read_by_it.lists_are part index_is (interval_of (items_at ks h.index_by.columns) part []))

    lies_where_on : (row : Row) → HaveColumns ks row h.index_by.columns → HaveColumns ks row h.read_by_it.more → goes_on conditions (row ∷ []) ≡ true → lies_inside row ≡ true
    lies_where_on row has more on =
        let said : AllByRecursion (IsSaid [] ks [] [] row tt) said_terms = terms_said [] ks [] [] row tt (flat_map terms conditions) on in
        let lies = inside_part [] ks [] [] row tt said_terms said h.index_by.number h.index_by.columns [] [] h.read_by_it.more tt has more refl in
        ap (λ (l : List ℕ). lies_in (key_bytes (items_at ks l) (items_at row l)) (interval_of (items_at ks h.index_by.columns) part [])) h.read_by_it.all_is
        ∙ (ap (λ (p : Part). lies_in (key_bytes (items_at ks (h.index_by.columns ++ h.read_by_it.more)) (items_at row (h.index_by.columns ++ h.read_by_it.more))) (interval_of (items_at ks h.index_by.columns) p [])) h.is_part ∙ lies)

    out_is_false : (row : Row) → HaveColumns ks row h.index_by.columns → HaveColumns ks row h.read_by_it.more → lies_inside row ≡ false → is_false (conjunction conditions (row ∷ [])) ≡ true
    out_is_false row has more out =
        elim (goes_on conditions (row ∷ [])) as (λ b. goes_on conditions (row ∷ []) ≡ b → is_false (conjunction conditions (row ∷ [])) ≡ true) [
          | true ↦ λ e. absurd (cc (sym out ∙ lies_where_on row has more e))
          | false ↦ λ e. conditions_false (row ∷ []) [] conditions e
        ] refl

    all_out : (rows : List Row) → AllByRecursion (λ row. HaveColumns ks row h.index_by.columns) rows → AllByRecursion (λ row. HaveColumns ks row h.read_by_it.more) rows
        → AllByRecursion (λ row. lies_inside row ≡ false → is_false (conjunction conditions (row ∷ [])) ≡ true) rows
    all_out [] a b = tt
    all_out (row ∷ rows) a b = (out_is_false row a.0 b.0, all_out rows a.1 b.1)

    chosen_listing : chosen (λ row. conjunction conditions (row ∷ [])) listing ≡ chosen (λ row. conjunction conditions (row ∷ [])) all_rows
    chosen_listing = ap (chosen (λ row. conjunction conditions (row ∷ []))) listing_is
        ∙ chosen_filtered (λ row. conjunction conditions (row ∷ [])) lies_inside all_rows (all_out all_rows h.read_by_it.columns_in h.read_by_it.more_in)

  -- what passes of the interval is what passes of the table
  pub passes_listed :
      let s : Source = source_of db.schema the_part in
      chosen (λ row. conjunction conditions (row ∷ [])) (in_key_order s.key (read db s.part.index (interval_of s.kinds s.part []))) ≡ chosen (λ row. conjunction conditions (row ∷ [])) (rows_of db.rows t.number)
  passes_listed = chosen_listing the_part is_part ∙ ap (λ o. chosen (λ row. conjunction conditions (row ∷ [])) (relation_rows db o)) is
