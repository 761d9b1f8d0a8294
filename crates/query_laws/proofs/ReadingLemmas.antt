-- A SELECT that is read by its plan replies what it means.
use Rattle.std.specs.Prelude.{◌≡◌, ℕ, ◌+◌, Bool, true, false, cond, List, [], ◌∷◌, ◌++◌, length, map, filter, Option}
use Rattle.std.specs.List.{AllByRecursion, flat_map}
use Rattle.std.specs.Option.{option_map, option_and_then}
use mathlib.Core.Path.{refl, sym, ap, subst, ◌∙◌}
use Rattle.std.proofs.Common.{arith, append_assoc, append-nil, length-append}
use Rattle.std.proofs.lemmas.List.Elements.{recursion_from_All}
use Rattle.iv_types.specs.declared.value.Kind.{Kind}
use Rattle.iv_types.specs.declared.value.Interval.{Interval}
use Rattle.iv_types.specs.declared.statement.Mode.{Mode}
use Rattle.iv_types.specs.Syntax.{Tree}
use Rattle.iv_types.specs.Encoding.{key_bytes, lies_in}
use Rattle.iv_meaning.specs.Schema.{numbered, items_at}
use Rattle.iv_meaning.specs.Database.{Row, Database}
use Rattle.iv_meaning.specs.Query.{Combination, BoundQuery, combinations, chosen, conjunction, listed, ordered}
use Rattle.iv_meaning.specs.View.{relation_rows, read}
use Rattle.iv_meaning.specs.Statement.{select_meaning}
use Rattle.iv_meaning.specs.Shape.{terms}
use Rattle.iv_meaning.specs.Sound.{IsSound}
use Rattle.iv_meaning.specs.Plan.{Equal as TermEqual, ColumnTerm, terms_for, KeyIndex, ranges_of, on_column, first_equal, Part, part_by, part_of, is_better, best, best_of, part_for, parts_from, kinds_for, interval_of, goes_on}
use Rattle.iv_meaning.specs.Reading.{Program, Source, in_key_order, extended, each_extended, replies_for, reading, source_of, replies_by, replies_of}
use Rattle.query_laws.specs.Laws.{IsRelation, ReadingLaw}
use Rattle.query_laws.proofs.Each.{each_append, each_filtered, each_map}
use Rattle.query_laws.proofs.Fitting.{AreOf, HaveColumns}
use Rattle.query_laws.proofs.TermLemmas.{RowsAreOf, rows_lengths, rows_push, IsSaid, terms_said}
use Rattle.query_laws.proofs.PartLemmas.{inside_part}
use Rattle.query_laws.proofs.Choosing.{chosen_live, alive, all_begun, Passes, AreListed, next_level}
use Rattle.query_laws.proofs.Relations.{IsReadBy, IsReadable, readable}

-- ---- the best part

pub part_index : (ts : List ColumnTerm) (number : ℕ) (places : List ℕ) (equal : List TermEqual) → (part_by ts number places equal).index ≡ number
part_index ts number [] equal = refl
part_index ts number (place ∷ places) equal = go (first_equal ts place) (λ e. part_index ts number places (equal ++ e ∷ []))
  where
    go : (es : List TermEqual) → ((e : TermEqual) → (part_by ts number places (equal ++ e ∷ [])).index ≡ number)
        → (elim es as (λ (l : List TermEqual). Part) [ [] ↦ record { index = number; equal = equal; ranges = flat_map ranges_of (on_column place ts) } | e ∷ fs ↦ part_by ts number places (equal ++ e ∷ []) ]).index ≡ number
    go [] h = refl
    go (e ∷ fs) h = h e

pub best_has : (P : Part → Type 0) (p : Part) (ps : List Part) → P p → AllByRecursion P ps → P (best p ps)
best_has P p [] h hs = h
best_has P p (q ∷ ps) h hs =
    elim (is_better q p) as (λ b. P (cond b (best q ps) (best p ps))) [
      | true ↦ best_has P q ps hs.0 hs.1
      | false ↦ best_has P p ps h hs.1
    ]

-- ---- one level

-- what is told of each of some combinations is gone on with
extended_each : (rows : ℕ → Interval → List Row) (s : Source) (more : List Combination → Program) (cs found : List Combination)
    → replies_by rows (each_extended s more cs found) ≡ replies_by rows (more (found ++ flat_map (λ c. extended c (in_key_order s.key (rows s.part.index (interval_of s.kinds s.part c)))) cs))
extended_each rows s more [] found = ap (λ l. replies_by rows (more l)) (sym (append-nil found))
extended_each rows s more (c ∷ cs) found =
    let here : List Combination = extended c (in_key_order s.key (rows s.part.index (interval_of s.kinds s.part c))) in
    extended_each rows s more cs (found ++ here)
    ∙ ap (λ l. replies_by rows (more l)) (append_assoc found here (flat_map (λ c. extended c (in_key_order s.key (rows s.part.index (interval_of s.kinds s.part c)))) cs))

replies_alive : (query : BoundQuery) (xs ys : List Combination) → alive query.conditions xs ≡ alive query.conditions ys → replies_for query xs ≡ replies_for query ys
replies_alive query xs ys e =
    ap (λ (o : Option (List Combination)). replies_of (select_meaning (option_map (ordered query.order) (option_and_then (listed query) o))))
    (chosen_live (conjunction query.conditions) xs ∙ (ap (chosen (conjunction query.conditions)) e ∙ sym (chosen_live (conjunction query.conditions) ys)))

begun_alone : (found : List Combination) → all_begun found [] ≡ found
begun_alone [] = refl
begun_alone (c ∷ found) = λ i. append-nil c i ∷ begun_alone found i

extended_are : (kinds : List (List Kind)) (ks : List Kind) (c : Combination) (rows : List Row) → RowsAreOf kinds c → AllByRecursion (AreOf ks) rows → AllByRecursion (RowsAreOf (kinds ++ ks ∷ [])) (extended c rows)
extended_are kinds ks c rows f h = each_map (AreOf ks) (RowsAreOf (kinds ++ ks ∷ [])) (λ row. c ++ row ∷ []) (λ row g. rows_push kinds c ks row f g) rows h

module _ (db : Database) (sound : IsSound db) (query : BoundQuery) (mode : Mode) where
  abbrev rows : ℕ → Interval → List Row
  rows = read db

  abbrev conditions : List Tree
  conditions = query.conditions

  abbrev kinds : List (List Kind)
  kinds = map (kinds_for db.schema) query.relations

  -- what a source lists for a combination
  abbrev listing : Source → Combination → List Row
  listing s c = in_key_order s.key (rows s.part.index (interval_of s.kinds s.part c))

  module _ (before after : List (List Kind)) (n source : ℕ) (whole : kinds ≡ before ++ kinds_for db.schema n ∷ after) (at : source ≡ length before) (all_rows : List Row)
      (readable_by : IsReadable db sound mode n all_rows) where
    abbrev ks : List Kind
    ks = kinds_for db.schema n

    abbrev said_terms : List ColumnTerm
    said_terms = terms_for kinds conditions source

    -- the part is that of an index by which the relation is read
    record IsPart (part : Part) : Type 0 where
      by : KeyIndex
      is_part : part ≡ part_of said_terms by
      read_by_it : IsReadBy db.schema rows ks all_rows by

    part_of_index : (i : KeyIndex) → IsReadBy db.schema rows ks all_rows i → IsPart (part_of said_terms i)
    part_of_index i h = record { by = i; is_part = refl; read_by_it = h }

    abbrev the_part : Part
    the_part = best (part_of said_terms readable_by.first) (map (part_of said_terms) readable_by.others)

    one_part : part_for db.schema mode kinds conditions source n ≡ the_part ∷ []
    one_part = ap (λ is. best_of (map (part_of said_terms) is)) readable_by.indexes_are

    is_part : IsPart the_part
    is_part = best_has IsPart (part_of said_terms readable_by.first) (map (part_of said_terms) readable_by.others) (part_of_index readable_by.first readable_by.by_first)
        (each_map (IsReadBy db.schema rows ks all_rows) IsPart (part_of said_terms) part_of_index readable_by.others readable_by.by_others)

    module _ (part : Part) (h : IsPart part) where
      index_is : part.index ≡ h.by.number
      index_is = ap (λ (p : Part). p.index) h.is_part ∙ part_index said_terms h.by.number h.by.columns []

      -- the row's key lies in the interval for the combination
      abbrev lies_for : Combination → Row → Bool
      lies_for c row = lies_in (key_bytes (items_at ks h.read_by_it.all) (items_at row h.read_by_it.all)) (interval_of (items_at ks h.by.columns) part c)

      listing_is : (c : Combination) → listing (source_of db.schema part) c ≡ filter (lies_for c) all_rows
      listing_is c =
          let s = source_of db.schema part in
          ap (λ (p : Part). in_key_order s.key (rows p.index (interval_of s.kinds p c))) (h.read_by_it.part_is part index_is)
          ∙ (ap (λ (l : List Kind). in_key_order s.key (rows part.index (interval_of l part c))) (h.read_by_it.kinds_are part index_is)
          ∙ h.read_by_it.lists_are part index_is (interval_of (items_at ks h.by.columns) part c))

      -- the row has the index's columns, and those behind them
      abbrev Has : Row → Type 0
      Has row = HaveColumns ks row h.by.columns × HaveColumns ks row h.read_by_it.more

      all_have : (some_rows : List Row) → AllByRecursion (λ row. HaveColumns ks row h.by.columns) some_rows → AllByRecursion (λ row. HaveColumns ks row h.read_by_it.more) some_rows → AllByRecursion Has some_rows
      all_have [] a b = tt
      all_have (row ∷ some_rows) a b = ((a.0, b.0), all_have some_rows a.1 b.1)

      lies_where_on : (c : Combination) (row : Row) (fc : RowsAreOf before c) → Has row → goes_on conditions (c ++ row ∷ []) ≡ true → lies_for c row ≡ true
      lies_where_on c row fc has on =
          let own : AllByRecursion (IsSaid before ks after c row fc) (terms_for (before ++ ks ∷ after) conditions (length c)) = terms_said before ks after c row fc (flat_map terms conditions) on in
          let same : terms_for (before ++ ks ∷ after) conditions (length c) ≡ said_terms =
          ap (λ m. terms_for (before ++ ks ∷ after) conditions m) (rows_lengths before c fc ∙ sym at) ∙ ap (λ l. terms_for l conditions source) (sym whole) in
          let said : AllByRecursion (IsSaid before ks after c row fc) said_terms = subst (AllByRecursion (IsSaid before ks after c row fc)) same own in
          let lies = inside_part before ks after c row fc said_terms said h.by.number h.by.columns [] [] h.read_by_it.more tt has.0 has.1 refl in
          ap (λ (l : List ℕ). lies_in (key_bytes (items_at ks l) (items_at row l)) (interval_of (items_at ks h.by.columns) part c)) h.read_by_it.all_is
          ∙ (ap (λ (p : Part). lies_in (key_bytes (items_at ks (h.by.columns ++ h.read_by_it.more)) (items_at row (h.by.columns ++ h.read_by_it.more))) (interval_of (items_at ks h.by.columns) p c)) h.is_part ∙ lies)

      row_passes : (c : Combination) (row : Row) (fc : RowsAreOf before c) → Has row → Passes conditions c (lies_for c) row
      row_passes c row fc has out =
          elim (goes_on conditions (c ++ row ∷ [])) as (λ b. goes_on conditions (c ++ row ∷ []) ≡ b → b ≡ false) [
            | true ↦ λ e. absurd (cc (sym out ∙ lies_where_on c row fc has e))
            | false ↦ λ e. refl
          ] refl

      passes : (c : Combination) (fc : RowsAreOf before c) (some_rows : List Row) → AllByRecursion Has some_rows → AllByRecursion (Passes conditions c (lies_for c)) some_rows
      passes c fc [] f = tt
      passes c fc (row ∷ some_rows) f = (row_passes c row fc f.0, passes c fc some_rows f.1)

      are_listed : (found : List Combination) → AllByRecursion (RowsAreOf before) found → AllByRecursion (AreListed conditions all_rows (listing (source_of db.schema part))) found
      are_listed [] f = tt
      are_listed (c ∷ found) f = ((lies_for c, listing_is c, passes c f.0 all_rows (all_have all_rows h.read_by_it.columns_in h.read_by_it.more_in)), are_listed found f.1)

      listing_are : (c : Combination) → AllByRecursion (AreOf ks) (listing (source_of db.schema part) c)
      listing_are c = subst (AllByRecursion (AreOf ks)) (sym (listing_is c)) (each_filtered (AreOf ks) (lies_for c) all_rows readable_by.rows_of)

      found_are : (found : List Combination) → AllByRecursion (RowsAreOf before) found → AllByRecursion (RowsAreOf (before ++ ks ∷ [])) (flat_map (λ c. extended c (listing (source_of db.schema part) c)) found)
      found_are [] f = tt
      found_are (c ∷ found) f =
          each_append (RowsAreOf (before ++ ks ∷ [])) (extended c (listing (source_of db.schema part) c)) (flat_map (λ c. extended c (listing (source_of db.schema part) c)) found)
          (extended_are before ks c (listing (source_of db.schema part) c) f.0 (listing_are c)) (found_are found f.1)

  -- ---- all levels

  abbrev rows_at : ℕ → List Row
  rows_at n = relation_rows db (numbered db.schema n)

  levels : (before : List (List Kind)) (source : ℕ) (ns : List ℕ) (found : List Combination)
      → kinds ≡ before ++ map (kinds_for db.schema) ns → source ≡ length before → AllByRecursion (IsRelation db.schema) ns
      → AllByRecursion (RowsAreOf before) found
      → replies_by rows (reading query (map (source_of db.schema) (parts_from db.schema mode kinds conditions source ns)) found) ≡ replies_for query (all_begun found (map rows_at ns))
  levels before source [] found whole at relations f = ap (replies_for query) (sym (begun_alone found))
  levels before source (n ∷ ns) found whole at relations f =
      let by = readable db sound mode n relations.0 in
      let after : List (List Kind) = map (kinds_for db.schema) ns in
      let ks : List Kind = kinds_for db.schema n in
      let part : Part = the_part before after n source whole at (rows_at n) by in
      let is = is_part before after n source whole at (rows_at n) by in
      let s : Source = source_of db.schema part in
      let going : List Combination = filter (goes_on conditions) found in
      let next_found : List Combination = flat_map (λ c. extended c (listing s c)) going in
      let going_are : AllByRecursion (RowsAreOf before) going = each_filtered (RowsAreOf before) (goes_on conditions) found f in
      let rest = levels (before ++ ks ∷ []) (source + 1) ns next_found
      (whole ∙ sym (append_assoc before (ks ∷ []) after)) (omega (arith, at, length-append before (ks ∷ []))) relations.1
      (found_are before after n source whole at (rows_at n) by part is going going_are) in
      ap (λ ps. replies_by rows (reading query (map (source_of db.schema) (ps ++ parts_from db.schema mode kinds conditions (source + 1) ns)) found)) (one_part before after n source whole at (rows_at n) by)
      ∙ (extended_each rows s (reading query (map (source_of db.schema) (parts_from db.schema mode kinds conditions (source + 1) ns))) going []
      ∙ (rest
      ∙ replies_alive query (all_begun next_found (map rows_at ns)) (all_begun found (rows_at n ∷ map rows_at ns))
      (next_level conditions (rows_at n) (listing s) (map rows_at ns) found (are_listed before after n source whole at (rows_at n) by part is found f))))

from_nothing : (cs : List Combination) → map (λ (rest : Combination). [] ++ rest) cs ++ [] ≡ cs
from_nothing [] = refl
from_nothing (c ∷ cs) = ap (λ (l : List Combination). c ∷ l) (from_nothing cs)

pub reading_law : ReadingLaw
reading_law db sound query relations mode =
    levels db sound query mode [] 0 query.relations ([] ∷ []) refl refl (recursion_from_All (IsRelation db.schema) query.relations relations) (tt, tt)
    ∙ ap (replies_for query) (from_nothing (combinations (map (λ n. relation_rows db (numbered db.schema n)) query.relations)))
