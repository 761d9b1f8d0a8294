-- Rows that fit the tables of a view, as they are handed on.
use Rattle.std.specs.Prelude.{◌≡◌, ◌≢◌, ℕ, ◌==◌, true, false, cond, List, [], ◌∷◌, Option, Some, None, IfSome}
use Rattle.std.specs.List.{AllByRecursion}
use Rattle.std.specs.Option.{option_map_or}
use mathlib.Core.Path.{sym, ap, subst, ◌∙◌}
use Rattle.std.proofs.Common.{eq-eqb}
use Rattle.std.proofs.lemmas.Bool.{ne_eqb}
use Rattle.std.specs.Ordering.{is_gt}
use Rattle.std.specs.declared.cmp.Ordering.{Ordering}
use Rattle.iv_types.specs.declared.catalog.Second.{Second}
use Rattle.iv_types.specs.Encoding.{FitAll}
use Rattle.iv_meaning.specs.Schema.{Schema, ViewTree, numbered, kinds_of_table}
use Rattle.iv_meaning.specs.Database.{Row}
use Rattle.iv_meaning.specs.Query.{put_by, sorted_by}
use Rattle.view_delta.specs.Parts.{FitEach, FitTables, FitOther, other_table}

-- ---- rows in another order

put_each : (P : Row → Type 0) (cmp : Row → Row → Ordering) (row : Row) (rows : List Row) → P row → AllByRecursion P rows → AllByRecursion P (put_by cmp row rows)
put_each P cmp row [] p h = (p, tt)
put_each P cmp row (r ∷ rows) p h =
    let rest = put_each P cmp row rows p h.1 in
    elim (is_gt (cmp row r)) as (λ b. AllByRecursion P (cond b (r ∷ put_by cmp row rows) (row ∷ r ∷ rows))) [ true ↦ (h.0, rest) | false ↦ (p, h) ]

sorted_each : (P : Row → Type 0) (cmp : Row → Row → Ordering) (rows : List Row) → AllByRecursion P rows → AllByRecursion P (sorted_by cmp rows)
sorted_each P cmp [] h = tt
sorted_each P cmp (row ∷ rows) h = put_each P cmp row (sorted_by cmp rows) h.0 (sorted_each P cmp rows h.1)

-- and back
unput : (P : Row → Type 0) (cmp : Row → Row → Ordering) (row : Row) (rows : List Row) → AllByRecursion P (put_by cmp row rows) → P row × AllByRecursion P rows
unput P cmp row [] h = (h.0, tt)
unput P cmp row (r ∷ rows) h =
    let rest = unput P cmp row rows in
    elim (is_gt (cmp row r)) as (λ b. AllByRecursion P (cond b (r ∷ put_by cmp row rows) (row ∷ r ∷ rows)) → P row × (P r × AllByRecursion P rows)) [
      | true ↦ λ k. let more = rest k.1 in (more.0, (k.0, more.1))
      | false ↦ λ k. k
    ] h

pub unsorted_each : (P : Row → Type 0) (cmp : Row → Row → Ordering) (rows : List Row) → AllByRecursion P (sorted_by cmp rows) → AllByRecursion P rows
unsorted_each P cmp [] h = tt
unsorted_each P cmp (row ∷ rows) h = let one = unput P cmp row (sorted_by cmp rows) h in (one.0, unsorted_each P cmp rows one.1)

pub sorted_fit : (P : Row → Row → Type 0) (cmp : Row → Row → Ordering) (o : Option Row) (rows sorted : List Row) → sorted ≡ sorted_by cmp rows → IfSome o (λ other. AllByRecursion (P other) rows) → IfSome o (λ other. AllByRecursion (P other) sorted)
sorted_fit P cmp None rows sorted e h = tt
sorted_fit P cmp (Some other) rows sorted e h = subst (AllByRecursion (P other)) (sym e) (sorted_each (P other) cmp rows h)

-- ---- rows of both tables

module _ (objects : Schema) (v : ViewTree) (second : Second) (is_second : v.second ≡ Some second) where
  pair_fits : (row other : Row) → FitAll (kinds_of_table (numbered objects v.first)) row → FitAll (kinds_of_table (numbered objects second.table)) other → FitTables objects v (row ∷ other ∷ [])
  pair_fits row other f g =
      subst (λ (o : Option Second). FitEach objects (v.first ∷ elim o [ None ↦ [] | Some s ↦ s.table ∷ [] ]) (row ∷ other ∷ [])) (sym is_second) (f, (g, tt))

  pub other_is : (table : ℕ) → other_table v table ≡ cond (table == v.first) second.table v.first
  other_is table = ap (λ (o : Option Second). option_map_or (λ s. cond (table == v.first) s.table v.first) o v.first) is_second

  all_pairs : (P Q : Row → Type 0) → ((r : Row) → P r → Q r) → (rows : List Row) → AllByRecursion P rows → AllByRecursion Q rows
  all_pairs P Q f [] h = tt
  all_pairs P Q f (r ∷ rows) h = (f r h.0, all_pairs P Q f rows h.1)

  -- a row of the second table with rows of the first
  pub fit_first : (table : ℕ) (o : Option Row) (joined : List Row) → table ≢ v.first → table ≡ second.table → IfSome o (λ other. FitAll (kinds_of_table (numbered objects table)) other) → FitOther objects v table joined
      → IfSome o (λ other. AllByRecursion (λ row. FitTables objects v (row ∷ other ∷ [])) joined)
  fit_first table None joined n e h f = tt
  fit_first table (Some other) joined n e h f =
      all_pairs (FitAll (kinds_of_table (numbered objects v.first))) (λ row. FitTables objects v (row ∷ other ∷ []))
      (λ row g. pair_fits row other g (subst (λ m. FitAll (kinds_of_table (numbered objects m)) other) e h)) joined
      (subst (λ m. AllByRecursion (FitAll (kinds_of_table (numbered objects m))) joined) (other_is table ∙ ap (λ b. cond b second.table v.first) (ne_eqb table v.first n)) f)

  -- a row of the first table with rows of the second
  pub fit_second : (table : ℕ) (o : Option Row) (joined : List Row) → table ≡ v.first → IfSome o (λ row. FitAll (kinds_of_table (numbered objects table)) row) → FitOther objects v table joined
      → IfSome o (λ row. AllByRecursion (λ other. FitTables objects v (row ∷ other ∷ [])) joined)
  fit_second table None joined e h f = tt
  fit_second table (Some row) joined e h f =
      all_pairs (FitAll (kinds_of_table (numbered objects second.table))) (λ other. FitTables objects v (row ∷ other ∷ []))
      (λ other g. pair_fits row other (subst (λ m. FitAll (kinds_of_table (numbered objects m)) row) e h) g) joined
      (subst (λ m. AllByRecursion (FitAll (kinds_of_table (numbered objects m))) joined) (other_is table ∙ ap (λ b. cond b second.table v.first) (eq-eqb table v.first e)) f)
