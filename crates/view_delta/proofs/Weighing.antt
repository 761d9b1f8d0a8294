-- The delta law: what a group has in a column is what the combinations of the view are due.
use Rattle.std.specs.Prelude.{◌≡◌, ℕ, List, [], ◌∷◌, map, ◌+ℤ◌, Option, Some, IfSome}
use mathlib.Core.Path.{sym, ap, subst, ◌∙◌}
use Rattle.std.specs.List.{AllByRecursion}
use Rattle.std.specs.FinMap.{get, entries}
use Rattle.iv_types.specs.Encoding.{FitAll}
use Rattle.table_laws.specs.Place.{Place}
use Rattle.table_laws.proofs.Place.{place_cmp_total, place_cmp-IsAntisymmetric}
use Rattle.table_laws.proofs.Tables.{by_key, get-write_at, get-write_other}
use Rattle.iv_meaning.specs.Schema.{Schema, ViewTree, numbered, kinds_of_table, group_kinds, sources_of}
use Rattle.iv_meaning.specs.Database.{Row, Rows, Database, rows_of}
use Rattle.iv_meaning.specs.Sound.{IsSound, IsRow}
use Rattle.iv_meaning.specs.Query.{Combination, combinations, values_at}
use Rattle.iv_meaning.specs.View.{counted_combinations}
use Rattle.query_laws.proofs.Each.{each_filtered}
use Rattle.query_laws.proofs.TermLemmas.{FitRows}
use Rattle.query_laws.proofs.GroupRows.{combinations_fit}
use Rattle.txn_machine.specs.Deltas.{RowChange, rows_after, is_counted, owed_to, due}
use Rattle.txn_machine.specs.Fresh.{all_contributions}
use Rattle.txn_machine.proofs.Looking.{all_entries}
use Rattle.txn_machine.proofs.Sharing.{rows_fit, due_members}
use Rattle.txn_machine.proofs.Summing.{sum_view}
use Rattle.view_delta.specs.Law.{share_in, place_of_group, IsChangeOf, DeltaLaw}
use Rattle.view_delta.specs.Parts.{FitEach}
use Rattle.view_delta.proofs.Combined.{group_fits}

-- each row stands as it should
abbrev AreRows : Schema → Rows → Type 0
AreRows objects rows = (place : Place) (row : Row) → get rows place ≡ Some row → IsRow objects place row

fit_each : (objects : Schema) (ns : List ℕ) (c : Combination) → FitRows (map (λ n. kinds_of_table (numbered objects n)) ns) c → FitEach objects ns c
fit_each objects [] [] f = tt
fit_each objects [] (row ∷ c) f = absurd f
fit_each objects (n ∷ ns) [] f = absurd f
fit_each objects (n ∷ ns) (row ∷ c) f = (f.0, fit_each objects ns c f.1)

module _ (objects : Schema) (rows : Rows) (stand : AreRows objects rows) where
  table_fits : (n : ℕ) → AllByRecursion (FitAll (kinds_of_table (numbered objects n))) (rows_of rows n)
  table_fits n = rows_fit (kinds_of_table (numbered objects n)) n (entries rows)
      (all_entries (λ (e : Place × Row). e.0.0 ≡ n → FitAll (kinds_of_table (numbered objects n)) e.1) rows (λ k r e g.
      let row : IsRow objects k r = stand k r e in
      subst (λ ks. FitAll ks r) (sym (ap kinds_of_table (sym (ap (numbered objects) g) ∙ row.table_is))) row.fits))

  each_table : (ns : List ℕ) → AllByRecursion (λ n. AllByRecursion (FitAll (kinds_of_table (numbered objects n))) (rows_of rows n)) ns
  each_table [] = tt
  each_table (n ∷ ns) = (table_fits n, each_table ns)

  groups_fit : (v : ViewTree) → AllByRecursion (λ c. FitAll (group_kinds objects v) (values_at v.group c)) (counted_combinations objects rows v)
  groups_fit v =
      each_filtered (λ c. FitAll (group_kinds objects v) (values_at v.group c)) (is_counted objects v) (combinations (map (rows_of rows) (sources_of v)))
      (each (combinations (map (rows_of rows) (sources_of v))) (combinations_fit (λ n. kinds_of_table (numbered objects n)) (rows_of rows) (sources_of v) (each_table (sources_of v))))
    where
      each : (cs : List Combination) → AllByRecursion (FitRows (map (λ n. kinds_of_table (numbered objects n)) (sources_of v))) cs → AllByRecursion (λ c. FitAll (group_kinds objects v) (values_at v.group c)) cs
      each [] h = tt
      each (c ∷ cs) h = (group_fits objects v c (fit_each objects (sources_of v) c h.0), each cs h.1)

  share_due : (v : ViewTree) (g : Row) (column : ℕ) → FitAll (group_kinds objects v) g → due (place_of_group objects v g) column (all_contributions objects rows v) ≡ share_in objects rows v g column
  share_due v g column f = due_members objects v g f column (counted_combinations objects rows v) (groups_fit v)

stand_after : (db : Database) (c : RowChange) → IsSound db → IsChangeOf db c → AreRows db.schema (rows_after c db.rows)
stand_after db c sound change place row e =
    by_key place_cmp_total place_cmp-IsAntisymmetric place c.key
    (λ same. subst (λ q. IsRow db.schema q row) (sym same) (subst (λ (o : Option Row). IfSome o (λ r. IsRow db.schema c.key r)) (sym (get-write_at place_cmp_total place_cmp-IsAntisymmetric db.rows c.key c.after place same) ∙ e) change.after))
    (λ other. sound.rows place row (sym (get-write_other place_cmp_total place_cmp-IsAntisymmetric db.rows c.key c.after place other) ∙ e))

pub delta_law_holds : DeltaLaw
delta_law_holds db v c g column sound change fits =
    sym (share_due db.schema (rows_after c db.rows) (stand_after db c sound change) v g column fits)
    ∙ (sum_view db.schema v (place_of_group db.schema v g) column db.rows c
    ∙ ap (λ n. n +ℤ due (place_of_group db.schema v g) column (owed_to db.schema db.rows c v)) (share_due db.schema db.rows sound.rows v g column fits))
