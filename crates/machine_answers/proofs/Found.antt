-- The rows of an interval are found: those of a view are listed, since each stored row is one of a view of the schema.
use Rattle.std.specs.Prelude.{◌≡◌, ◌==◌, ◌&&◌, ℕ, suc, ℤ, List, [], ◌∷◌, ◌++◌, map, length, Option, Some, None}
use Rattle.std.specs.List.{AllZip, Contains}
use Rattle.std.specs.FinMap.{entries}
use mathlib.Core.Path.{refl, sym, ap, subst, ◌∙◌}
use Rattle.std.proofs.Common.{eqb-true}
use Rattle.iv_types.specs.declared.value.Interval.{Interval}
use Rattle.iv_types.specs.declared.value.Value.TheVariants.{Number}
use Rattle.iv_types.specs.Encoding.{FitAll, key_bytes, lies_in}
use Rattle.table_laws.specs.Place.{Place}
use Rattle.table_laws.specs.Table.{rows_where}
use Rattle.table_laws.proofs.Place.{place_cmp_total, place_cmp-IsAntisymmetric}
use Rattle.table_laws.proofs.Tables.{Contains-rows_where}
use Rattle.iv_meaning.specs.Schema.{Schema, Object, table, index, view, ViewTree, numbered, group_kinds}
use Rattle.iv_meaning.specs.Database.{Row}
use Rattle.iv_meaning.specs.View.{read}
use Rattle.txn_machine.specs.Stored.{IsStoredRow, IsShown, is_shown, first_numbers}
use Rattle.txn_machine.specs.Store.{schema_of}
use Rattle.txn_machine.specs.State.{State}
use Rattle.txn_machine.specs.Steps.{stored, FindsIn, Finds}
use Rattle.txn_machine.specs.Laws.{IsReached}
use Rattle.txn_machine.proofs.Holding.{contains_here, contains_next}
use Rattle.txn_machine.proofs.Reached.{reached}
use Rattle.txn_machine.proofs.Reading.{both_true}
use Rattle.txn_machine.proofs.Shapes.{stored_row_law}

-- where each of a list has one that fits it, so has the list
zip_all : {X Y : Type 0} (P : X → Y → Type 0) (xs : List X) → ((x : X) → Contains xs x → (y : Y) × P x y) → (ys : List Y) × AllZip P xs ys
zip_all P [] h = ([], tt)
zip_all P (x ∷ xs) h =
    let first = h x (contains_here x xs) in
    let rest = zip_all P xs (λ y c. h y (contains_next x xs y c)) in
    (first.0 ∷ rest.0, (first.1, rest.1))

same_view : (v w : ViewTree) → Some (view v) ≡ Some (view w) → v ≡ w
same_view v w e = cc

module _ (s : State) (r : IsReached s) (number : ℕ) (interval : Interval) where
  abbrev objects : Schema
  objects = schema_of s.store

  shown : (v : ViewTree) → numbered objects number ≡ Some (view v) → (place : Place) (numbers : List ℤ)
      → Contains (rows_where (is_shown v.number interval) (entries s.store.view)) (place, numbers) → (row : Row) × IsShown objects v (place, numbers) row
  shown v of place numbers c =
      let found = (Contains-rows_where place_cmp_total place_cmp-IsAntisymmetric (is_shown v.number interval) s.store.view place numbers).0 c in
      let row : IsStoredRow objects place numbers = stored_row_law s r place numbers found.0 in
      let here : place.0 ≡ v.number = eqb-true place.0 v.number (both_true (place.0 == v.number) (lies_in place.1 interval) (both_true ((place.0 == v.number) && lies_in place.1 interval) _ found.1).0).0 in
      let number_is : v.number ≡ number = ((reached s r).sound.objects number (view v) of).0 in
      let same : row.of ≡ v = same_view row.of v (sym row.view_is ∙ (ap (numbered objects) (here ∙ number_is) ∙ of)) in (
        row.group ++ map Number (first_numbers (suc (length v.sums)) numbers),
        record {
          group = row.group;
          fits = subst (λ w. FitAll (group_kinds objects w) row.group) same row.fits;
          key = sym (subst (λ w. place.1 ≡ key_bytes (group_kinds objects w) row.group) same row.key);
          row_is = refl;
        },
      )

  finds_in : (o : Option Object) → numbered objects number ≡ o → (rows : List Row) × FindsIn (stored s.store) s.store.view o number interval rows
  finds_in None e = (read (stored s.store) number interval, refl)
  finds_in (Some (table t)) e = (read (stored s.store) number interval, refl)
  finds_in (Some (index i)) e = (read (stored s.store) number interval, refl)
  finds_in (Some (view v)) e = zip_all (IsShown objects v) (rows_where (is_shown v.number interval) (entries s.store.view)) (λ x c. shown v e x.0 x.1 c)

  pub finds : (rows : List Row) × Finds s.store number interval rows
  finds = finds_in (numbered objects number) refl
