-- The rows of a view whose query is not refused, and its stored rows beside them.
use Rattle.std.specs.Prelude.{◌≡◌, ℕ, suc, true, false, cond, T, ◌&&◌, List, [], ◌∷◌, map, length, get_or, ℤ, pos, Option, Some, None, is_some}
use Rattle.std.specs.List.{AllByRecursion}
use Rattle.std.specs.Option.{option_map, option_map_or}
use mathlib.Core.Path.{refl, sym, ap, subst, ◌∙◌}
use Rattle.std.proofs.Common.{arith}
use Rattle.std.proofs.lemmas.Int.{ints}
use Rattle.std.specs.FinMap.{find, is_sorted, get, empty, get-empty}
use Rattle.std.specs.FinMap.Entries.{below_all}
use Rattle.std.specs.Ordering.{eq_by_cmp, is_lt}
use Rattle.iv_types.specs.Maps.{Map}
use Rattle.iv_types.specs.Definitions.{Definitions}
use Rattle.iv_types.specs.Encoding.{IsHuge}
use Rattle.iv_types.specs.declared.lock.ViewRow.{ViewRow}
use Rattle.table_laws.specs.Place.{place_cmp}
use Rattle.table_store.proofs.Maps.{by_bytes}
use Rattle.iv_meaning.specs.Schema.{Schema, view, ViewTree, numbered}
use Rattle.iv_meaning.specs.Database.{Row, Database}
use Rattle.iv_meaning.specs.View.{whole_view, view_rows, view_key}
use Rattle.query_laws.proofs.Rising.{keyed}
use Rattle.query_laws.proofs.WholeViews.{whole_rows}
use Rattle.row_eval.specs.Fresh.{view_row}
use Rattle.txn_machine.specs.Stored.{AreStored, IsStoredRow, stored_number, add_all}
use Rattle.txn_machine.specs.Fresh.{fresh, all_contributions}
use Rattle.txn_machine.specs.ViewLaws.{AreSound}
use Rattle.txn_machine.proofs.Columns.{stored_add_all}
use Rattle.txn_machine.proofs.Ranging.{view_in_range}
use Rattle.txn_machine.proofs.Sharing.{fresh_of}
use Rattle.ghost_rows.specs.Numbers.{Fits128}
use Rattle.ghost_rows.specs.State.{State}
use Rattle.data_store.specs.Contents.{Contents}
use Rattle.data_defining.proofs.NewRows.{value_of, filled_found, all_sorted, filled_as_stored, has_count, numbers_are, widths_are}
use Rattle.image_views.specs.Rows.{ByGroup, column_of, IsBytesOf, entry_of, listed, AreBeside}
use Rattle.image_views.specs.Compared.{CanEvaluate, IsFreshRow, IsInRange, AreFreshRows}

-- ---- numbers that fit

each_fits : (ns : List ℤ) → AllByRecursion IsHuge ns → Fits128 ns
each_fits [] h = tt
each_fits (n ∷ ns) h = (h.0.0, each_fits ns h.1)

all_fit : (ns : List ℤ) → ((i : ℕ) → IsHuge (get_or ns i (pos 0))) → Fits128 ns
all_fit [] h = tt
all_fit (n ∷ ns) h = ((h 0).0, all_fit ns (λ i. h (suc i)))

-- ---- rows as they are kept, in the order of their keys

module _ (objects : Schema) (v : ViewTree) where
  abbrev key : Row → List ℕ
  key = view_key objects v

  abbrev kept : List Row → List ViewRow
  kept rows = map (view_row objects v) rows

  same_below : (k : List ℕ) (rows : List Row) → below_all by_bytes k (map entry_of (kept rows)) ≡ below_all by_bytes k (keyed key rows)
  same_below k [] = refl
  same_below k (row ∷ rows) = ap (λ b. is_lt (by_bytes k (key row)) && b) (same_below k rows)

  same_sorted : (rows : List Row) → is_sorted by_bytes (map entry_of (kept rows)) ≡ is_sorted by_bytes (keyed key rows)
  same_sorted [] = refl
  same_sorted (row ∷ rows) = λ i. same_below (key row) rows i && same_sorted rows i

  listed_found : (n : ℕ) (rows : List Row) (g : List ℕ) → listed (kept rows) g ≡ option_map (value_of objects v n) (find by_bytes g (keyed key rows))
  listed_found n [] g = refl
  listed_found n (row ∷ rows) g = elim (eq_by_cmp by_bytes g (key row)) as (λ b. cond b (Some (entry_of (view_row objects v row)).1) (listed (kept rows) g) ≡ option_map (value_of objects v n) (cond b (Some row) (find by_bytes g (keyed key rows)))) [
    | true ↦ refl
    | false ↦ listed_found n rows g
  ]

-- ---- the rows of a view

none_stored : (objects : Schema) → AreStored objects empty
none_stored objects p ns e = let bad : None ≡ Some ns = sym (get-empty place_cmp p) ∙ e in absurd (cc)

module _ (c : Contents) (sound : AreSound c.objects c.rows) (v : ViewTree) (of : numbered c.objects v.number ≡ Some (view v)) where
  abbrev db : Database
  db = record { number = 0; schema = c.objects; rows = c.rows }

  abbrev all : List Row
  all = view_rows c.objects c.rows v

  nothing : (q : List ℕ) → get (empty {X = List ℤ} {R = place_cmp}) (v.number, q) ≡ None
  nothing q = get-empty place_cmp (v.number, q)

  abbrev rows_by : ByGroup
  rows_by g = get (add_all empty (all_contributions c.objects c.rows v)) (v.number, g)

  number_at : (g : List ℕ) (column : ℕ) → column_of (rows_by g) column ≡ fresh c.objects c.rows (v.number, g) column
  number_at g column =
      let sum = stored_add_all empty (all_contributions c.objects c.rows v) (v.number, g) column in
      let zero_is : stored_number empty (v.number, g) column ≡ pos 0 = ap (λ (o : Option (List ℤ)). option_map_or (λ ns. get_or ns column (pos 0)) o (pos 0)) (nothing g) in
      let is = fresh_of c.objects c.rows sound v.number v of g column in
      omega (arith, ints)

  row_at : (g : List ℕ) → IsFreshRow c.objects c.rows (v.number, g) (rows_by g)
  row_at g = record {
    columns = number_at g;
    counted = λ ns is zero_is. has_count db sound v.number v of empty (none_stored c.objects) nothing g ns is zero_is;
    long = λ w there ns is.
        let same : w ≡ v = cc (sym there ∙ of) in
        widths_are db sound v.number v of empty (none_stored c.objects) nothing g ns is ∙ ap (λ (x : ViewTree). suc (length x.sums)) (sym same);
  }

  bytes_at : IsInRange c v.number → (g : List ℕ) → IsBytesOf (suc (length v.sums)) (listed (map (view_row c.objects v) all) g) (rows_by g)
  bytes_at in_range g = record {
    bytes_are = listed_found c.objects v v.number all g ∙ (sym (filled_found c.objects v v.number all g) ∙ filled_as_stored db sound v.number v of empty (none_stored c.objects) nothing g);
    fits = λ ns is. all_fit ns (λ i. subst IsHuge (sym (numbers_are db sound v.number v of empty (none_stored c.objects) nothing g ns is i)) (in_range g i));
    long = widths_are db sound v.number v of empty (none_stored c.objects) nothing g;
  }

  pub are_fresh : (rows : List ViewRow) (found : List Row) → whole_view c.objects c.rows v ≡ Some found → rows ≡ map (view_row c.objects v) found → AreFreshRows c v rows
  are_fresh rows found whole is =
      let same : rows ≡ map (view_row c.objects v) all = is ∙ ap (map (view_row c.objects v)) (whole_rows c.objects c.rows v found whole) in
      let in_range : IsInRange c v.number = view_in_range c.objects c.rows sound v.number v of c.objects refl (ap is_some whole) in
      subst (AreFreshRows c v) (sym same) (record {
        in_range = in_range;
        in_order = subst T (sym (same_sorted c.objects v all)) (all_sorted db sound v.number v of);
        by_group = rows_by;
        bytes_are = bytes_at in_range;
        rows_are = row_at;
      })

-- ---- its stored rows

module _ (ds : Definitions) (maps : ℕ → Map) (state : State) (v : ViewTree) (c : Contents) (can : CanEvaluate ds maps state v c) where
  abbrev pub stored_by : ByGroup
  stored_by g = get c.view (v.number, g)

  stored_long : (g : List ℕ) (ns : List ℤ) → stored_by g ≡ Some ns → length ns ≡ suc (length v.sums)
  stored_long g ns is =
      let r : IsStoredRow c.objects (v.number, g) ns = can.comparable.readable.stored (v.number, g) ns is in
      let same : r.of ≡ v = cc (sym r.view_is ∙ can.is_there) in
      r.width ∙ ap (λ (w : ViewTree). suc (length w.sums)) same

  pub beside : (rows : List ViewRow) → (f : AreFreshRows c v rows) → AreBeside (suc (length v.sums)) (maps v.number) rows stored_by f.by_group
  beside rows f = record {
    stored_are = λ g. record {
      bytes_are = can.comparable.readable.held.views v.number v can.is_there g;
      fits = λ ns is. each_fits ns (can.comparable.readable.held.in_range v.number v can.is_there g ns is);
      long = stored_long g;
    };
    in_order = f.in_order;
    fresh_are = f.bytes_are;
    counted = λ g. (f.rows_are g).counted;
  }
