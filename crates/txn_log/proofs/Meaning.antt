-- To replay and reverse gives what an image means.
use Rattle.std.specs.Prelude.{◌≡◌, ℕ, pos, ◌+ℤ◌, ◌-ℤ◌, cond, List, [], ◌∷◌, ◌++◌, Option, Some, None, IsSome}
use Rattle.std.specs.FinMap.{get}
use Rattle.std.specs.Ordering.{eq_by_cmp}
use mathlib.Core.Path.{refl, sym, ap, subst, ◌∙◌}
use Rattle.std.proofs.Common.{arith}
use Rattle.std.proofs.lemmas.Int.{ints}
use Rattle.table_laws.specs.Place.{Place, place_cmp}
use Rattle.table_laws.specs.Table.{write}
use Rattle.table_laws.proofs.Tables.{same_key, other_key}
use Rattle.table_laws.proofs.Place.{place_cmp_total, place_cmp-IsAntisymmetric}
use Rattle.iv_meaning.specs.Schema.{Schema}
use Rattle.iv_meaning.specs.Database.{Row, Rows}
use Rattle.txn_machine.specs.Stored.{ViewRows, stored_number, zeros}
use Rattle.txn_machine.specs.Fresh.{made_of}
use Rattle.txn_machine.proofs.Agreeing.{by_place, written_at, written_other}
use Rattle.txn_machine.proofs.Columns.{stored_add, stored_add_all, number_in_row, get_or-zeros}
use Rattle.txn_log.specs.Replay.{carried_rows, What, Wrote, Added, Deed, Event, Kept, Ghost, Clean, Undo, Commit, Abort, Defined, Pages, Reading, spares, survives, keep_where, deeds, losers_kept, find, Stored, undo_found, apply, replay, on_pages, replayed, recovered, rows_with, view_with, rows_without, all_rows_back, amount_of, amounts, own}
use Rattle.txn_log.specs.Fitting.{UndoFits, RecordFits, AllFit, IsFit}
use Rattle.txn_log.specs.Meaning.{row_after, row_carried}
use Rattle.txn_log.specs.Meaning.{amount_found, added, named, made, view_number, row_before, row_without, row_left, row_back, base_row, greatest, definitions}
use Rattle.txn_log.proofs.Finding.{by_number, keep_all, keep_both, keep_true, find_same}
use Rattle.txn_log.proofs.Owning.{own_this, own_other, find_latest}
use Rattle.txn_log.proofs.Reversing.{not_nothing}
use Rattle.txn_log.proofs.Backing.{number_without}
use Rattle.txn_log.proofs.Tying.{number_all_back}

-- ---- rows

row_write : (rows : Rows) (k : Place) (v : Option Row) (q : Place) → get (write rows k v) q ≡ cond (eq_by_cmp place_cmp q k) v (get rows q)
row_write rows k v q = by_place q k
    (λ e. written_at rows k v q e ∙ ap (λ b. cond b v (get rows q)) (sym (same_key place_cmp_total place_cmp-IsAntisymmetric q k e)))
    (λ n. written_other rows k v q n ∙ ap (λ b. cond b v (get rows q)) (sym (other_key place_cmp_total place_cmp-IsAntisymmetric q k n)))

row_with : (w : What) (rows : Rows) (q : Place) → get (rows_with w rows) q ≡ row_after q w (get rows q)
row_with (Wrote c) rows q = row_write rows c.key c.after q
row_with (Added d) rows q = refl

row_taken : (w : What) (rows : Rows) (q : Place) → get (rows_without w rows) q ≡ row_before q w (get rows q)
row_taken (Wrote c) rows q = row_write rows c.key c.before q
row_taken (Added d) rows q = refl

row_all_back : (xs : List Deed) (rows : Rows) (q : Place) → get (all_rows_back xs rows) q ≡ row_back q xs (get rows q)
row_all_back [] rows q = refl
row_all_back (x ∷ xs) rows q = row_all_back xs (rows_without x.what rows) q ∙ ap (row_back q xs) (row_taken x.what rows q)

pub row_all_carried : (xs : List Deed) (rows : Rows) (q : Place) → get (carried_rows xs rows) q ≡ row_carried q (get rows q) xs
row_all_carried [] rows q = refl
row_all_carried (x ∷ xs) rows q = row_with x.what (carried_rows xs rows) q ∙ ap (row_after q x.what) (row_all_carried xs rows q)

-- ---- numbers

number_with : (w : What) (view : ViewRows) (p : Place) (column : ℕ) → stored_number (view_with w view) p column ≡ stored_number view p column +ℤ amount_of p column w
number_with (Wrote c) view p column = omega (arith, ints)
number_with (Added d) view p column = stored_add view d p column

-- a row of zeros made where none is
number_ghost : (view : ViewRows) (g : Place) (columns : ℕ) → get view g ≡ None → (p : Place) (column : ℕ)
    → stored_number (write view g (Some (zeros columns))) p column ≡ stored_number view p column
number_ghost view g columns none p column = by_place p g
    (λ e. ap (number_in_row column) (written_at view g (Some (zeros columns)) p e)
    ∙ (get_or-zeros columns column ∙ sym (ap (λ q. stored_number view q column) e ∙ ap (number_in_row column) none)))
    (λ n. ap (number_in_row column) (written_other view g (Some (zeros columns)) p n))

-- and one removed
number_clean : (view : ViewRows) (g : Place) → ((column : ℕ) → stored_number view g column ≡ pos 0) → (p : Place) (column : ℕ)
    → stored_number (write view g None) p column ≡ stored_number view p column
number_clean view g zero_is p column = by_place p g
    (λ e. ap (number_in_row column) (written_at view g None p e) ∙ sym (ap (λ q. stored_number view q column) e ∙ zero_is column))
    (λ n. ap (number_in_row column) (written_other view g None p n))

undo_view : (s : Stored) (o : Option Deed) (p : Place) (column : ℕ) → stored_number (undo_found s o).view p column ≡ stored_number s.view p column -ℤ amount_found p column o
undo_view s None p column = omega (arith, ints)
undo_view s (Some x) p column = number_without x.what s.view p column

undo_rows : (s : Stored) (o : Option Deed) (q : Place) → get (undo_found s o).db.rows q ≡ row_without q o (get s.db.rows q)
undo_rows s None q = refl
undo_rows s (Some x) q = row_taken x.what s.db.rows q

undo_number : (s : Stored) (o : Option Deed) → (undo_found s o).db.number ≡ s.db.number
undo_number s None = refl
undo_number s (Some x) = refl

undo_schema : (s : Stored) (o : Option Deed) → (undo_found s o).db.schema ≡ s.db.schema
undo_schema s None = refl
undo_schema s (Some x) = refl

-- the latest record of a transaction is of it
latest_txn : (t : ℕ) (xs : List Deed) (x : Deed) (ks : List Deed) → own t xs ≡ x ∷ ks → x.transaction ≡ t
latest_txn t [] x ks e = absurd (not_nothing x ks (sym e))
latest_txn t (y ∷ ys) x ks e = by_number y.transaction t
    (λ i. let same : y ∷ own t ys ≡ x ∷ ks = sym (own_this t y ys i) ∙ e in sym (ap (λ zs. first_txn zs) same) ∙ i)
    (λ n. latest_txn t ys x ks (sym (own_other t y ys n) ∙ e))
  where
    first_txn : List Deed → ℕ
    first_txn [] = t
    first_txn (z ∷ zs) = z.transaction

found : (s : Stored) (t m : ℕ) → UndoFits s t m → IsSome (find t m s.live)
found s t m u =
    subst (λ n. IsSome (find t n s.live)) u.number
    (subst IsSome (sym (find_latest t u.latest u.earlier s.live (latest_txn t s.live u.latest u.earlier u.is_latest) u.is_latest)) refl)

-- ---- what stands in memory after some records, by the records

pub record IsMeant (p : Pages) (carried : List Deed) (rs : List Event) (s : Stored) : Type 0 where
  pub live : s.live ≡ keep_where (survives rs) (deeds carried rs)
  pub view : (g : Place) (column : ℕ) → stored_number s.view g column +ℤ named g column carried rs
      ≡ (stored_number p.view g column +ℤ made g column (on_pages p carried) rs) +ℤ added g column rs
  pub rows : (q : Place) → get s.db.rows q ≡ row_left q (row_carried q (get p.db.rows q) carried) carried rs
  pub number : s.db.number ≡ greatest p.db.number rs
  pub schema : s.db.schema ≡ definitions p.db.schema rs

module _ (p : Pages) (carried : List Deed) (rs : List Event) (is : IsMeant p carried rs (replay (on_pages p carried) rs)) where
  abbrev s : Stored
  s = replay (on_pages p carried) rs

  one_more : (r : Event) → RecordFits s rs r → IsMeant p carried (r ∷ rs) (apply r s)
  one_more (Kept x) fits = record {
    live = ap (λ (xs : List Deed). x ∷ xs) is.live ∙ sym (keep_true (survives rs) x (deeds carried rs) fits.0);
    view = λ g column.
        let was = is.view g column in
        let one = number_with x.what s.view g column in
        omega (arith, ints, was, one);
    rows = λ q. row_with x.what s.db.rows q ∙ ap (row_after q x.what) (is.rows q);
    number = is.number;
    schema = is.schema;
  }
  one_more (Ghost n h columns) fits = record {
    live = is.live;
    view = λ g column.
        let was = is.view g column in
        let one = number_ghost s.view h columns fits.1 g column in
        omega (arith, ints, was, one);
    rows = is.rows;
    number = is.number;
    schema = is.schema;
  }
  one_more (Clean n h) fits = record {
    live = is.live;
    view = λ g column.
        let was = is.view g column in
        let one = number_clean s.view h fits.2 g column in
        omega (arith, ints, was, one);
    rows = is.rows;
    number = is.number;
    schema = is.schema;
  }
  one_more (Undo n t m) fits =
      let same : find t m s.live ≡ find t m (deeds carried rs) =
      ap (find t m) is.live ∙ find_same (survives rs) t m (deeds carried rs) (subst (λ xs. IsSome (find t m xs)) is.live (found s t m fits)) in
      record {
        live = ap (keep_where (spares (Undo n t m))) is.live ∙ sym (keep_both (spares (Undo n t m)) (survives rs) (deeds carried rs));
        view = λ g column.
            let was = is.view g column in
            let one = undo_view s (find t m s.live) g column in
            let amount : amount_found g column (find t m s.live) ≡ amount_found g column (find t m (deeds carried rs)) = ap (amount_found g column) same in
            omega (arith, ints, was, one, amount);
        rows = λ q. undo_rows s (find t m s.live) q
            ∙ (ap (λ o. row_without q o (get s.db.rows q)) same ∙ ap (row_without q (find t m (deeds carried rs))) (is.rows q));
        number = undo_number s (find t m s.live) ∙ is.number;
        schema = undo_schema s (find t m s.live) ∙ is.schema;
      }
  one_more (Commit n t k) fits = record {
    live = ap (keep_where (spares (Commit n t k))) is.live ∙ sym (keep_both (spares (Commit n t k)) (survives rs) (deeds carried rs));
    view = is.view;
    rows = is.rows;
    number = refl;
    schema = is.schema;
  }
  one_more (Abort n t) fits = record {
    live = ap (keep_where (spares (Abort n t))) is.live ∙ sym (keep_both (spares (Abort n t)) (survives rs) (deeds carried rs));
    view = is.view;
    rows = is.rows;
    number = is.number;
    schema = is.schema;
  }
  one_more (Defined n k o) fits = record {
    live = is.live;
    view = λ g column.
        let was = is.view g column in
        let one = stored_add_all s.view (made_of (s.db.schema ++ o ∷ []) s.db.rows o) g column in
        omega (arith, ints, was, one);
    rows = is.rows;
    number = refl;
    schema = ap (λ (objects : Schema). objects ++ o ∷ []) is.schema;
  }

pub meant : (p : Pages) (carried : List Deed) (rs : List Event) → AllFit (on_pages p carried) rs → IsMeant p carried rs (replay (on_pages p carried) rs)
meant p carried [] fits = record {
  live = sym (keep_all carried);
  view = λ g column. omega (arith, ints);
  rows = λ q. row_all_carried carried p.db.rows q;
  number = refl;
  schema = refl;
}
meant p carried (r ∷ rs) fits = one_more p carried rs (meant p carried rs fits.2) r fits.0

pub meaning : (i : Reading) → IsFit i
    → ((q : Place) → get (recovered i).db.rows q ≡ base_row i q)
    × ((g : Place) (column : ℕ) → stored_number (recovered i).view g column ≡ view_number i g column)
    × ((recovered i).db.number ≡ greatest i.pages.db.number i.after)
    × ((recovered i).db.schema ≡ definitions i.pages.db.schema i.after)
meaning i fits =
    let s : Stored = replayed i in
    let is : IsMeant i.pages i.carried i.after s = meant i.pages i.carried i.after fits.records in (
      λ q. row_all_back s.live s.db.rows q ∙ (ap (λ xs. row_back q xs (get s.db.rows q)) is.live ∙ (ap (row_back q (losers_kept i)) (is.rows q)
          )),
      λ g column.
          let was = is.view g column in
          let back = number_all_back s.live s.view g column in
          let lost : amounts g column s.live ≡ amounts g column (losers_kept i) = ap (amounts g column) is.live in
          omega (arith, ints, was, back, lost),
      is.number,
      is.schema,
    )
