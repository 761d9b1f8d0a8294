-- Rows stay sound, and what transactions keep stays of tables and views that are there.
use Rattle.std.proofs.Common.{◌≡◌, ℕ, zero, suc, pred, List, [], ◌∷◌, ◌++◌, length, Option, Some, None, refl, sym, ap, subst, ◌∙◌, inl, inr}
use Rattle.std.specs.Prelude.{◌⊎◌, ℤ, IsSome, is_some, false, true}
use Rattle.std.specs.Option.{unwrap_or}
use Rattle.std.specs.FinMap.{get}
use Rattle.iv_types.specs.declared.lock.GroupDelta.{GroupDelta}
use Rattle.iv_types.specs.Encoding.{FitAll, key_bytes}
use Rattle.table_laws.specs.Place.{Place}
use Rattle.table_laws.specs.Table.{write}
use Rattle.iv_meaning.specs.Schema.{Schema, Object, table, view, ViewTree, numbered, group_kinds}
use Rattle.iv_meaning.specs.Database.{Row, Rows}
use Rattle.iv_meaning.specs.Sound.{IsRow}
use Rattle.txn_machine.specs.Deltas.{RowChange, columns_of, place_of}
use Rattle.txn_machine.specs.Stored.{ViewRows, AreStored, IsStoredRow, plus, add_to, zeros}
use Rattle.txn_machine.specs.ViewLaws.{AreSound}
use Rattle.txn_machine.specs.May.{FitsUnder}
use Rattle.txn_machine.proofs.Agreeing.{by_place, written_at, written_other}
use Rattle.txn_machine.proofs.Entered.{sound_after}
use Rattle.txn_machine.proofs.Making.{numbered_more, kinds_stay}
use Rattle.txn_machine.proofs.Shapes.{same_view}
use Rattle.txn_log.specs.Replay.{What, Wrote, Added, Deed, rows_with, rows_without}
use Rattle.txn_log.specs.Fitting.{IsChange, IsGroup, IsKnown, AllDeeds}
use Rattle.record_replay.proofs.Lists.{each_weaker}

-- ---- rows of tables

same_row : (x y : Row) → Some x ≡ Some y → x ≡ y
same_row x y e = cc

set_proper : (objects : Schema) (c : RowChange) (is : IsChange objects c) (to : Option Row) → FitsUnder is.of c.key.1 to → (row : Row) → to ≡ Some row → IsRow objects c.key row
set_proper objects c is to fits row e =
    let under = subst (FitsUnder is.of c.key.1) e fits in
    record { of = is.of; table_is = is.table_is; key = under.0; fits = under.1 }

pub sound_with : (objects : Schema) (rows : Rows) (c : RowChange) → AreSound objects rows → IsChange objects c → AreSound objects (rows_with (Wrote c) rows)
sound_with objects rows c sound is = sound_after objects rows c sound (λ row e. set_proper objects c is c.after is.after row e)

pub sound_without : (objects : Schema) (rows : Rows) (c : RowChange) → AreSound objects rows → IsChange objects c → AreSound objects (rows_without (Wrote c) rows)
sound_without objects rows c sound is =
    sound_after objects rows (record { key = c.key; before = c.after; after = c.before }) sound (λ row e. set_proper objects c is c.before is.before row e)

-- ---- rows of views

some_numbers : (x y : List ℤ) → Some x ≡ Some y → x ≡ y
some_numbers x y e = cc

pub stored_with : (objects : Schema) (rows : ViewRows) (place : Place) (to : Option (List ℤ)) → AreStored objects rows → (g : IsGroup objects place) → ((ns : List ℤ) → to ≡ Some ns → length ns ≡ suc (length g.of.sums))
    → AreStored objects (write rows place to)
stored_with objects rows place to are g width p ns there = by_place p place
    (λ e. record {
      of = g.of;
      view_is = ap (λ (q : Place). numbered objects q.0) e ∙ g.view_is;
      group = g.group;
      fits = g.fits;
      key = ap (λ (q : Place). q.1) e ∙ g.key;
      width = width ns (sym (written_at rows place to p e) ∙ there);
    })
    (λ n. are p ns (sym (written_other rows place to p n) ∙ there))

plus_length : (k : ℕ) (ms ns : List ℤ) → (length ms ≡ k) ⊎ (ms ≡ []) → length ns ≡ k → length (plus ms ns) ≡ k
plus_length k [] ns h e = e
plus_length k (m ∷ ms) [] (inl l) e = l
plus_length k (m ∷ ms) [] (inr n) e = absurd (cc)
plus_length k (m ∷ ms) (n ∷ ns) (inr x) e = absurd (cc)
plus_length zero (m ∷ ms) (n ∷ ns) (inl l) e = absurd (cc)
plus_length (suc k) (m ∷ ms) (n ∷ ns) (inl l) e = ap suc (plus_length k ms ns (inl (ap pred l)) (ap pred e))

-- with a delta of its width
pub stored_added : (objects : Schema) (rows : ViewRows) (d : GroupDelta) → AreStored objects rows → (g : IsGroup objects (place_of d)) → length d.sums ≡ length g.of.sums → AreStored objects (add_to rows d)
stored_added objects rows d are g sums =
    stored_with objects rows (place_of d) (Some (plus (unwrap_or (get rows (place_of d)) []) (columns_of d))) are g
    (λ ns e. ap length (sym (some_numbers (plus (unwrap_or (get rows (place_of d)) []) (columns_of d)) ns e))
    ∙ plus_length (suc (length g.of.sums)) (unwrap_or (get rows (place_of d)) []) (columns_of d) (was (get rows (place_of d)) refl) (ap suc sums))
  where
    was : (o : Option (List ℤ)) → get rows (place_of d) ≡ o → (length (unwrap_or o []) ≡ suc (length g.of.sums)) ⊎ (unwrap_or o [] ≡ [])
    was None e = inr refl
    was (Some ns) e =
        let old : IsStoredRow objects (place_of d) ns = are (place_of d) ns e in
        inl (old.width ∙ ap (λ (v : ViewTree). suc (length v.sums)) (same_view old.of g.of (sym old.view_is ∙ g.view_is)))

pub zeros_length : (n : ℕ) → length (zeros n) ≡ n
zeros_length zero = refl
zeros_length (suc n) = ap suc (zeros_length n)

pub length_negated : (zs : List ℤ) (f : ℤ → ℤ) → length (Rattle.std.specs.Prelude.map f zs) ≡ length zs
length_negated [] f = refl
length_negated (z ∷ zs) f = ap suc (length_negated zs f)

pub one_view : (objects : Schema) (place : Place) (g h : IsGroup objects place) → g.of ≡ h.of
one_view objects place g h = same_view g.of h.of (sym g.view_is ∙ h.view_is)

-- ---- with one object more

group_more : (objects : Schema) (rows : Rows) (o : Object) → AreSound objects rows → (place : Place) (g : IsGroup objects place) → (h : IsGroup (objects ++ o ∷ []) place) × (h.of ≡ g.of)
group_more objects rows o sound place g =
    let kinds : group_kinds (objects ++ o ∷ []) g.of ≡ group_kinds objects g.of = kinds_stay objects o g.of (sound.objects place.0 (view g.of) g.view_is).1 (sound.joins place.0 g.of g.view_is) in (
      record {
        of = g.of;
        view_is = numbered_more objects o place.0 (view g.of) g.view_is ∙ g.view_is;
        group = g.group;
        fits = subst (λ ks. FitAll ks g.group) (sym kinds) g.fits;
        key = g.key ∙ sym (ap (λ ks. key_bytes ks g.group) kinds);
      },
      refl,
    )

known_more : (objects : Schema) (rows : Rows) (o : Object) → AreSound objects rows → (w : What) → IsKnown objects w → IsKnown (objects ++ o ∷ []) w
known_more objects rows o sound (Wrote c) h = record {
  of = h.of;
  table_is = numbered_more objects o c.key.0 (table h.of) h.table_is ∙ h.table_is;
  key = h.key;
  before = h.before;
  after = h.after;
}
known_more objects rows o sound (Added d) h =
    let g = group_more objects rows o sound (place_of d) h.0 in
    (g.0, h.1 ∙ ap (λ (v : ViewTree). length v.sums) (sym g.1))

pub all_known : (objects : Schema) (rows : Rows) (o : Object) → AreSound objects rows → (xs : List Deed) → AllDeeds (IsKnown objects) xs → AllDeeds (IsKnown (objects ++ o ∷ [])) xs
all_known objects rows o sound xs h = each_weaker (IsKnown objects) (IsKnown (objects ++ o ∷ [])) (known_more objects rows o sound) xs h
