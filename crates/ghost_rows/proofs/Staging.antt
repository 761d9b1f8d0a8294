-- One row at a place, as tests begin it and pay to it.
use Rattle.std.specs.Prelude.{◌≡◌, ◌≢◌, ℕ, ℤ, pos, Bool, true, false, cond, List, [], ◌∷◌, Option, Some, None, Result, Ok, Err, OnOk, OnErr}
use mathlib.Core.Path.{refl, sym, ap, subst, ◌∙◌}
use Rattle.std.specs.FinMap.{get, insert, empty, get-empty, get-insert}
use Rattle.std.specs.Cmp.Lexicographic.{slice_cmp, nat_list_cmp_total}
use Rattle.std.specs.Ordering.{nat_cmp, eq_by_cmp}
use Rattle.iv_types.specs.declared.lock.GroupDelta.{GroupDelta}
use Rattle.iv_types.specs.Encoding.{IsHuge}
use Rattle.iv_types.specs.Maps.{Map}
use Rattle.table_laws.specs.Place.{Place, place_cmp}
use Rattle.table_laws.proofs.Tables.{get-write_same}
use Rattle.table_store.proofs.Maps.{bytes_same}
use Rattle.escrow_bounds.proofs.KeepLemmas.{huge_zero}
use Rattle.ghost_rows.specs.Numbers.{numbers_bytes}
use Rattle.ghost_rows.specs.Reading.{IsViewRow, AreViewRows}
use Rattle.ghost_rows.specs.Rows.{OpenRow, OpenRows, no_rows, row_at}
use Rattle.ghost_rows.specs.Kept.{Pays, no_pays, with_pays, StandsFor}
use Rattle.ghost_rows.specs.State.{State, AreKept, stored_at}
use Rattle.ghost_rows.proofs.RowLemmas.{pays_other, huge_fit}

pub at_place : (state : State) (maps : ℕ → Map) (place q : Place) (w v : ℕ) (pays : Pays) → place ≡ q → w ≡ v → AreKept state maps q v pays → AreKept state maps place w pays
at_place state maps place q w v pays p e kept = subst (λ x. AreKept state maps x w pays) (sym p) (subst (λ n. AreKept state maps q n pays) (sym e) kept)

-- what a pay leaves kept
pub after_pay : {A E : Type 0} (r : Result A E) (old new : State) (before after : ℕ → Map) (place : Place) (w s : ℕ) (d : GroupDelta) (pays : Pays) → AreKept old before place w pays
    → OnOk r ((ps : Pays) → AreKept old before place w ps → AreKept new after place w (with_pays ps s (d ∷ ps s)))
    → OnErr r ((q : Place) → (row_at new.rows q ≡ row_at old.rows q) × (stored_at after q ≡ stored_at before q))
    → (left : Pays) × AreKept new after place w left × ((q : ℕ) → q ≢ s → left q ≡ pays q)
after_pay (Ok a) old new before after place w s d pays kept paid same = (with_pays pays s (d ∷ pays s), paid pays kept, λ q n. pays_other pays s (d ∷ pays s) q n)
after_pay (Err e) old new before after place w s d pays kept paid same = (
  pays,
  subst (λ o. StandsFor o (stored_at after place) w pays) (sym (same place).0) (subst (λ o. StandsFor (row_at old.rows place) o w pays) (sym (same place).1) kept),
  λ q n. refl,
)

-- before the first pay
begun : (o : Option OpenRow) (stored found : Option (List ℕ)) → o ≡ None → stored ≡ found → StandsFor None found 2 no_pays → StandsFor o stored 2 no_pays
begun o stored found none is stands = subst (λ p. StandsFor p stored 2 no_pays) (sym none) (subst (λ x. StandsFor None x 2 no_pays) (sym is) stands)

pub begun_without : (state : State) (maps : ℕ → Map) (place : Place) → state.rows ≡ no_rows → maps place.0 ≡ empty → AreKept state maps place 2 no_pays
begun_without state maps place none is =
    begun (row_at state.rows place) (stored_at maps place) None (ap (λ (rows : OpenRows). row_at rows place) none ∙ get-empty place_cmp place) (ap (λ (m : Map). get m place.1) is ∙ get-empty (slice_cmp nat_cmp) place.1)
    (record {
      numbers = pos 0 ∷ pos 0 ∷ [];
      has = record { many = refl; huge = (huge_zero, (huge_zero, tt)); bytes = tt; zeros = λ e. (refl, (refl, tt)) };
      row = tt;
      closed = λ e s. refl;
      absent = λ e s. refl;
    })

pub begun_with : (state : State) (maps : ℕ → Map) (place : Place) (count sum : ℤ) → IsHuge count → IsHuge sum → state.rows ≡ no_rows → maps place.0 ≡ insert empty place.1 (numbers_bytes (count ∷ sum ∷ []))
    → (pays : Pays) × AreKept state maps place 2 pays
begun_with state maps place count sum c s none is = (
  no_pays,
  begun (row_at state.rows place) (stored_at maps place) (Some (numbers_bytes (count ∷ sum ∷ []))) (ap (λ (rows : OpenRows). row_at rows place) none ∙ get-empty place_cmp place)
      (ap (λ (m : Map). get m place.1) is ∙ get-write_same nat_list_cmp_total bytes_same empty place.1 (Some (numbers_bytes (count ∷ sum ∷ []))))
      (record {
        numbers = count ∷ sum ∷ [];
        has = record { many = refl; huge = (c, (s, tt)); bytes = refl; zeros = λ e. absurd (let no : Some (numbers_bytes (count ∷ sum ∷ [])) ≡ None = e in cc) };
        row = tt;
        closed = λ e s. refl;
        absent = λ e s. refl;
      }),
)

-- a view with one row
pub one_row : (m : Map) (key : List ℕ) (count sum : ℤ) → IsHuge count → IsHuge sum → m ≡ insert empty key (numbers_bytes (count ∷ sum ∷ [])) → AreViewRows m
one_row m key count sum c s is q found e =
    by_test (eq_by_cmp (slice_cmp nat_cmp) q key) (get empty q) (get-empty (slice_cmp nat_cmp) q)
    (sym (ap (λ (n : Map). get n q) is ∙ get-insert nat_list_cmp_total empty key value q) ∙ e)
  where
    value : List ℕ
    value = numbers_bytes (count ∷ sum ∷ [])

    by_test : (b : Bool) (o : Option (List ℕ)) → o ≡ None → cond b (Some value) o ≡ Some found → IsViewRow found
    by_test true o none same = record { count = count; sums = sum ∷ []; fits = huge_fit (count ∷ sum ∷ []) (c, (s, tt)); bytes = let it : found ≡ value = cc in it }
    by_test false o none same = absurd (let no : Some found ≡ None = sym same ∙ none in cc)

-- its numbers as the caller named them
pub same_row : (m : Map) (key : List ℕ) (count' sum' count sum : ℤ) → count' ≡ count → sum' ≡ sum → m ≡ insert empty key (numbers_bytes (count' ∷ sum' ∷ [])) → m ≡ insert empty key (numbers_bytes (count ∷ sum ∷ []))
same_row m key count' sum' count sum a b is = is ∙ ap (λ ns. insert empty key (numbers_bytes ns)) (λ i. a i ∷ b i ∷ [])
