-- Maps that hold the rows of tables, as tests begin them and read them.
use Rattle.std.specs.Prelude.{◌≡◌, ℕ, List, Option, Some, None}
use mathlib.Core.Path.{refl, sym, ap, subst, ◌∙◌}
use Rattle.std.specs.FinMap.{get, empty, get-empty}
use Rattle.std.specs.Cmp.Lexicographic.{slice_cmp}
use Rattle.std.specs.Ordering.{nat_cmp}
use Rattle.iv_types.specs.declared.value.Value.{Value}
use Rattle.iv_types.specs.declared.catalog.TableDef.{TableDef}
use Rattle.iv_types.specs.Definitions.{Definitions}
use Rattle.iv_types.specs.Encoding.{kinds_of, row_bytes}
use Rattle.iv_types.specs.Maps.{Map}
use Rattle.iv_meaning.specs.Database.{Rows}
use Rattle.table_laws.specs.Place.{Place, place_cmp}
use Rattle.table_store.specs.Stored.{stored, table_of, StandsUnder, HoldsTable, Holds, AreRows}
use Rattle.table_store.proofs.Rows.{some_same}

-- maps without entries hold no rows
pub hold_none : (ds : Definitions) (maps : ℕ → Map) → ((i : ℕ) → maps i ≡ empty) → Holds ds empty maps
hold_none ds maps none t is = record {
  primary = record {
    same = λ key. ap (λ (m : Map). get m key) (none t.number) ∙ (get-empty (slice_cmp nat_cmp) key ∙ sym (ap (stored t) (get-empty place_cmp (t.number, key))));
    fitting = λ key row there. absurd (no_row (t.number, key) row there);
  };
  others = λ i index. record {
    each = λ key row there. absurd (no_row (t.number, key) row there);
    only = λ at value there. absurd (let no : Some value ≡ None = sym there ∙ (ap (λ (m : Map). get m at) (none i.number) ∙ get-empty (slice_cmp nat_cmp) at) in cc);
  };
}
  where
    no_row : (place : Place) (row : List Value) → get {R = place_cmp} empty place ≡ Some row → ⊥
    no_row place row there = let no : Some row ≡ None = sym there ∙ get-empty place_cmp place in cc

-- maps with the same entries hold the same rows
pub hold_same : (ds : Definitions) (rows : Rows) (old new : ℕ → Map) → ((i : ℕ) → new i ≡ old i) → Holds ds rows old → Holds ds rows new
hold_same ds rows old new same holds = let P : (ℕ → Map) → Type 0 = λ maps. Holds ds rows maps in subst P (λ i n. sym (same n) i) holds

is_row : (t : TableDef) (key value : List ℕ) (row : Option (List Value)) → ((r : List Value) → row ≡ Some r → StandsUnder t key r)
    → stored t row ≡ Some value → (r : List Value) × StandsUnder t key r × (value ≡ row_bytes (kinds_of t) r)
is_row t key value None fits e = absurd (let no : Some value ≡ None = sym e in cc)
is_row t key value (Some row) fits e = (row, fits row refl, some_same _ _ (sym e))

-- the entries of a table are rows of it
pub hold_rows : (ds : Definitions) (rows : Rows) (maps : ℕ → Map) (number : ℕ) (t : TableDef) → table_of ds number ≡ Some t → t.number ≡ number
    → Holds ds rows maps → AreRows t (maps number)
hold_rows ds rows maps number t is same holds key value there =
    let held : HoldsTable rows t (maps number) = subst (λ n. HoldsTable rows t (maps n)) same (holds t (ap (table_of ds) same ∙ is)).primary in
    is_row t key value (get rows (t.number, key)) (held.fitting key) (sym (held.same key) ∙ there)
