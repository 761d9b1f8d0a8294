-- Maps that hold the rows of tables, after a row is set.
use Rattle.std.specs.Prelude.{◌≡◌, ◌≢◌, ℕ, List, Option, Some, IfSome}
use mathlib.Core.Path.{sym, ap, subst, ◌∙◌}
use Rattle.std.specs.FinMap.{get}
use Rattle.std.specs.Cmp.Lexicographic.{nat_list_cmp_total}
use Rattle.iv_types.specs.declared.value.Value.{Value}
use Rattle.iv_types.specs.declared.catalog.TableDef.{TableDef}
use Rattle.iv_types.specs.Maps.{Map}
use Rattle.iv_meaning.specs.Database.{Rows, set_row}
use Rattle.table_laws.specs.Place.{Place}
use Rattle.table_laws.specs.Table.{write}
use Rattle.table_laws.proofs.Place.{place_cmp_total, place_cmp-IsAntisymmetric}
use Rattle.table_laws.proofs.Tables.{by_key, get-write_at, get-write_other}
use Rattle.table_store.specs.Stored.{stored, StandsUnder, HoldsTable}
use Rattle.table_store.proofs.Maps.{bytes_same}

pub some_same : {A : Type 0} (x y : A) → Some x ≡ Some y → x ≡ y
some_same x y e = cc

of_some : {A : Type 0} (P : A → Type 0) (v : Option A) (x : A) → v ≡ Some x → IfSome v P → P x
of_some P v x e h = subst (λ o. IfSome o P) e h

-- the table in which the row is set
pub set_here : (rows : Rows) (t : TableDef) (m new : Map) (key : List ℕ) (row : Option (List Value)) → HoldsTable rows t m
    → new ≡ write m key (stored t row) → IfSome row (StandsUnder t key) → HoldsTable (set_row rows t.number key row) t new
set_here rows t m new key row holds is stands = record {
  same = λ q. ap (λ (x : Map). get x q) is ∙ by_key nat_list_cmp_total bytes_same q key
      (λ e. get-write_at nat_list_cmp_total bytes_same m key (stored t row) q e
      ∙ sym (ap (stored t) (get-write_at place_cmp_total place_cmp-IsAntisymmetric rows (t.number, key) row (t.number, q) (ap (λ (k : List ℕ). (t.number, k)) e))))
      (λ d. get-write_other nat_list_cmp_total bytes_same m key (stored t row) q d
      ∙ (holds.same q ∙ sym (ap (stored t) (get-write_other place_cmp_total place_cmp-IsAntisymmetric rows (t.number, key) row (t.number, q) (λ p. d (ap (λ (x : Place). x.1) p))))));
  fitting = λ q found there. by_key nat_list_cmp_total bytes_same q key
      (λ e.
      let at : row ≡ Some found = sym (get-write_at place_cmp_total place_cmp-IsAntisymmetric rows (t.number, key) row (t.number, q) (ap (λ (k : List ℕ). (t.number, k)) e)) ∙ there in
      subst (λ (k : List ℕ). StandsUnder t k found) (sym e) (of_some (StandsUnder t key) row found at stands))
      (λ d. holds.fitting q found (sym (get-write_other place_cmp_total place_cmp-IsAntisymmetric rows (t.number, key) row (t.number, q) (λ p. d (ap (λ (x : Place). x.1) p))) ∙ there));
}

-- another table
pub set_there : (rows : Rows) (t : TableDef) (m new : Map) (table : ℕ) (key : List ℕ) (row : Option (List Value)) → HoldsTable rows t m
    → new ≡ m → t.number ≢ table → HoldsTable (set_row rows table key row) t new
set_there rows t m new table key row holds is apart = record {
  same = λ q. ap (λ (x : Map). get x q) is ∙ (holds.same q ∙ sym (ap (stored t) (other q)));
  fitting = λ q found there. holds.fitting q found (sym (other q) ∙ there);
}
  where
    other : (q : List ℕ) → get (set_row rows table key row) (t.number, q) ≡ get rows (t.number, q)
    other q = get-write_other place_cmp_total place_cmp-IsAntisymmetric rows (table, key) row (t.number, q) (λ p. apart (ap (λ (x : Place). x.0) p))
