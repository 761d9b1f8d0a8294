-- Entries of index 0 come beside what a store has.
use Rattle.std.specs.Prelude.{◌≡◌, ◌≢◌, ℕ, suc, List, length, None, Some}
use mathlib.Core.Path.{sym, ap, subst, ◌∙◌}
use Rattle.std.specs.FinMap.{get}
use Rattle.iv_types.specs.Definitions.{Definitions}
use Rattle.iv_types.specs.Maps.{Map}
use Rattle.iv_types.specs.declared.catalog.IndexDef.{IndexDef}
use Rattle.iv_types.specs.declared.catalog.TableDef.{TableDef}
use Rattle.iv_meaning.specs.Schema.{view, ViewTree, numbered}
use Rattle.table_store.specs.Stored.{table_of, index_of, HoldsTable, HoldsIndex, HoldsAll}
use Rattle.ghost_rows.specs.Ghosts.{IsGhostRow, IsCandidate}
use Rattle.ghost_rows.specs.Kept.{StandsFor}
use Rattle.ghost_rows.specs.Rows.{row_at}
use Rattle.ghost_rows.specs.State.{State, stored_at}
use Rattle.data_store.specs.Contents.{Contents, pays_on, with_texts}
use Rattle.data_store.specs.Held.{IsHeld}

module _ (ds : Definitions) (maps new : ℕ → Map) (state : State) (c : Contents) (same : (i : ℕ) → i ≢ 0 → new i ≡ maps i) (h : IsHeld ds maps state c) where
  a_table : (t : TableDef) → table_of ds t.number ≡ Some t → new t.number ≡ maps t.number
  a_table t is = same t.number (λ zero_is. let bad : None ≡ Some t = sym (ap (table_of ds) zero_is) ∙ is in absurd (cc))

  an_index : (i : IndexDef) → index_of ds i.number ≡ Some i → new i.number ≡ maps i.number
  an_index i is = same i.number (λ zero_is. let bad : None ≡ Some i = sym (ap (index_of ds) zero_is) ∙ is in absurd (cc))

  a_view : (n : ℕ) (v : ViewTree) → numbered c.objects n ≡ Some (view v) → (group : List ℕ) → stored_at new (n, group) ≡ stored_at maps (n, group)
  a_view n v is group = ap (λ (m : Map). get m group) (same n (λ zero_is. let bad : None ≡ Some (view v) = sym (ap (numbered c.objects) zero_is) ∙ is in absurd (cc)))

  pub beside_held : IsHeld ds new state (with_texts None c)
  beside_held = record {
    objects = h.objects;
    tables = λ t of.
        let held : HoldsAll ds c.rows maps t = h.tables t of in
        record {
          primary = subst (HoldsTable c.rows t) (sym (a_table t of)) held.primary;
          others = λ i of_table. subst (HoldsIndex c.rows t i) (sym (an_index i of_table.is)) (held.others i of_table);
        };
    views = λ n v is group. a_view n v is group ∙ h.views n v is group;
    in_range = h.in_range;
    pays = λ n v is group. subst (λ o. StandsFor (row_at state.rows (n, group)) o (suc (length v.sums)) (λ s. pays_on (n, group) (c.kept s))) (sym (a_view n v is group)) (h.pays n v is group);
    ghosts = λ n v is group. subst (λ o. IsGhostRow (row_at state.rows (n, group)) o → IsCandidate state (n, group)) (sym (a_view n v is group)) (h.ghosts n v is group);
    texts = tt;
    unused = λ i other none. same i other ∙ h.unused i other none;
  }
