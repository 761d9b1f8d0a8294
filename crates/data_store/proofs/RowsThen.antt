-- The rows of tables at a commit number, by what is stored, what is pending and what is left of the versions.
use Rattle.std.specs.Prelude.{◌≡◌, ◌≤◌, ℕ, zero, suc, nat_le, cond, List, [], ◌∷◌, filter, Option, Some}
use Rattle.std.specs.Option.{option_map_or}
use mathlib.Core.Path.{refl, sym, ap, subst, ◌∙◌}
use mathlib.Core.Logic.{inl, inr}
use Rattle.std.proofs.Common.{arith}
use Rattle.std.proofs.lemmas.Bool.Decides.{leb_tells}
use Rattle.std.specs.FinMap.{get}
use Rattle.std.specs.Ordering.{eq_by_cmp}
use Rattle.iv_types.specs.declared.catalog.TableDef.{TableDef}
use Rattle.iv_types.specs.Definitions.{Definitions}
use Rattle.iv_types.specs.Maps.{Map}
use Rattle.table_laws.specs.Place.{Place, place_cmp}
use Rattle.table_laws.specs.Kept.{Touches}
use Rattle.table_laws.proofs.Place.{place_cmp_total, place_cmp-IsAntisymmetric}
use Rattle.table_laws.proofs.Tables.{same_key}
use Rattle.iv_meaning.specs.Schema.{Schema, Object, table, numbered}
use Rattle.iv_meaning.specs.Database.{Row, Database}
use Rattle.iv_meaning.specs.Statement.{Kept, sets, defines, keep, keep_all}
use Rattle.iv_meaning.specs.History.{Entry, fold, state_at}
use Rattle.iv_meaning.specs.Sound.{IsRow}
use Rattle.table_store.specs.Stored.{stored, table_of, StandsUnder}
use Rattle.table_store.proofs.Fresh.{in_schema}
use Rattle.txn_machine.specs.Deltas.{RowChange}
use Rattle.txn_machine.specs.Store.{committed, schema_of, changes_by}
use Rattle.txn_machine.specs.State.{State}
use Rattle.txn_machine.specs.Laws.{IsReached}
use Rattle.txn_machine.proofs.Entered.{IsHistoryOf}
use Rattle.txn_machine.proofs.Making.{numbered_more}
use Rattle.txn_machine.proofs.Marks.{rest_above, none_kept}
use Rattle.txn_machine.proofs.Peeking.{snapshot_readable_law}
use Rattle.txn_machine.proofs.Reached.{reached}
use Rattle.ghost_rows.specs.State as views
use Rattle.version_chain.specs.Chains.{row_at}
use Rattle.data_store.specs.Contents.{contents_of}
use Rattle.data_store.specs.Held.{IsHeld}
use Rattle.data_store.specs.Past.{Pendings, RowVersions, committed_value, WereRows}
use Rattle.data_store.specs.ViewPast.{DeltaVersions}
use Rattle.data_store.specs.Machine.{bytes_by, bytes_of, changes_on, kept_up_to, kept_on, pending_of, IsPast}
use Rattle.data_store.specs.declared.store.Pending.{Pending}
use Rattle.data_store.proofs.Left.{bytes_then}

-- ---- a row of which no change is kept

pub none_touch : (p : Place) (cs : List RowChange) → changes_on p cs ≡ 0 → Touches p cs → ⊥
none_touch p [] e t = t
none_touch p (c ∷ cs) e (inl is) =
    let one : ◌≡◌ {A = ℕ} (cond (eq_by_cmp place_cmp p c.key) 1 0) 1 = ap (λ b. cond b 1 0) (same_key place_cmp_total place_cmp-IsAntisymmetric p c.key is) in
    absurd (omega (arith, e, one))
none_touch p (c ∷ cs) e (inr t) = none_touch p cs (omega (arith, e)) t

none_kept_by : (changes : ℕ → List RowChange) (p : Place) (n : ℕ) → kept_up_to changes p n ≡ 0 → (j : ℕ) → 1 ≤ j → j ≤ n → changes_on p (changes j) ≡ 0
none_kept_by changes p zero e j low high = absurd (omega (arith, low, high))
none_kept_by changes p (suc n) e j low high = elim (leb_tells j n) [
  | inl t ↦ none_kept_by changes p n (omega (arith, e)) j low t.1
  | inr f ↦
      let last : j ≡ suc n = (let above = f.1 in omega (arith, high, above)) in
      ap (λ (k : ℕ). changes_on p (changes k)) last ∙ omega (arith, e)
]

pub untouched_row : (s : State) → IsReached s → (p : Place) → kept_on s.store p ≡ 0 → get s.store.rows p ≡ get (committed s.store).rows p
untouched_row s r p e = (reached s r).stored.others p (λ j is t. none_touch p (changes_by s.store j) (none_kept_by (changes_by s.store) p 64 e j is.0 is.1) t)

-- ---- objects stay

kept_objects : (ks : List Kept) (db : Database) (n : ℕ) (x : Object) → numbered db.schema n ≡ Some x → numbered (keep_all ks db).schema n ≡ Some x
kept_objects [] db n x e = e
kept_objects (sets c ∷ ks) db n x e = kept_objects ks (keep (sets c) db) n x e
kept_objects (defines o ∷ ks) db n x e = kept_objects ks (keep (defines o) db) n x (numbered_more db.schema o n x e ∙ e)

pub objects_stay : (es : List Entry) (db : Database) (n : ℕ) (x : Object) → numbered db.schema n ≡ Some x → numbered (fold es db).schema n ≡ Some x
objects_stay [] db n x e = e
objects_stay (y ∷ es) db n x e = objects_stay es (fold (y ∷ []) db) n x (kept_objects y.kept db n x e)

pub objects_later : (m : ℕ) (es : List Entry) (db : Database) → IsHistoryOf db es → (n : ℕ) (x : Object) → numbered (state_at db es m).schema n ≡ Some x → numbered (fold es db).schema n ≡ Some x
objects_later m [] db h n x e = e
objects_later m (y ∷ es) db h n x e = elim (leb_tells y.number m) [
  | inl t ↦
      objects_later m es (fold (y ∷ []) db) h.2 n x
      (subst (λ b. numbered (fold (cond b (y ∷ filter (λ (z : Entry). nat_le z.number m) es) (filter (λ (z : Entry). nat_le z.number m) es)) db).schema n ≡ Some x) t.0 e)
  | inr f ↦
      objects_stay (y ∷ es) db n x
      (subst (λ (l : List Entry). numbered (fold l db).schema n ≡ Some x) (none_kept m (y ∷ es) (f.0, rest_above m es (fold (y ∷ []) db) f.1 h.2)) e)
]

-- ---- a table of a store

module _ (ds : Definitions) (maps : ℕ → Map) (state : views.State) (s : State) (r : IsReached s) (held : IsHeld ds maps state (contents_of s.store))
    (rows : RowVersions) (deltas : DeltaVersions) (pending : Pendings) (past : IsPast rows deltas pending s.store) (t : TableDef) (is : table_of ds t.number ≡ Some t) where
  pub table_is : numbered (schema_of s.store) t.number ≡ Some (table t)
  table_is = ap (λ (o : Schema). numbered o t.number) (sym held.objects) ∙ in_schema ds t.number t is

  pub as_stored : (key : List ℕ) (row : Option Row) → bytes_of (schema_of s.store) (t.number, key) row ≡ stored t row
  as_stored key row = ap (λ o. bytes_by o row) table_is

  -- what is committed under a key
  pub committed_is : (key : List ℕ) → committed_value pending maps (t.number, key) ≡ bytes_of (schema_of s.store) (t.number, key) (get (committed s.store).rows (t.number, key))
  committed_is key = by (kept_on s.store (t.number, key)) refl
    where
      by : (n : ℕ) → kept_on s.store (t.number, key) ≡ n → committed_value pending maps (t.number, key) ≡ bytes_of (schema_of s.store) (t.number, key) (get (committed s.store).rows (t.number, key))
      by zero none =
          ap (λ (o : Option Pending). option_map_or (λ p. p.committed) o (get (maps t.number) key)) (past.pending (t.number, key) ∙ ap (λ n. pending_of n (bytes_of (schema_of s.store) (t.number, key) (get (committed s.store).rows (t.number, key)))) none)
          ∙ ((held.tables t is).primary.same key ∙ (ap (stored t) (untouched_row s r (t.number, key) none) ∙ sym (as_stored key (get (committed s.store).rows (t.number, key)))))
      by (suc n) some =
          ap (λ (o : Option Pending). option_map_or (λ p. p.committed) o (get (maps t.number) key)) (past.pending (t.number, key) ∙ ap (λ n. pending_of n (bytes_of (schema_of s.store) (t.number, key) (get (committed s.store).rows (t.number, key)))) some)

  fits_then : (n : ℕ) → s.store.origin.number ≤ n → n ≤ (committed s.store).number → (key : List ℕ) (row : Row) → get (state_at s.store.origin s.store.history n).rows (t.number, key) ≡ Some row → StandsUnder t key row
  fits_then n low high key row there =
      let found : IsRow (state_at s.store.origin s.store.history n).schema (t.number, key) row = ((snapshot_readable_law s r).0 n low high).sound.rows (t.number, key) row there in
      let later : numbered (committed s.store).schema t.number ≡ Some (table found.of) = objects_later n s.store.history s.store.origin (reached s r).history t.number (table found.of) found.table_is in
      let both : Some (table found.of) ≡ Some (table t) = sym later ∙ table_is in
      let same : found.of ≡ t = cc in
      subst (λ (u : TableDef). StandsUnder u key row) same (found.fits, found.key)

  -- the rows of the table at a number that is not below the mark
  pub were_rows : (n : ℕ) → s.store.mark ≤ n → s.store.origin.number ≤ n → n ≤ (committed s.store).number → WereRows n rows pending maps (state_at s.store.origin s.store.history n).rows t
  were_rows n marked low high = record {
    same = λ key.
        ap (λ (o : Option (List ℕ)). row_at n (t.number, key) o rows) (committed_is key)
        ∙ (bytes_then (schema_of s.store) rows s.store.mark s.store.history s.store.origin (reached s r).history past.rows n marked (t.number, key)
        ∙ as_stored key (get (state_at s.store.origin s.store.history n).rows (t.number, key)));
    fitting = fits_then n low high;
  }
