-- The entries that go back in where kept changes are taken back.
use Rattle.std.specs.Prelude.{◌≡◌, ◌≢◌, ℕ, zero, suc, ◌≤◌, ◌==◌, cond, List, [], ◌∷◌, length, Option, None, Some, refl}
use mathlib.Core.Path.{sym, ap, subst, ◌∙◌}
use Rattle.std.proofs.Common.{arith, eq-eqb}
use Rattle.std.proofs.lemmas.Bool.{ne_eqb}
use Rattle.std.proofs.lemmas.List.Sums.{sum_by-cons}
use Rattle.iv_types.specs.Definitions.{Definitions, AreNumbered, numbered as defined_at}
use Rattle.iv_types.specs.declared.catalog.Definition.{Definition}
use Rattle.iv_types.specs.declared.catalog.Definition.TheVariants.{Table, Index, View}
use Rattle.iv_types.specs.declared.catalog.IndexDef.{IndexDef}
use Rattle.iv_types.specs.declared.catalog.TableDef.{TableDef}
use Rattle.iv_types.specs.declared.lock.Kept.{Kept}
use Rattle.iv_types.specs.declared.lock.KeptStep.{KeptStep as BookStep}
use Rattle.iv_types.specs.declared.lock.KeptStep.TheVariants as step
use Rattle.iv_meaning.specs.Objects.{schema_of}
use Rattle.iv_meaning.specs.Schema as schema
use Rattle.table_store.specs.Stored.{table_of, index_of, as_table, as_index, IsTableAnd}
use Rattle.table_store.specs.Changes.{IsKept, how_many}
use Rattle.table_store.proofs.Changing.{places_for}
use Rattle.table_store.proofs.Fresh.{in_schema}
use Rattle.txn_book.specs.Opens.{open_at}
use Rattle.txn_book.specs.Txns.{txn_of, changes_in}
use Rattle.txn_book.specs.declared.open_table.Open.{Open}
use Rattle.data_room.proofs.Entries.{index_in_schema}
use Rattle.core_state.specs.Rooms.{CanBeTakenBack, gone_of, gone_if, all_gone}

is_table : (o : Option Definition) (t : TableDef) → as_table o ≡ Some t → o ≡ Some (Table t)
is_table None t e = absurd cc
is_table (Some (Table u)) t e = let same : u ≡ t = cc in ap (λ x. Some (Table x)) same
is_table (Some (Index i)) t e = absurd cc
is_table (Some (View v)) t e = absurd cc

module _ (ds : Definitions) (are : AreNumbered ds) where
  -- a table has its number
  pub its_number : (n : ℕ) (t : TableDef) → table_of ds n ≡ Some t → table_of ds t.number ≡ Some t
  its_number n t e = subst (λ k. table_of ds k ≡ Some t) (sym (are n (Table t) (is_table (defined_at ds n) t e))) e

  -- of each index at most one entry
  pub one_gone : (k : Kept) → IsTableAnd ds k.change.table (IsKept ds k.change k) → (n : ℕ) → how_many n k.gone ≤ 1
  one_gone k is n =
      subst (λ es. how_many n es ≤ 1) (sym is.2.removed)
      (places_for ds is.0 are (its_number k.change.table is.0 is.1) k.change.key k.change.before k.change.after (λ m. 1) (omega arith) (λ i of. omega arith) n)

  -- none of a view's number
  pub view_gone : (v : schema.ViewTree) (n : ℕ) → schema.numbered (schema_of ds) n ≡ Some (schema.view v) → (k : Kept) → IsTableAnd ds k.change.table (IsKept ds k.change k) → how_many n k.gone ≡ 0
  view_gone v n is_view k is =
      let few : how_many n k.gone ≤ cond (n == n) 0 1 =
      subst (λ es. how_many n es ≤ cond (n == n) 0 1) (sym is.2.removed)
      (places_for ds is.0 are (its_number k.change.table is.0 is.1) k.change.key k.change.before k.change.after (λ m. cond (m == n) 0 1)
      (other is.0.number (λ e. no_table is.0 (subst (λ m. table_of ds m ≡ Some is.0) e (its_number k.change.table is.0 is.1))))
      (λ i of. other i.number (λ e. no_index i (subst (λ m. index_of ds m ≡ Some i) e of.is))) n) in
      let zero_is : cond {A = ℕ} (n == n) 0 1 ≡ zero = ap (λ b. cond {A = ℕ} b 0 1) (eq-eqb n n refl) in
      omega (arith, few, zero_is)
    where
      other : (m : ℕ) → m ≢ n → 1 ≤ cond (m == n) 0 1
      other m differ = subst (λ b. 1 ≤ cond b 0 1) (sym (ne_eqb m n differ)) (omega arith)

      no_table : (t : TableDef) → table_of ds n ≡ Some t → ⊥
      no_table t e = let bad : Some (schema.table t) ≡ Some (schema.view v) = sym (in_schema ds n t e) ∙ is_view in absurd cc

      no_index : (i : IndexDef) → index_of ds n ≡ Some i → ⊥
      no_index i e = let bad : Some (schema.index i) ≡ Some (schema.view v) = sym (index_in_schema ds n i e) ∙ is_view in absurd cc

  -- of kept steps
  pub steps_gone : (n : ℕ) (ks : List BookStep) → CanBeTakenBack ds ks → gone_of n ks ≤ length (changes_in ks)
  steps_gone n [] h = omega arith
  steps_gone n (step.Put k a b m ∷ ks) h = omega (arith, one_gone k h.0 n, steps_gone n ks h.2)
  steps_gone n (step.Pay d before m ∷ ks) h = steps_gone n ks h.1

  pub view_steps_gone : (v : schema.ViewTree) (n : ℕ) → schema.numbered (schema_of ds) n ≡ Some (schema.view v) → (ks : List BookStep) → CanBeTakenBack ds ks → gone_of n ks ≡ 0
  view_steps_gone v n is_view [] h = refl
  view_steps_gone v n is_view (step.Put k a b m ∷ ks) h = omega (arith, view_gone v n is_view k h.0, view_steps_gone v n is_view ks h.2)
  view_steps_gone v n is_view (step.Pay d before m ∷ ks) h = view_steps_gone v n is_view ks h.1

  -- of all open transactions
  pub view_all_gone : (v : schema.ViewTree) (n : ℕ) → schema.numbered (schema_of ds) n ≡ Some (schema.view v) → (opens : List (Option Open))
      → ((j : ℕ) (o : Open) → open_at opens j ≡ Some o → CanBeTakenBack ds (txn_of o).kept) → all_gone n opens ≡ 0
  view_all_gone v n is_view [] each = refl
  view_all_gone v n is_view (None ∷ opens) each =
      let rest : all_gone n opens ≡ 0 = view_all_gone v n is_view opens (λ j o e. each (suc j) o e) in omega (arith, rest, sum_by-cons (gone_if n) None opens)
  view_all_gone v n is_view (Some o ∷ opens) each =
      let rest : all_gone n opens ≡ 0 = view_all_gone v n is_view opens (λ j p e. each (suc j) p e) in
      let here : gone_of n (txn_of o).kept ≡ 0 = view_steps_gone v n is_view (txn_of o).kept (each 0 o refl) in
      omega (arith, rest, here, sum_by-cons (gone_if n) (Some o) opens)
