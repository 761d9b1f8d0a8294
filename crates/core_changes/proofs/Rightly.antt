-- The change that a Put makes is one of the row that is there, of sound rows before and after it.
use Rattle.std.specs.Prelude.{◌≡◌, ℕ, List, Option, Some}
use Rattle.std.specs.FinMap.{get}
use mathlib.Core.Path.{sym, ap, subst, ◌∙◌}
use Rattle.iv_types.specs.Maps.{Map}
use Rattle.iv_types.specs.declared.lock.Change.{Change}
use Rattle.iv_types.specs.declared.lock.Want.{Want}
use Rattle.iv_meaning.specs.Database.{Row}
use Rattle.txn_machine.specs.Acts as act
use Rattle.txn_machine.specs.Deltas.{RowChange}
use Rattle.txn_machine.specs.Fresh.{fresh}
use Rattle.txn_machine.specs.Ghosts.{the_views}
use Rattle.txn_machine.specs.May.{MayAct, MayPut, FitsUnder}
use Rattle.txn_machine.specs.RowChanges.{row_change}
use Rattle.txn_machine.specs.State.{State}
use Rattle.txn_machine.specs.Steps.{IsFree, asked, put_wants}
use Rattle.txn_machine.specs.Store.{schema_of, committed, change_at}
use Rattle.txn_machine.specs.ViewLaws.{AreSound, IsRight}
use Rattle.txn_machine.proofs.Entered.{IsProper, sound_after}
use Rattle.txn_machine.proofs.Good.{stored_sound}
use Rattle.txn_machine.proofs.Looking.{view_laws}
use Rattle.txn_machine.proofs.Reached.{reached}
use Rattle.iv_meaning.specs.Schema.{numbered}
use Rattle.data_store.specs.Contents.{contents_of}
use Rattle.data_store.specs.Reading.{CanChange}
use Rattle.core_state.specs.Stands.{Began}
use Rattle.core_state.specs.declared.state.CoreState.{CoreState}
use Rattle.core_changes.specs.Putting.{IsFreePut}

module _ {M : Type 0} (maps : M → ℕ → Map) (spare : M → ℕ → ℕ) (limit : M → Option ℕ) (core : CoreState M) (s : State) (i : ℕ) (h : Began maps spare limit core s i) where
  pub stored_right : AreSound (schema_of s.store) s.store.rows
  stored_right = stored_sound the_views fresh view_laws (committed s.store) s.store (reached s h.reached)

  module _ (change : Change) (may : MayPut s.store change.table change.key change.after) (is : row_change change ≡ change_at s.store (change.table, change.key) change.after) where
    proper : IsProper (schema_of s.store) (row_change change)
    proper row e =
        let fits : FitsUnder may.of change.key (Some row) = subst (FitsUnder may.of change.key) e may.fits in
        record { of = may.of; table_is = may.table_is; key = fits.0; fits = fits.1 }

    pub right_change : IsRight (schema_of s.store) s.store.rows (row_change change)
    right_change = record { sound = stored_right; after = sound_after (schema_of s.store) s.store.rows (row_change change) stored_right proper; told = ap (λ (x : RowChange). x.before) is }

    pub can_be_made : CanChange core.store.catalog (maps core.store.tables) core.store.views change
    can_be_made = record { contents = contents_of s.store; held = h.holds.stored; of_table = (may.of, may.table_is); right = right_change }

-- a change of a row that is looked up is that of the act
module _ (s : State) (i number : ℕ) (key : List ℕ) (new : Option Row) (change : Change) (place : (change.table ≡ number) × (change.key ≡ key) × (change.after ≡ new)) where
  pub same_act : act.Put number key new ≡ act.Put change.table change.key change.after
  same_act = λ x. act.Put (sym place.0 x) (sym place.1 x) (sym place.2 x)

  module _ (before : get s.store.rows (number, key) ≡ change.before) where
    pub is_change : row_change change ≡ change_at s.store (change.table, change.key) change.after
    is_change =
        let there : get s.store.rows (change.table, change.key) ≡ change.before = (λ x. get s.store.rows (place.0 x, place.1 x)) ∙ before in
        λ x. record { key = (change.table, change.key); before = sym there x; after = change.after }

    -- it asks for the same locks
    pub asks_same : (wants : List Want) → wants ≡ put_wants (schema_of s.store) (numbered (schema_of s.store) change.table) (row_change change) → wants ≡ asked s.store i (act.Put change.table change.key change.after)
    asks_same wants e = e ∙ ap (put_wants (schema_of s.store) (numbered (schema_of s.store) change.table)) is_change

    -- and with locks that are free it is a free Put
    pub free_put : {M : Type 0} (maps : M → ℕ → Map) (spare : M → ℕ → ℕ) (limit : M → Option ℕ) (core asked_core : CoreState M) → Began maps spare limit core s i → asked_core ≡ core → MayAct s.store i (act.Put number key new) → (wants left : List Want)
        → wants ≡ put_wants (schema_of s.store) (numbered (schema_of s.store) change.table) (row_change change) → left ≡ wants → IsFree s.store i wants → IsFreePut maps spare limit s asked_core i change left
    free_put maps spare limit core asked_core h same may wants left wants_are left_is free = record {
      began = subst (λ x. Began maps spare limit x s i) (sym same) h;
      may = subst (MayAct s.store i) same_act may;
      is = is_change;
      wants_are = left_is ∙ asks_same wants wants_are;
      free = subst (IsFree s.store i) (sym left_is) free;
    }
