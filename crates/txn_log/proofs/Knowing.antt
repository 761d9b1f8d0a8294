-- What a record names is there and takes it.
use Rattle.std.specs.Prelude.{◌≡◌, ℕ, List, [], ◌∷◌, length, Option, Some, None, IsSome}
use Rattle.std.specs.List.{AllByRecursion, Contains}
use Rattle.std.specs.FinMap.{get}
use mathlib.Core.Path.{refl, sym, subst, ◌∙◌}
use Rattle.iv_types.specs.declared.lock.GroupDelta.{GroupDelta}
use Rattle.iv_types.specs.declared.catalog.TableDef.{TableDef}
use Rattle.table_laws.specs.Place.{Place}
use Rattle.iv_meaning.specs.Schema.{Schema, Object, table, numbered}
use Rattle.iv_meaning.specs.Database.{Row, Rows}
use Rattle.iv_meaning.specs.Escrow.{IsSession}
use Rattle.iv_meaning.specs.Sound.{IsRow}
use Rattle.txn_machine.specs.Deltas.{place_of, columns_of}
use Rattle.txn_machine.specs.Stored.{ViewRows, AreStored, IsStoredRow}
use Rattle.txn_machine.specs.Fresh.{fresh}
use Rattle.txn_machine.specs.Store.{Store, committed, schema_of, now, change_at}
use Rattle.txn_machine.specs.Ghosts.{the_views}
use Rattle.txn_machine.specs.ViewLaws.{AreSound}
use Rattle.txn_machine.specs.KeptLaws.{IsDelta}
use Rattle.txn_machine.specs.May.{MayPut, FitsUnder}
use Rattle.txn_machine.specs.Steps.{stored}
use Rattle.txn_machine.proofs.Good.{stored_sound}
use Rattle.txn_machine.proofs.Looking.{view_laws}
use Rattle.txn_machine.proofs.Reached.{Holds'}
use Rattle.txn_machine.proofs.Runs.{CanDefine, rows_are}
use Rattle.txn_machine.proofs.Shapes.{all_are, owes_deltas}
use Rattle.txn_log.specs.Replay.{Added}
use Rattle.txn_log.specs.Fitting.{IsChange, IsGroup, IsKnown, IsAccepted}

-- ---- deltas

pub delta_known : (objects : Schema) (d : GroupDelta) → IsDelta objects d → IsKnown objects (Added d)
delta_known objects d h = (record { of = h.of; view_is = h.view_is; group = h.group; fits = h.fits; key = h.key }, h.sums)

all_known : (objects : Schema) (ds : List GroupDelta) → AllByRecursion (IsDelta objects) ds → AllByRecursion (λ d. IsKnown objects (Added d)) ds
all_known objects [] h = tt
all_known objects (d ∷ ds) h = (delta_known objects d h.0, all_known objects ds h.1)

pub all_owed : (s : Store) → Holds' s → (i : ℕ) → IsSession i → AllByRecursion (λ d. IsKnown (schema_of s) (Added d)) (now s i).owed
all_owed s g i is = all_known (schema_of s) (now s i).owed (all_are s g i is).0

pub ghost_group : (s : Store) → Holds' s → (i : ℕ) → IsSession i → (p : Place) (n : ℕ) → ((d : GroupDelta) × Contains (now s i).owed d × (p ≡ place_of d) × (n ≡ length (columns_of d))) → IsGroup (schema_of s) p
ghost_group s g i is p n h = subst (IsGroup (schema_of s)) (sym h.2) (delta_known (schema_of s) h.0 (owes_deltas s g i is h.0 h.1)).0

-- ---- stored rows

by_row : {X : Type 0} (o : Option X) → IsSome o → (x : X) × (o ≡ Some x)
by_row None h = absurd (cc)
by_row (Some x) h = (x, refl)

pub stored_group : (objects : Schema) (view : ViewRows) (p : Place) → AreStored objects view → IsSome (get view p) → IsGroup objects p
stored_group objects view p shape there =
    let found = by_row (get view p) there in
    let r : IsStoredRow objects p found.0 = shape p found.0 found.1 in
    record { of = r.of; view_is = r.view_is; group = r.group; fits = r.fits; key = r.key }

-- ---- definitions

-- where no transaction is open, what is stored is what is committed
pub accepted_stored : (s : Store) → Holds' s → (o : Object) → CanDefine the_views fresh view_laws s o → IsAccepted (committed s) o → IsAccepted (stored s) o
accepted_stored s g o can accepted = subst (λ (m : Rows). IsAccepted (record (committed s) { rows = m }) o) (sym (rows_are the_views fresh view_laws s g o can)) accepted

-- ---- changes

same_table : (t u : TableDef) → Some (table t) ≡ Some (table u) → t ≡ u
same_table t u e = cc

row_key : (of : TableDef) (objects : Schema) (place : Place) (row : Row) → numbered objects place.0 ≡ Some (table of) → IsRow objects place row → FitsUnder of place.1 (Some row)
row_key of objects place row e r =
    subst (λ (t : TableDef). FitsUnder t place.1 (Some row)) (same_table r.of of (sym r.table_is ∙ e)) (r.key, r.fits)

pub change_known : (s : Store) → Holds' s → (number : ℕ) (key : List ℕ) (new : Option Row) → MayPut s number key new → IsChange (schema_of s) (change_at s (number, key) new)
change_known s g number key new may = by_old (get s.rows (number, key)) refl new refl
  where
    sound : AreSound (schema_of s) s.rows
    sound = stored_sound the_views fresh view_laws (committed s) s g

    under : (o : Option Row) → get s.rows (number, key) ≡ o → FitsUnder may.of key o
    under None e = tt
    under (Some row) e = row_key may.of (schema_of s) (number, key) row may.table_is (sound.rows (number, key) row e)

    by_old : (o : Option Row) → get s.rows (number, key) ≡ o → (n : Option Row) → new ≡ n → IsChange (schema_of s) (change_at s (number, key) new)
    by_old (Some row) e n f = record {
      of = may.of;
      table_is = may.table_is;
      key = (row, (under (Some row) e).1, (under (Some row) e).0);
      before = under (get s.rows (number, key)) refl;
      after = may.fits;
    }
    by_old None e (Some row) f =
        let fits : FitsUnder may.of key (Some row) = subst (FitsUnder may.of key) f may.fits in record {
          of = may.of;
          table_is = may.table_is;
          key = (row, fits.1, fits.0);
          before = under (get s.rows (number, key)) refl;
          after = may.fits;
        }
    by_old None e None f = absurd (may.changes (e ∙ sym f))
