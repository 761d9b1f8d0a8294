-- A change that was made ready is one that can be made.
use Rattle.std.specs.Prelude.{◌≡◌, ℕ, Option, Some}
use mathlib.Core.Path.{refl, sym, ap, subst, ◌∙◌}
use Rattle.iv_types.specs.declared.lock.Change.{Change}
use Rattle.iv_types.specs.declared.catalog.TableDef.{TableDef}
use Rattle.iv_types.specs.Definitions.{Definitions}
use Rattle.iv_types.specs.Encoding.{key_value_bytes}
use Rattle.iv_types.specs.Maps.{Map}
use Rattle.iv_types.specs.Definitions.{AreNumbered}
use Rattle.row_codec.specs.Laws.{OneSpelling}
use Rattle.table_store.specs.Stored.{table_of, IsTableAnd}
use Rattle.table_store.specs.Changes.{gone_by, made_by, IsChange, IsKept, CanExchange, Exchanges}
use Rattle.table_store.specs.Readying.{RowsFit, HasPlaces, IsReady}
use Rattle.table_store.specs.declared.tables.Ready.{Ready}
use Rattle.table_store.proofs.Changing.{can_change, there_fits, stands_fits, same_exchanges}

-- the rows of a change fit
pub rows_fit : (ds : Definitions) (change : Change) (maps : ℕ → Map) (limit : Option ℕ) (t : TableDef) → IsChange ds change maps limit t → RowsFit change t
rows_fit ds change maps limit t is = record {
  before = there_fits ds change.key change.before maps t is.there;
  after = stands_fits t change.key change.after is.row_after;
}

module _ (ds : Definitions) (ready : Ready) (t : TableDef) where
  -- what is kept of it is its own
  pub kept_own : (change : Change) → IsKept ds change ready.kept t → IsKept ds ready.kept.change ready.kept t
  kept_own change kept = record {
    change_is = refl;
    removed = kept.removed ∙ ap (λ c. gone_by ds c t) (sym kept.change_is);
    made = kept.made ∙ ap (λ c. made_by ds c t) (sym kept.change_is);
  }

  pub ready_so : (change : Change) (maps : ℕ → Map) (spare : ℕ → ℕ) (limit : Option ℕ) → table_of ds change.table ≡ Some t → IsKept ds change ready.kept t → ready.coming ≡ ready.kept.made
      → IsChange ds change maps limit t → HasPlaces ds 1 spare t → IsTableAnd ds ready.kept.change.table (IsReady ds ready maps spare limit)
  ready_so change maps spare limit found kept coming is places = (
    t,
    ap (λ (c : Change). table_of ds c.table) kept.change_is ∙ found,
    record {
      change = subst (λ c. IsChange ds c maps limit t) (sym kept.change_is) is;
      kept = kept_own change kept;
      coming = coming;
      places = places;
    },
  )

  module _ (maps : ℕ → Map) (spare : ℕ → ℕ) (limit : Option ℕ) (r : IsReady ds ready maps spare limit t) where
    pub can_apply : AreNumbered ds → table_of ds ready.kept.change.table ≡ Some t → OneSpelling key_value_bytes → CanExchange maps spare limit ready.kept.gone ready.coming
    can_apply numbered found spelling =
        subst (λ l. CanExchange maps spare limit l ready.coming) (sym r.kept.removed)
        (subst (λ l. CanExchange maps spare limit (gone_by ds ready.kept.change t) l) (sym (r.coming ∙ r.kept.made))
        (can_change ds ready.kept.change.table t numbered found spelling ready.kept.change maps limit r.change spare r.places.primary r.places.secondary))

    pub applied : (new : ℕ → Map) → Exchanges ready.kept.gone ready.coming maps new → Exchanges (gone_by ds ready.kept.change t) (made_by ds ready.kept.change t) maps new
    applied new moved = same_exchanges _ _ _ _ maps maps new r.kept.removed (r.coming ∙ r.kept.made) refl moved
