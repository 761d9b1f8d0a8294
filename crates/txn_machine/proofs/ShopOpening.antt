-- The example's database is one to begin from.
use Rattle.std.specs.Prelude.{◌≡◌, ℕ, zero, suc, ◌<◌, [], ◌∷◌, ◌++◌, map, filter, pos, ◌==◌, Some}
use mathlib.Core.Path.{refl, sym, ap, subst, ◌∙◌}
use Rattle.std.proofs.Common.{arith}
use Rattle.std.proofs.lemmas.Option.{none-some}
use Rattle.std.proofs.lemmas.List.Elements.{All-from_recursion}
use Rattle.std.specs.FinMap.{empty, get-empty}
use Rattle.iv_types.specs.declared.value.Kind.TheVariants.{Int}
use Rattle.iv_types.specs.Encoding.{IsHuge, kinds_of}
use Rattle.table_laws.specs.Place.{Place, place_cmp}
use Rattle.table_laws.specs.Table.{rows_where}
use Rattle.iv_meaning.specs.Schema.{Object, table, view, ViewTree, numbered}
use Rattle.iv_meaning.specs.Database.{Row}
use Rattle.iv_meaning.specs.Query.{combinations}
use Rattle.iv_meaning.specs.Sound.{IsObject, IsTable}
use Rattle.iv_meaning.proofs.SaleLemmas.{no_entries}
use Rattle.query_laws.proofs.GroupRows.{some_same, IsKnown}
use Rattle.txn_machine.specs.Deltas.{contribution, is_counted, due}
use Rattle.txn_machine.specs.Fresh.{fresh}
use Rattle.txn_machine.specs.ViewLaws.{IsJoined, IsTyped}
use Rattle.txn_machine.specs.Example.{sale, by_shop, shop_database, ShopOpened}
use Rattle.txn_machine.proofs.Columns.{number_in_row}
use Rattle.txn_machine.proofs.Ranging.{huge_zero}

-- a view of no rows has zeros
all_zero : (place : Place) (column : ℕ) → fresh shop_database.schema empty place column ≡ pos 0
all_zero place column = ap (λ es. due place column (map (contribution shop_database.schema by_shop) (filter (is_counted shop_database.schema by_shop) (combinations (map (λ (e : Place × Row). e.1) (rows_where (λ place row. place.0 == 1) es) ∷ []))) ++ [])) no_entries

sale_is : IsObject shop_database.schema 1 (table sale)
sale_is = (refl, All-from_recursion (λ p. p < 3) (0 ∷ []) (omega arith, tt))

view_is : IsObject shop_database.schema 2 (view by_shop)
view_is = (
  refl,
  record {
    tables = All-from_recursion (IsTable shop_database.schema) (1 ∷ []) ((sale, refl), tt);
    group = All-from_recursion (IsKnown (kinds_of sale ∷ [])) by_shop.group ((Int, refl), tt);
  },
)

objects_are : (n : ℕ) (o : Object) → numbered shop_database.schema n ≡ Some o → IsObject shop_database.schema n o
objects_are zero o e = absurd (none-some o e)
objects_are (suc zero) o e = subst (IsObject shop_database.schema 1) (some_same (table sale) o e) sale_is
objects_are (suc (suc zero)) o e = subst (IsObject shop_database.schema 2) (some_same (view by_shop) o e) view_is
objects_are (suc (suc (suc n))) o e = absurd (none-some o e)

same_view : (v w : ViewTree) → view v ≡ view w → v ≡ w
same_view v w e = cc

joins_are : (n : ℕ) (v : ViewTree) → numbered shop_database.schema n ≡ Some (view v) → IsJoined shop_database.schema v
joins_are zero v e = absurd (none-some (view v) e)
joins_are (suc zero) v e = absurd (cc)
joins_are (suc (suc zero)) v e = subst (IsJoined shop_database.schema) (same_view by_shop v (some_same (view by_shop) (view v) e)) tt
joins_are (suc (suc (suc n))) v e = absurd (none-some (view v) e)

by_shop_typed : IsTyped shop_database.schema by_shop
by_shop_typed = record { grouped = λ e. absurd (cc); condition = λ c e. absurd (cc) }

typed_are : (n : ℕ) (v : ViewTree) → numbered shop_database.schema n ≡ Some (view v) → IsTyped shop_database.schema v
typed_are zero v e = absurd (none-some (view v) e)
typed_are (suc zero) v e = absurd (cc)
typed_are (suc (suc zero)) v e = subst (IsTyped shop_database.schema) (same_view by_shop v (some_same (view by_shop) (view v) e)) by_shop_typed
typed_are (suc (suc (suc n))) v e = absurd (none-some (view v) e)

pub shop_opened : ShopOpened
shop_opened = record {
  sound = record {
    objects = objects_are;
    rows = λ place row e. absurd (none-some row (sym (get-empty place_cmp place) ∙ e));
    joins = joins_are;
    typed = typed_are;
  };
  rows = λ place column. ap (number_in_row column) (get-empty place_cmp place) ∙ sym (all_zero place column);
  stored = λ place numbers e. absurd (none-some numbers (sym (get-empty place_cmp place) ∙ e));
  in_range = λ place column. subst IsHuge (sym (all_zero place column)) huge_zero;
}
