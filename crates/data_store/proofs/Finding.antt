-- What a store that can be read has in an index.
use Rattle.std.specs.Prelude.{◌≡◌, ℕ, zero, suc, ℤ, List, [], ◌∷◌, length, Option, Some, None, IsSome}
use Rattle.std.specs.Option.{option_map}
use Rattle.std.proofs.Common.{arith}
use Rattle.std.proofs.lemmas.Option.{slice_get-map}
use mathlib.Core.Path.{refl, sym, ap, subst, ◌∙◌}
use Rattle.std.specs.FinMap.{get, entries}
use Rattle.iv_types.specs.declared.value.Kind.{Kind}
use Rattle.iv_types.specs.declared.value.Interval.{Interval}
use Rattle.iv_types.specs.declared.catalog.TableDef.{TableDef}
use Rattle.iv_types.specs.declared.catalog.ViewDef.{ViewDef}
use Rattle.iv_types.specs.declared.catalog.Definition.{Definition}
use Rattle.iv_types.specs.declared.catalog.Definition.TheVariants.{Table, Index, View}
use Rattle.iv_types.specs.Definitions.{Definitions, AreNumbered}
use Rattle.iv_types.specs.Definitions as definitions
use Rattle.iv_types.specs.Encoding.{FitAll, key_bytes}
use Rattle.iv_types.specs.Maps.{Map}
use Rattle.iv_meaning.specs.Schema.{Schema, Object, table, view, ViewTree, numbered, group_kinds}
use Rattle.iv_meaning.specs.Objects.{schema_of, object_of, view_tree}
use Rattle.iv_meaning.specs.Database.{Row, Database}
use Rattle.iv_meaning.specs.Sound.{IsTable}
use Rattle.iv_meaning.specs.View.{read}
use Rattle.table_store.specs.Stored.{as_table, as_index, table_of, CanRead, HoldsRead, HoldsTable, AreRows, IsTableAnd, OfTable, between}
use Rattle.table_store.proofs.Staging.{hold_rows}
use Rattle.table_store.proofs.TableIndexes.{table_number}
use Rattle.txn_machine.specs.ViewLaws.{IsRight}
use Rattle.txn_machine.specs.RowChanges.{row_change}
use Rattle.iv_types.specs.declared.lock.Change.{Change}
use Rattle.view_delta.specs.Owing.{Finds}
use Rattle.table_store.proofs.Held.{of_table, hold_read, read_by_table, read_by_index}
use Rattle.txn_machine.specs.Stored.{Lists}
use Rattle.txn_machine.specs.Steps.{FindsIn}
use Rattle.ghost_rows.specs.Numbers.{numbers_bytes, Fits128}
use Rattle.ghost_rows.specs.State.{State}
use Rattle.data_store.specs.Contents.{Contents}
use Rattle.data_store.specs.Held.{IsHeld}
use Rattle.data_store.specs.Reading.{CanBeRead, HasRows}
use Rattle.data_store.specs.Shown.{IsGroupRow, AreGroupRows, Shows}
use Rattle.data_store.proofs.Listing.{IsGood, huge_fit, lists, shows}

-- ---- objects of the catalog

pub alike : (ds : Definitions) (n : ℕ) → numbered (schema_of ds) n ≡ option_map object_of (definitions.numbered ds n)
alike ds zero = refl
alike ds (suc n) = slice_get-map object_of ds n

pub object_at : (ds : Definitions) (n : ℕ) (d : Definition) → definitions.numbered ds n ≡ Some d → numbered (schema_of ds) n ≡ Some (object_of d)
object_at ds n d e = alike ds n ∙ ap (option_map object_of) e

-- ---- entries of a view

pub group_row : (kinds : List Kind) (key value : List ℕ) (group : Row) (many : ℕ) (numbers : List ℤ) → FitAll kinds group → key ≡ key_bytes kinds group → length numbers ≡ suc many
    → Fits128 numbers → value ≡ numbers_bytes numbers → IsGroupRow kinds key value
group_row kinds key value group many [] fits key_is width in_range value_is = absurd (omega arith)
group_row kinds key value group many (n ∷ ns) fits key_is width in_range value_is =
    record { group = group; fits = fits; key_is = key_is; count = n; sums = ns; in_range = in_range; value_is = value_is }

stored_numbers : (o : Option (List ℤ)) (value : List ℕ) → option_map numbers_bytes o ≡ Some value → (numbers : List ℤ) × (o ≡ Some numbers) × (value ≡ numbers_bytes numbers)
stored_numbers None value e = absurd (cc)
stored_numbers (Some numbers) value e = let here : numbers_bytes numbers ≡ value = cc in (numbers, refl, sym here)

module _ (ds : Definitions) (maps : ℕ → Map) (state : State) (c : Contents) (r : CanBeRead ds maps state c) where
  module _ (n : ℕ) (v : ViewTree) (is : numbered c.objects n ≡ Some (view v)) where
    good_at : (group : List ℕ) (numbers : List ℤ) → get c.view (n, group) ≡ Some numbers → IsGood (suc (length v.sums)) numbers
    good_at group numbers there =
        let s = r.stored (n, group) numbers there in
        let same : Some (view s.of) ≡ Some (view v) = sym s.view_is ∙ is in
        let this : s.of ≡ v = cc in
        record { width = s.width ∙ ap (λ (w : ViewTree). suc (length w.sums)) this; in_range = r.held.in_range n v is group numbers there }

    pub group_rows : AreGroupRows (group_kinds c.objects v) (maps n)
    group_rows key value there =
        let found = stored_numbers (get c.view (n, key)) value (sym (r.held.views n v is key) ∙ there) in
        let s = r.stored (n, key) found.0 found.1 in
        let same : Some (view s.of) ≡ Some (view v) = sym s.view_is ∙ is in
        let this : s.of ≡ v = cc in
        group_row (group_kinds c.objects v) key value s.group (length v.sums) found.0 (subst (λ (w : ViewTree). FitAll (group_kinds c.objects w) s.group) this s.fits)
        (s.key ∙ ap (λ (w : ViewTree). key_bytes (group_kinds c.objects w) s.group) this) (good_at key found.0 found.1).width (huge_fit found.0 (good_at key found.0 found.1).in_range) found.2

    module _ (number : v.number ≡ n) where
      views_at : (group : List ℕ) → get (maps n) group ≡ option_map numbers_bytes (get c.view (v.number, group))
      views_at group = r.held.views n v is group ∙ ap (λ (k : ℕ). option_map numbers_bytes (get c.view (k, group))) (sym number)

      good_there : (group : List ℕ) (numbers : List ℤ) → get c.view (v.number, group) ≡ Some numbers → IsGood (suc (length v.sums)) numbers
      good_there group numbers there = good_at group numbers (ap (λ (k : ℕ). get c.view (k, group)) (sym number) ∙ there)

      pub lists_at : (interval : Interval) (rows : List Row) → Shows (group_kinds c.objects v) (between interval (entries (maps n))) rows → Lists c.objects v interval c.view rows
      lists_at interval rows s = lists c.objects v c.view (maps n) views_at good_there interval rows s

      pub shows_at : (interval : Interval) (rows : List Row) → Lists c.objects v interval c.view rows → Shows (group_kinds c.objects v) (between interval (entries (maps n))) rows
      shows_at interval rows l = shows c.objects v c.view (maps n) views_at good_there interval rows l

  -- the object that a definition of the catalog is
  pub object_is : (n : ℕ) (d : Definition) → definitions.numbered ds n ≡ Some d → numbered c.objects n ≡ Some (object_of d)
  object_is n d e = ap (λ objects. numbered objects n) (sym r.held.objects) ∙ object_at ds n d e

  -- ---- a view

  pub view_rows : (n : ℕ) (v : ViewDef) → definitions.numbered ds n ≡ Some (View v) → v.number ≡ n → AreGroupRows (group_kinds (schema_of ds) (view_tree v)) (maps v.number)
  view_rows n v e number =
      subst (λ (k : ℕ). AreGroupRows (group_kinds (schema_of ds) (view_tree v)) (maps k)) (sym number)
      (subst (λ (o : Schema). AreGroupRows (group_kinds o (view_tree v)) (maps n)) (sym r.held.objects) (group_rows n (view_tree v) (object_is n (View v) e)))

  pub finds_view : (n : ℕ) (v : ViewDef) → definitions.numbered ds n ≡ Some (View v) → v.number ≡ n → (interval : Interval) (rows : List Row)
      → Shows (group_kinds (schema_of ds) (view_tree v)) (between interval (entries (maps v.number))) rows → (db : Database) → db.schema ≡ c.objects → FindsIn db c.view (numbered c.objects n) n interval rows
  finds_view n v e number interval rows s db schema =
      subst (λ (o : Option Object). FindsIn db c.view o n interval rows) (sym (object_is n (View v) e))
      (subst (λ (o : Schema). Lists o (view_tree v) interval c.view rows) (sym schema)
      (lists_at n (view_tree v) (object_is n (View v) e) number interval rows
      (subst (λ (o : Schema). Shows (group_kinds o (view_tree v)) (between interval (entries (maps n))) rows) r.held.objects
      (subst (λ (k : ℕ). Shows (group_kinds (schema_of ds) (view_tree v)) (between interval (entries (maps k))) rows) number s))))

  -- ---- a table or an index

  -- a definition that is no view
  abbrev pub IsNoView : Definition → Type 0
  IsNoView d = (v : ViewDef) → d ≡ View v → ⊥

  finds_read : (db : Database) (n : ℕ) (interval : Interval) (rows : List Row) (d : Definition) → IsNoView d → read db n interval ≡ rows → FindsIn db c.view (Some (object_of d)) n interval rows
  finds_read db n interval rows (Table t) plain e = e
  finds_read db n interval rows (Index i) plain e = e
  finds_read db n interval rows (View v) plain e = absurd (plain v refl)

  pub finds_rows : AreNumbered ds → (n : ℕ) (d : Definition) → definitions.numbered ds n ≡ Some d → IsNoView d → (interval : Interval) (rows : List Row)
      → ((db : Database) → db.schema ≡ schema_of ds → HoldsRead ds db.rows maps n → read db n interval ≡ rows)
      → (db : Database) → db.schema ≡ c.objects → db.rows ≡ c.rows → FindsIn db c.view (numbered c.objects n) n interval rows
  finds_rows are n d e plain interval rows told db schema same =
      subst (λ (o : Option Object). FindsIn db c.view o n interval rows) (sym (object_is n d e))
      (finds_read db n interval rows d plain (told db (schema ∙ sym r.held.objects) (subst (λ rs. HoldsRead ds rs maps n) (sym same) (hold_read ds c.rows maps are r.held.tables n))))

  can_read : AreNumbered ds → (n : ℕ) (d : Definition) → definitions.numbered ds n ≡ Some d → IsNoView d → HasRows c.objects (Some (object_of d)) → CanRead ds maps n
  can_read are n (Table t) e plain has = read_by_table ds c.rows maps are r.held.tables n t (ap as_table e)
  can_read are n (Index i) e plain has =
      read_by_index ds c.rows maps are r.held.tables n i has.0 (ap as_index e) (of_table ds i.table has.0 (ap (λ objects. numbered objects i.table) r.held.objects ∙ has.1))
  can_read are n (View v) e plain has = absurd (plain v refl)

  pub can_find : AreNumbered ds → (n : ℕ) (d : Definition) → definitions.numbered ds n ≡ Some d → IsNoView d → HasRows c.objects (numbered c.objects n) → CanRead ds maps n
  can_find are n d e plain has = can_read are n d e plain (subst (HasRows c.objects) (object_is n d e) has)

-- ---- a row of a table, and a change of one

module _ (ds : Definitions) (maps : ℕ → Map) (state : State) (c : Contents) (held : IsHeld ds maps state c) where
  pub table_is : (n : ℕ) (t : TableDef) → numbered c.objects n ≡ Some (table t) → table_of ds n ≡ Some t
  table_is n t e = of_table ds n t (ap (λ objects. numbered objects n) held.objects ∙ e)

  pub is_some_table : (n : ℕ) → IsTable c.objects n → IsSome (table_of ds n)
  is_some_table n has = subst (λ (o : Option TableDef). IsSome o) (sym (table_is n has.0 has.1)) refl

  pub table_there : AreNumbered ds → (n : ℕ) → IsTable c.objects n → IsTableAnd ds n (λ t. AreRows t (maps n))
  table_there are n has = (has.0, table_is n has.0 has.1, hold_rows ds c.rows maps n has.0 (table_is n has.0 has.1) (table_number ds n has.0 are (table_is n has.0 has.1)) held.tables)

  pub table_held : AreNumbered ds → (n : ℕ) → OfTable ds n (λ t. HoldsTable c.rows t (maps n))
  table_held are n t is = (hold_read ds c.rows maps are held.tables n).primary t is

  pub finds : (change : Change) → IsRight c.objects c.rows (row_change change) → Finds ds maps change c.rows
  finds change right = record { holds = held.tables; right = subst (λ (o : Schema). IsRight o c.rows (row_change change)) (sym held.objects) right }
