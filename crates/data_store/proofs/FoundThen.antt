-- What a store that is read at a commit number has in a table or a view.
use Rattle.std.specs.Prelude.{◌≡◌, ℕ, List, Option, Some}
use mathlib.Core.Path.{refl, sym, ap, subst, ◌∙◌}
use Rattle.iv_types.specs.declared.catalog.TableDef.{TableDef}
use Rattle.iv_types.specs.declared.catalog.ViewDef.{ViewDef}
use Rattle.iv_types.specs.declared.catalog.Definition.{Definition}
use Rattle.iv_types.specs.declared.catalog.Definition.TheVariants.{Table, Index, View}
use Rattle.iv_types.specs.declared.value.Interval.{Interval}
use Rattle.iv_types.specs.Definitions.{Definitions, AreNumbered}
use Rattle.iv_types.specs.Definitions as definitions
use Rattle.iv_types.specs.Maps.{Map}
use Rattle.iv_meaning.specs.Schema.{Schema, Object, view, ViewTree, numbered}
use Rattle.iv_meaning.specs.Objects.{schema_of, object_of, view_tree}
use Rattle.iv_meaning.specs.Database.{Row, Rows, Database}
use Rattle.iv_meaning.specs.View.{read}
use Rattle.table_store.specs.Stored.{as_table, table_of, IsTableAnd, OfTable}
use Rattle.table_store.proofs.TableIndexes.{table_number}
use Rattle.txn_machine.specs.Stored.{ViewRows, AreStored, Lists}
use Rattle.txn_machine.specs.May.{MayPeek}
use Rattle.txn_machine.specs.Steps.{FindsIn}
use Rattle.ghost_rows.specs.State.{State}
use Rattle.data_store.specs.Contents.{Contents}
use Rattle.data_store.specs.Reading.{CanBeRead}
use Rattle.data_store.specs.Past.{Pendings, RowVersions, WereRows}
use Rattle.data_store.specs.ViewPast.{DeltaVersions, WereViewRows, CanPeekView}
use Rattle.data_store.specs.Peeking.{WereAll, CanPeek}
use Rattle.data_store.proofs.Finding.{object_is}

module _ (number : ℕ) (row_versions : RowVersions) (delta_versions : DeltaVersions) (pending : Pendings) (ds : Definitions) (maps : ℕ → Map) (state : State) where
  -- ---- a view

  module _ (n : ℕ) (d : ViewDef) (defined : definitions.numbered ds n ≡ Some (View d)) where
    pub peek_view : CanPeek number row_versions delta_versions pending ds maps state n → CanPeekView number delta_versions ds maps state n
    peek_view can =
        let is : numbered can.contents.objects n ≡ Some (view (view_tree d)) = object_is ds maps state can.contents can.readable n (View d) defined in
        record { contents = can.contents; readable = can.readable; of = view_tree d; is_view = is; past = can.past; were = can.were.views n (view_tree d) is; stored = can.were.stored }

    pub found_view : (interval : Interval) (rows : List Row)
        → ((c : Contents) (past : ViewRows) (v : ViewTree) → CanBeRead ds maps state c → WereViewRows number delta_versions state maps n past → AreStored c.objects past → numbered c.objects n ≡ Some (view v) → Lists c.objects v interval past rows)
        → (c : Contents) (db : Database) (past : ViewRows) → CanBeRead ds maps state c → db.schema ≡ c.objects → WereAll number row_versions delta_versions pending ds maps state c db.rows past → FindsIn db past (numbered c.objects n) n interval rows
    found_view interval rows told c db past readable schema were =
        let is : numbered c.objects n ≡ Some (view (view_tree d)) = object_is ds maps state c readable n (View d) defined in
        subst (λ (o : Option Object). FindsIn db past o n interval rows) (sym is)
        (subst (λ (o : Schema). Lists o (view_tree d) interval past rows) (sym schema) (told c past (view_tree d) readable (were.views n (view_tree d) is) were.stored is))

  -- ---- a table

  module _ (are : AreNumbered ds) (n : ℕ) where
    a_table : (d : Definition) → definitions.numbered ds n ≡ Some d → ((v : ViewDef) → d ≡ View v → ⊥) → MayPeek (Some (object_of d)) → (t : TableDef) × (table_of ds n ≡ Some t) × (t.number ≡ n)
    a_table (Table t) defined plain may = (t, ap as_table defined, table_number ds n t are (ap as_table defined))
    a_table (Index i) defined plain may = absurd may
    a_table (View v) defined plain may = absurd (plain v refl)

    pub peek_table : (d : Definition) → definitions.numbered ds n ≡ Some d → ((v : ViewDef) → d ≡ View v → ⊥) → CanPeek number row_versions delta_versions pending ds maps state n
        → IsTableAnd ds n (λ t. (rows : Rows) × WereRows number row_versions pending maps rows t)
    peek_table d defined plain can =
        let found = a_table d defined plain (subst MayPeek (object_is ds maps state can.contents can.readable n d defined) can.may) in
        (found.0, found.1, (can.rows, can.were.tables found.0 (ap (table_of ds) found.2 ∙ found.1)))

    by_kind : (d : Definition) → ((v : ViewDef) → d ≡ View v → ⊥) → (db : Database) (past : ViewRows) (interval : Interval) (rows : List Row) → read db n interval ≡ rows → FindsIn db past (Some (object_of d)) n interval rows
    by_kind (Table t) plain db past interval rows e = e
    by_kind (Index i) plain db past interval rows e = e
    by_kind (View v) plain db past interval rows e = absurd (plain v refl)

    pub found_table : (d : Definition) → definitions.numbered ds n ≡ Some d → ((v : ViewDef) → d ≡ View v → ⊥) → (interval : Interval) (rows : List Row)
        → ((db : Database) → db.schema ≡ schema_of ds → OfTable ds n (WereRows number row_versions pending maps db.rows) → read db n interval ≡ rows)
        → (c : Contents) (db : Database) (past : ViewRows) → CanBeRead ds maps state c → db.schema ≡ c.objects → WereAll number row_versions delta_versions pending ds maps state c db.rows past → FindsIn db past (numbered c.objects n) n interval rows
    found_table d defined plain interval rows told c db past readable schema were =
        subst (λ (o : Option Object). FindsIn db past o n interval rows) (sym (object_is ds maps state c readable n d defined))
        (by_kind d plain db past interval rows (told db (schema ∙ sym readable.held.objects) (λ t is. were.tables t (ap (table_of ds) (table_number ds n t are is) ∙ is))))
