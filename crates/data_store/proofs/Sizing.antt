-- What rows that are found count in a note.
use Rattle.std.specs.Prelude.{◌≡◌, ℕ, zero, suc, ◌+◌, ◌-◌, ◌^◌, min, ℤ, List, [], ◌∷◌, ◌++◌, map, length, drop, sum_by, Option, Some, None}
use Rattle.std.specs.List.{AllZip, sum}
use Rattle.std.specs.Option.{option_or, option_and_then}
use Rattle.std.proofs.Common.{arith}
use Rattle.std.proofs.lemmas.List.{length-map}
use Rattle.std.proofs.lemmas.List.Sums.{sum_by-cons}
use mathlib.Core.Path.{refl, sym, ap, subst, ◌∙◌}
use Rattle.std.specs.FinMap.{entries}
use Rattle.iv_types.specs.declared.value.Kind.{Kind}
use Rattle.iv_types.specs.declared.value.Kind.TheVariants.{Huge}
use Rattle.iv_types.specs.declared.value.Value.{Value}
use Rattle.iv_types.specs.declared.value.Value.TheVariants.{Number}
use Rattle.iv_types.specs.declared.value.Interval.{Interval}
use Rattle.iv_types.specs.declared.catalog.TableDef.{TableDef}
use Rattle.iv_types.specs.declared.catalog.ViewDef.{ViewDef}
use Rattle.iv_types.specs.declared.catalog.Definition.{Definition}
use Rattle.iv_types.specs.declared.catalog.Definition.TheVariants.{Table, Index, View}
use Rattle.iv_types.specs.Definitions.{Definitions, AreNumbered}
use Rattle.iv_types.specs.Definitions as definitions
use Rattle.iv_types.specs.Encoding.{kinds_of, row_bytes}
use Rattle.iv_types.specs.Maps.{Map}
use Rattle.table_laws.specs.Place.{Place}
use Rattle.iv_meaning.specs.Schema.{Schema, Object, table, index, view, ViewTree, numbered, kinds_of_table, object_kinds, group_kinds}
use Rattle.iv_meaning.specs.Objects.{schema_of, object_of, view_tree}
use Rattle.iv_meaning.specs.Database.{Row, Database}
use Rattle.iv_meaning.specs.View.{read}
use Rattle.table_store.specs.Stored as stored
use Rattle.table_store.specs.Stored.{as_table, as_index, table_of, index_of, listed_table, HoldsRead, between}
use Rattle.table_store.proofs.Held.{of_table, hold_read}
use Rattle.txn_machine.specs.Stored.{first_numbers, IsShown, Lists}
use Rattle.txn_machine.specs.Steps.{FindsIn}
use Rattle.txn_machine.specs.Counts.{row_size}
use Rattle.ghost_rows.specs.State.{State}
use Rattle.data_store.specs.Contents.{Contents}
use Rattle.data_store.specs.Held.{IsHeld}
use Rattle.data_store.specs.Reading.{CanBeRead, HasRows, rows_size}
use Rattle.data_store.specs.Shown.{Shows, wide, noted_row, noted_rows}
use Rattle.data_store.proofs.Finding.{object_is, shows_at, IsNoView}
use Rattle.data_store.proofs.Noting.{behind}

-- ---- rows of a view

numbers_length : (n : ℕ) (ns : List ℤ) → length (first_numbers n ns) ≡ n
numbers_length zero ns = refl
numbers_length (suc n) [] = ap suc (numbers_length n [])
numbers_length (suc n) (m ∷ ms) = ap suc (numbers_length n ms)

all_huge : {A B : Type 0} (xs : List A) (ys : List B) → length xs ≡ length ys → map (λ x. Huge) xs ≡ map (λ y. Huge) ys
all_huge [] [] e = refl
all_huge [] (y ∷ ys) e = absurd (omega (arith, e))
all_huge (x ∷ xs) [] e = absurd (omega (arith, e))
all_huge (x ∷ xs) (y ∷ ys) e = ap (λ (l : List Kind). Huge ∷ l) (all_huge xs ys (omega (arith, e)))

module _ (objects : Schema) (v : ViewTree) where
  abbrev one_size : Row → ℕ
  one_size row = row_size (object_kinds objects (view v)) row + 16

  one_noted : (stored : Place × List ℤ) (row : Row) → IsShown objects v stored row → noted_row (group_kinds objects v) row ≡ one_size row
  one_noted stored row s =
      let kinds : List Kind = group_kinds objects v in
      let numbers : List Value = map Number (first_numbers (suc (length v.sums)) stored.1) in
      let left : drop (length kinds) row ≡ numbers = ap (drop (length kinds)) s.row_is ∙ behind kinds s.group numbers s.fits in
      let long : length numbers ≡ suc (length v.sums) = length-map (first_numbers (suc (length v.sums)) stored.1) Number ∙ numbers_length (suc (length v.sums)) stored.1 in
      let same : wide kinds row ≡ object_kinds objects (view v) =
      ap (λ (l : List Value). kinds ++ map (λ x. Huge) l) left ∙ ap (λ (l : List Kind). kinds ++ l) (all_huge numbers (zero ∷ map (λ x. zero) v.sums) (long ∙ ap suc (sym (length-map v.sums (λ x. zero))))
      ∙ ap (λ (l : List Kind). Huge ∷ l) (all_huge (map (λ x. zero) v.sums) v.sums (length-map v.sums (λ x. zero)))) in
      ap (λ (ks : List Kind). row_size ks row + 16) same

  all_noted : (es : List (Place × List ℤ)) (rows : List Row) → AllZip (IsShown objects v) es rows → noted_rows (group_kinds objects v) rows ≡ sum (map one_size rows)
  all_noted [] [] z = refl
  all_noted [] (row ∷ rows) z = absurd z
  all_noted (e ∷ es) [] z = absurd z
  all_noted (e ∷ es) (row ∷ rows) z =
      let here : noted_row (group_kinds objects v) row ≡ one_size row = one_noted e row z.0 in
      let rest : noted_rows (group_kinds objects v) rows ≡ sum (map one_size rows) = all_noted es rows z.1 in
      omega (arith, here, rest, sum_by-cons (λ n. n) (noted_row (group_kinds objects v) row) (map (noted_row (group_kinds objects v)) rows), sum_by-cons (λ n. n) (one_size row) (map one_size rows))

-- ---- rows of a table

sum_of : {X : Type 0} (f : X → ℕ) (xs : List X) → sum_by f xs ≡ sum (map f xs)
sum_of f [] = refl
sum_of f (x ∷ xs) = omega (arith, sum_by-cons f x xs, sum_by-cons (λ n. n) (f x) (map f xs), sum_of f xs)

-- the kinds of the rows that an object lists
abbrev listed_by : Schema → Option Object → List Kind
listed_by objects o = elim o [
  | None ↦ []
  | Some p ↦ elim p [
    | table t ↦ object_kinds objects (table t)
    | index i ↦ kinds_of_table (numbered objects i.table)
    | view v ↦ object_kinds objects (view v)
  ]
]

module _ (ds : Definitions) (maps : ℕ → Map) (state : State) (c : Contents) (r : CanBeRead ds maps state c) (n : ℕ) where
  -- a view
  pub notes_view : (v : ViewDef) → definitions.numbered ds n ≡ Some (View v) → v.number ≡ n → (interval : Interval) (rows : List Row) (size : ℕ)
      → (Shows (group_kinds (schema_of ds) (view_tree v)) (between interval (entries (maps v.number))) rows → size ≡ min (noted_rows (group_kinds (schema_of ds) (view_tree v)) rows) (2 ^ 64 - 1))
      → (db : Database) → db.schema ≡ c.objects → FindsIn db c.view (numbered c.objects n) n interval rows → size ≡ min (rows_size c.objects n rows) (2 ^ 64 - 1)
  notes_view v is number interval rows size told db schema found =
      let w : ViewTree = view_tree v in
      let o : numbered c.objects n ≡ Some (view w) = object_is ds maps state c r n (View v) is in
      let listed : Lists c.objects w interval c.view rows =
      subst (λ (s : Schema). Lists s w interval c.view rows) schema (subst (λ (p : Option Object). FindsIn db c.view p n interval rows) o found) in
      let shows : Shows (group_kinds c.objects w) (between interval (entries (maps n))) rows = shows_at ds maps state c r n w o number interval rows listed in
      let counted : size ≡ min (noted_rows (group_kinds (schema_of ds) w) rows) (2 ^ 64 - 1) =
      told (subst (λ (k : ℕ). Shows (group_kinds (schema_of ds) w) (between interval (entries (maps k))) rows) (sym number)
      (subst (λ (s : Schema). Shows (group_kinds s w) (between interval (entries (maps n))) rows) (sym r.held.objects) shows)) in
      counted ∙ ap (λ (k : ℕ). min k (2 ^ 64 - 1)) (ap (λ (s : Schema). noted_rows (group_kinds s w) rows) r.held.objects
      ∙ (all_noted c.objects w _ rows listed ∙ ap (λ (p : Option Object). sum (map (λ row. row_size (listed_by c.objects p) row + 16) rows)) (sym o)))

  -- a table or an index of one
  abbrev Told : Interval → ℕ → Type 0
  Told interval size = (db : Database) (t : TableDef) → db.schema ≡ schema_of ds → listed_table ds n ≡ Some t → HoldsRead ds db.rows maps n
      → size ≡ min (stored.noted_rows t (read db n interval)) (2 ^ 64 - 1)

  of_rows : AreNumbered ds → (interval : Interval) (rows : List Row) (size : ℕ) (t : TableDef) (o : Object) → numbered c.objects n ≡ Some o → listed_by c.objects (Some o) ≡ kinds_of t → listed_table ds n ≡ Some t → Told interval size
      → (db : Database) → db.schema ≡ c.objects → db.rows ≡ c.rows → read db n interval ≡ rows → size ≡ min (rows_size c.objects n rows) (2 ^ 64 - 1)
  of_rows are interval rows size t o is kinds lists told db schema same found =
      told db t (schema ∙ sym r.held.objects) lists (subst (λ rs. HoldsRead ds rs maps n) (sym same) (hold_read ds c.rows maps are r.held.tables n))
      ∙ ap (λ (k : ℕ). min k (2 ^ 64 - 1)) (ap (stored.noted_rows t) found ∙ (sum_of (λ row. length (row_bytes (kinds_of t) row) + 16) rows
      ∙ (ap (λ (ks : List Kind). sum (map (λ row. row_size ks row + 16) rows)) (sym kinds) ∙ ap (λ (p : Option Object). sum (map (λ row. row_size (listed_by c.objects p) row + 16) rows)) (sym is))))

  pub notes_rows : AreNumbered ds → (d : Definition) → definitions.numbered ds n ≡ Some d → IsNoView ds maps state c r d → HasRows c.objects (numbered c.objects n) → (interval : Interval) (rows : List Row) (size : ℕ) → Told interval size
      → (db : Database) → db.schema ≡ c.objects → db.rows ≡ c.rows → FindsIn db c.view (numbered c.objects n) n interval rows → size ≡ min (rows_size c.objects n rows) (2 ^ 64 - 1)
  notes_rows are d e plain has interval rows size told db schema same found =
      let o : numbered c.objects n ≡ Some (object_of d) = object_is ds maps state c r n d e in
      by_kind d e plain o (subst (HasRows c.objects) o has) (subst (λ (p : Option Object). FindsIn db c.view p n interval rows) o found)
    where
      by_kind : (d : Definition) → definitions.numbered ds n ≡ Some d → IsNoView ds maps state c r d → numbered c.objects n ≡ Some (object_of d) → HasRows c.objects (Some (object_of d))
          → FindsIn db c.view (Some (object_of d)) n interval rows → size ≡ min (rows_size c.objects n rows) (2 ^ 64 - 1)
      by_kind (Table t) e plain o has found =
          of_rows are interval rows size t (table t) o refl (ap (λ x. option_or (as_table x) (option_and_then (λ i. table_of ds i.table) (as_index x))) e) told db schema same found
      by_kind (Index i) e plain o has found =
          of_rows are interval rows size has.0 (index i) o (ap kinds_of_table has.1)
          (ap (λ x. option_or (as_table x) (option_and_then (λ j. table_of ds j.table) (as_index x))) e ∙ of_table ds i.table has.0 (ap (λ objects. numbered objects i.table) r.held.objects ∙ has.1))
          told db schema same found
      by_kind (View v) e plain o has found = absurd (plain v refl)

-- contents that the store has define the same
pub has_also : (ds : Definitions) (maps : ℕ → Map) (state : State) (one other : Contents) (n : ℕ) → IsHeld ds maps state one → IsHeld ds maps state other
    → HasRows one.objects (numbered one.objects n) → HasRows other.objects (numbered other.objects n)
has_also ds maps state one other n a b has = subst (λ (o : Schema). HasRows o (numbered o n)) (sym a.objects ∙ b.objects) has
