-- What the look-ups of a change can read, and which rows they find.
use Rattle.std.specs.Prelude.{◌≡◌, ◌≢◌, ℕ, ◌==◌, true, false, cond, List, [], ◌∷◌, ◌++◌, Option, Some, None, IfSome}
use Rattle.std.specs.List.{AllByRecursion, flat_map}
use Rattle.std.specs.Option.{option_to_list}
use mathlib.Core.Path.{refl, sym, ap, subst, ◌∙◌}
use Rattle.std.proofs.Common.{eq-eqb}
use Rattle.std.proofs.lemmas.Bool.{ne_eqb}
use Rattle.std.specs.FinMap.{get}
use Rattle.iv_types.specs.declared.catalog.Second.{Second}
use Rattle.iv_types.specs.declared.lock.Change.{Change}
use Rattle.iv_types.specs.declared.lock.LockMode.TheVariants.{Share}
use Rattle.iv_types.specs.declared.lock.Want.{Want}
use Rattle.iv_types.specs.Definitions.{Definitions, AreNumbered}
use Rattle.iv_types.specs.Encoding.{FitAll, key_bytes}
use Rattle.iv_types.specs.Intervals.{point}
use Rattle.iv_types.specs.Maps.{Map}
use Rattle.table_laws.specs.Place.{Place}
use Rattle.table_laws.proofs.Place.{place_cmp_total, place_cmp-IsAntisymmetric}
use Rattle.table_laws.proofs.Tables.{get-write_same}
use Rattle.table_laws.proofs.Stored.{by_session}
use Rattle.iv_meaning.specs.Schema.{Schema, Object, table, ViewTree, numbered, items_at, key_kinds, kinds_of_table}
use Rattle.iv_meaning.specs.Objects.{schema_of}
use Rattle.iv_meaning.specs.Database.{Row, Rows}
use Rattle.iv_meaning.specs.Sound.{IsRow}
use Rattle.query_laws.proofs.Each.{each_to}
use Rattle.table_store.specs.Stored.{table_of, Holds, CanRead}
use Rattle.table_store.proofs.Held.{of_table, of_index, read_by_table, read_by_index}
use Rattle.table_store.proofs.TableIndexes.{table_number}
use Rattle.txn_machine.specs.Deltas.{RowChange, rows_after, look_ups, look_up_first, look_up_second}
use Rattle.txn_machine.specs.ViewLaws.{AreSound, IsRight, IsJoin, IsJoined, primary, secondary}
use Rattle.txn_machine.specs.RowChanges.{row_change}
use Rattle.view_delta.specs.Owing.{RowsFit, Finds}
use Rattle.view_delta.specs.Parts.{FitOther, rows_read, looked_up}
use Rattle.view_delta.proofs.Fits.{other_is}
use Rattle.view_delta.proofs.LookUps.{found_rows, looked_is, stand, first_read}

-- ---- the rows of a change fit

row_fits : (objects : Schema) (rows : Rows) → AreSound objects rows → (q : Place) (row : Row) → get rows q ≡ Some row → FitAll (kinds_of_table (numbered objects q.0)) row
row_fits objects rows sound q row e =
    let r : IsRow objects q row = sound.rows q row e in
    subst (λ (o : Option Object). FitAll (kinds_of_table o) row) (sym r.table_is) r.fits

some_fits : (objects : Schema) (rows : Rows) → AreSound objects rows → (q : Place) (o : Option Row) → o ≡ get rows q → IfSome o (λ row. FitAll (kinds_of_table (numbered objects q.0)) row)
some_fits objects rows sound q None e = tt
some_fits objects rows sound q (Some row) e = row_fits objects rows sound q row (sym e)

pub found_fit : (ds : Definitions) (maps : ℕ → Map) (c : Change) (rows : Rows) → Finds ds maps c rows → RowsFit (schema_of ds) c
found_fit ds maps c rows f = record {
  before = some_fits (schema_of ds) rows f.right.sound (c.table, c.key) c.before f.right.told;
  after = some_fits (schema_of ds) (rows_after (row_change c) rows) f.right.after (c.table, c.key) c.after
      (sym (get-write_same place_cmp_total place_cmp-IsAntisymmetric rows (c.table, c.key) c.after));
}

-- ---- what is read can be read

module _ (ds : Definitions) (maps : ℕ → Map) (rows : Rows) (are : AreNumbered ds) (holds : Holds ds rows maps) (v : ViewTree) where
  abbrev CanBeRead : Want → Type 0
  CanBeRead w = CanRead ds maps w.index

  module _ (second : Second) (j : IsJoin (schema_of ds) v second) where
    second_reads : CanRead ds maps second.table
    second_reads = read_by_table ds rows maps are holds second.table j.other (of_table ds second.table j.other j.other_is)

    first_at : table_of ds v.first ≡ Some j.first
    first_at = of_table ds v.first j.first j.first_is

    first_number : j.first.number ≡ v.first
    first_number = table_number ds v.first j.first are first_at

    index_reads : CanRead ds maps second.index
    index_reads = elim j.begins [
      | primary more number_is primary_is ↦ read_by_table ds rows maps are holds second.index j.first (ap (table_of ds) (number_is ∙ first_number) ∙ first_at)
      | secondary i more index_is table_is columns_are ↦
          read_by_index ds rows maps are holds second.index i j.first (of_index ds second.index i index_is) (ap (table_of ds) (table_is ∙ first_number) ∙ first_at)
    ]

    one : (row : Row) → AllByRecursion CanBeRead (look_up_second (schema_of ds) second row)
    one row = subst (λ (o : Option Object). AllByRecursion CanBeRead (elim o as (λ (o : Option Object). List Want) [ Some (table t) ↦ record { index = second.table; interval = point (key_bytes (key_kinds t) (items_at row second.joined)); mode = Share } ∷ [] | _ ↦ [] ]))
        (sym j.other_is) (second_reads, tt)

    each : (rs : List Row) → AllByRecursion CanBeRead (flat_map (look_up_second (schema_of ds) second) rs)
    each [] = tt
    each (r ∷ rs) = both (look_up_second (schema_of ds) second r) (flat_map (look_up_second (schema_of ds) second) rs) (one r) (each rs)
      where
        both : (xs ys : List Want) → AllByRecursion CanBeRead xs → AllByRecursion CanBeRead ys → AllByRecursion CanBeRead (xs ++ ys)
        both [] ys h k = k
        both (x ∷ xs) ys h k = (h.0, both xs ys h.1 k)

    of_join : (c : RowChange) (b d : _) → AllByRecursion CanBeRead (cond b (flat_map (look_up_second (schema_of ds) second) (option_to_list c.before ++ option_to_list c.after)) (cond d (look_up_first (schema_of ds) second c.key.1) []))
    of_join c true d = each (option_to_list c.before ++ option_to_list c.after)
    of_join c false true = (index_reads, tt)
    of_join c false false = tt

  pub can_look_up : (c : RowChange) → IsJoined (schema_of ds) v → AllByRecursion CanBeRead (look_ups (schema_of ds) c v)
  can_look_up c joined = go v.second joined
    where
      go : (o : Option Second) → elim o as (λ (o : Option Second). Type 0) [ None ↦ Unit {0} | Some second ↦ IsJoin (schema_of ds) v second ]
          → AllByRecursion CanBeRead (elim o as (λ (o : Option Second). List Want) [ None ↦ [] | Some s ↦ cond (c.key.0 == v.first) (flat_map (look_up_second (schema_of ds) s) (option_to_list c.before ++ option_to_list c.after)) (cond (c.key.0 == s.table) (look_up_first (schema_of ds) s c.key.1) []) ])
      go None h = tt
      go (Some s) j = of_join s j c (c.key.0 == v.first) (c.key.0 == s.table)

-- ---- what is read fits

module _ (objects : Schema) (v : ViewTree) (rows : Rows) (c : RowChange) (right : IsRight objects rows c) where
  pub looked_fit : IsJoined objects v → FitOther objects v c.key.0 (looked_up objects rows c v)
  looked_fit joined = go v.second refl joined
    where
      by_none : v.second ≡ None → FitOther objects v c.key.0 (looked_up objects rows c v)
      by_none e = subst (λ w. FitOther objects v c.key.0 (looked_up objects rows c w)) (λ i. record v { second = sym e i }) tt

      neither : (s : Second) → v.second ≡ Some s → c.key.0 ≢ v.first → c.key.0 ≢ s.table → looked_up objects rows c v ≡ []
      neither s e f g =
          ap (λ (o : Option Second). looked_up objects rows c (record v { second = o })) e
          ∙ (ap (λ b. rows_found (cond b (flat_map (look_up_second objects s) (option_to_list c.before ++ option_to_list c.after)) (cond (c.key.0 == s.table) (look_up_first objects s c.key.1) []))) (ne_eqb c.key.0 v.first f)
          ∙ ap (λ b. rows_found (cond b (look_up_first objects s c.key.1) [])) (ne_eqb c.key.0 s.table g))
        where
          rows_found : List Want → List Row
          rows_found wants = rows_read objects rows wants

      go : (o : Option Second) → v.second ≡ o → elim o as (λ (o : Option Second). Type 0) [ None ↦ Unit {0} | Some second ↦ IsJoin objects v second ] → FitOther objects v c.key.0 (looked_up objects rows c v)
      go None e h = by_none e
      go (Some s) e j =
          by_session c.key.0 v.first
          (λ f. subst (λ n. AllByRecursion (FitAll (kinds_of_table (numbered objects n))) (looked_up objects rows c v))
          (sym (other_is objects v s e c.key.0 ∙ ap (λ b. cond b s.table v.first) (eq-eqb c.key.0 v.first f)))
          (subst (AllByRecursion (FitAll (kinds_of_table (numbered objects s.table)))) (sym (looked_is objects v s e j rows c right f))
          (each_to (λ r. (q : Place) × (get rows q ≡ Some r) × (q.0 ≡ s.table)) (FitAll (kinds_of_table (numbered objects s.table)))
          (λ r h. subst (λ n. FitAll (kinds_of_table (numbered objects n)) r) h.2 (row_fits objects rows right.sound h.0 r h.1))
          (found_rows objects v s e j rows c right f) (stand objects v s e j rows c right f (option_to_list c.before ++ option_to_list c.after)))))
          (λ d. subst (λ n. AllByRecursion (FitAll (kinds_of_table (numbered objects n))) (looked_up objects rows c v))
          (sym (other_is objects v s e c.key.0 ∙ ap (λ b. cond b s.table v.first) (ne_eqb c.key.0 v.first d)))
          (by_session c.key.0 s.table
          (λ g. subst (λ (o : Option Object). AllByRecursion (FitAll (kinds_of_table o)) (looked_up objects rows c v)) (sym j.first_is) (first_read objects v s e j rows c right g))
          (λ g. subst (AllByRecursion (FitAll (kinds_of_table (numbered objects v.first)))) (sym (neither s e d g)) tt)))
