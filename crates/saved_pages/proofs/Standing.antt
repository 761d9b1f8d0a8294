-- The entries of the saved indexes stand for the rows, the totals and the definitions of what a checkpoint saved.
use Rattle.std.proofs.Common.{◌≡◌, inl, inr, ◌⊎◌, ℕ, zero, suc, ◌+◌, ◌≤◌, ℤ, Bool, true, false, List, [], ◌∷◌, ◌++◌, map, length, get_or, Option, Some, None, refl, sym, ap, ◌∙◌, arith}
use Rattle.std.specs.List.{Contains}
use Rattle.std.specs.Option.{option_map}
use Rattle.std.specs.FinMap.{get}
use Rattle.std.proofs.lemmas.Bool.{cases_lt, false≢true}
use Rattle.std.proofs.lemmas.List.{get_or_past, length-map}
use Rattle.iv_types.specs.declared.catalog.TableDef.{TableDef}
use Rattle.iv_types.specs.declared.catalog.ViewDef.{ViewDef}
use Rattle.iv_types.specs.declared.catalog.Definition.{Definition}
use Rattle.iv_types.specs.declared.catalog.Definition.TheVariants.{Table, Index, View}
use Rattle.iv_types.specs.declared.value.Kind.TheVariants.{Huge}
use Rattle.iv_types.specs.declared.value.Value.TheVariants.{Number}
use Rattle.iv_types.specs.Definitions as catalog
use Rattle.iv_types.specs.Encoding.{kinds_of, value_bytes, row_bytes}
use Rattle.iv_types.specs.Maps.{Map, last_index}
use Rattle.iv_meaning.specs.Schema as schema
use Rattle.iv_meaning.specs.Schema.{Schema, Object, ViewTree, numbered, kinds_of_table}
use Rattle.iv_meaning.specs.Objects.{object_of, view_tree}
use Rattle.iv_meaning.specs.Sound.{IsRow}
use Rattle.table_store.specs.Stored.{as_table, table_of, HoldsTable}
use Rattle.table_store.specs.Stored as table
use Rattle.table_store.proofs.Held.{alike, of_table}
use Rattle.txn_machine.specs.Stored.{IsStoredRow}
use Rattle.txn_log.specs.Replay.{Pages}
use Rattle.txn_log.specs.Stored.{PageEntry, total_bytes, in_parts, IsRowEntry, IsTotalEntry, IsPartEntry, StandFor}
use Rattle.ghost_rows.specs.Numbers.{numbers_bytes}
use Rattle.definition_parts.proofs.Standing.{parts_stand}
use Rattle.ordered_index.specs.Drawn.{HoldsJust}
use Rattle.log_disk.specs.Bears.{all_entries, AreStoredAs}
use Rattle.core_journal.specs.Records.{Saved}
use Rattle.log_journal.specs.Saved.{has_saved, is_saved}
use Rattle.record_worlds.specs.Pages.{HoldsPages}
use Rattle.saved_pages.proofs.Entries.{stands_there, among_all, all_leaves, all_once}
use Rattle.saved_pages.proofs.Few.{low_made}
use Rattle.saved_pages.proofs.Texts.{parts_define, parts_short}

-- ---- which indexes are saved

table_saved : (o : Option Definition) (t : TableDef) → option_map object_of o ≡ Some (schema.table t) → has_saved o ≡ true
table_saved None t is = absurd (cc)
table_saved (Some (Table u)) t is = refl
table_saved (Some (Index i)) t is = absurd (cc)
table_saved (Some (View v)) t is = absurd (cc)

view_saved : (o : Option Definition) (v : ViewTree) → option_map object_of o ≡ Some (schema.view v) → has_saved o ≡ true
view_saved None v is = absurd (cc)
view_saved (Some (Table t)) v is = absurd (cc)
view_saved (Some (Index i)) v is = absurd (cc)
view_saved (Some (View u)) v is = refl

-- it is that of a table or of a view
saved_one : (o : Option Definition) → has_saved o ≡ true → ((t : TableDef) × (o ≡ Some (Table t))) ⊎ ((v : ViewDef) × (o ≡ Some (View v)))
saved_one None is = absurd (false≢true is)
saved_one (Some (Table t)) is = inl (t, refl)
saved_one (Some (Index i)) is = absurd (false≢true is)
saved_one (Some (View v)) is = inr (v, refl)

number_saved : (ds : catalog.Definitions) (n : ℕ) → has_saved (catalog.numbered ds n) ≡ true → is_saved ds n ≡ true
number_saved ds zero is = refl
number_saved ds (suc n) is = is

-- no index above the last is marked
marked_low : (kept : List Bool) (index : ℕ) → length kept ≡ last_index + 1 → get_or kept index false ≡ true → index ≤ last_index
marked_low kept index many is = elim (cases_lt index (length kept)) [
  | inl lt ↦ omega (arith, many, lt)
  | inr past ↦ absurd (false≢true (sym (get_or_past kept index false past) ∙ is))
]

-- ---- what is stored of a value

of_map : {X Y : Type 0} (f : X → Y) (o : Option X) (y : Y) → option_map f o ≡ Some y → (x : X) × (o ≡ Some x) × (y ≡ f x)
of_map f None y is = absurd (cc)
of_map f (Some x) y is = (x, refl, cc)

-- the bytes of numbers, as entries and as stored rows have them
one_bytes : (ns : List ℤ) → total_bytes ns ≡ numbers_bytes ns
one_bytes [] = refl
one_bytes (n ∷ ns) = ap (λ (bs : List ℕ). value_bytes Huge (Number n) ++ bs) (one_bytes ns)

-- ---- the entries

module _ (saved : Saved) (p : Pages) (h : HoldsPages saved p) (kept : List Bool) (many : length kept ≡ last_index + 1)
    (marks : (index : ℕ) → index ≤ last_index → get_or kept index false ≡ is_saved saved.definitions index) (stored : List (Option (List ℕ))) (entries : HoldsJust kept saved.maps stored) where
  -- the object of a number, among the definitions and among the objects
  object_is : (n : ℕ) → option_map object_of (catalog.numbered saved.definitions n) ≡ numbered p.db.schema n
  object_is n = sym (alike saved.definitions n) ∙ ap (λ (os : Schema). numbered os n) h.objects

  marked : (n : ℕ) (o : Object) → numbered p.db.schema n ≡ Some o → has_saved (catalog.numbered saved.definitions n) ≡ true → get_or kept n false ≡ true
  marked n o there is = marks n (low_made h.texts p.db.schema h.create n o there) ∙ number_saved saved.definitions n is

  -- an entry of a saved index is in a page
  in_page : (e : PageEntry) → get_or kept e.0.0 false ≡ true → get (saved.maps e.0.0) e.0.1 ≡ Some e.1 → Contains (all_entries stored) e
  in_page e is got = let s = entries.held e.0.0 e.0.1 e.1 is got in among_all stored e.0.0 e.0.1 e.1 s.0 s.1 s.2

  row_in : (e : PageEntry) → IsRowEntry p e → Contains (all_entries stored) e
  row_in e r =
      let row : IsRow p.db.schema e.0 r.0 = h.proper.sound.rows e.0 r.0 r.1 in
      let number : row.of.number ≡ e.0.0 = (h.proper.sound.objects e.0.0 (schema.table row.of) row.table_is).0 in
      let is : table_of saved.definitions e.0.0 ≡ Some row.of = of_table saved.definitions e.0.0 row.of (ap (λ (os : Schema). numbered os e.0.0) h.objects ∙ row.table_is) in
      let holds : HoldsTable p.db.rows row.of (saved.maps row.of.number) = (h.tables row.of (ap (table_of saved.definitions) number ∙ is)).primary in
      let there : get p.db.rows (row.of.number, e.0.1) ≡ Some r.0 = ap (λ n. get p.db.rows (n, e.0.1)) number ∙ r.1 in
      let bytes : row_bytes (kinds_of row.of) r.0 ≡ e.1 = ap (λ (o : Option Object). row_bytes (kinds_of_table o) r.0) (sym row.table_is) ∙ sym r.2 in
      in_page e (marked e.0.0 (schema.table row.of) row.table_is (table_saved (catalog.numbered saved.definitions e.0.0) row.of (object_is e.0.0 ∙ row.table_is)))
      (ap (λ n. get (saved.maps n) e.0.1) (sym number) ∙ (holds.same e.0.1 ∙ (ap (table.stored row.of) there ∙ ap (λ (bs : List ℕ). Some bs) bytes)))

  total_in : (e : PageEntry) → IsTotalEntry p e → Contains (all_entries stored) e
  total_in e t =
      let total : IsStoredRow p.db.schema e.0 t.0 = h.proper.stored e.0 t.0 t.1 in
      in_page e (marked e.0.0 (schema.view total.of) total.view_is (view_saved (catalog.numbered saved.definitions e.0.0) total.of (object_is e.0.0 ∙ total.view_is)))
      (h.views e.0.0 total.of total.view_is e.0.1 ∙ (ap (option_map numbers_bytes) t.1 ∙ ap (λ (bs : List ℕ). Some bs) (sym (t.2 ∙ one_bytes t.0))))

  part_in : (e : PageEntry) → IsPartEntry (map in_parts h.texts) e → Contains (all_entries stored) e
  part_in e is =
      let here : IsPartEntry (map in_parts h.texts) ((0, e.0.1), e.1) = record { index = refl; before = is.before; parts = is.parts; parts_are = is.parts_are; part = is.part; value = is.value; key = is.key } in
      in_page e (ap (λ n. get_or kept n false) is.index ∙ marks 0 (omega arith))
      (ap (λ n. get (saved.maps n) e.0.1) is.index ∙ (ap (λ (m : Map). get m e.0.1) h.has_texts.are ∙ (parts_stand h.texts h.has_texts.short h.has_texts.few e.0.1 e.1).1 here))

  -- and a saved index has no other entries
  of_row : (n : ℕ) (key value : List ℕ) (t : TableDef) → catalog.numbered saved.definitions n ≡ Some (Table t) → get (saved.maps n) key ≡ Some value → IsRowEntry p ((n, key), value)
  of_row n key value t is got =
      let table_is : numbered p.db.schema n ≡ Some (schema.table t) = sym (object_is n) ∙ ap (option_map object_of) is in
      let number : t.number ≡ n = (h.proper.sound.objects n (schema.table t) table_is).0 in
      let holds : HoldsTable p.db.rows t (saved.maps t.number) = (h.tables t (ap (table_of saved.definitions) number ∙ ap as_table is)).primary in
      let bytes : table.stored t (get p.db.rows (n, key)) ≡ Some value =
      ap (λ m. table.stored t (get p.db.rows (m, key))) (sym number) ∙ (sym (holds.same key) ∙ (ap (λ m. get (saved.maps m) key) number ∙ got)) in
      let row = of_map (row_bytes (kinds_of t)) (get p.db.rows (n, key)) value bytes in
      (row.0, row.1, row.2 ∙ ap (λ (o : Option Object). row_bytes (kinds_of_table o) row.0) (sym table_is))

  of_total : (n : ℕ) (key value : List ℕ) (v : ViewDef) → catalog.numbered saved.definitions n ≡ Some (View v) → get (saved.maps n) key ≡ Some value → IsTotalEntry p ((n, key), value)
  of_total n key value v is got =
      let view_is : numbered p.db.schema n ≡ Some (schema.view (view_tree v)) = sym (object_is n) ∙ ap (option_map object_of) is in
      let total = of_map numbers_bytes (get p.view (n, key)) value (sym (h.views n (view_tree v) view_is key) ∙ got) in
      (total.0, total.1, total.2 ∙ sym (one_bytes total.0))

  of_saved : (n : ℕ) (key value : List ℕ) → is_saved saved.definitions n ≡ true → get (saved.maps n) key ≡ Some value
      → (IsRowEntry p ((n, key), value) ⊎ IsTotalEntry p ((n, key), value)) ⊎ IsPartEntry (map in_parts h.texts) ((n, key), value)
  of_saved zero key value is got = inr ((parts_stand h.texts h.has_texts.short h.has_texts.few key value).0 (ap (λ (m : Map). get m key) (sym h.has_texts.are) ∙ got))
  of_saved (suc n) key value is got = elim (saved_one (catalog.numbered saved.definitions (suc n)) is) [
    | inl t ↦ inl (inl (of_row (suc n) key value t.0 t.1 got))
    | inr v ↦ inl (inr (of_total (suc n) key value v.0 v.1 got))
  ]

  stand : StandFor (all_entries stored) (map in_parts h.texts) p
  stand e = (
    (λ c.
        let s = stands_there stored e c in
        let just = entries.just e.0.0 e.0.1 e.1 s.0 s.1 s.2 in
        of_saved e.0.0 e.0.1 e.1 (sym (marks e.0.0 (marked_low kept e.0.0 many just.0)) ∙ just.0) just.1),
    (λ is. elim is [
      | inl (inl row) ↦ row_in e row
      | inl (inr total) ↦ total_in e total
      | inr part ↦ part_in e part
    ]),
  )

  pub are_stored : AreStoredAs stored p
  are_stored = record {
    proper = h.proper;
    leaves = all_leaves stored entries.packed;
    apart = all_once stored entries.once;
    texts = map in_parts h.texts;
    few = let count = length-map h.texts in_parts in let few = h.has_texts.few in omega (arith, count, few);
    short = parts_short h.texts h.has_texts.short;
    define = parts_define h.texts p.db.schema h.create;
    stand = stand;
  }
