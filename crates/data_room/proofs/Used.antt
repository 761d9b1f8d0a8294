-- What all entries of the maps count of a store that has some contents.
use Rattle.std.specs.Prelude.{◌≡◌, ◌≢◌, ℕ, zero, suc, ◌+◌, ◌<◌, ◌≤◌, ℤ, cond, List, [], ◌∷◌, map, length, Option, Some, None, refl}
use Rattle.std.specs.List.{sum}
use Rattle.std.specs.Option.{option_map, option_map_or}
use Rattle.std.specs.Ordering.{is_eq}
use Rattle.std.specs.FinMap.{FinMap, get, remove, entries, empty, find, get-entries, get-empty, same_map}
use Rattle.std.specs.Cmp.{tied_itself}
use Rattle.std.specs.Cmp.Lexicographic.{nat_list_cmp_total}
use mathlib.Core.Path.{sym, ap, subst, ◌∙◌}
use mathlib.Core.Logic.{inl, inr}
use Rattle.std.proofs.Common.{arith}
use Rattle.std.proofs.lemmas.Bool.{cases_eq}
use Rattle.iv_types.specs.Definitions.{Definitions, AreNumbered, number_of, numbered as defined_at}
use Rattle.iv_types.specs.Maps.{Map, map_size, used, with_map, last_index}
use Rattle.iv_types.specs.declared.catalog.Definition.{Definition}
use Rattle.iv_types.specs.declared.catalog.Definition.TheVariants.{Table, Index, View}
use Rattle.iv_types.specs.declared.catalog.IndexDef.{IndexDef}
use Rattle.iv_types.specs.declared.catalog.TableDef.{TableDef}
use Rattle.iv_types.specs.declared.lock.IndexEntry.{IndexEntry}
use Rattle.iv_types.proofs.MapSizes.{used_remove, used_with, size_nothing, with_here, with_other, get_removed}
use Rattle.table_laws.specs.Place.{Place, place_cmp}
use Rattle.table_laws.specs.Table.{write}
use Rattle.table_laws.proofs.Place.{place_cmp_total}
use Rattle.table_laws.proofs.Tables.{get-write_other}
use Rattle.iv_meaning.specs.Database.{Row, Rows}
use Rattle.iv_meaning.specs.Objects.{schema_of, object_of}
use Rattle.iv_meaning.specs.Schema.{Schema, Object, table, index, view, numbered, indexes_of}
use Rattle.iv_meaning.specs.Sound.{IsRow, IsObject}
use Rattle.query_laws.specs.Limited.{IsLimited}
use Rattle.row_codec.proofs.Formats.{one_spelling}
use Rattle.row_codec.proofs.RowFormat.{row_format}
use Rattle.row_codec.proofs.KeyFormat.{key_format}
use Rattle.table_store.specs.Stored.{stored, table_of, index_of, IsIndexOf, HoldsTable, HoldsIndex, HoldsAll, Holds}
use Rattle.table_store.specs.Changes.{entry_in, own_entries, sizes, Exchanges, IsThere}
use Rattle.table_store.specs.Entries.{AreApart, AreThere, TakesOut}
use Rattle.table_store.proofs.Changing.{exchanged_sets, exchanged_rows}
use Rattle.table_store.proofs.Counting.{size_of_empty}
use Rattle.table_store.proofs.Exchanges.{AreHeld, there_still, take_none, take_step, put_none}
use Rattle.table_store.proofs.Held.{alike, of_table, of_index}
use Rattle.table_store.proofs.Maps.{by_bytes, bytes_same}
use Rattle.table_store.proofs.Moves.{are_there, own_apart}
use Rattle.table_store.proofs.Rooms.{sizes_cons}
use Rattle.table_store.proofs.TableIndexes.{each_flat, indexes_are}
use Rattle.txn_machine.specs.Log.{row_entries, view_entry, view_entries}
use Rattle.txn_machine.specs.Stored.{ViewRows, AreStored}
use Rattle.txn_machine.specs.ViewLaws.{AreSound}
use Rattle.txn_machine.proofs.Agreeing.{by_place, written_at, written_other}
use Rattle.txn_machine.proofs.LogSums.{sum_first}
use Rattle.txn_log.specs.Room.{rows_bytes}
use Rattle.txn_log.proofs.Rooming.{wrote_total}
use Rattle.ghost_rows.specs.Numbers.{numbers_bytes}
use Rattle.ghost_rows.proofs.NumberSteps.{length_numbers}
use Rattle.data_room.specs.Used.{UsedLaw}
use Rattle.data_room.proofs.Counted.{own_sizes}
use Rattle.data_room.proofs.Entries.{few_numbers}

-- ---- how many entries a map has

abbrev many : {X : Type 0} → FinMap place_cmp X → ℕ
many m = sum (map (λ e. 1) (entries m))

no_more : {X : Type 0} (es : List (Place × X)) → sum (map (λ e. 1) es) ≡ 0 → es ≡ []
no_more [] h = refl
no_more (e ∷ es) h = absurd (let one = sum_first 1 (map (λ e. 1) es) in omega (arith, h, one))

-- a map without entries
none_in : {X : Type 0} (m : FinMap place_cmp X) → entries m ≡ [] → (q : Place) → get m q ≡ None
none_in m e q = get-entries m q ∙ ap (find place_cmp q) e

-- the first entry of one that has some
first_in : {X : Type 0} (m : FinMap place_cmp X) (p : Place) (x : X) (es : List (Place × X)) → entries m ≡ (p, x) ∷ es → get m p ≡ Some x
first_in m p x es e = get-entries m p ∙ (ap (find place_cmp p) e ∙ ap (λ r. cond (is_eq r) (Some x) (find place_cmp p es)) (tied_itself place_cmp_total p))

-- it has one fewer without that one
fewer : {X : Type 0} (m : FinMap place_cmp X) (p : Place) (x : X) → get m p ≡ Some x → many (write m p None) + 1 ≡ many m
fewer {X} m p x e =
    let moved = wrote_total (λ (q : Place) (y : X). 1) m p None in
    let one : ◌≡◌ {A = ℕ} (option_map_or (λ (y : X). 1) (get m p) 0) 1 = ap (λ (o : Option X). option_map_or (λ y. 1) o 0) e in
    omega (arith, moved, one)

-- what is left without one entry was there
left_there : {X : Type 0} (m : FinMap place_cmp X) (p q : Place) (x : X) → get (write m p None) q ≡ Some x → get m q ≡ Some x
left_there m p q x e = by_place q p
    (λ same. absurd (let bad : None ≡ Some x = sym (written_at m p None q same) ∙ e in cc))
    (λ other. sym (written_other m p None q other) ∙ e)

-- maps of which none has an entry
pub none_used : (maps : ℕ → Map) → ((p : Place) → get (maps p.0) p.1 ≡ None) → used maps ≡ 0
none_used maps none = size_nothing maps (suc last_index) (λ i. ap map_size (is_empty i) ∙ size_of_empty)
  where
    is_empty : (i : ℕ) → maps i ≡ empty
    is_empty i = same_map nat_list_cmp_total bytes_same (maps i) empty (λ k. none (i, k) ∙ sym (get-empty by_bytes k))

-- ---- view rows alone

abbrev Shows : (ℕ → Map) → ViewRows → Type 0
Shows maps rows = (p : Place) → get (maps p.0) p.1 ≡ option_map numbers_bytes (get rows p)

-- one row less
shows_less : (maps : ℕ → Map) (rows : ViewRows) (p : Place) → Shows maps rows → Shows (with_map maps p.0 (remove (maps p.0) p.1)) (write rows p None)
shows_less maps rows p shows q = by_place q p
    (λ e.
    ap (λ (x : Place). get (with_map maps p.0 (remove (maps p.0) p.1) x.0) x.1) e
    ∙ (ap (λ (m : Map). get m p.1) (with_here maps p.0 (remove (maps p.0) p.1)) ∙ (get_removed (maps p.0) p.1 ∙ ap (option_map numbers_bytes) (sym (written_at rows p None q e)))))
    (λ n. there n ∙ (shows q ∙ ap (option_map numbers_bytes) (sym (written_other rows p None q n))))
  where
    there : q ≢ p → get (with_map maps p.0 (remove (maps p.0) p.1) q.0) q.1 ≡ get (maps q.0) q.1
    there n = elim (cases_eq q.0 p.0) [
      | inl z ↦
          let other : q.1 ≢ p.1 = λ w. n (λ x. (z x, w x)) in
          ap (λ (k : ℕ). get (with_map maps p.0 (remove (maps p.0) p.1) k) q.1) z
          ∙ (ap (λ (m : Map). get m q.1) (with_here maps p.0 (remove (maps p.0) p.1))
          ∙ (get-write_other nat_list_cmp_total bytes_same (maps p.0) p.1 None q.1 other ∙ ap (λ (k : ℕ). get (maps k) q.1) (sym z)))
      | inr z ↦ ap (λ (m : Map). get m q.1) (with_other maps p.0 q.0 (remove (maps p.0) p.1) z)
    ]

-- with its first row, where the others count so
first_out : (n : ℕ) (rows : ViewRows) (maps : ℕ → Map) → many rows ≡ suc n → ((p : Place) (ns : List ℤ) → get rows p ≡ Some ns → p.0 ≤ last_index) → Shows maps rows
    → ((p : Place) (ns : List ℤ) → get rows p ≡ Some ns → used (with_map maps p.0 (remove (maps p.0) p.1)) ≡ view_entries (write rows p None)) → used maps ≡ view_entries rows
first_out n rows maps few within shows rest = by (entries rows) refl
  where
    by : (es : List (Place × List ℤ)) → entries rows ≡ es → used maps ≡ view_entries rows
    by [] e = absurd (let none : many rows ≡ 0 = ap (λ (es : List (Place × List ℤ)). sum (map (λ e. 1) es)) e in omega (arith, few, none))
    by ((p, ns) ∷ es) e =
        let there : get rows p ≡ Some ns = first_in rows p ns es e in
        let entry : get (maps p.0) p.1 ≡ Some (numbers_bytes ns) = shows p ∙ ap (option_map numbers_bytes) there in
        let others = rest p ns there in
        let out = used_remove maps p.0 p.1 (numbers_bytes ns) (within p ns there) entry in
        let moved = wrote_total (λ (q : Place) (xs : List ℤ). view_entry q (length xs)) rows p None in
        let before = ap (λ (o : Option (List ℤ)). option_map_or (λ xs. view_entry p (length xs)) o 0) there in
        let long = length_numbers ns in
        omega (arith, others, out, moved, before, long)

views_used : (n : ℕ) (rows : ViewRows) (maps : ℕ → Map) → many rows ≡ n → ((p : Place) (ns : List ℤ) → get rows p ≡ Some ns → p.0 ≤ last_index) → Shows maps rows → used maps ≡ view_entries rows
views_used zero rows maps few within shows =
    let none : entries rows ≡ [] = no_more (entries rows) few in
    let nothing = none_used maps (λ p. shows p ∙ ap (option_map numbers_bytes) (none_in rows none p)) in
    nothing ∙ sym (ap (λ (es : List (Place × List ℤ)). sum (map (λ e. view_entry e.0 (length e.1)) es)) none)
views_used (suc n) rows maps few within shows =
    first_out n rows maps few within shows (λ p ns there.
    views_used n (write rows p None) (with_map maps p.0 (remove (maps p.0) p.1)) (let less = fewer rows p ns there in omega (arith, less, few)) (λ q ms h. within q ms (left_there rows p q ms h)) (shows_less maps rows p shows))

-- ---- entries taken out one after another

pub taken_out : List IndexEntry → (ℕ → Map) → ℕ → Map
taken_out [] maps = maps
taken_out (e ∷ es) maps = taken_out es (with_map maps e.index (remove (maps e.index) e.key))

takes : (es : List IndexEntry) (maps : ℕ → Map) → AreApart es → AreThere maps es → AreHeld es → TakesOut es maps (taken_out es maps) × (used (taken_out es maps) + sizes es ≡ used maps)
unfolding taken_out
takes [] maps apart there held = (take_none maps, omega arith)
takes (e ∷ es) maps apart there held =
    let mid : ℕ → Map = with_map maps e.index (remove (maps e.index) e.key) in
    let others : (i : ℕ) → i ≢ e.index → mid i ≡ maps i = λ i ne. with_other maps e.index i (remove (maps e.index) e.key) ne in
    let rest = takes es mid apart.1 (there_still maps mid e.index es others apart.0 there.1) held.1 in
    let out = used_remove maps e.index e.key e.value held.0 there.0 in
    let all = sizes_cons e es in
    let left = rest.1 in
    (take_step e es maps mid (taken_out es mid) apart (with_here maps e.index (remove (maps e.index) e.key)) others rest.0, omega (arith, out, all, left))

-- ---- rows, with the view rows

-- no table and no index has this number
pub record IsNoTable (objects : Schema) (n : ℕ) : Type 0 where
  no_table : (t : TableDef) → numbered objects n ≡ Some (table t) → ⊥
  no_index : (i : IndexDef) → numbered objects n ≡ Some (index i) → ⊥

module _ (ds : Definitions) (are : AreNumbered ds) (limited : IsLimited (schema_of ds)) (indexes : (n : ℕ) (i : IndexDef) → numbered (schema_of ds) n ≡ Some (index i) → IsObject (schema_of ds) n (index i))
    (rows_of_views : ViewRows) (shaped : AreStored (schema_of ds) rows_of_views) where
  abbrev objects : Schema
  objects = schema_of ds

  -- under other numbers the maps have the view rows
  abbrev Others : (ℕ → Map) → Type 0
  Others maps = (p : Place) → IsNoTable objects p.0 → get (maps p.0) p.1 ≡ option_map numbers_bytes (get rows_of_views p)

  its_number : (n : ℕ) (t : TableDef) → numbered objects n ≡ Some (table t) → t.number ≡ n
  its_number n t e = Rattle.table_store.proofs.TableIndexes.table_number ds n t are (of_table ds n t e)

  no_view_row : (p : Place) (o : Object) → numbered objects p.0 ≡ Some o → ((v : _) → o ≡ view v → ⊥) → get rows_of_views p ≡ None
  no_view_row p o is other = by (get rows_of_views p) refl
    where
      by : (x : Option (List ℤ)) → get rows_of_views p ≡ x → x ≡ None
      by None e = refl
      by (Some ns) e = let r = shaped p ns e in absurd (let both : Some o ≡ Some (view r.of) = sym is ∙ r.view_is in other r.of cc)

  index_in : (t : TableDef) (i : IndexDef) → IsIndexOf ds t i → numbered objects i.number ≡ Some (index i)
  index_in t i of = Rattle.data_store.proofs.Finding.object_at ds i.number (Index i) (is_index (defined_at ds i.number) i of.is)
    where
      is_index : (d : Option Definition) (i : IndexDef) → Rattle.table_store.specs.Stored.as_index d ≡ Some i → d ≡ Some (Index i)
      is_index None i e = absurd (cc)
      is_index (Some (Table t)) i e = absurd (cc)
      is_index (Some (View v)) i e = absurd (cc)
      is_index (Some (Index j)) i e = ap (λ (o : Option IndexDef). elim o [ Some k ↦ Some (Index k) | None ↦ None ]) e

  -- without rows only view rows have entries
  no_rows : (rows : Rows) (maps : ℕ → Map) → ((q : Place) → get rows q ≡ None) → Holds ds rows maps → Others maps → Shows maps rows_of_views
  no_rows rows maps none holds others p = by (numbered objects p.0) refl
    where
      by : (o : Option Object) → numbered objects p.0 ≡ o → get (maps p.0) p.1 ≡ option_map numbers_bytes (get rows_of_views p)
      by None e = others p (record { no_table = λ t h. absurd (let bad : None ≡ Some (table t) = sym e ∙ h in cc); no_index = λ i h. absurd (let bad : None ≡ Some (index i) = sym e ∙ h in cc) })
      by (Some (view v)) e = others p (record { no_table = λ t h. absurd (let bad : Some (view v) ≡ Some (table t) = sym e ∙ h in cc); no_index = λ i h. absurd (let bad : Some (view v) ≡ Some (index i) = sym e ∙ h in cc) })
      by (Some (table t)) e =
          let n : t.number ≡ p.0 = its_number p.0 t e in
          let h : HoldsAll ds rows maps t = holds t (ap (table_of ds) n ∙ of_table ds p.0 t e) in
          ap (λ (k : ℕ). get (maps k) p.1) (sym n)
          ∙ (h.primary.same p.1 ∙ (ap (stored t) (none (t.number, p.1)) ∙ sym (ap (option_map numbers_bytes) (no_view_row p (table t) e (λ v bad. cc)))))
      by (Some (index i)) e =
          let o = indexes p.0 i e in
          let t : TableDef = o.1.of in
          let n : t.number ≡ i.table = its_number i.table t o.1.table_is in
          let h : HoldsAll ds rows maps t = holds t (ap (table_of ds) n ∙ of_table ds i.table t o.1.table_is) in
          let mine = h.others i (record { is = ap (index_of ds) o.0 ∙ of_index ds p.0 i e; of_table = sym n }) in
          ap (λ (k : ℕ). get (maps k) p.1) (sym o.0)
          ∙ (nothing (get (maps i.number) p.1) refl (λ v is. let row = mine.only p.1 v is in let bad : None ≡ Some row.row = sym (none (t.number, row.key)) ∙ row.is_there in absurd (cc))
          ∙ sym (ap (option_map numbers_bytes) (no_view_row p (index i) e (λ v bad. cc))))
        where
          nothing : (x : Option (List ℕ)) → get (maps i.number) p.1 ≡ x → ((v : List ℕ) → get (maps i.number) p.1 ≡ Some v → ⊥) → x ≡ None
          nothing None is other = refl
          nothing (Some v) is other = absurd (other v is)

  -- the maps without the entries of one row
  module _ (rows : Rows) (maps : ℕ → Map) (p : Place) (row : Row) (there : get rows p ≡ Some row) (r : IsRow objects p row) (holds : Holds ds rows maps) (others : Others maps) where
    abbrev t : TableDef
    t = r.of

    same_number : t.number ≡ p.0
    same_number = its_number p.0 t r.table_is

    found : table_of ds p.0 ≡ Some t
    found = of_table ds p.0 t r.table_is

    is_table : table_of ds t.number ≡ Some t
    is_table = ap (table_of ds) same_number ∙ found

    abbrev own : List IndexEntry
    own = own_entries ds t p.1 (Some row) None

    row_there : get rows (t.number, p.1) ≡ Some row
    row_there = ap (λ (n : ℕ). get rows (n, p.1)) same_number ∙ there

    held : AreHeld own
    held = (
      (let n = same_number in let few : p.0 ≤ last_index = few_numbers objects p.0 (table t) limited r.table_is in omega (arith, n, few)),
      each_flat (IsIndexOf ds t) (λ (e : IndexEntry). e.index ≤ last_index) (entry_in t row None) (λ i of. (few_numbers objects i.number (index i) limited (index_in t i of), tt)) (indexes_of objects t.number) (indexes_are ds t are).all,
    )

    abbrev pub less : ℕ → Map
    less = taken_out own maps

    out : TakesOut own maps less × (used less + sizes own ≡ used maps)
    out = takes own maps (own_apart ds t are is_table p.1 (Some row) None) (are_there ds t are is_table p.1 rows maps (holds t is_table) (Some row) None row_there) held

    is_there : IsThere ds p.1 (Some row) maps t
    is_there = record { rows = rows; held = holds t is_table; is = row_there }

    moved : Exchanges own [] maps less
    moved = record { between = less; out = out.0; put = put_none less }

    less_holds : Holds ds (write rows p None) less
    less_holds = exchanged_rows ds p.0 t are found (one_spelling key_format) p.1 (Some row) None maps is_there tt less moved (one_spelling row_format) rows holds

    less_others : Others less
    less_others q other =
        let set = exchanged_sets ds p.0 t are found (one_spelling key_format) p.1 (Some row) None maps is_there tt less moved in
        let same : less q.0 ≡ maps q.0 = set.rest q.0
        (λ e. other.no_table t (ap (numbered objects) (e ∙ same_number) ∙ r.table_is))
        (λ i of e. other.no_index i (ap (numbered objects) e ∙ index_in t i of)) in
        ap (λ (m : Map). get m q.1) same ∙ others q other

    less_used : used less + row_entries objects p row ≡ used maps
    less_used = let all = out.1 in let size : sizes own ≡ row_entries objects (p.0, p.1) row = own_sizes ds t p.0 same_number r.table_is p.1 row in omega (arith, all, size)

  -- with the first row, where the others count so
  row_out : (n : ℕ) (rows : Rows) (maps : ℕ → Map) → many rows ≡ suc n → (fit : (p : Place) (row : Row) → get rows p ≡ Some row → IsRow objects p row) → (holds : Holds ds rows maps) → (others : Others maps)
      → ((p : Place) (row : Row) → (there : get rows p ≡ Some row) → used (less rows maps p row there (fit p row there) holds others) ≡ rows_bytes objects (write rows p None) + view_entries rows_of_views)
      → used maps ≡ rows_bytes objects rows + view_entries rows_of_views
  row_out n rows maps few fit holds others rest = by (entries rows) refl
    where
      by : (es : List (Place × Row)) → entries rows ≡ es → used maps ≡ rows_bytes objects rows + view_entries rows_of_views
      by [] e = absurd (let none : many rows ≡ 0 = ap (λ (es : List (Place × Row)). sum (map (λ e. 1) es)) e in omega (arith, few, none))
      by ((p, row) ∷ es) e =
          let there : get rows p ≡ Some row = first_in rows p row es e in
          let r : IsRow objects p row = fit p row there in
          let all = rest p row there in
          let out = less_used rows maps p row there r holds others in
          let moved = wrote_total (row_entries objects) rows p None in
          let before = ap (λ (o : Option Row). option_map_or (row_entries objects p) o 0) there in
          omega (arith, all, out, moved, before)

  rows_used : (n : ℕ) (rows : Rows) (maps : ℕ → Map) → many rows ≡ n → ((p : Place) (row : Row) → get rows p ≡ Some row → IsRow objects p row) → Holds ds rows maps → Others maps
      → used maps ≡ rows_bytes objects rows + view_entries rows_of_views
  rows_used zero rows maps few fit holds others =
      let none : entries rows ≡ [] = no_more (entries rows) few in
      let all = views_used (many rows_of_views) rows_of_views maps refl (λ p ns e. let r = shaped p ns e in few_numbers objects p.0 (view r.of) limited r.view_is) (no_rows rows maps (none_in rows none) holds others) in
      let nothing : rows_bytes objects rows ≡ 0 = ap (λ (es : List (Place × Row)). sum (map (λ e. row_entries objects e.0 e.1) es)) none in
      omega (arith, all, nothing)
  rows_used (suc n) rows maps few fit holds others =
      row_out n rows maps few fit holds others (λ p row there.
      let r : IsRow objects p row = fit p row there in
      rows_used n (write rows p None) (less rows maps p row there r holds others) (let one = fewer rows p row there in omega (arith, one, few)) (λ q x h. fit q x (left_there rows p q x h))
      (less_holds rows maps p row there r holds others) (less_others rows maps p row there r holds others))

-- ---- all of it

are_numbered : (ds : Definitions) → ((n : ℕ) (o : Object) → numbered (schema_of ds) n ≡ Some o → IsObject (schema_of ds) n o) → AreNumbered ds
are_numbered ds objects_are n d e = by d (objects_are n (object_of d) (alike ds n ∙ ap (option_map object_of) e))
  where
    by : (d : Definition) → IsObject (schema_of ds) n (object_of d) → number_of d ≡ n
    by (Table t) h = h.0
    by (Index i) h = h.0
    by (View v) h = h.0

-- without the entries of index 0
module _ (ds : Definitions) (maps : ℕ → Map) where
  abbrev apart : ℕ → Map
  apart = with_map maps 0 empty

  apart_is : (n : ℕ) → n ≢ 0 → apart n ≡ maps n
  apart_is n other = with_other maps 0 n empty other

  a_table : (t : TableDef) → table_of ds t.number ≡ Some t → t.number ≢ 0
  a_table t is zero_is = let bad : None ≡ Some t = sym (ap (table_of ds) zero_is) ∙ is in absurd (cc)

  an_index : (i : IndexDef) → index_of ds i.number ≡ Some i → i.number ≢ 0
  an_index i is zero_is = let bad : None ≡ Some i = sym (ap (index_of ds) zero_is) ∙ is in absurd (cc)

  -- the rows are in the others
  apart_holds : (rows : Rows) → Holds ds rows maps → Holds ds rows apart
  apart_holds rows holds t is =
      let h : HoldsAll ds rows maps t = holds t is in
      record {
        primary = subst (HoldsTable rows t) (sym (apart_is t.number (a_table t is))) h.primary;
        others = λ i of. subst (HoldsIndex rows t i) (sym (apart_is i.number (an_index i of.is))) (h.others i of);
      }

  -- and index 0 counts beside them
  apart_used : used apart + map_size (maps 0) ≡ used maps
  apart_used = let moved = used_with maps 0 empty (omega arith) in let none = size_of_empty in omega (arith, moved, none)

pub used_is : UsedLaw
used_is ds maps state c h sound shaped limited =
    let objects_are : schema_of ds ≡ c.objects = h.objects in
    let sound_here : AreSound (schema_of ds) c.rows = subst (λ (o : Schema). AreSound o c.rows) (sym objects_are) sound in
    let shaped_here : AreStored (schema_of ds) c.view = subst (λ (o : Schema). AreStored o c.view) (sym objects_are) shaped in
    let all : used (apart ds maps) ≡ rows_bytes (schema_of ds) c.rows + view_entries c.view =
    rows_used ds (are_numbered ds sound_here.objects) (subst IsLimited (sym objects_are) limited) (λ n i e. sound_here.objects n (index i) e) c.view shaped_here
    (many c.rows) c.rows (apart ds maps) refl sound_here.rows (apart_holds ds maps c.rows h.tables) (λ p other. by shaped p (numbered c.objects p.0) refl
    (λ t e. other.no_table t (ap (λ (o : Schema). numbered o p.0) objects_are ∙ e)) (λ i e. other.no_index i (ap (λ (o : Schema). numbered o p.0) objects_are ∙ e))) in
    let same : rows_bytes (schema_of ds) c.rows ≡ rows_bytes c.objects c.rows = ap (λ (o : Schema). rows_bytes o c.rows) objects_are in
    let beside = apart_used ds maps in
    omega (arith, all, same, beside)
  where
    by : AreStored c.objects c.view → (p : Place) (o : Option Object) → numbered c.objects p.0 ≡ o → ((t : TableDef) → numbered c.objects p.0 ≡ Some (table t) → ⊥) → ((i : IndexDef) → numbered c.objects p.0 ≡ Some (index i) → ⊥)
        → get (apart ds maps p.0) p.1 ≡ option_map numbers_bytes (get c.view p)
    by shaped p None e no_table no_index = ap (λ (m : Map). get m p.1) bare ∙ (get-empty by_bytes p.1 ∙ sym (ap (option_map numbers_bytes) (none_here (get c.view p) refl)))
      where
        bare : apart ds maps p.0 ≡ empty
        bare = elim (cases_eq p.0 0) [
          | inl zero_is ↦ ap (apart ds maps) zero_is ∙ with_here maps 0 empty
          | inr other ↦ apart_is ds maps p.0 other ∙ h.unused p.0 other e
        ]

        none_here : (x : Option (List ℤ)) → get c.view p ≡ x → x ≡ None
        none_here None is = refl
        none_here (Some ns) is = let r = shaped p ns is in absurd (let bad : None ≡ Some (view r.of) = sym e ∙ r.view_is in cc)
    by shaped p (Some (view v)) e no_table no_index =
        ap (λ (m : Map). get m p.1) (apart_is ds maps p.0 (λ zero_is. let bad : None ≡ Some (view v) = sym (ap (numbered c.objects) zero_is) ∙ e in absurd (cc))) ∙ h.views p.0 v e p.1
    by shaped p (Some (table t)) e no_table no_index = absurd (no_table t e)
    by shaped p (Some (index i)) e no_table no_index = absurd (no_index i e)
