-- The shape of deltas: each is one combination of a view, added or taken away.
use Rattle.std.specs.Prelude.{◌≡◌, ◌⊎◌, ℕ, zero, suc, ◌+◌, cond, true, false, ◌==◌, List, [], ◌∷◌, ◌++◌, map, filter, length, slice_get, ℤ, pos, neg_ℤ, Option, Some, None, pred}
use Rattle.std.specs.List.{AllByRecursion, Contains, flat_map, filter_map}
use Rattle.std.specs.Option.{option_and_then, option_map_or, unwrap_or}
use Rattle.std.specs.FinMap.{get, entries}
use mathlib.Core.Path.{refl, sym, ap, subst, ◌∙◌}
use mathlib.Core.Logic.{inl, inr}
use Rattle.std.proofs.Common.{arith, eqb-true}
use Rattle.std.proofs.lemmas.Int.{ints}
use Rattle.std.proofs.lemmas.List.{length-map}
use Rattle.std.proofs.lemmas.List.Elements.{All-from_recursion, recursion_from_All}
use Rattle.iv_types.specs.declared.value.Kind.{Kind}
use Rattle.iv_types.specs.declared.value.Kind.TheVariants.{Int, Huge, Text}
use Rattle.iv_types.specs.declared.value.Value.{Value}
use Rattle.iv_types.specs.declared.value.Value.TheVariants.{Number, Word}
use Rattle.iv_types.specs.declared.catalog.Second.{Second}
use Rattle.iv_types.specs.declared.lock.GroupDelta.{GroupDelta}
use Rattle.iv_types.specs.declared.expression.ColumnAt.{ColumnAt}
use Rattle.iv_types.specs.Encoding.{IsHuge, Fits, FitAll, key_bytes}
use Rattle.table_laws.specs.Place.{Place}
use Rattle.table_laws.specs.Table.{rows_where, write}
use Rattle.table_laws.specs.Kept.{redo, AreTrue}
use Rattle.iv_meaning.specs.Schema.{Schema, Object, table, index, view, ViewTree, numbered, as_view, sources_of, kinds_of_table, group_kinds}
use Rattle.iv_meaning.specs.Database.{Row, Rows, rows_of, Database}
use Rattle.iv_meaning.specs.Values.{value_at}
use Rattle.iv_meaning.specs.Query.{Combination, combinations, values_at}
use Rattle.iv_meaning.specs.Grouping.{number_in}
use Rattle.iv_meaning.specs.Sound.{IsTable, IsRow}
use Rattle.query_laws.proofs.Each.{each_append, each_map, each_filtered}
use Rattle.query_laws.proofs.TermLemmas.{FitRows}
use Rattle.query_laws.proofs.GroupRows.{IsKnown, combinations_fit, values_fit, some_same}
use Rattle.txn_machine.specs.Deltas.{RowChange, rows_after, contribution, is_counted, other_rows, contributions, negated, are_equal, exchanged, places_around, owed_to, owed, place_of, columns_of}
use Rattle.txn_machine.specs.Keeping.{KeptStep, Put, Pay, changes_of, IsSettled}
use Rattle.txn_machine.specs.Store.{committed, schema_of, now, Store, paid_first, undone, Effect, Opens, Takes, Notes, Writes, Pays, Ghosts, Undoes, Loses, Ends, Commits, Defines, Cleans, Prunes, does}
use Rattle.txn_machine.specs.Fresh.{fresh, made_of}
use Rattle.txn_machine.specs.Ghosts.{the_views}
use Rattle.txn_machine.specs.ViewLaws.{AreSound}
use Rattle.txn_machine.specs.KeptLaws.{IsDelta, DeltaLaw, StoredRowLaw}
use Rattle.txn_machine.proofs.Entered.{AreProper, right_next}
use Rattle.txn_machine.proofs.Good.{ToldKept}
use Rattle.txn_machine.proofs.Holding.{by_contains, contains_none, contains_here}
use Rattle.txn_machine.proofs.Looking.{view_laws}
use Rattle.txn_machine.proofs.Reached.{reached}
use Rattle.txn_machine.proofs.Sharing.{table_fits, source_kinds, all_fit}
use Rattle.txn_machine.specs.Stored.{ViewRows, IsStoredRow, AreStored, plus, add_to, add_all, zeros}
use Rattle.txn_machine.proofs.Telling.{Good', Can'}
use Rattle.txn_machine.proofs.Agreeing.{by_place, written_at, written_other}
use Rattle.txn_machine.proofs.Making.{numbered_more, kinds_stay}
use Rattle.txn_machine.proofs.Runs.{committed_after, defined, rows_are}
use Rattle.txn_machine.proofs.Always.{always}
use Rattle.iv_meaning.specs.Escrow.{IsSession}
use Rattle.std.proofs.lemmas.Option.{none-some}
use Rattle.txn_machine.proofs.Ranging.{all_contains}
use Rattle.iv_types.proofs.Fitting.{int_is, huge_is}

-- ---- numbers of rows that fit

zero_huge : IsHuge (pos 0)
zero_huge = (omega (arith, ints), λ e. absurd (cc))

neg_huge : (n : ℤ) → IsHuge n → IsHuge (neg_ℤ n)
neg_huge n h = (omega (arith, ints, h.0, h.1), λ e. absurd (omega (arith, ints, h.0, e)))

value_huge : (kind : Kind) (x : Value) → Fits kind x → IsHuge (number_in (Some x))
value_huge Int (Number n) f = let in_it = int_is n f in (omega (arith, ints, in_it), λ e. absurd (omega (arith, ints, in_it, e)))
value_huge Huge (Number n) f = huge_is n f
value_huge Text (Number n) f = absurd (cc)
value_huge Int (Word w) f = absurd (cc)
value_huge Huge (Word w) f = absurd (cc)
value_huge Text (Word w) f = zero_huge

row_huge : (kinds : List Kind) (row : Row) (column : ℕ) → FitAll kinds row → IsHuge (number_in (slice_get row column))
row_huge kinds [] column f = zero_huge
row_huge [] (x ∷ row) column f = absurd f
row_huge (kind ∷ kinds) (x ∷ row) zero f = value_huge kind x f.0
row_huge (kind ∷ kinds) (x ∷ row) (suc column) f = row_huge kinds row column f.1

rows_huge : (kinds : List (List Kind)) (rows : Combination) (source column : ℕ) → FitRows kinds rows → IsHuge (number_in (option_and_then (λ (row : Row). slice_get row column) (slice_get rows source)))
rows_huge kinds [] source column f = zero_huge
rows_huge [] (row ∷ rows) source column f = absurd f
rows_huge (ks ∷ kinds) (row ∷ rows) zero column f = row_huge ks row column f.0
rows_huge (ks ∷ kinds) (row ∷ rows) (suc source) column f = rows_huge kinds rows source column f.1

-- ---- contributions

module _ (objects : Schema) (rows : Rows) (sound : AreSound objects rows) (n : ℕ) (v : ViewTree) (e : numbered objects n ≡ Some (view v)) where
  number_is : v.number ≡ n
  number_is = (sound.objects n (view v) e).0

  contribution_is : (c : Combination) → FitRows (source_kinds objects v) c → IsDelta objects (contribution objects v c)
  contribution_is c f = record {
    of = v;
    view_is = ap (numbered objects) number_is ∙ e;
    group = values_at v.group c;
    fits = values_fit (source_kinds objects v) c v.group f (recursion_from_All (IsKnown (source_kinds objects v)) v.group (sound.objects n (view v) e).1.group);
    key = refl;
    one = inl refl;
    sums = length-map v.sums (λ (column : ColumnAt). number_in (value_at c column));
    in_range = All-from_recursion IsHuge (map (λ (column : ColumnAt). number_in (value_at c column)) v.sums) (each v.sums);
  }
    where
      each : (columns : List ColumnAt) → AllByRecursion IsHuge (map (λ (column : ColumnAt). number_in (value_at c column)) columns)
      each [] = tt
      each (column ∷ columns) = (rows_huge (source_kinds objects v) c column.source column.column f, each columns)

  others_fit : (o : Option Second) → AllByRecursion (IsTable objects) (elim o [ None ↦ [] | Some second ↦ second.table ∷ [] ])
      → AllByRecursion (FitRows (map (λ m. kinds_of_table (numbered objects m)) (elim o [ None ↦ [] | Some second ↦ second.table ∷ [] ]))) (combinations (option_map_or (λ (second : Second). rows_of rows second.table ∷ []) o []))
  others_fit None t = (tt, tt)
  others_fit (Some second) t = combinations_fit (λ m. kinds_of_table (numbered objects m)) (rows_of rows) (second.table ∷ []) (table_fits objects rows sound second.table t.0, tt)

  contributions_are : (o : Option Row) → ((row : Row) → o ≡ Some row → FitAll (kinds_of_table (numbered objects v.first)) row) → AllByRecursion (IsDelta objects) (contributions objects v rows o)
  contributions_are None h = tt
  contributions_are (Some row) h =
      let tables : AllByRecursion (IsTable objects) (sources_of v) = recursion_from_All (IsTable objects) (sources_of v) (sound.objects n (view v) e).1.tables in
      each_map (FitRows (source_kinds objects v)) (IsDelta objects) (contribution objects v) contribution_is (filter (is_counted objects v) (map (λ (rest : Combination). row ∷ rest) (combinations (other_rows rows v))))
      (each_filtered (FitRows (source_kinds objects v)) (is_counted objects v) (map (λ (rest : Combination). row ∷ rest) (combinations (other_rows rows v)))
      (each_map (FitRows (map (λ m. kinds_of_table (numbered objects m)) (elim v.second [ None ↦ [] | Some second ↦ second.table ∷ [] ]))) (FitRows (source_kinds objects v)) (λ (rest : Combination). row ∷ rest)
      (λ rest f. (h row refl, f)) (combinations (other_rows rows v)) (others_fit v.second tables.1)))

-- the row at a place of the table fits it
row_fits : (objects : Schema) (rows : Rows) → AreSound objects rows → (p : Place) (m : ℕ) → p.0 ≡ m → (row : Row) → get rows p ≡ Some row → FitAll (kinds_of_table (numbered objects m)) row
row_fits objects rows sound p m at row there =
    let r : IsRow objects p row = sound.rows p row there in
    subst (λ ks. FitAll ks row) (sym (ap (λ k. kinds_of_table (numbered objects k)) (sym at) ∙ ap kinds_of_table r.table_is)) r.fits

pub negated_is : (objects : Schema) (d : GroupDelta) → IsDelta objects d → IsDelta objects (negated d)
negated_is objects d h = record {
  of = h.of;
  view_is = h.view_is;
  group = h.group;
  fits = h.fits;
  key = h.key;
  one = elim h.one [ inl e ↦ inr (ap neg_ℤ e) | inr e ↦ inl (ap neg_ℤ e) ];
  sums = length-map d.sums neg_ℤ ∙ h.sums;
  in_range = All-from_recursion IsHuge (map neg_ℤ d.sums) (each_map IsHuge IsHuge neg_ℤ neg_huge d.sums (recursion_from_All IsHuge d.sums h.in_range));
}

exchanged_are : (objects : Schema) (old new : List GroupDelta) → AllByRecursion (IsDelta objects) old → AllByRecursion (IsDelta objects) new → AllByRecursion (IsDelta objects) (exchanged old new)
exchanged_are objects old new h k = elim (are_equal old new) as (λ b. AllByRecursion (IsDelta objects) (cond b [] (map negated old ++ new))) [
  | true ↦ tt
  | false ↦ each_append (IsDelta objects) (map negated old) new (each_map (IsDelta objects) (IsDelta objects) negated (negated_is objects) old h) k
]

places_are : (n : ℕ) (es : List (Place × Row)) → AllByRecursion (λ (p : Place). p.0 ≡ n) (map (λ (e : Place × Row). e.0) (rows_where (λ place row. place.0 == n) es))
places_are n [] = tt
places_are n (e ∷ es) = elim (e.0.0 == n) as (λ b. (e.0.0 == n) ≡ b → AllByRecursion (λ (p : Place). p.0 ≡ n) (map (λ (x : Place × Row). x.0) (cond b (e ∷ rows_where (λ place row. place.0 == n) es) (rows_where (λ place row. place.0 == n) es)))) [
  | true ↦ λ t. (eqb-true e.0.0 n t, places_are n es)
  | false ↦ λ t. places_are n es
] refl

next : (k i : ℕ) → suc k + i ≡ k + suc i
next k i = omega arith

flat_are : {X Y : Type 0} (P : X → Type 0) (Q : Y → Type 0) (f : X → List Y) → ((x : X) → P x → AllByRecursion Q (f x)) → (xs : List X) → AllByRecursion P xs → AllByRecursion Q (flat_map f xs)
flat_are P Q f h [] a = tt
flat_are P Q f h (x ∷ xs) a = each_append Q (f x) (flat_map f xs) (h x a.0) (flat_are P Q f h xs a.1)

module _ (objects : Schema) (rows : Rows) (c : RowChange) (before : AreSound objects rows) (after : AreSound objects (rows_after c rows)) where
  owed_to_are : (n : ℕ) (v : ViewTree) → numbered objects n ≡ Some (view v) → AllByRecursion (IsDelta objects) (owed_to objects rows c v)
  owed_to_are n v e = flat_are (λ (p : Place). p.0 ≡ v.first) (IsDelta objects)
      (λ p. exchanged (contributions objects v rows (get rows p)) (contributions objects v (rows_after c rows) (get (rows_after c rows) p)))
      (λ p at. exchanged_are objects (contributions objects v rows (get rows p)) (contributions objects v (rows_after c rows) (get (rows_after c rows) p))
      (contributions_are objects rows before n v e (get rows p) (λ row there. row_fits objects rows before p v.first at row there))
      (contributions_are objects (rows_after c rows) after n v e (get (rows_after c rows) p) (λ row there. row_fits objects (rows_after c rows) after p v.first at row there)))
      (places_around v.first c rows)
      (places_are v.first (entries (elim c.after [ None ↦ rows | Some row ↦ rows_after c rows ])))

  -- views of a part of the schema, behind so many objects
  views_are : (os : List Object) (k : ℕ) → ((i : ℕ) (v : ViewTree) → slice_get os i ≡ Some (view v) → numbered objects (suc (k + i)) ≡ Some (view v)) → AllByRecursion (IsDelta objects) (flat_map (owed_to objects rows c) (filter_map as_view os))
  views_are [] k h = tt
  views_are (table t ∷ os) k h = views_are os (suc k) (λ i v e. ap (λ m. numbered objects (suc m)) (next k i) ∙ h (suc i) v e)
  views_are (index x ∷ os) k h = views_are os (suc k) (λ i v e. ap (λ m. numbered objects (suc m)) (next k i) ∙ h (suc i) v e)
  views_are (view v ∷ os) k h = each_append (IsDelta objects) (owed_to objects rows c v) (flat_map (owed_to objects rows c) (filter_map as_view os))
      (owed_to_are (suc (k + 0)) v (h 0 v refl)) (views_are os (suc k) (λ i w e. ap (λ m. numbered objects (suc m)) (next k i) ∙ h (suc i) w e))

  pub owed_are : AllByRecursion (IsDelta objects) (owed objects rows c)
  owed_are = views_are objects 0 (λ i v e. ap (λ m. numbered objects (suc m)) (first i) ∙ e)
    where
      first : (i : ℕ) → 0 + i ≡ i
      first i = omega arith

-- ---- what is kept and owed

abbrev PutsAre : Schema → List KeptStep → Type 0
PutsAre objects [] = Unit {0}
PutsAre objects (Put c ds ∷ ks) = AllByRecursion (IsDelta objects) ds × PutsAre objects ks
PutsAre objects (Pay d ∷ ks) = PutsAre objects ks

puts_are : (objects : Schema) (base : Rows) (ks : List KeptStep) → AreSound objects base → AreProper objects (changes_of ks) → AreTrue base (changes_of ks) → ToldKept the_views fresh view_laws objects base ks → PutsAre objects ks
puts_are objects base [] s p t h = tt
puts_are objects base (Put c ds ∷ ks) s p t h =
    let right = right_next objects base c (changes_of ks) s p t in
    (subst (AllByRecursion (IsDelta objects)) (sym h.0) (owed_are objects (redo (changes_of ks) base) c right.sound right.after), puts_are objects base ks s p.1 t.1 h.1)
puts_are objects base (Pay d ∷ ks) s p t h = puts_are objects base ks s p t h

settled_are : (objects : Schema) (ks : List KeptStep) (ds : List GroupDelta) → IsSettled ks ds → PutsAre objects ks
    → AllByRecursion (IsDelta objects) ds × ((d : GroupDelta) → Contains ks (Pay d) → IsDelta objects d)
settled_are objects [] ds e h = (subst (AllByRecursion (IsDelta objects)) (sym e) tt, λ d there. absurd (contains_none (Pay d) there))
settled_are objects (Put c es ∷ ks) ds e h =
    let rest = settled_are objects ks [] e.1 h.1 in
    (subst (AllByRecursion (IsDelta objects)) (sym e.0) h.0, λ d there. by_contains (Put c es) ks (Pay d) there (λ x. absurd (cc)) (λ x. rest.1 d x))
settled_are objects (Pay x ∷ ks) ds e h =
    let rest = settled_are objects ks (x ∷ ds) e h in
    (rest.0.1, λ d there. by_contains (Pay x) ks (Pay d) there (λ y. subst (IsDelta objects) (same x d y) rest.0.0) (λ y. rest.1 d y))
  where
    same : (x d : GroupDelta) → Pay x ≡ Pay d → x ≡ d
    same x d e = cc

module _ (s : Store) (g : Good' s) (i : ℕ) (is : IsSession i) where
  pub all_are : AllByRecursion (IsDelta (schema_of s)) (now s i).owed × ((d : GroupDelta) → Contains (now s i).kept (Pay d) → IsDelta (schema_of s) d)
  all_are =
      let t = g.each i is in
      settled_are (schema_of s) (now s i).kept (now s i).owed t.settled (puts_are (schema_of s) (committed s).rows (now s i).kept g.sound t.proper (g.stored.told i is) t.told)

  pub owes_deltas : (d : GroupDelta) → Contains (now s i).owed d → IsDelta (schema_of s) d
  owes_deltas d there = all_contains (IsDelta (schema_of s)) (now s i).owed d all_are.0 there

pub delta_law : DeltaLaw
delta_law s r i is =
    let both = all_are s.store (reached s r) i is in
    (All-from_recursion (IsDelta (schema_of s.store)) (now s.store i).owed both.0, both.1)

-- ---- stored rows

pub same_view : (v w : ViewTree) → Some (view v) ≡ Some (view w) → v ≡ w
same_view v w e = cc

plus_length : (k : ℕ) (ms ns : List ℤ) → (length ms ≡ k) ⊎ (ms ≡ []) → length ns ≡ k → length (plus ms ns) ≡ k
plus_length k [] ns h e = e
plus_length k (m ∷ ms) [] (inl l) e = l
plus_length k (m ∷ ms) [] (inr n) e = absurd (cc)
plus_length k (m ∷ ms) (n ∷ ns) (inr x) e = absurd (cc)
plus_length zero (m ∷ ms) (n ∷ ns) (inl l) e = absurd (cc)
plus_length (suc k) (m ∷ ms) (n ∷ ns) (inl l) e = ap suc (plus_length k ms ns (inl (ap pred l)) (ap pred e))

pub add_stored : (objects : Schema) (stored : ViewRows) (d : GroupDelta) → AreStored objects stored → IsDelta objects d → AreStored objects (add_to stored d)
add_stored objects stored d h x place numbers there = by_place place (place_of d)
    (λ e.
    let now_is : plus (unwrap_or (get stored (place_of d)) []) (columns_of d) ≡ numbers = some_same (plus (unwrap_or (get stored (place_of d)) []) (columns_of d)) numbers (sym (written_at stored (place_of d) (Some (plus (unwrap_or (get stored (place_of d)) []) (columns_of d))) place e) ∙ there) in
    record {
      of = x.of;
      view_is = ap (λ (p : Place). numbered objects p.0) e ∙ x.view_is;
      group = x.group;
      fits = x.fits;
      key = ap (λ (p : Place). p.1) e ∙ x.key;
      width = sym (ap length now_is) ∙ plus_length (suc (length x.of.sums)) (unwrap_or (get stored (place_of d)) []) (columns_of d) (was (get stored (place_of d)) refl) (ap suc x.sums);
    })
    (λ n. h place numbers (sym (written_other stored (place_of d) (Some (plus (unwrap_or (get stored (place_of d)) []) (columns_of d))) place n) ∙ there))
  where
    was : (o : Option (List ℤ)) → get stored (place_of d) ≡ o → (length (unwrap_or o []) ≡ suc (length x.of.sums)) ⊎ (unwrap_or o [] ≡ [])
    was None e = inr refl
    was (Some ns) e =
        let old : IsStoredRow objects (place_of d) ns = h (place_of d) ns e in
        inl (old.width ∙ ap (λ (v : ViewTree). suc (length v.sums)) (same_view old.of x.of (sym old.view_is ∙ x.view_is)))

pub add_all_stored : (objects : Schema) (stored : ViewRows) (ds : List GroupDelta) → AreStored objects stored → AllByRecursion (IsDelta objects) ds → AreStored objects (add_all stored ds)
add_all_stored objects stored [] h a = h
add_all_stored objects stored (d ∷ ds) h a = add_all_stored objects (add_to stored d) ds (add_stored objects stored d h a.0) a.1

-- the rows of a view that is made
pub made_are : (objects : Schema) (rows : Rows) → AreSound objects rows → (n : ℕ) (o : Object) → numbered objects n ≡ Some o → AllByRecursion (IsDelta objects) (made_of objects rows o)
made_are objects rows sound n (table t) e = tt
made_are objects rows sound n (index i) e = tt
made_are objects rows sound n (view v) e =
    each_map (FitRows (source_kinds objects v)) (IsDelta objects) (contribution objects v) (contribution_is objects rows sound n v e) (filter (is_counted objects v) (combinations (map (rows_of rows) (sources_of v))))
    (each_filtered (FitRows (source_kinds objects v)) (is_counted objects v) (combinations (map (rows_of rows) (sources_of v))) (all_fit objects rows sound n v e))

-- with one definition more
pub more_stored : (objects : Schema) (rows : Rows) (o : Object) (stored : ViewRows) → AreSound objects rows → AreStored objects stored → AreStored (objects ++ o ∷ []) stored
more_stored objects rows o stored sound h place numbers there =
    let r : IsStoredRow objects place numbers = h place numbers there in
    let kinds : group_kinds (objects ++ o ∷ []) r.of ≡ group_kinds objects r.of = kinds_stay objects o r.of (sound.objects place.0 (view r.of) r.view_is).1 (sound.joins place.0 r.of r.view_is) in
    record {
      of = r.of;
      view_is = numbered_more objects o place.0 (view r.of) r.view_is ∙ r.view_is;
      group = r.group;
      fits = subst (λ ks. FitAll ks r.group) (sym kinds) r.fits;
      key = r.key ∙ sym (ap (λ ks. key_bytes ks r.group) kinds);
      width = r.width;
    }

pub last_numbered : (objects : Schema) (o : Object) → numbered (objects ++ o ∷ []) (suc (length objects)) ≡ Some o
last_numbered [] o = refl
last_numbered (x ∷ objects) o = last_numbered objects o

abbrev pub Stored' : Store → Type 0
Stored' s = AreStored (schema_of s) s.view

pays_stored : (s : Store) (i : ℕ) → Good' s → IsSession i → (ds : List GroupDelta) → (now s i).owed ≡ ds → Stored' s → Stored' (paid_first s i (now s i) ds)
pays_stored s i g is [] e h = h
pays_stored s i g is (d ∷ ds) e h = add_stored (schema_of s) s.view d h (owes_deltas s g i is d (subst (λ (l : List GroupDelta). Contains l d) (sym e) (contains_here d ds)))

undoes_stored : (s : Store) (i : ℕ) → Good' s → IsSession i → (ks : List KeptStep) → (now s i).kept ≡ ks → Stored' s → Stored' (undone s i (now s i) ks)
undoes_stored s i g is [] e h = h
undoes_stored s i g is (Put c ds ∷ ks) e h = h
undoes_stored s i g is (Pay d ∷ ks) e h =
    add_stored (schema_of s) s.view (negated d) h (negated_is (schema_of s) d ((all_are s g i is).1 d (subst (λ (l : List KeptStep). Contains l (Pay d)) (sym e) (contains_here (Pay d) ks))))

ghosts_stored : (objects : Schema) (stored : ViewRows) (d : GroupDelta) → IsDelta objects d → AreStored objects stored → AreStored objects (write stored (place_of d) (Some (zeros (length (columns_of d)))))
ghosts_stored objects stored d x h place numbers there = by_place place (place_of d)
    (λ e. record {
      of = x.of;
      view_is = ap (λ (p : Place). numbered objects p.0) e ∙ x.view_is;
      group = x.group;
      fits = x.fits;
      key = ap (λ (p : Place). p.1) e ∙ x.key;
      width = sym (ap length (some_same (zeros (length (columns_of d))) numbers (sym (written_at stored (place_of d) (Some (zeros (length (columns_of d)))) place e) ∙ there))) ∙ (zeros_length (length (columns_of d)) ∙ ap suc x.sums);
    })
    (λ n. h place numbers (sym (written_other stored (place_of d) (Some (zeros (length (columns_of d)))) place n) ∙ there))
  where
    zeros_length : (n : ℕ) → length (zeros n) ≡ n
    zeros_length zero = refl
    zeros_length (suc n) = ap suc (zeros_length n)

pub each_stored : (s : Store) (i : ℕ) (e : Effect) → Good' s → Can' s i e → Stored' s → Stored' (does the_views s i e)
each_stored s i (Opens mode) g can h = h
each_stored s i (Takes wants) g can h = h
each_stored s i (Notes n) g can h = h
each_stored s i (Writes p new) g can h = h
each_stored s i Pays g can h = pays_stored s i g can.0 (now s i).owed refl h
each_stored s i (Ghosts p n) g can h =
    let d : GroupDelta = can.2.0 in
    subst (λ (x : Place × ℕ). AreStored (schema_of s) (write s.view x.0 (Some (zeros x.1)))) (λ y. (sym can.2.2 y, sym can.2.3 y)) (ghosts_stored (schema_of s) s.view d (owes_deltas s g i can.1 d can.2.1) h)
each_stored s i Undoes g can h = undoes_stored s i g can (now s i).kept refl h
each_stored s i Loses g can h = h
each_stored s i Ends g can h = h
each_stored s i Commits g can h = subst (λ (db : Database). AreStored db.schema s.view) (sym (committed_after the_views fresh view_laws s i)) h
each_stored s i (Defines o) g can h =
    let objects : Schema = schema_of s ++ o ∷ [] in
    subst (λ (db : Database). AreStored db.schema (add_all s.view (made_of db.schema s.rows o))) (sym (defined the_views fresh view_laws s i o))
    (add_all_stored objects s.view (made_of objects s.rows o) (more_stored (schema_of s) (committed s).rows o s.view g.sound h)
    (subst (λ (m : Rows). AllByRecursion (IsDelta objects) (made_of objects m o)) (sym (rows_are the_views fresh view_laws s g o can))
    (made_are objects (committed s).rows can.sound (suc (length (schema_of s))) o (last_numbered (schema_of s) o))))
each_stored s i (Cleans p) g can h = λ place numbers there. by_place place p
    (λ e. absurd (none-some numbers (sym (written_at s.view p None place e) ∙ there)))
    (λ n. h place numbers (sym (written_other s.view p None place n) ∙ there))
each_stored s i Prunes g can h = h

pub stored_row_law : StoredRowLaw
stored_row_law s r = always Stored' each_stored s r r.was_opened.stored
