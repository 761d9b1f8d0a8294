-- A definition is held, with the entries that it begins with.
use Rattle.std.specs.Prelude.{◌≡◌, ◌≢◌, ◌⊎◌, ℕ, zero, suc, ◌+◌, ◌≤◌, List, [], ◌∷◌, ◌++◌, length, get_or, ℤ, pos, Option, Some, None, IsSome}
use Rattle.std.specs.List.{AllByRecursion, AllZip, Contains}
use Rattle.std.specs.Option.{option_map}
use mathlib.Core.Path.{refl, sym, ap, subst, ◌∙◌}
use mathlib.Core.Logic.{inl, inr}
use Rattle.std.proofs.Common.{arith}
use Rattle.std.proofs.lemmas.List.{length-map, map-append}
use Rattle.std.proofs.lemmas.Option.{slice_get_within}
use Rattle.std.specs.FinMap.{get, empty, entries, get-empty}
use Rattle.iv_types.specs.Maps.{Map, Entry, CanHold, IsWithin, used}
use Rattle.iv_types.specs.Naming.{of_number}
use Rattle.iv_types.specs.Definitions.{Definitions, number_of}
use Rattle.iv_types.specs.declared.catalog.Definition.{Definition}
use Rattle.iv_types.specs.declared.catalog.Definition.TheVariants.{Table, Index, View}
use Rattle.iv_types.specs.declared.catalog.TableDef.{TableDef}
use Rattle.iv_types.specs.declared.catalog.IndexDef.{IndexDef}
use Rattle.iv_types.specs.declared.catalog.ViewDef.{ViewDef}
use Rattle.iv_types.specs.declared.value.Value.{Value}
use Rattle.iv_types.specs.declared.lock.GroupDelta.{GroupDelta}
use Rattle.iv_types.specs.declared.lock.IndexEntry.{IndexEntry}
use Rattle.iv_types.specs.Encoding.{FitAll, IsHuge, kinds_of, key_bytes, value_bytes, key_value_bytes}
use Rattle.row_codec.specs.Laws.{OneSpelling}
use Rattle.table_laws.specs.Place.{Place, place_cmp}
use Rattle.iv_meaning.specs.Schema as schema
use Rattle.iv_meaning.specs.Schema.{Schema, Object, ViewTree, numbered, items_at, kinds_of_table, primary_of, group_kinds}
use Rattle.iv_meaning.specs.Objects.{object_of, view_tree}
use Rattle.iv_meaning.specs.Database.{Row, Rows, Database}
use Rattle.iv_meaning.specs.Sound.{IsObject}
use Rattle.iv_meaning.specs.Shape.{width, key_width}
use Rattle.iv_meaning.specs.View.{index_key, counted_combinations, shares, view_rows}
use Rattle.iv_meaning.specs.Grouping.{members}
use Rattle.iv_meaning.specs.Query.{values_at}
use Rattle.query_laws.specs.Limited.{IsLimited}
use Rattle.query_laws.proofs.LimitedLemmas.{numbers_law}
use Rattle.query_laws.proofs.Widths.{width_law}
use Rattle.query_laws.proofs.WholeViews.{whole_rows}
use Rattle.table_store.specs.Stored.{table_of, as_table, as_index, stored, HoldsTable, HoldsIndex, HoldsAll, Holds, IsTableAnd}
use Rattle.table_store.specs.Changes.{sizes, CanHoldEach}
use Rattle.table_store.specs.Filling.{IsIndexEntry, AreIndexEntries, HaveOwnKeys, CanPutAll, filled}
use Rattle.table_store.proofs.Filled.{can_put_all, fill_holds}
use Rattle.table_store.proofs.Fresh.{in_schema}
use Rattle.table_store.proofs.IndexKeys.{items_fit}
use Rattle.table_store.proofs.Maps.{by_bytes}
use Rattle.table_store.proofs.Rows.{some_same}
use Rattle.txn_machine.specs.Deltas.{contribution}
use Rattle.txn_machine.specs.Fresh.{fresh, made_of, all_contributions}
use Rattle.txn_machine.specs.Stored.{ViewRows, AreStored, IsStoredRow, add_all, zeros}
use Rattle.txn_machine.specs.ViewLaws.{AreSound}
use Rattle.txn_machine.proofs.Holding.{contains_none}
use Rattle.txn_machine.proofs.Making.{numbered_more, kinds_stay}
use Rattle.txn_machine.proofs.Ranging.{huge_zero}
use Rattle.ghost_rows.specs.Numbers.{numbers_bytes}
use Rattle.ghost_rows.specs.Rows.{OpenRow, no_rows, row_at}
use Rattle.ghost_rows.specs.Kept.{Pays, StandsFor}
use Rattle.ghost_rows.specs.State.{State, stored_at}
use Rattle.ghost_rows.specs.Ghosts.{IsGhostRow, IsCandidate}
use Rattle.ghost_rows.proofs.NumberSteps.{length_numbers}
use Rattle.ghost_rows.proofs.GhostLemmas.{counted_closed, ghost_all, same_ghost, zeros_long}
use Rattle.data_store.specs.Contents.{Contents, pays_on}
use Rattle.data_store.specs.Held.{IsHeld}
use Rattle.data_store.proofs.Finding.{object_at}
use Rattle.data_store.proofs.Told.{texts_stay}
use Rattle.data_defining.specs.Defining.{with_object, AreViewEntries, AreFirst, CanDefine}
use Rattle.data_defining.proofs.NewRows.{added_elsewhere, map_has, own_keys, all_sorted, each_entry, many_numbers, entries_for, entries_were, filled_as_stored, has_count, numbers_are, widths_are}

-- ---- one thing more

pub within_number : {X : Type 0} (xs : List X) (k : ℕ) (x : X) → of_number xs k ≡ Some x → k ≤ length xs
within_number xs zero x e = omega arith
within_number xs (suc k) x e = let lt = slice_get_within xs k x e in omega (arith, lt)

pub last_cases : {X : Type 0} (xs : List X) (y : X) (k : ℕ) (x : X) → of_number (xs ++ y ∷ []) k ≡ Some x → (of_number xs k ≡ Some x) ⊎ ((k ≡ suc (length xs)) × (y ≡ x))
last_cases xs y zero x e = absurd (cc)
last_cases [] y (suc zero) x e = inr (refl, some_same y x e)
last_cases [] y (suc (suc k)) x e = absurd (cc)
last_cases (z ∷ xs) y (suc zero) x e = inl e
last_cases (z ∷ xs) y (suc (suc k)) x e = elim (last_cases xs y (suc k) x e) [ inl h ↦ inl h | inr h ↦ inr (ap suc h.0, h.1) ]

pub last_none : {X : Type 0} (xs : List X) (y : X) (k : ℕ) → of_number (xs ++ y ∷ []) k ≡ None → (of_number xs k ≡ None) × (k ≢ suc (length xs))
last_none xs y zero e = (refl, λ same. absurd (omega (arith, same)))
last_none [] y (suc zero) e = absurd (cc)
last_none [] y (suc (suc k)) e = (refl, λ same. absurd (omega (arith, same)))
last_none (z ∷ xs) y (suc zero) e = absurd (cc)
last_none (z ∷ xs) y (suc (suc k)) e = let h = last_none xs y (suc k) e in (h.0, λ same. h.1 (omega (arith, same)))

pub at_last : {X : Type 0} (xs : List X) (y : X) → of_number (xs ++ y ∷ []) (suc (length xs)) ≡ Some y
at_last [] y = refl
at_last (x ∷ xs) y = at_last xs y

none_past : {X : Type 0} (xs : List X) → of_number xs (suc (length xs)) ≡ None
none_past [] = refl
none_past (x ∷ xs) = none_past xs

-- ---- definitions

as_table_is : (o : Option Definition) (t : TableDef) → as_table o ≡ Some t → o ≡ Some (Table t)
as_table_is None t e = absurd (cc)
as_table_is (Some (Table u)) t e = ap (λ x. Some (Table x)) (some_same u t e)
as_table_is (Some (Index i)) t e = absurd (cc)
as_table_is (Some (View v)) t e = absurd (cc)

as_index_is : (o : Option Definition) (i : IndexDef) → as_index o ≡ Some i → o ≡ Some (Index i)
as_index_is None i e = absurd (cc)
as_index_is (Some (Table u)) i e = absurd (cc)
as_index_is (Some (Index j)) i e = ap (λ x. Some (Index x)) (some_same j i e)
as_index_is (Some (View v)) i e = absurd (cc)

view_of : (d : Definition) (v : ViewTree) → object_of d ≡ schema.view v → (w : ViewDef) × (d ≡ View w) × (view_tree w ≡ v)
view_of (Table t) v e = absurd (cc)
view_of (Index i) v e = absurd (cc)
view_of (View w) v e = (w, refl, (let same : schema.view (view_tree w) ≡ schema.view v = e in cc))

object_number : (objects : Schema) (k : ℕ) (d : Definition) → IsObject objects k (object_of d) → number_of d ≡ k
object_number objects k (Table t) h = h.0
object_number objects k (Index i) h = h.0
object_number objects k (View v) h = h.0

-- ---- what is stored of a row

none_when : {X : Type 0} (o : Option X) → ((x : X) → o ≡ Some x → ⊥) → o ≡ None
none_when None f = refl
none_when (Some x) f = absurd (f x refl)

no_some : (o : Option (List ℕ)) → IsSome o → o ≡ None → ⊥
no_some None h e = absurd (cc)
no_some (Some x) h e = absurd (cc)

-- rows in memory may go where no pay is kept
closed_stands : (o : Option OpenRow) (stored : Option (List ℕ)) (w : ℕ) (pays : Pays) → StandsFor o stored w pays → ((s : ℕ) → pays s ≡ []) → StandsFor None stored w pays
closed_stands o stored w pays h none = record { numbers = h.numbers; has = h.has; row = tt; closed = λ e s. none s; absent = h.absent }

zeros_huge : (k : ℕ) → AllByRecursion IsHuge (zeros k)
zeros_huge zero = tt
zeros_huge (suc k) = (huge_zero, zeros_huge k)

zeros_zero : (k : ℕ) → AllByRecursion (λ n. n ≡ pos 0) (zeros k)
zeros_zero zero = tt
zeros_zero (suc k) = (refl, zeros_zero k)

each_huge : (ns : List ℤ) → ((i : ℕ) → IsHuge (get_or ns i (pos 0))) → AllByRecursion IsHuge ns
each_huge [] h = tt
each_huge (n ∷ ns) h = (h 0, each_huge ns (λ i. h (suc i)))

-- a new object makes rows under its own number
made_number : (objects : Schema) (rows : Rows) (x : Object) (k : ℕ) → ((v : ViewTree) → x ≡ schema.view v → v.number ≡ k) → (e : GroupDelta) → Contains (made_of objects rows x) e → e.view ≡ k
made_number objects rows (schema.table t) k h e c = absurd (contains_none e c)
made_number objects rows (schema.index i) k h e c = absurd (contains_none e c)
made_number objects rows (schema.view v) k h e c = let m = map_has (contribution objects v) _ e c in ap (λ (x : GroupDelta). x.view) m.2 ∙ h v refl

module _ (ds : Definitions) (maps : ℕ → Map) (state : State) (d : Definition) (es : List IndexEntry) (c : Contents) (can : CanDefine ds maps state d es c) where
  abbrev o : Object
  o = object_of d

  abbrev objects : Schema
  objects = c.objects

  abbrev more : Schema
  more = objects ++ o ∷ []

  abbrev n : ℕ
  n = suc (length ds)

  abbrev held : IsHeld ds maps state c
  held = can.evaluated.readable.held

  long : length objects ≡ length ds
  long = sym (ap length held.objects) ∙ length-map ds object_of

  pub last_object : numbered more n ≡ Some o
  last_object = ap (numbered more) (ap suc (sym long)) ∙ at_last objects o

  pub number_is : number_of d ≡ n
  number_is = object_number more n d (can.evaluated.after.objects n o last_object)

  -- an object that was there has another number
  old_at : (k : ℕ) (x : Object) → numbered objects k ≡ Some x → k ≢ n
  old_at k x e same = let le = within_number objects k x e in absurd (omega (arith, le, same, long))

  old_def : (k : ℕ) (x : Definition) → of_number ds k ≡ Some x → k ≢ n
  old_def k x e same = let le = within_number ds k x e in absurd (omega (arith, le, same))

  pub bare : maps n ≡ empty
  bare = held.unused n (λ e. absurd (omega (arith, e))) (ap (numbered objects) (ap suc (sym long)) ∙ none_past objects)

  view_number : (v : ViewTree) → o ≡ schema.view v → v.number ≡ n
  view_number v e = (subst (IsObject more n) e (can.evaluated.after.objects n o last_object)).0

  -- ---- a new view

  module _ (w : ViewDef) (is : d ≡ View w) where
    abbrev v : ViewTree
    v = view_tree w

    abbrev with_view : Schema
    with_view = objects ++ schema.view v ∷ []

    abbrev db : Database
    db = record { number = 0; schema = with_view; rows = c.rows }

    sound_then : AreSound with_view c.rows
    sound_then = subst (λ x. AreSound (objects ++ object_of x ∷ []) c.rows) is can.evaluated.after

    there : numbered with_view n ≡ Some (schema.view v)
    there = ap (numbered with_view) (ap suc (sym long)) ∙ at_last objects (schema.view v)

    own_number : v.number ≡ n
    own_number = (sound_then.objects n (schema.view v) there).0

    none_yet : (q : List ℕ) → get c.view (v.number, q) ≡ None
    none_yet q = none_when (get c.view (v.number, q)) (λ ns e.
        let r : IsStoredRow objects (v.number, q) ns = can.evaluated.readable.stored (v.number, q) ns e in
        old_at v.number (schema.view r.of) r.view_is own_number)

    stored_more : AreStored with_view c.view
    stored_more place numbers e =
        let r : IsStoredRow objects place numbers = can.evaluated.readable.stored place numbers e in
        let kinds : group_kinds with_view r.of ≡ group_kinds objects r.of = kinds_stay objects (schema.view v) r.of (can.evaluated.sound.objects place.0 (schema.view r.of) r.view_is).1 (can.evaluated.sound.joins place.0 r.of r.view_is) in
        record {
          of = r.of;
          view_is = numbered_more objects (schema.view v) place.0 (schema.view r.of) r.view_is ∙ r.view_is;
          group = r.group;
          fits = subst (λ ks. FitAll ks r.group) (sym kinds) r.fits;
          key = r.key ∙ sym (ap (λ ks. key_bytes ks r.group) kinds);
          width = r.width;
        }

    -- its entries are those of its rows
    pub view_entries_are : es ≡ entries_for with_view v w.number (view_rows with_view c.rows v)
    view_entries_are =
        let f : AreViewEntries c w es = subst (λ x. AreFirst ds maps c x es) is can.first in
        f.entries
        ∙ (ap (entries_for objects v w.number) (whole_rows objects c.rows v f.rows f.whole)
        ∙ entries_were objects v (sound_then.objects n (schema.view v) there).1 (sound_then.joins n v there) w.number c.rows)

    -- they have keys of their own, and an index can hold each
    pub view_keys : HaveOwnKeys es
    view_keys = subst HaveOwnKeys (sym view_entries_are) (own_keys with_view v w.number (view_rows with_view c.rows v) (all_sorted db sound_then n v there))

    pub view_held : AllByRecursion (λ e. CanHold n e.key e.value) es
    view_held =
        let limited : IsLimited with_view = subst (λ x. IsLimited (objects ++ object_of x ∷ [])) is can.evaluated.limited in
        let narrow = limited.narrow n (schema.view v) there in
        let few : length with_view ≤ 192 = numbers_law.1 with_view limited in
        let least : suc (length objects) ≤ length with_view = (let l = within_number with_view n (schema.view v) there in omega (arith, l, long)) in
        subst (AllByRecursion (λ e. CanHold n e.key e.value)) (sym view_entries_are)
        (each_entry db sound_then n v there (CanHold n) (λ g fits.
        let bytes = (width_law (group_kinds with_view v) g fits).1 in
        let wide = narrow.0 in
        let sums = narrow.1 in
        let many = many_numbers db sound_then n v there g in
        let value = length_numbers (shares v (members (values_at v.group) (counted_combinations with_view c.rows v) g)) in
        record { of_index = omega (arith, few, least, long); of_key = omega (arith, bytes, wide); of_value = omega (arith, value, many, sums) }) w.number)

    abbrev after_view : ViewRows
    after_view = add_all c.view (all_contributions with_view c.rows v)

    view_is : (with_object c o).view ≡ after_view
    view_is = ap (λ x. (with_object c (object_of x)).view) is

    filled_is : (q : List ℕ) → get (filled empty es) q ≡ option_map numbers_bytes (get after_view (v.number, q))
    filled_is q = ap (λ l. get (filled empty l) q) view_entries_are ∙ (ap (λ k. get (filled empty (entries_for with_view v k (view_rows with_view c.rows v))) q) own_number
        ∙ (ap (λ k. get (filled empty (entries_for with_view v k (view_rows with_view c.rows v))) q) (sym own_number)
        ∙ filled_as v.number (ap (numbered with_view) own_number ∙ there) q))
      where
        filled_as : (k : ℕ) → numbered with_view k ≡ Some (schema.view v) → (q : List ℕ) → get (filled empty (entries_for with_view v k (view_rows with_view c.rows v))) q ≡ option_map numbers_bytes (get after_view (v.number, q))
        filled_as k of q = filled_as_stored db sound_then k v of c.view stored_more none_yet q

    numbers_huge : (q : List ℕ) (ns : List ℤ) → get after_view (v.number, q) ≡ Some ns → AllByRecursion IsHuge ns
    numbers_huge q ns e = each_huge ns (λ i. subst IsHuge (sym (numbers_are db sound_then n v there c.view stored_more none_yet q ns e i))
        (subst (λ x. IsHuge (fresh (objects ++ object_of x ∷ []) c.rows (v.number, q) i)) is (can.in_range w is q i)))

    stands_now : (pays : Pays) → ((s : ℕ) → pays s ≡ []) → (q : List ℕ) (x : Option (List ℤ)) → get after_view (v.number, q) ≡ x → StandsFor None (option_map numbers_bytes x) (suc (length v.sums)) pays
    stands_now pays none q None e = record {
      numbers = zeros (suc (length v.sums));
      has = record { many = zeros_long (suc (length v.sums)); huge = zeros_huge (suc (length v.sums)); bytes = tt; zeros = λ f. zeros_zero (suc (length v.sums)) };
      row = tt;
      closed = λ f s. none s;
      absent = λ f s. none s;
    }
    stands_now pays none q (Some ns) e = record {
      numbers = ns;
      has = record { many = widths_are db sound_then n v there c.view stored_more none_yet q ns e; huge = numbers_huge q ns e; bytes = refl; zeros = λ f. absurd (cc) };
      row = tt;
      closed = λ f s. none s;
      absent = λ f s. none s;
    }

    no_ghost : (pays : Pays) → ((s : ℕ) → pays s ≡ []) → (q : List ℕ) (x : Option (List ℤ)) → get after_view (v.number, q) ≡ x → IsGhostRow None (option_map numbers_bytes x) → ⊥
    unfolding stands_now
    no_ghost pays none q None e g = no_some None g.there refl
    no_ghost pays none q (Some ns) e g =
        let kept = stands_now pays none q (Some ns) e in
        has_count db sound_then n v there c.view stored_more none_yet q ns e
        (counted_closed pays (pos 0) (get_or ns 0 (pos 0)) none (ghost_all None (Some (numbers_bytes ns)) g (length v.sums) pays kept))

  -- ---- its entries can be put in

  in_more : (t : TableDef) (k : ℕ) → table_of ds k ≡ Some t → numbered more k ≡ Some (schema.table t)
  in_more t k e =
      let was : numbered objects k ≡ Some (schema.table t) = ap (λ os. numbered os k) (sym held.objects) ∙ in_schema ds k t e in
      numbered_more objects o k (schema.table t) was ∙ was

  index_holds : (i : IndexDef) → d ≡ Index i → (t : TableDef) → table_of ds i.table ≡ Some t → (row : List Value) → FitAll (kinds_of t) row → CanHold i.number (index_key t i row) []
  index_holds i is t of row fits =
      let its : numbered more n ≡ Some (schema.index i) = last_object ∙ ap (λ x. Some (object_of x)) is in
      let narrow = can.evaluated.limited.narrow n (schema.index i) its in
      let here = subst (λ x. width key_width (items_at (kinds_of_table x) (i.columns ++ primary_of x)) ≤ 1024) (in_more t i.table of) narrow in
      let bytes = (width_law (items_at (kinds_of t) (i.columns ++ t.primary)) (items_at row (i.columns ++ t.primary)) (items_fit (kinds_of t) row (i.columns ++ t.primary) fits)).1 in
      let few : length more ≤ 192 = numbers_law.1 more can.evaluated.limited in
      let within = within_number more n (schema.index i) its in
      let number : i.number ≡ n = ap number_of (sym is) ∙ number_is in
      record { of_index = omega (arith, few, within, number); of_key = omega (arith, bytes, here); of_value = omega arith }

  index_held : (i : IndexDef) → d ≡ Index i → (t : TableDef) → table_of ds i.table ≡ Some t → (bs : List Entry) (xs : List IndexEntry) → AllZip (IsIndexEntry t i) bs xs → CanHoldEach xs
  index_held i is t of [] [] h = tt
  index_held i is t of [] (x ∷ xs) h = absurd h
  index_held i is t of (b ∷ bs) [] h = absurd h
  index_held i is t of (b ∷ bs) (x ∷ xs) h =
      (subst (λ (e : IndexEntry). CanHold e.index e.key e.value) (sym h.0.is) (index_holds i is t of h.0.row h.0.stands.0), index_held i is t of bs xs h.1)

  absent_all : (xs : List IndexEntry) → AllByRecursion (λ e. get (maps n) e.key ≡ None) xs
  absent_all [] = tt
  absent_all (x ∷ xs) = (ap (λ (m : Map). get m x.key) bare ∙ get-empty by_bytes x.key, absent_all xs)

  pub can_put : OneSpelling value_bytes → OneSpelling key_value_bytes → (room : ℕ) (limit : Option ℕ) → length es ≤ room → IsWithin limit (used maps + sizes es) → CanPutAll n maps room limit es
  can_put spelling key_spelling room limit places within = by d refl
    where
      by : (x : Definition) → d ≡ x → CanPutAll n maps room limit es
      by (Table t) is =
          let none : es ≡ [] = subst (λ x. AreFirst ds maps c x es) is can.first in
          record { apart = subst HaveOwnKeys (sym none) tt; absent = absent_all es; held = subst (AllByRecursion (λ e. CanHold n e.key e.value)) (sym none) tt; places = places; within = within }
      by (Index i) is =
          let first : IsTableAnd ds i.table (λ t. AreIndexEntries t i (maps t.number) es) = subst (λ x. AreFirst ds maps c x es) is can.first in
          let number : i.number ≡ n = ap number_of (sym is) ∙ number_is in
          subst (λ k. CanPutAll k maps room limit es) number
          (can_put_all spelling key_spelling first.0 i maps room limit es (record { are = first.2; none = ap maps number ∙ bare; held = index_held i is first.0 first.1 (entries (maps first.0.number)) es first.2; places = places; within = within }))
      by (View w) is = record { apart = view_keys w is; absent = absent_all es; held = view_held w is; places = places; within = within }

  -- ---- all that is held then

  module _ (spelling : OneSpelling value_bytes) (key_spelling : OneSpelling key_value_bytes) (new : ℕ → Map) (here : new n ≡ filled (maps n) es) (others : (i : ℕ) → i ≢ n → new i ≡ maps i) where
    new_here : new n ≡ filled empty es
    new_here = here ∙ ap (λ (m : Map). filled m es) bare

    elsewhere : (k : ℕ) → k ≢ n → (q : List ℕ) → get (with_object c o).view (k, q) ≡ get c.view (k, q)
    elsewhere k ne q = added_elsewhere c.view (made_of more c.rows o) (k, q) (λ e cont same. ne (ap (λ (p : Place). p.0) same ∙ made_number more c.rows o n view_number e cont))

    object_there : (k : ℕ) (x : Definition) → of_number ds k ≡ Some x → numbered objects k ≡ Some (object_of x)
    object_there k x e = ap (λ os. numbered os k) (sym held.objects) ∙ object_at ds k x e

    new_index : (t : TableDef) → table_of ds t.number ≡ Some t → HoldsTable c.rows t (maps t.number) → (i : IndexDef) → i.number ≡ n → d ≡ Index i → i.table ≡ t.number → HoldsIndex c.rows t i (new i.number)
    new_index t of primary i number is of_table =
        let first : IsTableAnd ds i.table (λ t. AreIndexEntries t i (maps t.number) es) = subst (λ x. AreFirst ds maps c x es) is can.first in
        let same : first.0 ≡ t = some_same first.0 t (sym first.1 ∙ (ap (table_of ds) of_table ∙ of)) in
        let its : AreIndexEntries t i (maps t.number) es = subst (λ (u : TableDef). AreIndexEntries u i (maps u.number) es) same first.2 in
        subst (λ k. HoldsIndex c.rows t i (new k)) (sym number) (fill_holds spelling key_spelling t i c.rows (maps t.number) (maps n) (new n) es primary its bare here)

    old_table : (t : TableDef) → of_number ds t.number ≡ Some (Table t) → HoldsAll (ds ++ d ∷ []) c.rows new t
    old_table t is =
        let of : table_of ds t.number ≡ Some t = ap as_table is in
        let h : HoldsAll ds c.rows maps t = held.tables t of in
        record {
          primary = subst (HoldsTable c.rows t) (sym (others t.number (old_def t.number (Table t) is))) h.primary;
          others = λ i index. elim (last_cases ds d i.number (Index i) (as_index_is (of_number (ds ++ d ∷ []) i.number) i index.is)) [
            | inl old ↦ subst (HoldsIndex c.rows t i) (sym (others i.number (old_def i.number (Index i) old))) (h.others i (record { is = ap as_index old; of_table = index.of_table }))
            | inr last ↦ new_index t of h.primary i last.0 last.1 index.of_table
          ];
        }

    new_table : (t : TableDef) → t.number ≡ n → d ≡ Table t → HoldsAll (ds ++ d ∷ []) c.rows new t
    new_table t number is =
        let none : es ≡ [] = subst (λ x. AreFirst ds maps c x es) is can.first in
        let empty_now : new t.number ≡ empty = ap new number ∙ (new_here ∙ ap (filled empty) none) in
        let no_row : (key : List ℕ) (row : Row) → get c.rows (t.number, key) ≡ Some row → ⊥ = λ key row e. let r = can.evaluated.sound.rows (t.number, key) row e in old_at t.number (schema.table r.of) r.table_is number in
        record {
          primary = record {
            same = λ key. ap (λ (m : Map). get m key) empty_now ∙ (get-empty by_bytes key ∙ sym (ap (stored t) (none_when (get c.rows (t.number, key)) (no_row key))));
            fitting = λ key row e. absurd (no_row key row e);
          };
          others = λ i index. elim (last_cases ds d i.number (Index i) (as_index_is (of_number (ds ++ d ∷ []) i.number) i index.is)) [
            | inl old ↦ absurd (let its = (can.evaluated.sound.objects i.number (schema.index i) (object_there i.number (Index i) old)).1 in old_at i.table (schema.table its.of) its.table_is (index.of_table ∙ number))
            | inr last ↦ absurd (let bad : Table t ≡ Index i = sym is ∙ last.1 in cc)
          ];
        }

    tables_held : Holds (ds ++ d ∷ []) c.rows new
    tables_held t of = elim (last_cases ds d t.number (Table t) (as_table_is (of_number (ds ++ d ∷ []) t.number) t of)) [ inl old ↦ old_table t old | inr last ↦ new_table t last.0 last.1 ]

    -- ---- a row of a view

    abbrev state_then : State
    state_then = record state { rows = no_rows }

    no_row_there : (p : Place) → row_at state_then.rows p ≡ None
    no_row_there p = get-empty place_cmp p

    none_paid : (p : Place) (s : ℕ) → pays_on p (c.kept s) ≡ []
    none_paid p s = ap (pays_on p) (can.unkept s)

    -- what is told of it
    record RowHeld (k : ℕ) (v : ViewTree) (q : List ℕ) : Type 0 where
      bytes : stored_at new (k, q) ≡ option_map numbers_bytes (get (with_object c o).view (k, q))
      huge : (ns : List ℤ) → get (with_object c o).view (k, q) ≡ Some ns → AllByRecursion IsHuge ns
      pays : StandsFor None (stored_at new (k, q)) (suc (length v.sums)) (λ s. pays_on (k, q) (c.kept s))
      ghost : IsGhostRow None (stored_at new (k, q)) → IsCandidate state (k, q)

    old_row : (k : ℕ) (v : ViewTree) → numbered objects k ≡ Some (schema.view v) → (q : List ℕ) → RowHeld k v q
    old_row k v is q =
        let ne : k ≢ n = old_at k (schema.view v) is in
        let same : stored_at new (k, q) ≡ stored_at maps (k, q) = ap (λ (m : Map). get m q) (others k ne) in
        let were = held.pays k v is q in
        let pays : Pays = λ s. pays_on (k, q) (c.kept s) in
        let closed : StandsFor None (stored_at maps (k, q)) (suc (length v.sums)) pays = closed_stands (row_at state.rows (k, q)) (stored_at maps (k, q)) (suc (length v.sums)) pays were (none_paid (k, q)) in
        record {
          bytes = same ∙ (held.views k v is q ∙ ap (option_map numbers_bytes) (sym (elsewhere k ne q)));
          huge = λ ns e. held.in_range k v is q ns (sym (elsewhere k ne q) ∙ e);
          pays = subst (λ x. StandsFor None x (suc (length v.sums)) pays) (sym same) closed;
          ghost = λ g. held.ghosts k v is q (same_ghost (row_at state.rows (k, q)) None (stored_at maps (k, q)) (length v.sums) pays were closed (subst (IsGhostRow None) same g));
        }

    new_row : (w : ViewDef) (is : d ≡ View w) (q : List ℕ) → RowHeld n (view_tree w) q
    new_row w is q =
        let pays : Pays = λ s. pays_on (n, q) (c.kept s) in
        let own : (view_tree w).number ≡ n = own_number w is in
        let found : get (with_object c o).view (n, q) ≡ get (after_view w is) ((view_tree w).number, q) = (λ i. get (view_is w is i) (sym own i, q)) in
        let bytes_are : stored_at new (n, q) ≡ option_map numbers_bytes (get (after_view w is) ((view_tree w).number, q)) = ap (λ (m : Map). get m q) new_here ∙ filled_is w is q in
        record {
          bytes = bytes_are ∙ ap (option_map numbers_bytes) (sym found);
          huge = λ ns e. numbers_huge w is q ns (sym found ∙ e);
          pays = subst (λ x. StandsFor None x (suc (length (view_tree w).sums)) pays) (sym bytes_are) (stands_now w is pays (none_paid (n, q)) q (get (after_view w is) ((view_tree w).number, q)) refl);
          ghost = λ g. absurd (no_ghost w is pays (none_paid (n, q)) q (get (after_view w is) ((view_tree w).number, q)) refl (subst (IsGhostRow None) bytes_are g));
        }

    row_held : (k : ℕ) (v : ViewTree) → numbered more k ≡ Some (schema.view v) → (q : List ℕ) → RowHeld k v q
    row_held k v is q = elim (last_cases objects o k (schema.view v) is) [
      | inl old ↦ old_row k v old q
      | inr last ↦
          let w = view_of d v last.1 in
          subst (λ (x : ViewTree). RowHeld k x q) w.2 (subst (λ m. RowHeld m (view_tree w.0) q) (sym (last.0 ∙ ap suc long)) (new_row w.0 w.1 q))
    ]

    pub defined_held : IsHeld (ds ++ d ∷ []) new state_then (with_object c o)
    defined_held = record {
      objects = map-append object_of ds (d ∷ []) ∙ ap (λ os. os ++ o ∷ []) held.objects;
      tables = tables_held;
      views = λ k v is q. (row_held k v is q).bytes;
      in_range = λ k v is q ns e. (row_held k v is q).huge ns e;
      pays = λ k v is q. subst (λ r. StandsFor r (stored_at new (k, q)) (suc (length v.sums)) (λ s. pays_on (k, q) (c.kept s))) (sym (no_row_there (k, q))) (row_held k v is q).pays;
      ghosts = λ k v is q g. (row_held k v is q).ghost (subst (λ r. IsGhostRow r (stored_at new (k, q))) (no_row_there (k, q)) g);
      texts = texts_stay c.texts (maps 0) (new 0) (others 0 (λ e. absurd (omega (arith, e)))) held.texts;
      unused = λ index other none. let h = last_none objects o index none in others index (λ same. h.1 (same ∙ ap suc (sym long))) ∙ held.unused index other h.0;
    }
