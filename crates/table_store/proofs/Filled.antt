-- A new index, filled from the rows of its table.
use Rattle.std.specs.Prelude.{◌≡◌, ◌≢◌, ℕ, ◌+◌, ◌≤◌, true, false, cond, T, ◌⊎◌, List, [], ◌∷◌, ◌++◌, length, Option, Some, None}
use Rattle.std.specs.List.{AllByRecursion, AllZip}
use Rattle.std.proofs.Common.{arith}
use Rattle.std.proofs.lemmas.List.{length-append}
use Rattle.std.specs.FinMap.{get, insert, empty, empty_of_len, len-entries, entries, find, is_sorted, get-entries, get-empty, entries_sorted}
use Rattle.std.specs.FinMap.Entries.{below_all}
use Rattle.std.specs.Ordering.{eq_by_cmp}
use Rattle.std.specs.Cmp.{tied_itself}
use Rattle.std.specs.Cmp.Lexicographic.{nat_list_cmp_total}
use Rattle.std.specs.declared.cmp.Ordering.TheVariants.{Less, Equal}
use mathlib.Core.Path.{refl, sym, ap, subst, ◌∙◌}
use mathlib.Core.Logic.{inl, inr}
use Rattle.iv_types.specs.declared.value.Value.{Value}
use Rattle.iv_types.specs.declared.lock.IndexEntry.{IndexEntry}
use Rattle.iv_types.specs.declared.catalog.TableDef.{TableDef}
use Rattle.iv_types.specs.declared.catalog.IndexDef.{IndexDef}
use Rattle.iv_types.specs.Encoding.{kinds_of, FitAll, row_bytes, value_bytes, key_value_bytes}
use Rattle.iv_types.specs.Maps.{Map, Entry, CanHold, IsWithin, first_where, entry_at, map_size, used, with_map}
use Rattle.iv_types.proofs.MapSizes.{used_moved, used_insert, size_insert}
use Rattle.iv_meaning.specs.Database.{Rows}
use Rattle.iv_meaning.specs.View.{index_key}
use Rattle.row_codec.specs.Laws.{OneSpelling}
use Rattle.table_laws.proofs.Tables.{by_key, get-write_at, get-write_other}
use Rattle.table_store.specs.Stored.{stored, StandsUnder, HoldsTable, HoldsIndex, AreRows}
use Rattle.table_store.specs.Changes.{sizes, CanHoldEach}
use Rattle.table_store.specs.Filling.{index_entry, IsIndexEntry, AreIndexEntries, filled, HaveOwnKeys, CanPutAll, CanFill}
use Rattle.table_store.proofs.IndexKeys.{one_key}
use Rattle.table_store.proofs.Maps.{by_bytes, bytes_same}
use Rattle.table_store.proofs.Places.{first_below, rest_sorted, first, second, less, equal}
use Rattle.table_store.proofs.Fresh.{Each, each_found, row_is}
use Rattle.table_store.proofs.Walks.{from, rest_from, todo, todo_first}
use Rattle.table_store.proofs.Rooms.{size, sizes_last, within_less}
use Rattle.table_store.proofs.Rows.{some_same}
use Rattle.table_store.proofs.TableIndexes.{each_first, each_last}

-- ---- one more, and then those before it

filled_last : (m : Map) (es : List IndexEntry) (e : IndexEntry) → filled m (es ++ e ∷ []) ≡ filled (insert m e.key e.value) es
filled_last m [] e = refl
filled_last m (x ∷ es) e = ap (λ n. insert n x.key x.value) (filled_last m es e)

own_keys_last : (es : List IndexEntry) (e : IndexEntry) → HaveOwnKeys (es ++ e ∷ []) → AllByRecursion (λ x. x.key ≢ e.key) es × HaveOwnKeys es
own_keys_last [] e apart = (tt, tt)
own_keys_last (x ∷ es) e apart =
    let rest = own_keys_last es e apart.1 in
    let last : e.key ≢ x.key = (each_last (λ y. y.key ≢ x.key) es (e ∷ []) apart.0).0 in
    ((λ i. last (sym i), rest.0), (each_first (λ y. y.key ≢ x.key) es (e ∷ []) apart.0, rest.1))

-- the others are absent still
absent_behind : (m n : Map) (k v : List ℕ) (es : List IndexEntry) → n ≡ insert m k v → AllByRecursion (λ x. x.key ≢ k) es → AllByRecursion (λ e. get m e.key ≡ None) es → AllByRecursion (λ e. get n e.key ≡ None) es
absent_behind m n k v [] is apart h = tt
absent_behind m n k v (e ∷ es) is apart h =
    (ap (λ (x : Map). get x e.key) is ∙ (get-write_other nat_list_cmp_total bytes_same m k (Some v) e.key apart.0 ∙ h.0), absent_behind m n k v es is apart.1 h.1)

-- some of the entries are left to be put in, the last one first
pub record Filling (index : ℕ) (es : List IndexEntry) (old now : ℕ → Map) (s0 s1 : ℕ → ℕ) (limit : Option ℕ) (left : List IndexEntry) : Type 0 where
  pub can : CanPutAll index now (s1 index) limit left
  pub map : filled (now index) left ≡ filled (old index) es
  pub others : (n : ℕ) → n ≢ index → now n ≡ old n
  pub room : s0 index + length left ≤ s1 index + length es
  pub other_rooms : (n : ℕ) → n ≢ index → s0 n ≤ s1 n

pub filling_start : (index : ℕ) (es : List IndexEntry) (old : ℕ → Map) (s : ℕ → ℕ) (limit : Option ℕ) → CanPutAll index old (s index) limit es → Filling index es old old s s limit es
filling_start index es old s limit can = record { can = can; map = refl; others = λ n ne. refl; room = omega arith; other_rooms = λ n ne. omega arith }

-- the last one that is left can be put in
pub record CanPutNext (index : ℕ) (now : ℕ → Map) (room : ℕ) (limit : Option ℕ) (e : IndexEntry) : Type 0 where
  pub places : 1 ≤ room
  pub absent : get (now index) e.key ≡ None
  pub held : CanHold index e.key e.value
  pub within : IsWithin limit (used (with_map now index (insert (now index) e.key e.value)))

module _ {index : ℕ} {es : List IndexEntry} {old now : ℕ → Map} {s0 s1 : ℕ → ℕ} {limit : Option ℕ} {items : List IndexEntry} (left : List IndexEntry) (e : IndexEntry) (last : items ≡ left ++ e ∷ []) (filling : Filling index es old now s0 s1 limit items) where
  f : Filling index es old now s0 s1 limit (left ++ e ∷ [])
  f = subst (Filling index es old now s0 s1 limit) last filling

  pub filling_last : CanPutNext index now (s1 index) limit e
  filling_last =
      let held : CanHold index e.key e.value = (each_last (λ (x : IndexEntry). CanHold index x.key x.value) left (e ∷ []) f.can.held).0 in
      let absent : get (now index) e.key ≡ None = (each_last (λ (x : IndexEntry). get (now index) x.key ≡ None) left (e ∷ []) f.can.absent).0 in
      let more : used (with_map now index (insert (now index) e.key e.value)) ≡ used now + size e = used_insert now index e.key e.value held.of_index absent in
      record {
        places = omega (arith, f.can.places, length-append left (e ∷ []));
        absent = absent;
        held = held;
        within = within_less limit (used now + sizes (left ++ e ∷ [])) (used (with_map now index (insert (now index) e.key e.value))) (omega (arith, more, sizes_last left e)) f.can.within;
      }

  pub filling_step : (mid : ℕ → Map) (s2 : ℕ → ℕ) → mid index ≡ insert (now index) e.key e.value → ((i : ℕ) → i ≢ index → mid i ≡ now i) → s1 index ≤ s2 index + 1 → ((i : ℕ) → i ≢ index → s1 i ≤ s2 i)
      → Filling index es old mid s0 s2 limit left
  filling_step mid s2 here others spare other_spares =
      let parts = own_keys_last left e f.can.apart in
      let can = filling_last in
      let moved : used mid + map_size (now index) ≡ used now + map_size (mid index) = used_moved now mid index can.held.of_index others in
      let more : map_size (insert (now index) e.key e.value) ≡ map_size (now index) + size e = size_insert (now index) e.key e.value can.absent in
      let after : map_size (mid index) ≡ map_size (insert (now index) e.key e.value) = ap map_size here in
      record {
        can = record {
          apart = parts.1;
          absent = absent_behind (now index) (mid index) e.key e.value left here parts.0 (each_first (λ (x : IndexEntry). get (now index) x.key ≡ None) left (e ∷ []) f.can.absent);
          held = each_first (λ (x : IndexEntry). CanHold index x.key x.value) left (e ∷ []) f.can.held;
          places = omega (arith, f.can.places, length-append left (e ∷ []), spare);
          within = within_less limit (used now + sizes (left ++ e ∷ [])) (used mid + sizes left) (omega (arith, moved, more, after, sizes_last left e)) f.can.within;
        };
        map = ap (λ m. filled m left) here ∙ (sym (filled_last (now index) left e) ∙ f.map);
        others = λ n ne. others n ne ∙ f.others n ne;
        room = omega (arith, f.room, length-append left (e ∷ []), spare);
        other_rooms = λ n ne. omega (arith, f.other_rooms n ne, other_spares n ne);
      }

-- ---- the entries of the rows of a table

module _ (spelling : OneSpelling value_bytes) (key_spelling : OneSpelling key_value_bytes) (t : TableDef) (i : IndexDef) where
  -- entries of one key are of one row
  one_place : (a b : Entry) (e x : IndexEntry) → IsIndexEntry t i a e → IsIndexEntry t i b x → x.key ≡ e.key → a.0 ≡ b.0
  one_place a b e x p q same =
      p.stands.1 ∙ (sym (one_key key_spelling t i q.row p.row q.stands.0 p.stands.0 (sym (ap (λ (y : IndexEntry). y.key) q.is) ∙ (same ∙ ap (λ (y : IndexEntry). y.key) p.is))) ∙ sym q.stands.1)

  apart_keys : (a b : Entry) (e x : IndexEntry) → IsIndexEntry t i a e → IsIndexEntry t i b x → by_bytes a.0 b.0 ≡ Less → x.key ≢ e.key
  apart_keys a b e x p q is_less same =
      let place : a.0 ≡ b.0 = one_place a b e x p q same in
      let now : by_bytes a.0 a.0 ≡ Less = ap (by_bytes a.0) place ∙ is_less in
      let tied : Less ≡ Equal = sym now ∙ tied_itself nat_list_cmp_total a.0 in
      cc

  apart_from : (a : Entry) (e : IndexEntry) (bs : List Entry) (es : List IndexEntry) → IsIndexEntry t i a e → T (below_all by_bytes a.0 bs) → AllZip (IsIndexEntry t i) bs es → AllByRecursion (λ x. x.key ≢ e.key) es
  apart_from a e [] [] p below h = tt
  apart_from a e [] (x ∷ es) p below h = absurd h
  apart_from a e (b ∷ bs) [] p below h = absurd h
  apart_from a e (b ∷ bs) (x ∷ es) p below h = (apart_keys a b e x p h.0 (less _ (first _ _ below)), apart_from a e bs es p (second _ _ below) h.1)

  own_keys : (bs : List Entry) (es : List IndexEntry) → T (is_sorted by_bytes bs) → AllZip (IsIndexEntry t i) bs es → HaveOwnKeys es
  own_keys [] [] s h = tt
  own_keys [] (x ∷ es) s h = absurd h
  own_keys (a ∷ bs) [] s h = absurd h
  own_keys (a ∷ bs) (e ∷ es) s h = (apart_from a e bs es h.0 (first_below by_bytes a bs s) h.1, own_keys bs es (rest_sorted by_bytes a bs s) h.1)

  none_there : (es : List IndexEntry) (m : Map) → m ≡ empty → AllByRecursion (λ e. get m e.key ≡ None) es
  none_there [] m is = tt
  none_there (e ∷ es) m is = (ap (λ (x : Map). get x e.key) is ∙ get-empty by_bytes e.key, none_there es m is)

  of_index : (bs : List Entry) (es : List IndexEntry) → AllZip (IsIndexEntry t i) bs es → CanHoldEach es → AllByRecursion (λ e. CanHold i.number e.key e.value) es
  of_index [] [] h can = tt
  of_index [] (x ∷ es) h can = absurd h
  of_index (a ∷ bs) [] h can = absurd h
  of_index (a ∷ bs) (e ∷ es) h can = (subst (λ n. CanHold n e.key e.value) (ap (λ (x : IndexEntry). x.index) h.0.is) can.0, of_index bs es h.1 can.1)

  pub can_put_all : (maps : ℕ → Map) (room : ℕ) (limit : Option ℕ) (es : List IndexEntry) → CanFill i maps room limit es t → CanPutAll i.number maps room limit es
  can_put_all maps room limit es can = record {
    apart = own_keys (entries (maps t.number)) es (entries_sorted (maps t.number)) can.are;
    absent = none_there es (maps i.number) can.none;
    held = of_index (entries (maps t.number)) es can.are can.held;
    places = can.places;
    within = can.within;
  }

  -- ---- what the index holds then

  -- an entry that is found is the first, or behind it
  found : (key bytes : List ℕ) (a : Entry) (bs : List Entry) → find by_bytes key (a ∷ bs) ≡ Some bytes → ((key ≡ a.0) × (a.1 ≡ bytes)) ⊎ (find by_bytes key bs ≡ Some bytes)
  found key bytes a bs is = elim (eq_by_cmp by_bytes key a.0) as (λ b. eq_by_cmp by_bytes key a.0 ≡ b → cond b (Some a.1) (find by_bytes key bs) ≡ Some bytes → ((key ≡ a.0) × (a.1 ≡ bytes)) ⊎ (find by_bytes key bs ≡ Some bytes)) [
    | true ↦ λ t is. inl (bytes_same key a.0 (equal _ t), some_same a.1 bytes is)
    | false ↦ λ t is. inr is
  ] refl is

  -- a row that is stored has its entry
  has_entry : (bs : List Entry) (es : List IndexEntry) (m : Map) (key : List ℕ) (row : List Value) → AllZip (IsIndexEntry t i) bs es → find by_bytes key bs ≡ Some (row_bytes (kinds_of t) row)
      → StandsUnder t key row → get (filled m es) (index_key t i row) ≡ Some []
  has_entry [] es m key row h is stands = absurd (cc)
  has_entry (a ∷ bs) [] m key row h is stands = absurd h
  has_entry (a ∷ bs) (e ∷ es) m key row h is stands = by_key nat_list_cmp_total bytes_same (index_key t i row) e.key
      (λ same. get-write_at nat_list_cmp_total bytes_same (filled m es) e.key (Some e.value) (index_key t i row) same ∙ ap (λ (x : IndexEntry). Some x.value) h.0.is)
      (λ other. get-write_other nat_list_cmp_total bytes_same (filled m es) e.key (Some e.value) (index_key t i row) other ∙ elim (found key (row_bytes (kinds_of t) row) a bs is) [
        | inl here ↦
            let one : h.0.row ≡ row = spelling (kinds_of t) h.0.row row h.0.stands.0 stands.0 (sym h.0.bytes ∙ here.1) in
            absurd (other (sym (ap (λ (x : IndexEntry). x.key) h.0.is ∙ ap (index_key t i) one)))
        | inr more ↦ has_entry bs es m key row h.1 more stands
      ])

  -- an entry of the index is that of a row
  record Behind (m : Map) (at value : List ℕ) : Type 0 where
    key : List ℕ
    row : List Value
    stands : StandsUnder t key row
    there : get m key ≡ Some (row_bytes (kinds_of t) row)
    at_is : at ≡ index_key t i row
    empty_value : value ≡ []

  behind : (m : Map) (bs : List Entry) (es : List IndexEntry) (at value : List ℕ) → AllZip (IsIndexEntry t i) bs es → Each (λ k v. get m k ≡ Some v) bs → get (filled empty es) at ≡ Some value → Behind m at value
  behind m [] [] at value h are is = absurd (let none : None ≡ Some value = sym (get-empty by_bytes at) ∙ is in cc)
  behind m [] (e ∷ es) at value h are is = absurd h
  behind m (a ∷ bs) [] at value h are is = absurd h
  behind m (a ∷ bs) (e ∷ es) at value h are is = by_key nat_list_cmp_total bytes_same at e.key
      (λ same. record {
        key = a.0;
        row = h.0.row;
        stands = h.0.stands;
        there = are.0 ∙ ap Some h.0.bytes;
        at_is = same ∙ ap (λ (x : IndexEntry). x.key) h.0.is;
        empty_value = some_same value [] (sym is ∙ (get-write_at nat_list_cmp_total bytes_same (filled empty es) e.key (Some e.value) at same ∙ ap (λ (x : IndexEntry). Some x.value) h.0.is));
      })
      (λ other. behind m bs es at value h.1 are.1 (sym (get-write_other nat_list_cmp_total bytes_same (filled empty es) e.key (Some e.value) at other) ∙ is))

  pub fill_holds : (rows : Rows) (m old new : Map) (es : List IndexEntry) → HoldsTable rows t m → AreIndexEntries t i m es → old ≡ empty → new ≡ filled old es → HoldsIndex rows t i new
  fill_holds rows m old new es holds are none is =
      let new_is : new ≡ filled empty es = is ∙ ap (λ x. filled x es) none in
      let each = each_found nat_list_cmp_total bytes_same (λ k v. get m k ≡ Some v) (entries m) (entries_sorted m) (λ k v f. get-entries m k ∙ f) in
      record {
        each = λ key row there.
            let stands = holds.fitting key row there in
            ap (λ x. get x (index_key t i row)) new_is ∙ has_entry (entries m) es empty key row are (sym (get-entries m key) ∙ (holds.same key ∙ ap (stored t) there)) stands;
        only = λ at value there.
            let b = behind m (entries m) es at value are each (sym (ap (λ x. get x at) new_is) ∙ there) in
            record {
              key = b.key;
              row = b.row;
              is_there = row_is spelling rows t m holds b.key (Some b.row) b.stands.0 b.there;
              at_is = b.at_is;
              empty = b.empty_value;
            };
      }

-- ---- the entries as they are found

-- the row of an entry
pub row_behind : (t : TableDef) (i : IndexDef) (m : Map) (key bytes : List ℕ) (e : IndexEntry) → AreRows t m → get m key ≡ Some bytes
    → ((row : List Value) → FitAll (kinds_of t) row → bytes ≡ row_bytes (kinds_of t) row → e ≡ index_entry t i row) → IsIndexEntry t i (key, bytes) e
row_behind t i m key bytes e are there told =
    let row = are key bytes there in
    record { row = row.0; stands = row.1; bytes = row.2; is = told row.0 row.1.0 row.2 }

-- those that are found, and those of all entries that are left
abbrev pub Walked : TableDef → IndexDef → List Entry → List Entry → List IndexEntry → Type 0
Walked t i all left found = (es : List IndexEntry) → AllZip (IsIndexEntry t i) left es → AllZip (IsIndexEntry t i) all (found ++ es)

from_nothing : (es : List Entry) → rest_from (from []) es ≡ es
from_nothing [] = refl
from_nothing (([], v) ∷ es) = refl
from_nothing ((c ∷ cs, v) ∷ es) = refl

-- the walk over all entries
pub walk_all : (m : Map) (n : Option Entry) → n ≡ entry_at m [] → todo (entries m) n ≡ entries m
walk_all m n is = ap (todo (entries m)) is ∙ (todo_first (from []) (entries m) (entries_sorted m) ∙ from_nothing (entries m))

at_front : (x : Entry) (es : List Entry) → first_where (from []) (x ∷ es) ≡ Some x
at_front ([], v) es = refl
at_front (c ∷ cs, v) es = refl

-- where no entry is found there is none
pub nothing_found : (m : Map) → entry_at m [] ≡ None → m ≡ empty
nothing_found m is = none (entries m) refl
  where
    none : (es : List Entry) → entries m ≡ es → m ≡ empty
    none [] e = empty_of_len m (len-entries m ∙ ap length e)
    none (x ∷ es) e =
        let here : entry_at m [] ≡ Some x = ap (first_where (from [])) e ∙ at_front x es in
        absurd (let no_entry : None ≡ Some x = sym is ∙ here in cc)
