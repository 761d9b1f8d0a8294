-- A row in place of another: that the entries of one can go and those of the other come, and what the maps hold then.
use Rattle.std.specs.Prelude.{◌≡◌, ◌≢◌, ℕ, ◌+◌, ◌-◌, ◌≤◌, Bool, true, false, cond, List, [], ◌∷◌, Option, Some, None, IfSome}
use Rattle.std.specs.List.{AllByRecursion, flat_map}
use Rattle.std.specs.Str.{bytes_eq}
use Rattle.std.proofs.Common.{arith}
use Rattle.std.proofs.lemmas.Slice.Eq.{bytes_eq-Decides}
use Rattle.std.specs.FinMap.{get}
use mathlib.Core.Path.{refl, sym, ap, subst, ◌∙◌}
use Rattle.iv_types.specs.declared.value.Value.{Value}
use Rattle.iv_types.specs.declared.lock.Change.{Change}
use Rattle.iv_types.specs.declared.lock.Kept.{Kept}
use Rattle.iv_types.specs.declared.lock.IndexEntry.{IndexEntry}
use Rattle.iv_types.specs.declared.catalog.TableDef.{TableDef}
use Rattle.iv_types.specs.declared.catalog.IndexDef.{IndexDef}
use Rattle.iv_types.specs.Definitions.{Definitions, AreNumbered}
use Rattle.iv_types.specs.Encoding.{kinds_of, FitAll, key_value_bytes, value_bytes}
use Rattle.iv_types.specs.Maps.{Map, CanHold, IsWithin, used, last_index}
use Rattle.iv_meaning.specs.Schema.{indexes_of}
use Rattle.iv_meaning.specs.Objects.{schema_of}
use Rattle.iv_meaning.specs.Database.{Rows, set_row}
use Rattle.iv_meaning.specs.View.{index_key}
use Rattle.row_codec.specs.Laws.{OneSpelling}
use Rattle.table_store.specs.Stored.{stored, table_of, StandsUnder, IsIndexOf, Holds}
use Rattle.table_store.specs.Entries.{AreApart, HavePlaces}
use Rattle.table_store.specs.Changes.{has_key, entry_in, own_entries, sizes, how_many, CanHoldEach, CanExchange, Exchanges, gone_by, made_by, IsChange, IsThere, CanTakeBack, Sets, SetsRow, KeepsRoom, TakesRoom}
use Rattle.table_store.proofs.Exchanges.{AreHeld}
use Rattle.table_store.proofs.Fresh.{row_is}
use Rattle.table_store.proofs.Moves.{sets, are_there, are_absent, sets_rows, own_apart}
use Rattle.table_store.proofs.Rooms.{many_apart, many_placed, have_places}
use Rattle.table_store.proofs.TableIndexes.{each_first, each_last, each_append, each_flat, indexes_are, table_number}

abbrev Row : Type 0
Row = List Value

pub stands_fits : (t : TableDef) (key : List ℕ) (row : Option Row) → IfSome row (StandsUnder t key) → IfSome row (FitAll (kinds_of t))
stands_fits t key None st = tt
stands_fits t key (Some row) st = st.0

-- the row that is there stands under its key
pub there_stands : (ds : Definitions) (key : List ℕ) (row : Option Row) (maps : ℕ → Map) (t : TableDef) → IsThere ds key row maps t → IfSome row (StandsUnder t key)
there_stands ds key None maps t there = tt
there_stands ds key (Some row) maps t there = there.held.primary.fitting key row there.is

pub there_fits : (ds : Definitions) (key : List ℕ) (row : Option Row) (maps : ℕ → Map) (t : TableDef) → IsThere ds key row maps t → IfSome row (FitAll (kinds_of t))
there_fits ds key row maps t there = stands_fits t key row (there_stands ds key row maps t there)

-- ---- the entries that go are of indexes that those are of that come

module _ (t : TableDef) (a b : Row) where
  one_held : (x y : Bool) (n : ℕ) (k k' : List ℕ) → (x ≡ true → y ≡ true) → CanHoldEach (cond x [] (record { index = n; key = k; value = [] } ∷ []))
      → AreHeld (cond y [] (record { index = n; key = k'; value = [] } ∷ []))
  one_held true true n k k' h can = tt
  one_held true false n k k' h can = let no = h refl in absurd (cc)
  one_held false true n k k' h can = tt
  one_held false false n k k' h can = (can.0.of_index, tt)

  other_way : (i : IndexDef) → bytes_eq (index_key t i a) (index_key t i b) ≡ true → bytes_eq (index_key t i b) (index_key t i a) ≡ true
  other_way i e = (bytes_eq-Decides (index_key t i b) (index_key t i a)).1 (sym ((bytes_eq-Decides (index_key t i a) (index_key t i b)).0 e))

  others_held : (is : List IndexDef) → CanHoldEach (flat_map (entry_in t b (Some a)) is) → AreHeld (flat_map (entry_in t a (Some b)) is)
  others_held [] can = tt
  others_held (i ∷ is) can =
      let here = each_first (λ (e : IndexEntry). CanHold e.index e.key e.value) (entry_in t b (Some a) i) (flat_map (entry_in t b (Some a)) is) can in
      let rest = each_last (λ (e : IndexEntry). CanHold e.index e.key e.value) (entry_in t b (Some a) i) (flat_map (entry_in t b (Some a)) is) can in
      each_append (λ (e : IndexEntry). e.index ≤ last_index) (entry_in t a (Some b) i) (flat_map (entry_in t a (Some b)) is)
      (one_held (bytes_eq (index_key t i a) (index_key t i b)) (bytes_eq (index_key t i b) (index_key t i a)) i.number (index_key t i b) (index_key t i a) (other_way i) here)
      (others_held is rest)

own_held : (ds : Definitions) (t : TableDef) (key : List ℕ) (one other : Option Row) → CanHoldEach (own_entries ds t key other one) → own_entries ds t key other one ≢ [] → AreHeld (own_entries ds t key one other)
own_held ds t key None other can some = tt
own_held ds t key (Some a) None can some = absurd (some refl)
own_held ds t key (Some a) (Some b) can some = (can.0.of_index, others_held t a b (indexes_of (schema_of ds) t.number) can.1)

module _ (ds : Definitions) (number : ℕ) (t : TableDef) (numbered_are : AreNumbered ds) (found : table_of ds number ≡ Some t) (spelling : OneSpelling key_value_bytes)
    (key : List ℕ) (one other : Option Row) (old : ℕ → Map) (there : IsThere ds key one old t) (stands : IfSome other (StandsUnder t key)) where
  same_number : t.number ≡ number
  same_number = table_number ds number t numbered_are found

  is_table : table_of ds t.number ≡ Some t
  is_table = ap (table_of ds) same_number ∙ found

  pub can_exchange : (spare : ℕ → ℕ) (limit : Option ℕ) → CanHoldEach (own_entries ds t key other one)
      → HavePlaces (λ n. spare n + how_many n (own_entries ds t key one other)) (own_entries ds t key other one)
      → IsWithin limit (used old + sizes (own_entries ds t key other one) - sizes (own_entries ds t key one other))
      → CanExchange old spare limit (own_entries ds t key one other) (own_entries ds t key other one)
  can_exchange spare limit can places within = record {
    go_apart = own_apart ds t numbered_are is_table key one other;
    come_apart = own_apart ds t numbered_are is_table key other one;
    there = are_there ds t numbered_are is_table key there.rows old there.held one other there.is;
    absent = λ mid out. are_absent ds t numbered_are is_table key there.rows old there.held spelling one other there.is stands mid out;
    can_hold = can;
    places = places;
    numbers = own_held ds t key one other can;
    within = within;
  }

  module _ (new : ℕ → Map) (moved : Exchanges (own_entries ds t key one other) (own_entries ds t key other one) old new) where
    pub exchanged_sets : Sets ds key one other old new t
    exchanged_sets = sets ds t numbered_are is_table key one other old moved.between new moved.out moved.put
        (there.held.primary.same key ∙ ap (stored t) there.is)
        (λ i index row e. (there.held.others i index).each key row (there.is ∙ e))

    pub exchanged_rows : OneSpelling value_bytes → SetsRow ds number key other old new
    exchanged_rows one_row rows holds =
        let stored_there : get (old t.number) key ≡ stored t one = there.held.primary.same key ∙ ap (stored t) there.is in
        let is : get rows (t.number, key) ≡ one = row_is one_row rows t (old t.number) (holds t is_table).primary key one (there_fits ds key one old t there) stored_there in
        let done : Holds ds (set_row rows t.number key other) new = sets_rows ds t is_table spelling key one other old new exchanged_sets stands rows is holds in
        subst (λ (n : ℕ). Holds ds (set_row rows n key other) new) same_number done

-- ---- a change, in room that was made

-- what holds of each index of the table holds of the indexes of a row's entries
own_each : (ds : Definitions) (t : TableDef) → AreNumbered ds → (key : List ℕ) (P : ℕ → Type 0) → P t.number → ((i : IndexDef) → IsIndexOf ds t i → P i.number)
    → (one other : Option Row) → AllByRecursion (λ e. P e.index) (own_entries ds t key one other)
own_each ds t numbered_are key P here there None other = tt
own_each ds t numbered_are key P here there (Some row) other = (
  here,
  each_flat (IsIndexOf ds t) (λ (e : IndexEntry). P e.index) (entry_in t row other)
      (λ i index. elim (has_key t i other (index_key t i row)) as (λ b. AllByRecursion (λ (e : IndexEntry). P e.index) (cond b [] (record { index = i.number; key = index_key t i row; value = [] } ∷ []))) [
        | true ↦ tt
        | false ↦ (there i index, tt)
      ]) (indexes_of (schema_of ds) t.number) (indexes_are ds t numbered_are).all,
)

pub can_change : (ds : Definitions) (number : ℕ) (t : TableDef) (numbered_are : AreNumbered ds) (found : table_of ds number ≡ Some t) (spelling : OneSpelling key_value_bytes)
    (change : Change) (old : ℕ → Map) (limit : Option ℕ) → IsChange ds change old limit t → (spare : ℕ → ℕ) → 1 ≤ spare t.number → ((i : IndexDef) → IsIndexOf ds t i → 1 ≤ spare i.number)
    → CanExchange old spare limit (gone_by ds change t) (made_by ds change t)
can_change ds number t numbered_are found spelling change old limit is spare primary secondary =
    can_exchange ds number t numbered_are found spelling change.key change.before change.after old is.there is.row_after spare limit is.can_hold
    (own_each ds t numbered_are change.key (λ n. 1 ≤ spare n + how_many n (gone_by ds change t)) (omega (arith, primary)) (λ i index. omega (arith, secondary i index)) change.after change.before)
    is.within

-- ---- a change that is taken back

pub can_go_back : (ds : Definitions) (number : ℕ) (t : TableDef) (numbered_are : AreNumbered ds) (found : table_of ds number ≡ Some t) (spelling : OneSpelling key_value_bytes)
    (kept : Kept) (old : ℕ → Map) (spare : ℕ → ℕ) (limit : Option ℕ) → CanTakeBack ds kept old spare limit t → CanExchange old spare limit kept.made kept.gone
can_go_back ds number t numbered_are found spelling kept old spare limit can =
    let made = made_by ds kept.change t in
    let gone = gone_by ds kept.change t in
    let gone_is : kept.gone ≡ gone = can.is_kept.removed in
    let made_is : kept.made ≡ made = can.is_kept.made in
    let places : HavePlaces (λ n. spare n + how_many n made) gone = have_places (λ n. spare n + how_many n made) gone
    (λ n. omega (arith, can.room.places n, ap (how_many n) gone_is, ap (how_many n) made_is)) in
    let within : IsWithin limit (used old + sizes gone - sizes made) = subst (λ (n : ℕ). IsWithin limit n) (λ i. used old + sizes (gone_is i) - sizes (made_is i)) can.room.within in
    let done : CanExchange old spare limit made gone =
    can_exchange ds number t numbered_are found spelling kept.change.key kept.change.after kept.change.before old can.there can.row_before spare limit (subst CanHoldEach gone_is can.can_hold) places within in
    subst (λ (l : List IndexEntry). CanExchange old spare limit l kept.gone) (sym made_is) (subst (λ (l : List IndexEntry). CanExchange old spare limit made l) (sym gone_is) done)

pub same_exchanges : (go go' come come' : List IndexEntry) (old old' new : ℕ → Map) → go ≡ go' → come ≡ come' → old ≡ old' → Exchanges go come old new → Exchanges go' come' old' new
same_exchanges go go' come come' old old' new p q r moved =
    subst (λ (m : ℕ → Map). Exchanges go' come' m new) r (subst (λ (l : List IndexEntry). Exchanges go' l old new) q (subst (λ (l : List IndexEntry). Exchanges l come old new) p moved))

-- ---- the room that is left

pub keeps_room : (ds : Definitions) (number : ℕ) (t : TableDef) → AreNumbered ds → table_of ds number ≡ Some t → (change : Change) (room : ℕ) (mid new : ℕ → ℕ)
    → TakesRoom mid new (gone_by ds change t) (made_by ds change t) → room + 1 ≤ mid t.number → ((i : IndexDef) → IsIndexOf ds t i → room + 1 ≤ mid i.number)
    → KeepsRoom ds room (gone_by ds change t) new t
keeps_room ds number t numbered_are found change room mid new takes primary secondary =
    let is_table : table_of ds t.number ≡ Some t = ap (table_of ds) (table_number ds number t numbered_are found) ∙ found in
    let made = made_by ds change t in
    let apart : AreApart made = own_apart ds t numbered_are is_table change.key change.after change.before in
    record {
      primary = omega (arith, takes t.number, many_apart t.number made apart, primary);
      secondary = λ i index. omega (arith, takes i.number, many_apart i.number made apart, secondary i index);
    }

-- ---- what tests find

-- a row whose bytes stand under a key is there
pub found_there : (ds : Definitions) (rows : Rows) (maps : ℕ → Map) (t : TableDef) (key : List ℕ) (row : Option Row) → OneSpelling value_bytes → table_of ds t.number ≡ Some t → Holds ds rows maps
    → get (maps t.number) key ≡ stored t row → IfSome row (StandsUnder t key) → IsThere ds key row maps t
found_there ds rows maps t key row one is_table holds there stands =
    record { rows = rows; held = holds t is_table; is = row_is one rows t (maps t.number) (holds t is_table).primary key row (stands_fits t key row stands) there }

-- where each index of the table has a place, there is room for the entries of a row
pub places_for : (ds : Definitions) (t : TableDef) → AreNumbered ds → table_of ds t.number ≡ Some t → (key : List ℕ) (one other : Option Row) (spare : ℕ → ℕ) → 1 ≤ spare t.number
    → ((i : IndexDef) → IsIndexOf ds t i → 1 ≤ spare i.number) → (n : ℕ) → how_many n (own_entries ds t key one other) ≤ spare n
places_for ds t numbered_are is_table key one other spare primary secondary =
    many_placed spare (own_entries ds t key one other) (own_apart ds t numbered_are is_table key one other)
    (own_each ds t numbered_are key (λ n. 1 ≤ spare n) primary secondary one other)
