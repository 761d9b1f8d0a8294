-- A row of a view in a store on which no transaction is open.
use Rattle.std.specs.Prelude.{◌≡◌, ◌↔◌, ℕ, zero, suc, ◌*◌, ◌≤◌, ℤ, pos, Bool, true, false, List, [], ◌∷◌, length, get_or, Option, Some, None, is_some, IsSome, IsTrue}
use Rattle.std.specs.List.{AllByRecursion}
use Rattle.std.specs.Option.{option_map, option_map_or, option_copied}
use Rattle.std.specs.FinMap.{get}
use mathlib.Core.Path.{refl, sym, ap, subst, ◌∙◌}
use Rattle.std.proofs.Common.{arith, Bor}
use Rattle.std.proofs.lemmas.Bool.{true≢false}
use Rattle.iv_types.specs.Maps.{Map, CanHold, IsWithin, used, with_map}
use Rattle.iv_types.specs.Definitions.{Definitions}
use Rattle.iv_types.specs.Encoding.{key_bytes}
use Rattle.table_laws.specs.Place.{Place}
use Rattle.iv_meaning.specs.Schema as schema
use Rattle.iv_meaning.specs.Schema.{Schema, ViewTree, numbered, group_kinds}
use Rattle.iv_meaning.specs.Objects.{schema_of}
use Rattle.query_laws.specs.Limited.{IsLimited}
use Rattle.query_laws.proofs.Widths.{width_law}
use Rattle.txn_machine.specs.Stored.{ViewRows, stored_number, zeros}
use Rattle.txn_log.specs.Fitting.{IsGroup}
use Rattle.ghost_rows.specs.Numbers.{numbers_bytes, Fits128}
use Rattle.ghost_rows.specs.State.{State, stored_at, CanStore}
use Rattle.ghost_rows.proofs.NumberSteps.{length_numbers}
use Rattle.ghost_rows.proofs.GhostLemmas.{zeros_are}
use Rattle.ghost_rows.proofs.StateLemmas.{copied_some, some_of, not_both, has_length, all_zeros}
use Rattle.ghost_rows.proofs.RowLemmas.{huge_fit}
use Rattle.data_store.specs.Contents.{Contents, pays_on}
use Rattle.data_store.specs.Held.{IsHeld}
use Rattle.data_changes.specs.Ghosts.{HasAbsent, HasGhost}
use Rattle.data_room.proofs.Entries.{few_numbers}
use Rattle.group_replay.specs.Closed.{IsClosed, with_view, HasZeros}

-- ---- the numbers of a row

-- each of the numbers, or each column
pub each_column : (P : ℤ → Type 0) → P (pos 0) → (ns : List ℤ) → AllByRecursion P ns ↔ ((column : ℕ) → P (get_or ns column (pos 0)))
each_column P p ns = (forth ns, back ns)
  where
    forth : (ms : List ℤ) → AllByRecursion P ms → (column : ℕ) → P (get_or ms column (pos 0))
    forth [] h column = p
    forth (m ∷ ms) h zero = h.0
    forth (m ∷ ms) h (suc column) = forth ms h.1 column

    back : (ms : List ℤ) → ((column : ℕ) → P (get_or ms column (pos 0))) → AllByRecursion P ms
    back [] h = tt
    back (m ∷ ms) h = (h 0, back ms (λ column. h (suc column)))

pub each_stored : (P : ℤ → Type 0) → P (pos 0) → (view : ViewRows) (place : Place) (ns : List ℤ) → get view place ≡ Some ns → AllByRecursion P ns ↔ ((column : ℕ) → P (stored_number view place column))
each_stored P p view place ns there =
    let both = each_column P p ns in
    let same : (column : ℕ) → stored_number view place column ≡ get_or ns column (pos 0) = λ column. ap (λ o. option_map_or (λ numbers. get_or numbers column (pos 0)) o (pos 0)) there in
    (λ h column. subst P (sym (same column)) (both.0 h column), λ h. both.1 (λ column. subst P (same column) (h column)))

-- ---- what can be stored

pub few_sums : (objects : Schema) (place : Place) → IsLimited objects → (g : IsGroup objects place) → length g.of.sums ≤ 8
few_sums objects place limited g = (limited.narrow place.0 (schema.view g.of) g.view_is).1

-- an index can hold the numbers of a group
pub value_holds : (objects : Schema) (place : Place) → IsLimited objects → (g : IsGroup objects place) (value : List ℕ) → length value ≡ 16 * suc (length g.of.sums) → CanHold place.0 place.1 value
value_holds objects place limited g value long =
    let narrow = limited.narrow place.0 (schema.view g.of) g.view_is in
    let bytes = (width_law (group_kinds objects g.of) g.group g.fits).1 in
    let key : length place.1 ≡ length (key_bytes (group_kinds objects g.of) g.group) = ap length g.key in
    let wide = narrow.0 in
    let sums = narrow.1 in
    record { of_index = few_numbers objects place.0 (schema.view g.of) limited g.view_is; of_key = omega (arith, bytes, key, wide); of_value = omega (arith, long, sums) }

pub can_store : (objects : Schema) (place : Place) (maps : ℕ → Map) (limit : Option ℕ) (sums : ℕ) → IsLimited objects → limit ≡ None → (g : IsGroup objects place) → sums ≡ length g.of.sums → CanStore maps limit place (suc sums)
can_store objects place maps limit sums limited none g many value long = (
  value_holds objects place limited g value (long ∙ ap (λ (n : ℕ). 16 * suc n) many),
  subst (λ l. IsWithin l (used (with_map maps place.0 (Rattle.std.specs.FinMap.insert (maps place.0) place.1 value)))) (sym none) tt,
)

-- ---- the row of a group

-- the row that these bytes are
pub record IsRow (view : ViewRows) (place : Place) (sums : ℕ) (b : List ℕ) : Type 0 where
  pub numbers : List ℤ
  pub there : get view place ≡ Some numbers
  pub bytes : b ≡ numbers_bytes numbers
  pub fits : Fits128 numbers
  pub many : length numbers ≡ suc sums

pub row_length : (view : ViewRows) (place : Place) (sums : ℕ) (b : List ℕ) → IsRow view place sums b → length b ≡ 16 * suc sums
row_length view place sums b row = ap length row.bytes ∙ (length_numbers row.numbers ∙ ap (λ (n : ℕ). 16 * n) row.many)

-- ---- what the maps told

module _ {T : Type 0} (maps : T → ℕ → Map) (read own : T) (place : Place) (same : read ≡ own) where
  -- a value was found
  pub found_there : (group b : List ℕ) → group ≡ place.1 → Some b ≡ get (maps read place.0) group → stored_at (maps own) place ≡ Some b
  found_there group b key found = ap (λ (t : T). stored_at (maps t) place) (sym same) ∙ (ap (get (maps read place.0)) (sym key) ∙ sym found)

  -- something was found, or nothing
  pub not_absent : (o : Option (Bor (List ℕ))) → option_copied o ≡ get (maps read place.0) place.1 → is_some o ≡ true → stored_at (maps own) place ≡ None → ⊥
  not_absent o found some none = copied_some o (stored_at (maps own) place) (found ∙ ap (λ (t : T). stored_at (maps t) place) same) some none

  pub found_absent : (o : Option (Bor (List ℕ))) → option_copied o ≡ get (maps read place.0) place.1 → is_some o ≡ false → stored_at (maps own) place ≡ None
  found_absent o found none = by o (found ∙ ap (λ (t : T). stored_at (maps t) place) same) none
    where
      by : (p : Option (Bor (List ℕ))) → option_copied p ≡ stored_at (maps own) place → is_some p ≡ false → stored_at (maps own) place ≡ None
      by None e h = sym e
      by (Some b) e h = absurd (true≢false h)

module _ (ds : Definitions) (maps : ℕ → Map) (state : State) (place : Place) (g : IsGroup (schema_of ds) place) (c : Contents) (k : IsClosed ds maps state c) where
  its_view : numbered c.objects place.0 ≡ Some (schema.view g.of)
  its_view = subst (λ os. numbered os place.0 ≡ Some (schema.view g.of)) k.held.objects g.view_is

  its_bytes : stored_at maps place ≡ option_map numbers_bytes (get c.view place)
  its_bytes = k.held.views place.0 g.of its_view place.1

  -- a row is stored where the maps have one
  pub stored_row : (b : List ℕ) → stored_at maps place ≡ Some b → IsRow c.view place (length g.of.sums) b
  stored_row b is = by (get c.view place) refl
    where
      by : (o : Option (List ℤ)) → get c.view place ≡ o → IsRow c.view place (length g.of.sums) b
      by None none = absurd (let no : None ≡ Some b = sym (its_bytes ∙ ap (option_map numbers_bytes) none) ∙ is in cc)
      by (Some numbers) there =
          let all : Some b ≡ Some (numbers_bytes numbers) = sym is ∙ (its_bytes ∙ ap (option_map numbers_bytes) there) in
          let bytes : b ≡ numbers_bytes numbers = cc in
          let long = has_length (stored_at maps place) b (suc (length g.of.sums)) (k.held.pays place.0 g.of its_view place.1).numbers (sym is) (k.held.pays place.0 g.of its_view place.1).has in
          let own = ap length bytes ∙ length_numbers numbers in
          record {
            numbers = numbers;
            there = there;
            bytes = bytes;
            fits = huge_fit numbers (k.held.in_range place.0 g.of its_view place.1 numbers there);
            many = omega (arith, long, own);
          }

  pub absent_row : stored_at maps place ≡ None → get c.view place ≡ None
  absent_row is = by (get c.view place) refl
    where
      by : (o : Option (List ℤ)) → get c.view place ≡ o → get c.view place ≡ None
      by None none = none
      by (Some numbers) there = absurd (let no : Some (numbers_bytes numbers) ≡ None = sym (its_bytes ∙ ap (option_map numbers_bytes) there) ∙ is in cc)

  pub stored_absent : get c.view place ≡ None → stored_at maps place ≡ None
  stored_absent none = its_bytes ∙ ap (option_map numbers_bytes) none

  -- no pay is kept on it
  pub unpaid : (session : ℕ) → pays_on place (c.kept session) ≡ []
  unpaid session = ap (pays_on place) (k.unkept session)

  -- ---- zeros

  pub tells_zeros : (b : List ℕ) (told : Bool) → stored_at maps place ≡ Some b → ((numbers : List ℤ) → Fits128 numbers → b ≡ numbers_bytes numbers → IsTrue told ↔ AllByRecursion (λ n. n ≡ pos 0) numbers) → IsTrue told ↔ HasZeros c.view place
  tells_zeros b told is tells =
      let row = stored_row b is in
      let told_of = tells row.numbers row.fits row.bytes in
      let each = each_stored (λ n. n ≡ pos 0) refl c.view place row.numbers row.there in
      (λ t. (subst IsSome (sym row.there) refl, each.0 (told_of.0 t)), λ h. told_of.1 (each.1 h.1))

  pub no_zeros : stored_at maps place ≡ None → HasZeros c.view place → ⊥
  no_zeros is h = let there = some_of (get c.view place) h.0 in not_both (get c.view place) there.0 there.1 (absent_row is)

  pub has_ghost : HasZeros c.view place → HasGhost ds maps state place c
  has_ghost h =
      let there = some_of (get c.view place) h.0 in
      let row = stored_row (numbers_bytes there.0) (its_bytes ∙ ap (option_map numbers_bytes) there.1) in
      let zeros_all = (each_stored (λ n. n ≡ pos 0) refl c.view place row.numbers row.there).1 h.1 in
      let same : row.numbers ≡ zeros (suc (length g.of.sums)) = sym (all_zeros row.numbers (suc (length g.of.sums)) row.many zeros_all) ∙ zeros_are (suc (length g.of.sums)) in
      record { held = k.held; of = g.of; is = its_view; zero = row.there ∙ ap Some same; unpaid = unpaid }

  pub has_absent : (sums : ℕ) → sums ≡ length g.of.sums → get c.view place ≡ None → HasAbsent ds maps state place sums c
  has_absent sums many none = record { held = k.held; of = g.of; is = its_view; many = sym many; absent = none }

  -- no row is open in memory still
  pub still_closed : (es : Definitions) (new : ℕ → Map) (after : State) (view : ViewRows) → after.rows ≡ state.rows → IsHeld es new after (with_view c view) → IsClosed es new after (with_view c view)
  still_closed es new after view rows held = record { held = held; closed = rows ∙ k.closed; unkept = k.unkept }
