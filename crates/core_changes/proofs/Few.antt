-- How many changes open transactions keep, and how many locks a change takes.
use Rattle.std.specs.Prelude.{◌≡◌, ℕ, zero, suc, ◌+◌, ◌*◌, ◌≤◌, ◌==◌, cond, if◌then◌else◌, Bool, true, false, List, [], ◌∷◌, ◌++◌, filter, map, length, Option, None, Some, refl}
use Rattle.std.specs.Option.{option_to_list}
use Rattle.std.specs.List.{sum, flat_map, filter_map}
use mathlib.Core.Path.{sym, ap, subst, ◌∙◌}
use Rattle.std.proofs.Common.{arith, length-append}
use Rattle.std.proofs.lemmas.List.{length-map}
use Rattle.std.proofs.lemmas.List.Concat.{flat_map-cons}
use Rattle.std.proofs.lemmas.List.Sums.{sum_by-cons}
use Rattle.iv_types.specs.Maps.{Map}
use Rattle.iv_types.specs.Encoding.{key_bytes}
use Rattle.iv_types.specs.Intervals.{point}
use Rattle.iv_types.specs.declared.catalog.IndexDef.{IndexDef}
use Rattle.iv_types.specs.declared.catalog.TableDef.{TableDef}
use Rattle.iv_types.specs.declared.catalog.Second.{Second}
use Rattle.iv_types.specs.declared.lock.LockMode.TheVariants.{Share}
use Rattle.iv_types.specs.declared.lock.Want.{Want}
use Rattle.iv_meaning.specs.View.{index_key}
use Rattle.iv_meaning.specs.Database.{Row}
use Rattle.iv_meaning.specs.Schema.{Schema, Object, table, index, view, ViewTree, numbered, items_at, indexes_of, key_kinds, as_index, as_view}
use Rattle.iv_meaning.specs.Escrow.{IsSession}
use Rattle.query_laws.specs.Limited.{IsLimited}
use Rattle.txn_machine.specs.Counts.{kept_size, note_size, most_of_transaction}
use Rattle.txn_machine.specs.Deltas.{RowChange, exclusive_point, entry_wants, look_ups, look_up_second, look_up_first}
use Rattle.txn_machine.specs.Keeping.{KeptStep, Put, Pay, changes_of}
use Rattle.txn_machine.specs.Keeping as machine
use Rattle.txn_machine.specs.Log.{Log}
use Rattle.txn_machine.specs.Steps.{put_wants}
use Rattle.txn_machine.specs.Store.{Store, schema_of}
use Rattle.txn_book.specs.Books.{IsBook, puts_of, open_changes}
use Rattle.txn_book.specs.Holding.{IsSame}
use Rattle.txn_book.specs.Opens.{open_at}
use Rattle.txn_book.specs.Txns.{txn_of, changes_in}
use Rattle.txn_book.specs.declared.open_table.Open.{Open}
use Rattle.txn_book.proofs.Booking.{has_place}
use Rattle.core_state.specs.Stands.{Holds, Texts}
use Rattle.core_state.specs.declared.state.CoreState.{CoreState}
use Rattle.core_state.proofs.Few.{changes_few}
use Rattle.core_state.proofs.Sessions.{as_many}

-- ---- changes

-- over all places
all_few : (opens : List (Option Open)) → ((j : ℕ) (o : Open) → open_at opens j ≡ Some o → puts_of (Some o) ≤ 524288) → open_changes opens ≤ 524288 * length opens
all_few [] each = omega arith
all_few (None ∷ opens) each = omega (arith, all_few opens (λ j o e. each (suc j) o e), sum_by-cons puts_of None opens)
all_few (Some o ∷ opens) each = omega (arith, all_few opens (λ j p e. each (suc j) p e), each 0 o refl, sum_by-cons puts_of (Some o) opens)

module _ {M : Type 0} (maps : M → ℕ → Map) (spare : M → ℕ → ℕ) (limit : M → Option ℕ) (core : CoreState M) (s : Store) (l : Log) (texts : Texts) (h : Holds maps spare limit core s l texts) (good : IsBook core.book) where
  one_few : (j : ℕ) (o : Open) (m : Option machine.Open) → IsSession j → open_at core.book.opens j ≡ Some o → IsSame (schema_of s) (Some o) m (l.logged j) → puts_of (Some o) ≤ 524288
  one_few j o None js there same = absurd same
  one_few j o (Some u) js there same =
      let small : o.txn_bytes ≤ most_of_transaction = (h.rooms.each j js o there).small in
      let bytes : o.txn_bytes ≡ sum (map (note_size (schema_of s)) u.notes) + sum (map (kept_size (schema_of s)) u.kept) = same.txn_bytes in
      let few = changes_few (schema_of s) u.kept in
      let many : length (changes_in (txn_of o).kept) ≡ length (changes_of u.kept) = as_many (txn_of o).kept u.kept (l.logged j).kept same.kept in
      omega (arith, small, bytes, few, many)

  each_few : (j : ℕ) (o : Open) → open_at core.book.opens j ≡ Some o → puts_of (Some o) ≤ 524288
  each_few zero o there = let bad : None ≡ Some o = sym h.book.nobody ∙ there in absurd cc
  each_few (suc k) o there =
      let lt = has_place core.book.opens (suc k) o there in
      let js : IsSession (suc k) = (omega arith, omega (arith, lt, good.places)) in
      one_few (suc k) o (s.open_of (suc k)) js there (subst (λ x. IsSame (schema_of s) x (s.open_of (suc k)) (l.logged (suc k))) there (h.book.txns (suc k) js))

  pub few_changes : open_changes core.book.opens ≤ 34078720
  few_changes = let all = all_few core.book.opens each_few in let places = good.places in omega (arith, all, places)

-- ---- locks

few_filtered : {X : Type 0} (p : X → Bool) (xs : List X) → length (filter p xs) ≤ length xs
few_filtered p [] = omega arith
few_filtered p (x ∷ xs) = elim (p x) as (λ b. length (cond b (x ∷ filter p xs) (filter p xs)) ≤ suc (length xs)) [ true ↦ omega (arith, few_filtered p xs) | false ↦ omega (arith, few_filtered p xs) ]

entries_few : (objects : Schema) → IsLimited objects → (t : TableDef) (key : List ℕ) (row : Row) → length (entry_wants objects t key row) ≤ 65
entries_few objects limited t key row =
    let few = few_filtered (λ (i : IndexDef). i.table == t.number) (filter_map as_index objects) in
    let most = limited.indexes in
    let same = length-map (indexes_of objects t.number) (λ (i : IndexDef). exclusive_point i.number (index_key t i row)) in
    omega (arith, few, most, same)

rows_few : {X : Type 0} (n : ℕ) (f : Row → List X) → ((row : Row) → length (f row) ≤ n) → (one other : Option Row) → length (flat_map f (option_to_list one ++ option_to_list other)) ≤ n + n
rows_few n f each None None = omega arith
rows_few n f each None (Some r) = omega (arith, each r, ap length (flat_map-cons f r []), length-append (f r) [])
rows_few n f each (Some r) None = omega (arith, each r, ap length (flat_map-cons f r []), length-append (f r) [])
rows_few n f each (Some r) (Some q) =
    omega (arith, each r, each q, ap length (flat_map-cons f r (q ∷ [])), length-append (f r) (flat_map f (q ∷ [])), ap length (flat_map-cons f q []), length-append (f q) [])

-- what is looked up in this object
abbrev second_at : Second → Row → Option Object → List Want
second_at second row o = elim o [
  | Some (table t) ↦ record { index = second.table; interval = point (key_bytes (key_kinds t) (items_at row second.joined)); mode = Share } ∷ []
  | _ ↦ []
]

second_few : (objects : Schema) (second : Second) (row : Row) → length (look_up_second objects second row) ≤ 1
second_few objects second row = by (numbered objects second.table) refl
  where
    by : (o : Option Object) → numbered objects second.table ≡ o → length (look_up_second objects second row) ≤ 1
    by (Some (table t)) e = let same : length (look_up_second objects second row) ≡ 1 = ap (λ o. length (second_at second row o)) e in omega (arith, same)
    by (Some (index i)) e = let same : length (look_up_second objects second row) ≡ 0 = ap (λ o. length (second_at second row o)) e in omega (arith, same)
    by (Some (view v)) e = let same : length (look_up_second objects second row) ≡ 0 = ap (λ o. length (second_at second row o)) e in omega (arith, same)
    by None e = let same : length (look_up_second objects second row) ≡ 0 = ap (λ o. length (second_at second row o)) e in omega (arith, same)

looked_few : (objects : Schema) (c : RowChange) (v : ViewTree) → length (look_ups objects c v) ≤ 2
looked_few objects c v = by v.second refl
  where
    on : Option Second → List Want
    on o = elim o [
      | None ↦ []
      | Some second ↦
          if c.key.0 == v.first then flat_map (look_up_second objects second) (option_to_list c.before ++ option_to_list c.after)
          else if c.key.0 == second.table then look_up_first objects second c.key.1
          else []
    ]

    two : (first second : Bool) (xs ys : List Want) → length xs ≤ 2 → length ys ≤ 2 → length (if first then xs else if second then ys else []) ≤ 2
    two true second xs ys one other = one
    two false true xs ys one other = other
    two false false xs ys one other = omega arith

    by : (o : Option Second) → v.second ≡ o → length (look_ups objects c v) ≤ 2
    by None e = let same : length (look_ups objects c v) ≡ 0 = ap (λ o. length (on o)) e in omega (arith, same)
    by (Some second) e =
        let same : length (look_ups objects c v) ≡ length (on (Some second)) = ap (λ o. length (on o)) e in
        let few = two (c.key.0 == v.first) (c.key.0 == second.table) (flat_map (look_up_second objects second) (option_to_list c.before ++ option_to_list c.after)) (look_up_first objects second c.key.1)
        (rows_few 1 (look_up_second objects second) (second_few objects second) c.before c.after) (omega arith) in
        omega (arith, same, few)

twice : {X Y : Type 0} (f : X → List Y) → ((x : X) → length (f x) ≤ 2) → (xs : List X) → length (flat_map f xs) ≤ 2 * length xs
twice f each [] = omega arith
twice f each (x ∷ xs) = omega (arith, twice f each xs, each x, ap length (flat_map-cons f x xs), length-append (f x) (flat_map f xs))

-- a change takes 258 locks at most
pub few_wants : (objects : Schema) → IsLimited objects → (o : Option Object) (c : RowChange) → length (put_wants objects o c) ≤ 258
few_wants objects limited (Some (table t)) c =
    let rows = rows_few 65 (entry_wants objects t c.key.1) (entries_few objects limited t c.key.1) c.before c.after in
    let looked = twice (look_ups objects c) (looked_few objects c) (filter_map as_view objects) in
    let most = limited.views in
    let both = length-append (flat_map (entry_wants objects t c.key.1) (option_to_list c.before ++ option_to_list c.after)) (flat_map (look_ups objects c) (filter_map as_view objects)) in
    omega (arith, rows, looked, most, both)
few_wants objects limited (Some (index i)) c = omega arith
few_wants objects limited (Some (view v)) c = omega arith
few_wants objects limited None c = omega arith
