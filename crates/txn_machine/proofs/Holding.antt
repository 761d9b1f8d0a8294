-- The locks that a step asks for are those that its effects need.
use Rattle.std.specs.Prelude.{◌≡◌, ◌≢◌, ℕ, zero, suc, ◌==◌, cond, Bool, true, false, List, [], ◌∷◌, ◌++◌, map, filter, slice_get, Option, Some, None}
use Rattle.std.specs.List.{Contains, flat_map, filter_map, cons_option}
use Rattle.std.specs.Option.{option_map, option_and_then, option_to_list}
use mathlib.Core.Path.{refl, sym, ap, subst, ◌∙◌}
use mathlib.Core.Logic.{inl, inr}
use Rattle.std.proofs.Common.{arith, eq-eqb, eqb-true}
use Rattle.std.proofs.lemmas.Option.{none-some, same_Some}
use Rattle.std.proofs.lemmas.List.Elements.{Contains-append_left, Contains-append_right, Contains-append_cases}
use Rattle.std.specs.declared.cmp.Ordering.TheVariants.{Less, Equal}
use Rattle.std.specs.Ordering.{nat_cmp, ordering_then}
use Rattle.std.specs.Cmp.{tied_itself, nat_cmp_total}
use Rattle.std.specs.Cmp.Lexicographic.{slice_cmp}
use Rattle.iv_types.specs.declared.lock.LockMode.{LockMode}
use Rattle.iv_types.specs.declared.lock.LockMode.TheVariants.{Share, Exclusive}
use Rattle.iv_types.specs.declared.lock.Want.{Want}
use Rattle.iv_types.specs.declared.catalog.TableDef.{TableDef}
use Rattle.iv_types.specs.declared.catalog.IndexDef.{IndexDef}
use Rattle.iv_types.specs.declared.catalog.Second.{Second}
use Rattle.iv_types.specs.Intervals.{LiesIn, point}
use Rattle.iv_meaning.specs.Schema.{Schema, Object, table, index, view, ViewTree, numbered, as_table, as_index, indexes_of, key_kinds, items_at}
use Rattle.iv_types.specs.Encoding.{key_bytes}
use Rattle.iv_meaning.specs.Database.{Row, Rows}
use Rattle.iv_meaning.specs.View.{index_key}
use Rattle.txn_machine.specs.Deltas.{RowChange, exclusive_point, entry_wants, look_up_second, look_up_first, look_ups, views_of, wants_of}
use Rattle.txn_machine.specs.Entries.{secondary_key, entry_key, HasEntry, NeedsAt}
use Rattle.txn_machine.specs.Ghosts.{Holds, MayRead}
use Rattle.txn_machine.specs.ViewLaws.{AreSound}
use Rattle.txn_machine.proofs.Good.{HoldsFor}
use Rattle.iv_types.proofs.Fitting.{lies_so}

-- ---- elements of lists

pub contains_here : {X : Type 0} (x : X) (xs : List X) → Contains (x ∷ xs) x
contains_here x xs = (0, omega arith, refl)

pub contains_next : {X : Type 0} (y : X) (xs : List X) (x : X) → Contains xs x → Contains (y ∷ xs) x
contains_next y xs x c = (suc c.0, omega (arith, c.1), c.2)

pub by_contains : {X P : Type 0} (y : X) (xs : List X) (x : X) → Contains (y ∷ xs) x → (y ≡ x → P) → (Contains xs x → P) → P
by_contains y xs x (zero, below, is) f g = f is
by_contains y xs x (suc k, below, is) f g = g (k, omega (arith, below), is)

pub contains_none : {X : Type 0} (x : X) → Contains [] x → ⊥
contains_none x c = let below = c.1 in omega arith

pub contains_map : {X Y : Type 0} (f : X → Y) (xs : List X) (x : X) → Contains xs x → Contains (map f xs) (f x)
contains_map f [] x c = absurd (contains_none x c)
contains_map f (y ∷ xs) x c = by_contains y xs x c
    (λ e. subst (λ z. Contains (f y ∷ map f xs) (f z)) e (contains_here (f y) (map f xs)))
    (λ d. contains_next (f y) (map f xs) (f x) (contains_map f xs x d))

pub contains_filter : {X : Type 0} (test : X → Bool) (xs : List X) (x : X) → Contains xs x → test x ≡ true → Contains (filter test xs) x
contains_filter test [] x c t = absurd (contains_none x c)
contains_filter test (y ∷ xs) x c t = by_contains y xs x c
    (λ e. subst (λ b. Contains (cond b (y ∷ filter test xs) (filter test xs)) x) (sym (ap test e ∙ t)) (subst (Contains (y ∷ filter test xs)) e (contains_here y (filter test xs))))
    (λ d. let rest = contains_filter test xs x d t in
    elim (test y) as (λ b. Contains (cond b (y ∷ filter test xs) (filter test xs)) x) [ true ↦ contains_next y (filter test xs) x rest | false ↦ rest ])

pub contains_filter_map : {X Y : Type 0} (h : X → Option Y) (xs : List X) (x : X) (y : Y) → Contains xs x → h x ≡ Some y → Contains (filter_map h xs) y
contains_filter_map h [] x y c e = absurd (contains_none x c)
contains_filter_map h (z ∷ xs) x y c e = by_contains z xs x c
    (λ i. subst (λ o. Contains (cons_option o (filter_map h xs)) y) (sym (ap h i ∙ e)) (contains_here y (filter_map h xs)))
    (λ d. let rest = contains_filter_map h xs x y d e in
    elim (h z) as (λ o. Contains (cons_option o (filter_map h xs)) y) [ Some w ↦ contains_next w (filter_map h xs) y rest | None ↦ rest ])

pub contains_get : {X : Type 0} (xs : List X) (i : ℕ) (x : X) → slice_get xs i ≡ Some x → Contains xs x
contains_get [] i x e = absurd (none-some x e)
contains_get (y ∷ xs) zero x e = subst (Contains (y ∷ xs)) (same_Some y x e) (contains_here y xs)
contains_get (y ∷ xs) (suc i) x e = contains_next y xs x (contains_get xs i x e)

-- a property of all elements of parts is one of all
pub each_flat : {X Y : Type 0} (P : Y → Type 0) (f : X → List Y) (xs : List X) → ((x : X) (y : Y) → Contains (f x) y → P y) → (y : Y) → Contains (flat_map f xs) y → P y
each_flat P f [] h y c = absurd (contains_none y c)
each_flat P f (x ∷ xs) h y c = elim (Contains-append_cases (f x) (flat_map f xs) y c) [
  | inl d ↦ h x y d
  | inr d ↦ each_flat P f xs h y d
]

-- ---- points

same_bytes : (a : List ℕ) → slice_cmp nat_cmp a a ≡ Equal
same_bytes [] = refl
same_bytes (x ∷ a) = ap (λ o. ordering_then o (slice_cmp nat_cmp a a)) (tied_itself nat_cmp_total x) ∙ same_bytes a

below_more : (a : List ℕ) → slice_cmp nat_cmp a (a ++ 0 ∷ []) ≡ Less
below_more [] = refl
below_more (x ∷ a) = ap (λ o. ordering_then o (slice_cmp nat_cmp a (a ++ 0 ∷ []))) (tied_itself nat_cmp_total x) ∙ below_more a

pub in_point : (key : List ℕ) → LiesIn key (point key)
in_point key = lies_so key (point key) (λ e. cc (sym (same_bytes key) ∙ e)) (below_more key)

pub holds_point : (mode : LockMode) (locks : List Want) (number : ℕ) (key : List ℕ) → Contains locks (record { index = number; interval = point key; mode = mode }) → Holds locks mode number key
holds_point mode locks number key c = record { lock = record { index = number; interval = point key; mode = mode }; held = c; mode_is = refl; index_is = refl; covers = in_point key }

-- ---- the wants of a change

pub table_is : (objects : Schema) (rows : Rows) (n : ℕ) (t : TableDef) → AreSound objects rows → numbered objects n ≡ Some (table t) → t.number ≡ n
table_is objects rows n t s e = (s.objects n (table t) e).0

same_table : (t u : TableDef) → Some (table t) ≡ Some (table u) → t ≡ u
same_table t u e = cc

numbered_there : (objects : Schema) (n : ℕ) (o : Object) → numbered objects n ≡ Some o → Contains objects o
numbered_there objects zero o e = absurd (none-some o e)
numbered_there objects (suc n) o e = contains_get objects n o e

module _ (objects : Schema) (rows : Rows) (sound : AreSound objects rows) (t : TableDef) (c : RowChange) (of : numbered objects c.key.0 ≡ Some (table t)) where
  -- an entry of a row of the table is among the row's wants
  entry_wanted : (row : Row) (n : ℕ) (key : List ℕ) → entry_key objects n c.key row ≡ Some key → Holds (entry_wants objects t c.key.1 row) Exclusive n key
  unfolding entry_key
  entry_wanted row n key e = go (n == c.key.0) refl e
    where
      number_is : t.number ≡ c.key.0
      number_is = table_is objects rows c.key.0 t sound of

      secondary : (o : Option Object) → numbered objects n ≡ o → secondary_key objects o c.key row ≡ Some key → Holds (entry_wants objects t c.key.1 row) Exclusive n key
      secondary None is h = absurd (none-some key h)
      secondary (Some (table u)) is h = absurd (none-some key h)
      secondary (Some (view v)) is h = absurd (none-some key h)
      secondary (Some (index i)) is h = of_table (i.table == c.key.0) refl h
        where
          of_table : (b : Bool) → (i.table == c.key.0) ≡ b → cond b (option_map (λ (u : TableDef). index_key u i row) (option_and_then as_table (numbered objects c.key.0))) None ≡ Some key → Holds (entry_wants objects t c.key.1 row) Exclusive n key
          of_table false f h = absurd (none-some key h)
          of_table true f h =
              let key_is : index_key t i row ≡ key = same_Some (index_key t i row) key (sym (ap (λ (o : Option Object). option_map (λ (u : TableDef). index_key u i row) (option_and_then as_table o)) of) ∙ h) in
              let this : i.number ≡ n = (sound.objects n (index i) is).0 in
              let of_t : (i.table == t.number) ≡ true = eq-eqb i.table t.number (eqb-true i.table c.key.0 f ∙ sym number_is) in
              let among : Contains (indexes_of objects t.number) i = contains_filter (λ (j : IndexDef). j.table == t.number) (filter_map as_index objects) i (contains_filter_map as_index objects (index i) i (numbered_there objects n (index i) is) refl) of_t in
              let wanted : Contains (entry_wants objects t c.key.1 row) (exclusive_point i.number (index_key t i row)) =
              contains_next (exclusive_point t.number c.key.1) (map (λ (j : IndexDef). exclusive_point j.number (index_key t j row)) (indexes_of objects t.number)) (exclusive_point i.number (index_key t i row))
              (contains_map (λ (j : IndexDef). exclusive_point j.number (index_key t j row)) (indexes_of objects t.number) i among) in
              subst (λ m. Holds (entry_wants objects t c.key.1 row) Exclusive m key) this
              (subst (Holds (entry_wants objects t c.key.1 row) Exclusive i.number) key_is (holds_point Exclusive (entry_wants objects t c.key.1 row) i.number (index_key t i row) wanted))

      go : (b : Bool) → (n == c.key.0) ≡ b → cond b (Some c.key.1) (secondary_key objects (numbered objects n) c.key row) ≡ Some key → Holds (entry_wants objects t c.key.1 row) Exclusive n key
      go false f h = secondary (numbered objects n) refl h
      go true f h =
          let first : Holds (entry_wants objects t c.key.1 row) Exclusive t.number c.key.1 = holds_point Exclusive (entry_wants objects t c.key.1 row) t.number c.key.1 (contains_here (exclusive_point t.number c.key.1) (map (λ (j : IndexDef). exclusive_point j.number (index_key t j row)) (indexes_of objects t.number))) in
          subst (λ m. Holds (entry_wants objects t c.key.1 row) Exclusive m key) (number_is ∙ sym (eqb-true n c.key.0 f)) (subst (Holds (entry_wants objects t c.key.1 row) Exclusive t.number) (same_Some c.key.1 key h) first)

  abbrev both : List Row
  both = option_to_list c.before ++ option_to_list c.after

  abbrev entries_wanted : List Want
  entries_wanted = flat_map (entry_wants objects t c.key.1) both

  abbrev looks : List Want
  looks = flat_map (look_ups objects c) (views_of objects)

  holds_in : (mode : LockMode) (ls ms : List Want) (n : ℕ) (key : List ℕ) → ((w : Want) → Contains ls w → Contains ms w) → Holds ls mode n key → Holds ms mode n key
  holds_in mode ls ms n key h k = record { lock = k.lock; held = h k.lock k.held; mode_is = k.mode_is; index_is = k.index_is; covers = k.covers }

  flat_holds : (f : Row → List Want) (rs : List Row) (r : Row) (w : Want) → Contains rs r → Contains (f r) w → Contains (flat_map f rs) w
  flat_holds f [] r w c h = absurd (contains_none r c)
  flat_holds f (y ∷ rs) r w c h = by_contains y rs r c
      (λ e. Contains-append_left (f y) (flat_map f rs) w (subst (λ z. Contains (f z) w) (sym e) h))
      (λ d. Contains-append_right (f y) (flat_map f rs) w (flat_holds f rs r w d h))

  row_wants : (row : Row) → Contains both row → (w : Want) → Contains (entry_wants objects t c.key.1 row) w → Contains (wants_of objects t c) w
  row_wants row is w h = Contains-append_left entries_wanted looks w (flat_holds (entry_wants objects t c.key.1) both row w is h)

  in_before : (row : Row) → c.before ≡ Some row → Contains both row
  in_before row e = Contains-append_left (option_to_list c.before) (option_to_list c.after) row (subst (λ (o : Option Row). Contains (option_to_list o) row) (sym e) (contains_here row []))

  in_after : (row : Row) → c.after ≡ Some row → Contains both row
  in_after row e = Contains-append_right (option_to_list c.before) (option_to_list c.after) row (subst (λ (o : Option Row). Contains (option_to_list o) row) (sym e) (contains_here row []))

  -- what is looked up is locked in Share
  second_shared : (second : Second) (row : Row) (w : Want) → Contains (look_up_second objects second row) w → w.mode ≡ Share
  second_shared second row w h = go (numbered objects second.table) h
    where
      go : (o : Option Object) → Contains (elim o as (λ (o : Option Object). List Want) [ Some (table u) ↦ record { index = second.table; interval = point (key_bytes (key_kinds u) (items_at row second.joined)); mode = Share } ∷ [] | _ ↦ [] ]) w → w.mode ≡ Share
      go None h = absurd (contains_none w h)
      go (Some (index i)) h = absurd (contains_none w h)
      go (Some (view v)) h = absurd (contains_none w h)
      go (Some (table u)) h = by_contains (record { index = second.table; interval = point (key_bytes (key_kinds u) (items_at row second.joined)); mode = Share }) [] w h (λ e. sym (ap (λ (x : Want). x.mode) e)) (λ d. absurd (contains_none w d))

  shared : (v : ViewTree) (w : Want) → Contains (look_ups objects c v) w → w.mode ≡ Share
  shared v w h = go v.second h
    where
      first_or : (second : Second) (b d : Bool) → Contains (cond b (flat_map (look_up_second objects second) both) (cond d (look_up_first objects second c.key.1) [])) w → w.mode ≡ Share
      first_or second true d h = each_flat (λ (x : Want). x.mode ≡ Share) (look_up_second objects second) both (second_shared second) w h
      first_or second false true h = by_contains _ [] w h (λ e. sym (ap (λ (x : Want). x.mode) e)) (λ k. absurd (contains_none w k))
      first_or second false false h = absurd (contains_none w h)

      go : (o : Option Second) → Contains (elim o as (λ (o : Option Second). List Want) [ None ↦ [] | Some second ↦ cond (c.key.0 == v.first) (flat_map (look_up_second objects second) both) (cond (c.key.0 == second.table) (look_up_first objects second c.key.1) []) ]) w → w.mode ≡ Share
      go None h = absurd (contains_none w h)
      go (Some second) h = first_or second (c.key.0 == v.first) (c.key.0 == second.table) h

  needs_held : (n : ℕ) (key : List ℕ) → NeedsAt objects c n key → MayRead (wants_of objects t c) n key
  needs_held n key m = inl (record {
    lock = m.want;
    held = Contains-append_right entries_wanted looks m.want m.wanted;
    mode_is = each_flat (λ (x : Want). x.mode ≡ Share) (look_ups objects c) (views_of objects) (λ v w h. shared v w h) m.want m.wanted;
    index_is = m.index_is;
    covers = m.covers;
  })

  entry_held : (o : Option Row) → ((row : Row) → o ≡ Some row → Contains both row) → (n : ℕ) (key : List ℕ) → HasEntry objects n key c.key o → Holds (wants_of objects t c) Exclusive n key
  entry_held None in_both n key h = absurd h
  entry_held (Some row) in_both n key h = holds_in Exclusive (entry_wants objects t c.key.1 row) (wants_of objects t c) n key (row_wants row (in_both row refl)) (entry_wanted row n key h)

  some_row : c.before ≢ c.after → (row : Row) × Contains both row
  some_row differ = go c.before c.after refl refl
    where
      go : (a b : Option Row) → c.before ≡ a → c.after ≡ b → (row : Row) × Contains both row
      go (Some r) b e f = (r, in_before r e)
      go None (Some r) e f = (r, in_after r f)
      go None None e f = absurd (differ (e ∙ sym f))

  pub wants_hold : c.before ≢ c.after → HoldsFor objects (wants_of objects t c) c
  wants_hold differ =
      let one = some_row differ in
      record {
        key = holds_in Exclusive (entry_wants objects t c.key.1 one.0) (wants_of objects t c) c.key.0 c.key.1 (row_wants one.0 one.1)
            (subst (λ m. Holds (entry_wants objects t c.key.1 one.0) Exclusive m c.key.1) (table_is objects rows c.key.0 t sound of)
            (holds_point Exclusive (entry_wants objects t c.key.1 one.0) t.number c.key.1 (contains_here (exclusive_point t.number c.key.1) (map (λ (j : IndexDef). exclusive_point j.number (index_key t j one.0)) (indexes_of objects t.number)))));
        before = entry_held c.before in_before;
        after = entry_held c.after in_after;
        needs = needs_held;
      }
