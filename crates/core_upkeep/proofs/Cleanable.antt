-- Which stored rows may be removed.
use Rattle.std.specs.Prelude.{◌≡◌, ◌≢◌, ◌↔◌, ℕ, suc, cond, not, true, false, Bool, ℤ, pos, List, [], ◌∷◌, map, length, get_or, Option, None, Some, IsSome, IsTrue, IfSome, refl}
use Rattle.std.specs.Option.{option_map}
use Rattle.std.specs.List.{AllByRecursion, Contains}
use Rattle.std.specs.FinMap.{get}
use mathlib.Core.Path.{sym, ap, subst, ◌∙◌}
use mathlib.Core.Logic.{inl, inr}
use Rattle.std.proofs.Common.{arith}
use Rattle.std.proofs.lemmas.Bool.{true≢false}
use Rattle.std.proofs.lemmas.Int.{ints}
use Rattle.std.proofs.lemmas.List.Elements.{Contains-append_right}
use Rattle.iv_types.specs.Maps.{Map}
use Rattle.iv_types.specs.declared.lock.GroupDelta.{GroupDelta}
use Rattle.table_laws.specs.Place.{Place}
use Rattle.iv_meaning.specs.Escrow.{IsSession, value}
use Rattle.iv_meaning.specs.Schema.{Schema, ViewTree, view, numbered}
use Rattle.ghost_rows.specs.Kept as ghost
use Rattle.ghost_rows.specs.Kept.{Pays, AllCount, IsUnpaid}
use Rattle.ghost_rows.specs.Numbers.{numbers_bytes}
use Rattle.ghost_rows.specs.State.{State as ViewState, stored_at, AreKept}
use Rattle.ghost_rows.specs.Candidates.{IsAmong}
use Rattle.ghost_rows.proofs.NumberSteps.{numbers_same}
use Rattle.ghost_rows.proofs.RowLemmas.{huge_fit}
use Rattle.txn_machine.specs.Deltas.{is_for, worth}
use Rattle.txn_machine.specs.Ghosts.{IsCleanable}
use Rattle.txn_machine.specs.Keeping.{KeptStep, Put, Pay, increments}
use Rattle.txn_machine.specs.KeptLaws.{IsDelta}
use Rattle.txn_machine.specs.State.{State}
use Rattle.txn_machine.specs.Stored.{IsStoredRow}
use Rattle.txn_machine.specs.Store.{now, schema_of}
use Rattle.txn_machine.proofs.Columns.{number_in_row}
use Rattle.txn_machine.proofs.Reached.{stored_law}
use Rattle.txn_machine.proofs.Shapes.{delta_law, stored_row_law}
use Rattle.version_chain.specs.Chains.{is_empty}
use Rattle.data_store.specs.Contents.{contents_of, pays_on}
use Rattle.data_store.specs.ViewPast.{view_of}
use Rattle.data_store.specs.Reading.{CanBeRead}
use Rattle.data_store.proofs.Finding.{alike}
use Rattle.data_store.proofs.NoVersions.{no_version_law}
use Rattle.data_store.proofs.PastEntries.{view_defined, is_some_view}
use Rattle.iv_meaning.specs.Objects.{object_of, view_tree}
use Rattle.data_changes.proofs.Accounts.{increments_as, account_as, fresh_at}
use Rattle.core_state.specs.Stands.{Began}
use Rattle.core_state.specs.declared.state.CoreState.{CoreState}
use Rattle.core_upkeep.specs.Cleaning.{IsUnlocked}

-- ---- kept pays

not_zero : (objects : Schema) (d : GroupDelta) → IsDelta objects d → d.count ≢ pos 0
not_zero objects d is e = elim is.one [ inl p ↦ absurd (omega (arith, ints, e, p)) | inr n ↦ absurd (omega (arith, ints, e, n)) ]

counts_all : (objects : Schema) (place : Place) (ks : List KeptStep) → ((d : GroupDelta) → Contains ks (Pay d) → IsDelta objects d) → AllByRecursion (λ d. d.count ≢ pos 0) (pays_on place ks)
counts_all objects place [] h = tt
counts_all objects place (Put c ds ∷ ks) h = counts_all objects place ks (λ d has. h d (Contains-append_right (Put c ds ∷ []) ks (Pay d) has))
counts_all objects place (Pay e ∷ ks) h =
    let rest = counts_all objects place ks (λ d has. h d (Contains-append_right (Pay e ∷ []) ks (Pay d) has)) in
    elim (is_for place e) as (λ b. AllByRecursion (λ d. d.count ≢ pos 0) (cond b (e ∷ pays_on place ks) (pays_on place ks))) [
      | true ↦ (not_zero objects e (h e (0, omega arith, refl)), rest)
      | false ↦ rest
    ]

pub map_nil : {A B : Type 0} (f : A → B) (xs : List A) → map f xs ≡ [] → xs ≡ []
map_nil f [] e = refl
map_nil f (x ∷ xs) e = absurd (cc)

pub some_of : {A : Type 0} (o : Option A) → IsSome o → (x : A) × (o ≡ Some x)
some_of None some = absurd (cc)
some_of (Some x) some = (x, refl)

none_or : {A : Type 0} (o : Option A) → (o ≡ None → ⊥) → IsSome o
none_or None h = absurd (h refl)
none_or (Some x) h = refl

map_some : {A B : Type 0} (f : A → B) (o : Option A) → IsSome (option_map f o) → (x : A) × (o ≡ Some x)
map_some f None some = absurd (cc)
map_some f (Some x) some = (x, refl)

-- ---- what is asked of locks and versions

-- what the test of a row tells
abbrev pub IsExact : ViewState → (ℕ → Map) → Place → Bool → Bool → Bool → Type 0
IsExact state held place locked versions result =
    locked ≡ false → versions ≡ false → (many : ℕ) (pays : Pays) (kept : AreKept state held place (suc many) pays) (n : ℤ)
    → value (ghost.account n 0 pays) ≡ get_or kept.numbers 0 (pos 0) → IsSome (stored_at held place) → AllCount pays → (result ≡ true) ↔ ((n ≡ pos 0) × IsUnpaid pays)

pub locked_as : (u : Bool) (P : Type 0) → (IsTrue u ↔ P) → (not u ≡ false) ↔ P
locked_as true P is = (λ e. is.0 refl, λ p. refl)
locked_as false P is = (λ e. absurd (true≢false e), λ p. absurd (true≢false (sym (is.1 p))))

pub versions_as : (e b : Bool) → e ≡ b → (not e ≡ false) ↔ (b ≡ true)
versions_as true b is = (λ e. sym is, λ t. refl)
versions_as false b is = (λ e. absurd (true≢false e), λ t. absurd (true≢false (sym (is ∙ t))))

-- ---- the row at a place of a view

module _ {M : Type 0} (maps : M → ℕ → Map) (spare : M → ℕ → ℕ) (limit : M → Option ℕ) (core : CoreState M) (s : State) (h : Began maps spare limit core s 0) (place : Place) where
  abbrev pub its_pays : Pays
  its_pays = λ j. pays_on place (now s.store j).kept

  abbrev pub count : ℤ
  count = fresh_at s.store place 0

  pub all_count : AllCount its_pays
  all_count j js = counts_all (schema_of s.store) place (now s.store j).kept (delta_law s h.reached j js).1

  unpaid_so : ((j : ℕ) → IsSession j → increments place 0 (now s.store j).kept ≡ []) → IsUnpaid its_pays
  unpaid_so none j js = map_nil (worth 0) (its_pays j) (increments_as place 0 (now s.store j).kept ∙ none j js)

  none_so : IsUnpaid its_pays → (j : ℕ) → IsSession j → increments place 0 (now s.store j).kept ≡ []
  none_so unpaid j js = sym (increments_as place 0 (now s.store j).kept) ∙ ap (map (worth 0)) (unpaid j js)

  -- a row that may be removed is one of a view
  pub of_view : (c : IsCleanable s.store place) → IsStoredRow (schema_of s.store) place (some_of (get s.store.view place) c.ghost.stored).0
  of_view c = let there = some_of (get s.store.view place) c.ghost.stored in stored_row_law s h.reached place there.0 there.1

  abbrev readable : CanBeRead core.store.catalog (maps core.store.tables) core.store.views (contents_of s.store)
  readable = record { held = h.holds.stored; stored = stored_row_law s h.reached }

  pub is_of_view : IsCleanable s.store place → IsSome (view_of core.store.catalog place.0)
  is_of_view c = let row = of_view c in is_some_view core.store.catalog (maps core.store.tables) core.store.views (contents_of s.store) readable place.0 row.of row.view_is

  pub of_number : IsSome (view_of core.store.catalog place.0) → (u : ViewTree) × (numbered (schema_of s.store) place.0 ≡ Some (view u))
  of_number some =
      let d = some_of (view_of core.store.catalog place.0) some in
      (view_tree d.0, ap (λ os. numbered os place.0) (sym h.holds.stored.objects) ∙ (alike core.store.catalog place.0 ∙ ap (option_map object_of) (view_defined core.store.catalog place.0 d.0 d.1)))

  module _ (u : ViewTree) (is_view : numbered (schema_of s.store) place.0 ≡ Some (view u)) where
    pub kept_here : AreKept core.store.views (maps core.store.tables) place (suc (length u.sums)) its_pays
    kept_here = h.holds.stored.pays place.0 u is_view place.1

    bytes_here : stored_at (maps core.store.tables) place ≡ option_map numbers_bytes (get s.store.view place)
    bytes_here = h.holds.stored.views place.0 u is_view place.1

    pub stored_so : IsSome (get s.store.view place) → IsSome (stored_at (maps core.store.tables) place)
    stored_so some = let there = some_of (get s.store.view place) some in subst IsSome (sym (bytes_here ∙ ap (option_map numbers_bytes) there.1)) refl

    there_so : IsSome (stored_at (maps core.store.tables) place) → (numbers : List ℤ) × (get s.store.view place ≡ Some numbers)
    there_so some = map_some numbers_bytes (get s.store.view place) (subst IsSome bytes_here some)

    -- what is stored is the committed count and the kept pays
    pub count_is : IsSome (stored_at (maps core.store.tables) place) → value (ghost.account count 0 its_pays) ≡ get_or kept_here.numbers 0 (pos 0)
    count_is some =
        let there = there_so some in
        let numbers = there.0 in
        let stored : stored_at (maps core.store.tables) place ≡ Some (numbers_bytes numbers) = bytes_here ∙ ap (option_map numbers_bytes) there.1 in
        let same : kept_here.numbers ≡ numbers = numbers_same kept_here.numbers numbers (huge_fit kept_here.numbers kept_here.has.huge) (huge_fit numbers (h.holds.stored.in_range place.0 u is_view place.1 numbers there.1))
        (sym (subst (λ o. IfSome o (λ bytes. bytes ≡ numbers_bytes kept_here.numbers)) stored kept_here.has.bytes)) in
        ap value (account_as s.store (contents_of s.store) (λ j. refl) refl place 0) ∙ (sym (stored_law s h.reached place 0) ∙ (ap (number_in_row 0) there.1 ∙ sym (ap (λ ns. get_or ns 0 (pos 0)) same)))

    -- a row that may be removed is a candidate
    pub among : IsCleanable s.store place → IsAmong core.store.views.candidates place
    among c =
        let some = stored_so c.ghost.stored in
        h.holds.stored.ghosts place.0 u is_view place.1 (record {
          many = length u.sums;
          pays = its_pays;
          kept = kept_here;
          there = some;
          count = subst (λ n. value (ghost.account n 0 its_pays) ≡ get_or kept_here.numbers 0 (pos 0)) c.ghost.count (count_is some);
        })

    module _ (locked versions result : Bool) (locked_is : (locked ≡ false) ↔ IsUnlocked core.locks place) (versions_are : (versions ≡ false) ↔ (is_empty place core.store.delta_versions.versions ≡ true))
        (absent : stored_at (maps core.store.tables) place ≡ None → result ≡ false) (only : result ≡ true → (locked ≡ false) × (versions ≡ false))
        (exact : IsExact core.store.views (maps core.store.tables) place locked versions result) where
      pub may_remove : result ≡ true → IsCleanable s.store place
      may_remove can =
          let some : IsSome (stored_at (maps core.store.tables) place) = none_or (stored_at (maps core.store.tables) place) (λ none. true≢false (sym can ∙ absent none)) in
          let free = only can in
          let there = there_so some in
          let both = (exact free.0 free.1 (length u.sums) its_pays kept_here count (count_is some) some all_count).0 can in
          record {
            ghost = record { stored = subst IsSome (sym there.1) refl; count = both.0 };
            no_pays = none_so both.1;
            no_versions = (no_version_law s h.reached core.store.row_versions.versions core.store.delta_versions.versions core.store.pending.entries h.holds.past place).0 (versions_are.0 free.1);
            not_locked = λ j js held. locked_is.0 free.0 j js (held.lock, (h.holds.locks j js held.lock).1 held.held, record { on_index = held.index_is; has_key = held.covers; has_mode = held.mode_is });
          }

      pub is_removed : IsCleanable s.store place → result ≡ true
      is_removed c =
          let some = stored_so c.ghost.stored in
          let free : locked ≡ false = locked_is.1 (λ j js found. c.not_locked j js (record { lock = found.0; held = (h.holds.locks j js found.0).0 found.1; mode_is = found.2.has_mode; index_is = found.2.on_index; covers = found.2.has_key })) in
          let none : versions ≡ false = versions_are.1 ((no_version_law s h.reached core.store.row_versions.versions core.store.delta_versions.versions core.store.pending.entries h.holds.past place).1 c.no_versions) in
          (exact free none (length u.sums) its_pays kept_here count (count_is some) some all_count).1 (c.ghost.count, unpaid_so c.no_pays)

  -- so it is looked at
  pub is_candidate : IsCleanable s.store place → IsAmong core.store.views.candidates place
  is_candidate c = let row = of_view c in among row.of row.view_is c
