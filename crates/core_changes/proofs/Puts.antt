-- What is known of a Put, and of the change that it makes.
use Rattle.std.specs.Prelude.{◌≡◌, ℕ, zero, suc, ◌+◌, ◌-◌, ◌≤◌, List, [], ◌∷◌, length, Option, None, Some, IfSome, refl}
use Rattle.std.specs.FinMap.{get}
use mathlib.Core.Path.{sym, ap, subst, ◌∙◌}
use Rattle.std.proofs.Common.{arith}
use Rattle.std.proofs.lemmas.List.Sums.{sum_by-cons}
use Rattle.iv_types.specs.Maps.{Map}
use Rattle.iv_types.specs.Definitions.{AreNumbered}
use Rattle.iv_types.specs.declared.catalog.TableDef.{TableDef}
use Rattle.iv_types.specs.declared.lock.Change.{Change}
use Rattle.iv_types.specs.declared.lock.GroupDelta.{GroupDelta}
use Rattle.iv_types.specs.declared.lock.Want.{Want}
use Rattle.iv_meaning.specs.Database.{Row}
use Rattle.iv_meaning.specs.Schema.{numbered, table}
use Rattle.iv_meaning.specs.Sound.{IsTable, IsRow}
use Rattle.table_store.specs.Stored.{table_of, IsTableAnd, StandsUnder}
use Rattle.table_store.specs.Changes.{made_by, how_many}
use Rattle.table_store.specs.Readying.{IsReady, HasPlaces}
use Rattle.table_store.specs.Readying as ready
use Rattle.table_store.proofs.Changing.{places_for}
use Rattle.table_store.proofs.Held.{of_table}
use Rattle.txn_machine.specs.Counts.{put_size, most_of_transaction}
use Rattle.txn_machine.specs.Deltas.{RowChange}
use Rattle.txn_machine.specs.KeptLaws.{IsDelta}
use Rattle.txn_machine.specs.May.{IsOpen, MayPut, FitsUnder}
use Rattle.txn_machine.specs.RowChanges.{row_change}
use Rattle.txn_machine.specs.State.{State}
use Rattle.txn_machine.specs.Steps.{put_owed}
use Rattle.txn_machine.specs.Store.{Store, schema_of, change_at}
use Rattle.txn_machine.specs.ViewLaws.{AreSound, IsRight}
use Rattle.txn_machine.proofs.Shapes.{owed_are}
use Rattle.txn_machine.proofs.Ranging.{all_contains}
use Rattle.txn_book.specs.Books.{IsBook, open_changes, puts_of}
use Rattle.txn_book.specs.Opens.{open_at}
use Rattle.txn_book.specs.Txns.{txn_of}
use Rattle.txn_book.specs.declared.open_table.Open.{Open as BookOpen}
use Rattle.txn_book.proofs.Booking.{has_place}
use Rattle.data_store.specs.Reading.{CanChange}
use Rattle.core_state.specs.Rooms.{CanBeTakenBack, all_gone, gone_if}
use Rattle.core_state.specs.Stands.{Holds, Texts, its_texts}
use Rattle.core_state.specs.declared.state.CoreState.{CoreState}
use Rattle.core_state.proofs.Sessions.{of_ready}
use Rattle.core_state.proofs.Few.{many_deltas}
use Rattle.core_effects.proofs.Gone.{steps_gone}
use Rattle.core_changes.specs.Putting.{IsFreePut}
use Rattle.core_changes.specs.Room.{AreDeltas}
use Rattle.core_changes.proofs.Few.{few_wants}
use Rattle.core_changes.proofs.Rightly.{stored_right, right_change, can_be_made}
use Rattle.core_changes.proofs.Roomier.{limited_here}

module _ {M : Type 0} (maps : M → ℕ → Map) (spare : M → ℕ → ℕ) (limit : M → Option ℕ) (core : CoreState M) (s : State) (i : ℕ) (change : Change) (wants : List Want) (p : IsFreePut maps spare limit s core i change wants) where
  abbrev pub c : RowChange
  c = row_change change

  abbrev pub may_put : MayPut s.store change.table change.key change.after
  may_put = p.may.1

  abbrev pub of : TableDef
  of = may_put.of

  abbrev pub open_here : IsOpen s.store i
  open_here = of_ready maps spare limit core s i p.began p.may.0

  pub table_here : table_of core.store.catalog change.table ≡ Some of
  table_here = of_table core.store.catalog change.table of (subst (λ os. numbered os change.table ≡ Some (table of)) (sym p.began.holds.stored.objects) may_put.table_is)

  pub is_table : IsTable (schema_of s.store) change.table
  is_table = (of, may_put.table_is)

  before_is : change.before ≡ get s.store.rows (change.table, change.key)
  before_is = ap (λ (x : RowChange). x.before) p.is

  stored_here : AreSound (schema_of s.store) s.store.rows
  stored_here = stored_right maps spare limit core s i p.began

  pub right : IsRight (schema_of s.store) s.store.rows c
  right = right_change maps spare limit core s i p.began change may_put p.is

  pub can_change : CanChange core.store.catalog (maps core.store.tables) core.store.views change
  can_change = can_be_made maps spare limit core s i p.began change may_put p.is

  pub stands_before : IfSome change.before (StandsUnder of change.key)
  stands_before = by change.before before_is
    where
      by : (row : Option Row) → row ≡ get s.store.rows (change.table, change.key) → IfSome row (StandsUnder of change.key)
      by None e = tt
      by (Some row) e =
          let r : IsRow (schema_of s.store) (change.table, change.key) row = stored_here.rows (change.table, change.key) row (sym e) in
          let one : Some (table r.of) ≡ Some (table of) = sym r.table_is ∙ may_put.table_is in
          let same : r.of ≡ of = cc in
          subst (λ (t : TableDef). StandsUnder t change.key row) same (r.fits, r.key)

  pub stands_after : IfSome change.after (StandsUnder of change.key)
  stands_after = by change.after may_put.fits
    where
      by : (row : Option Row) → FitsUnder of change.key row → IfSome row (StandsUnder of change.key)
      by None fits = tt
      by (Some row) fits = (fits.1, fits.0)

  pub rows_fit : IsTableAnd core.store.catalog change.table (ready.RowsFit change)
  rows_fit = (of, table_here, record { before = by change.before stands_before; after = by change.after stands_after })
    where
      by : (row : Option Row) → IfSome row (StandsUnder of change.key) → IfSome row (Rattle.iv_types.specs.Encoding.FitAll (Rattle.iv_types.specs.Encoding.kinds_of of))
      by None stands = tt
      by (Some row) stands = stands.0

  -- ---- what it owes and takes

  deltas_are : AreDeltas s.store (put_owed s.store c)
  deltas_are d has = all_contains (IsDelta (schema_of s.store)) (put_owed s.store c) d (owed_are (schema_of s.store) s.store.rows c right.sound right.after) has

  pub few_locks : length wants ≤ 258
  few_locks = subst (λ ws. length ws ≤ 258) (sym p.wants_are) (few_wants (schema_of s.store) (limited_here maps spare limit core s.store s.log (its_texts s) p.began.holds) (numbered (schema_of s.store) change.table) (change_at s.store (change.table, change.key) change.after))

  module _ (deltas : List GroupDelta) (owed_is : deltas ≡ put_owed s.store c) where
    pub are_deltas : AreDeltas s.store deltas
    are_deltas = subst (AreDeltas s.store) (sym owed_is) deltas_are

    pub few_owed : put_size (schema_of s.store) c deltas ≤ most_of_transaction → length deltas ≤ 524288
    few_owed room = let many = many_deltas deltas in omega (arith, many, room)

-- ---- what goes back in

module _ {M : Type 0} (maps : M → ℕ → Map) (spare : M → ℕ → ℕ) (limit : M → Option ℕ) (core : CoreState M) (s : Store) (l : _) (texts : Texts) (h : Holds maps spare limit core s l texts) (good : IsBook core.book) (are : AreNumbered core.store.catalog) where
  each_back : (j : ℕ) (t : BookOpen) → open_at core.book.opens j ≡ Some t → CanBeTakenBack core.store.catalog (txn_of t).kept
  each_back zero t there = let bad : None ≡ Some t = sym h.book.nobody ∙ there in absurd cc
  each_back (suc k) t there = let lt = has_place core.book.opens (suc k) t there in (h.rooms.each (suc k) (omega arith, omega (arith, lt, good.places)) t there).kept

  over_all : (index : ℕ) (opens : List (Option BookOpen)) → ((j : ℕ) (t : BookOpen) → open_at opens j ≡ Some t → CanBeTakenBack core.store.catalog (txn_of t).kept) → all_gone index opens ≤ open_changes opens
  over_all index [] each = omega arith
  over_all index (None ∷ opens) each = omega (arith, over_all index opens (λ j t e. each (suc j) t e), sum_by-cons (gone_if index) None opens, sum_by-cons puts_of None opens)
  over_all index (Some t ∷ opens) each =
      omega (arith, over_all index opens (λ j u e. each (suc j) u e), steps_gone core.store.catalog are index (txn_of t).kept (each 0 t refl), sum_by-cons (gone_if index) (Some t) opens, sum_by-cons puts_of (Some t) opens)

  -- no more than changes are kept
  pub gone_few : (index : ℕ) → all_gone index core.book.opens ≤ open_changes core.book.opens
  gone_few index = over_all index core.book.opens each_back

  -- with one entry more in each index of a table
  pub undo_room : (t : TableDef) → table_of core.store.catalog t.number ≡ Some t → HasPlaces core.store.catalog (open_changes core.book.opens + 1) (spare core.store.tables) t → (change : Change) (index : ℕ)
      → all_gone index core.book.opens + how_many index (made_by core.store.catalog change t) ≤ spare core.store.tables index
  undo_room t is places change index =
      let few = places_for core.store.catalog t are is change.key change.after change.before (λ n. spare core.store.tables n - all_gone n core.book.opens)
      (let had = places.primary in let gone = gone_few t.number in omega (arith, had, gone))
      (λ x of_t. let had = places.secondary x of_t in let gone = gone_few x.number in omega (arith, had, gone)) index in
      let had = h.rooms.undo index in
      omega (arith, few, had)
