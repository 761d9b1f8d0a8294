-- What a Put needs of the data, and what is kept for its transaction.
use Rattle.std.specs.Prelude.{◌≡◌, ◌≢◌, ℕ, ◌+◌, ◌-◌, ◌^◌, ◌<◌, ◌≤◌, false, List, [], ◌∷◌, ◌++◌, map, Option, Some, refl}
use Rattle.std.specs.List.{sum}
use Rattle.std.specs.Option.{unwrap_or}
use Rattle.std.specs.FinMap.{get}
use mathlib.Core.Path.{sym, ap, subst, ◌∙◌}
use Rattle.std.proofs.Common.{arith}
use Rattle.iv_types.specs.Maps.{Map, IsWithin, used}
use Rattle.iv_types.specs.declared.catalog.TableDef.{TableDef}
use Rattle.iv_types.specs.declared.lock.Change.{Change}
use Rattle.iv_types.specs.declared.lock.GroupDelta.{GroupDelta}
use Rattle.iv_types.specs.declared.lock.Want.{Want}
use Rattle.iv_meaning.specs.Escrow.{IsSession}
use Rattle.iv_meaning.specs.Objects as defined
use Rattle.iv_meaning.specs.Schema.{Schema, table, numbered}
use Rattle.table_laws.specs.Place.{Place}
use Rattle.table_store.specs.Changes.{made_by, gone_by, sizes}
use Rattle.txn_machine.specs.Acts.{Act}
use Rattle.txn_machine.specs.Counts.{told_need}
use Rattle.txn_machine.specs.Deltas.{RowChange}
use Rattle.txn_machine.specs.Ghosts.{the_views}
use Rattle.txn_machine.specs.Keeping.{Open, Put, idle}
use Rattle.txn_machine.specs.Log.{Log, Logged, Within, logs, keeps, growth, growth_back, perhaps_entries, view_entries, delta_entry, definition_entries, room_kept}
use Rattle.txn_machine.specs.RowChanges.{row_change}
use Rattle.txn_machine.specs.State.{State}
use Rattle.txn_machine.specs.Steps.{FitsData, data_need, put_owed, texts_of, used_data}
use Rattle.txn_machine.specs.Store.{Store, Takes, Writes, change_at, does, now, schema_of, wrote}
use Rattle.txn_machine.proofs.LogRoom.{logs_logged}
use Rattle.txn_log.specs.Room.{rows_bytes}
use Rattle.data_room.specs.Reserved.{Where, share_at, kept_for, AreReserved, IsReserved}
use Rattle.data_room.specs.declared.room.DataRoom.{DataRoom}
use Rattle.data_room.proofs.Counted.{change_sizes}
use Rattle.data_room.proofs.Kept.{share_least, reserved_one, reserved_moved, aside_moves}
use Rattle.data_room.proofs.Transactions.{now_room, row_least, written_room}
use Rattle.data_room.proofs.Wheres.{where_map, where_two, within_is, within_fewer}
use Rattle.core_state.specs.Stands.{Began}
use Rattle.core_state.specs.declared.state.CoreState.{CoreState}
use Rattle.core_state.proofs.Data.{began_entries, began_used, limit_of}

module _ {M : Type 0} (maps : M → ℕ → Map) (spare : M → ℕ → ℕ) (limit : M → Option ℕ) (core : CoreState M) (s : State) (i : ℕ) (h : Began maps spare limit core s i) where
  abbrev in_all : ℕ
  in_all = used (maps core.store.tables) + core.data_room.total

  -- ---- its entries

  pub change_within : (change : Change) (t : TableDef) → t.number ≡ change.table → numbered (defined.schema_of core.store.catalog) change.table ≡ Some (table t) → FitsData s (data_need s.store (row_change change))
      → IsWithin core.data_room.limit (used (maps core.store.tables) + sizes (made_by core.store.catalog change t) - sizes (gone_by core.store.catalog change t))
  change_within change t number is_table fits =
      let c : RowChange = row_change change in
      let here : Schema = defined.schema_of core.store.catalog in
      let both : sizes (made_by core.store.catalog change t) + perhaps_entries here c.key change.before ≡ sizes (gone_by core.store.catalog change t) + perhaps_entries here c.key change.after =
      change_sizes core.store.catalog t change.table number is_table change.key change.after change.before in
      let grows : growth (schema_of s.store) c ≡ perhaps_entries here c.key change.after - perhaps_entries here c.key change.before = ap (λ o. growth o c) (sym h.holds.stored.objects) in
      let need : data_need s.store c ≡ growth (schema_of s.store) c + sum (map delta_entry (put_owed s.store c)) = refl in
      within_fewer core.data_room.limit (used_data s + data_need s.store c) (used (maps core.store.tables) + sizes (made_by core.store.catalog change t) - sizes (gone_by core.store.catalog change t))
      (where_map core.data_room.limit (λ (e : in_all ≡ used_data s).
      let le : used (maps core.store.tables) + sizes (made_by core.store.catalog change t) - sizes (gone_by core.store.catalog change t) ≤ used_data s + data_need s.store c = omega (arith, e, both, grows, need) in le) (began_used maps spare limit core s i h))
      (within_is core.data_room.limit (used_data s + data_need s.store c) (subst (λ m. Within m (used_data s + data_need s.store c)) (limit_of maps spare limit core s i h) fits))

  -- ---- what is kept for it

  module _ (c : RowChange) (deltas : List GroupDelta) (there : get s.store.rows c.key ≡ c.before) (owed_is : deltas ≡ put_owed s.store c) (few : Where s.opening.data_limit (used_data s + data_need s.store c < 2 ^ 32)) where
    abbrev its_room : ℕ
    its_room = growth_back (schema_of s.store) c + sum (map delta_entry deltas)

    aside_fits : (bytes : ℕ) → bytes ≡ told_need its_room → Where core.data_room.limit ((bytes ≡ its_room) × (core.data_room.total + bytes < 2 ^ 64))
    aside_fits bytes is =
        where_two core.data_room.limit (λ (e : in_all ≡ used_data s) (lt : used_data s + data_need s.store c < 2 ^ 32).
        let least : perhaps_entries (schema_of s.store) c.key c.before ≤ rows_bytes (schema_of s.store) s.store.rows = row_least (schema_of s.store) s.store.rows c.key c.before there in
        let entries : used (maps core.store.tables) ≡ rows_bytes (schema_of s.store) s.store.rows + view_entries s.store.view + sum (map definition_entries (texts_of s)) = began_entries maps spare limit core s i h in
        let need : data_need s.store c ≡ growth (schema_of s.store) c + sum (map delta_entry (put_owed s.store c)) = refl in
        let owes : sum (map delta_entry deltas) ≡ sum (map delta_entry (put_owed s.store c)) = ap (λ ds. sum (map delta_entry ds)) owed_is in
        let back : growth_back (schema_of s.store) c ≡ perhaps_entries (schema_of s.store) c.key c.before - perhaps_entries (schema_of s.store) c.key c.after = refl in
        let exact : bytes ≡ its_room = omega (arith, e, lt, least, entries, need, owes, back, is) in
        let small : core.data_room.total + bytes < 2 ^ 64 = omega (arith, e, lt, least, entries, need, owes, back, is) in
        (exact, small)) (began_used maps spare limit core s i h) (subst (λ m. Where m (used_data s + data_need s.store c < 2 ^ 32)) (limit_of maps spare limit core s i h) few)

    module _ (session : IsSession i) (wants : List Want) (a : Act) (none : (now s.store i).owed ≡ []) (place : Place) (row : _) (change : c ≡ change_at s.store place row) where
      abbrev between : Store
      between = does the_views s.store i (Takes wants)

      abbrev first : Log
      first = logs s.store i a (Takes wants) s.log

      between_reserves : IsReserved core.data_room (schema_of s.store) between.open_of first.logged
      between_reserves =
          reserved_one (schema_of s.store) s.store.open_of s.log.logged first.logged i (Some (record (now s.store i) { locks = wants ++ (now s.store i).locks })) (s.log.logged i) (λ j. ap (λ (f : ℕ → Logged). f j) (logs_logged s.store i a (Takes wants) s.log))
          core.data_room (now_room (schema_of s.store) (s.store.open_of i) (s.log.logged i).ghosted) h.reserves.data_room

      none_between : (now between i).owed ≡ []
      none_between = ap (λ (x : Option Open). (unwrap_or x idle).owed) (Rattle.txn_machine.proofs.Basics.one_same s.store.open_of i (Some (record (now s.store i) { locks = wants ++ (now s.store i).locks })) i refl) ∙ none

      abbrev written : Open
      written = record (now between i) { kept = Put c deltas ∷ (now between i).kept; owed = deltas; back = 0 }

      does_is : does the_views between i (Writes place row) ≡ wrote between i (now between i) c deltas
      does_is = sym (ap (λ x. wrote between i (now between i) x (put_owed s.store x)) change) ∙ ap (wrote between i (now between i) c) (sym owed_is)

      pub put_reserved : (room was : DataRoom) (bytes : ℕ) → bytes ≡ told_need its_room → was ≡ core.data_room → room.limit ≡ was.limit
          → (share_at was.shares i ≤ was.total → was.total + bytes < 2 ^ 64 → share_at room.shares i ≡ share_at was.shares i + bytes) → ((j : ℕ) → j ≢ i → share_at room.shares j ≡ share_at was.shares j) → (was.total + bytes < 2 ^ 64 → room.total ≡ was.total + bytes)
          → IsReserved room (schema_of (does the_views between i (Writes place row))) (does the_views between i (Writes place row)).open_of (logs between i a (Writes place row) first).logged
      put_reserved room was bytes is same same_limit own others total =
          subst (λ (u : Store). IsReserved room (schema_of u) u.open_of (logs between i a (Writes place row) first).logged) (sym does_is)
          (reserved_moved (schema_of s.store) between.open_of first.logged (logs between i a (Writes place row) first).logged i (Some written) (keeps (first.logged i) first.next) (λ j. ap (λ (f : ℕ → Logged). f j) (logs_logged between i a (Writes place row) first))
          core.data_room room session (same_limit ∙ ap (λ (d : DataRoom). d.limit) same) between_reserves
          (aside_moves core.data_room was room i bytes (room_kept (schema_of s.store) (Some written) false) same
          (where_two core.data_room.limit (λ (r : AreReserved core.data_room (schema_of s.store) between.open_of first.logged) (f : (bytes ≡ its_room) × (core.data_room.total + bytes < 2 ^ 64)).
          let mine : share_at core.data_room.shares i ≡ kept_for (schema_of s.store) between.open_of first.logged i = r.each i session in
          let held : room_kept (schema_of s.store) (Some (now between i)) (first.logged i).ghosted ≡ kept_for (schema_of s.store) between.open_of first.logged i = now_room (schema_of s.store) (between.open_of i) (first.logged i).ghosted in
          let writes : room_kept (schema_of s.store) (Some written) false ≡ room_kept (schema_of s.store) (Some (now between i)) (first.logged i).ghosted + its_room = written_room (schema_of s.store) (now between i) (first.logged i).ghosted c deltas none_between in
          let exact : bytes ≡ its_room = f.0 in
          let all : share_at core.data_room.shares i + bytes ≡ room_kept (schema_of s.store) (Some written) false = omega (arith, mine, held, writes, exact) in
          (all, share_least core.data_room (schema_of s.store) between.open_of first.logged i session r, f.1)) between_reserves (aside_fits bytes is))
          own others total))
