-- No clause of `run` rests on this module: it serves contracts between crates.
--
-- A change that can be made.
use Rattle.std.specs.Prelude.{◌≡◌, ◌*◌, ◌+◌, ◌≤◌, ℕ, List, [], ◌∷◌, map, length, reverse, Option}
use Rattle.std.specs.List.{Contains}
use Rattle.std.specs.FinMap.{get}
use Rattle.iv_types.specs.Maps.{Map}
use Rattle.iv_types.specs.declared.lock.GroupDelta.{GroupDelta}
use Rattle.ghost_rows.specs.State.{HasSeat, room_of}
use Rattle.lock_manager.specs.Table as table
use Rattle.table_laws.specs.Place.{Place}
use Rattle.table_store.specs.Changes.{how_many}
use Rattle.table_store.specs.Readying.{IsReady}
use Rattle.table_store.specs.Stored.{IsTableAnd}
use Rattle.txn_book.specs.Books.{IsOpenAnd, CanKeep}
use Rattle.txn_machine.specs.Counts.{put_size, kept_change_size}
use Rattle.txn_machine.specs.Deltas.{place_of}
use Rattle.txn_machine.specs.May.{IsOpen}
use Rattle.txn_machine.specs.RowChanges.{row_change}
use Rattle.txn_machine.specs.Steps.{put_owed, group_want}
use Rattle.txn_machine.specs.Store.{Store, change_at, now, schema_of, committed, notes_before}
use Rattle.data_store.specs.Machine.{bytes_of}
use Rattle.data_past.specs.declared.noting.Noting.{Noting}
use Rattle.data_past.specs.Ahead.{CanAddAt, all_rows, all_deltas}
use Rattle.data_past.specs.Moves.{version_of}
use Rattle.core_state.specs.Rooms.{all_gone, paid}
use Rattle.core_state.specs.declared.limits.TheConstants.{MOST_OF_TRANSACTION}
use Rattle.core_state.specs.declared.state.CoreState.{CoreState}
use Rattle.core_effects.specs.declared.writing.Writing.{Writing}

-- what a session's transaction needs to pay deltas and to take their pays back: room for their locks, buffers and seats in their rows
pub record CanOwe {M : Type 0} (core : CoreState M) (session : ℕ) (owed : List GroupDelta) : Type 0 where
  pub locks : length owed ≤ table.room_of core.locks session
  pub buffers : IsOpenAnd core.book session (λ o. 2 * length owed + length (paid (reverse o.kept.items)) ≤ room_of core.store.views session)
  pub seats : (d : GroupDelta) → Contains owed d → HasSeat core.store.views (place_of d) session

-- what noting a change takes is of this row, with the bytes that are committed under its key
pub record IsNoting (s : Store) (n : Noting) (place : Place) : Type 0 where
  pub is_of : ◌≡◌ {A = Place} (n.index, n.key) place
  pub committed : n.committed ≡ bytes_of (schema_of s) place (get (committed s).rows place)

-- The version that the change leaves is made, with the deltas that it owes, and there is room for them among those of its session and in
-- the chains.
pub record IsAdding {M : Type 0} (core : CoreState M) (session : ℕ) (w : Writing) : Type 0 where
  pub version : w.version ≡ version_of core.store.catalog w.ready.kept.change
  pub copies : w.copies.items ≡ w.owed.items
  pub room : CanAddAt core.ahead session (length w.copies.items)
  pub row_room : all_rows core.ahead + 1 ≤ core.store.row_versions.room
  pub delta_room : all_deltas core.ahead + length w.copies.items ≤ core.store.delta_versions.room

-- A session's transaction, which owes nothing, can make the change: it is one of the row that is there, with what it owes and counts,
-- and there is room for all of it and for taking it back.
pub record CanWrite {M : Type 0} (maps : M → ℕ → Map) (spare : M → ℕ → ℕ) (limit : M → Option ℕ) (s : Store) (core : CoreState M) (session : ℕ) (w : Writing) : Type 0 where
  pub is_open : IsOpen s session
  pub owes_none : (now s session).owed ≡ []
  pub notes : notes_before (length (now s session).kept) (now s session).notes ≡ (now s session).notes
  pub change : row_change w.ready.kept.change ≡ change_at s (w.ready.kept.change.table, w.ready.kept.change.key) w.ready.kept.change.after
  pub owed : w.owed.items ≡ put_owed s (row_change w.ready.kept.change)
  pub bytes : w.txn_bytes ≡ put_size (schema_of s) (row_change w.ready.kept.change) w.owed.items
  pub history_bytes : w.history_bytes ≡ kept_change_size (schema_of s) (row_change w.ready.kept.change)
  pub small : IsOpenAnd core.book session (λ o. o.txn_bytes + w.txn_bytes ≤ MOST_OF_TRANSACTION)
  pub keeps : IsOpenAnd core.book session (CanKeep core.book (length w.owed.items) w.txn_bytes w.history_bytes)
  pub ready : IsTableAnd core.store.catalog w.ready.kept.change.table (IsReady core.store.catalog w.ready (maps core.store.tables) (spare core.store.tables) (limit core.store.tables))
  pub undo : (index : ℕ) → all_gone index core.book.opens + how_many index w.ready.kept.made ≤ spare core.store.tables index
  pub owes : CanOwe core session w.owed.items
  pub ahead : IsAdding core session w
  pub noted : IsNoting s w.noting (w.ready.kept.change.table, w.ready.kept.change.key)
  pub wants : w.wants.items ≡ map (λ d. group_want d ∷ []) w.owed.items
