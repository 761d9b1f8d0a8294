use Rattle.std.proofs.Common.{◌≡◌, ◌≤◌, ◌+◌, ◌∷◌, [], false, map, length, refl, sym, ap, subst, ◌∙◌, arith}
use Rattle.iv_types.specs.declared.lock.Change.{Change}
use Rattle.lock_manager.specs.Table as lock
use Rattle.txn_machine.specs.Answers as answer
use Rattle.txn_machine.specs.Ghosts.{the_views}
use Rattle.txn_machine.specs.Steps.{group_want}
use Rattle.data_past.specs.Ahead.{CanAddAt, all_rows, all_deltas}
use Rattle.data_store.specs.Past.{committed_value}
use Rattle.std.specs.List.{sum}
use Rattle.iv_meaning.specs.Objects as defined
use Rattle.data_room.specs.declared.room.DataRoom.{DataRoom}
use Rattle.log_room.specs.declared.room.LogRoom.{LogRoom}
use Rattle.record_lending.proofs.Owed.{none_ghosted}
use Rattle.core_state.specs.Stands.{Holds, Told, its_texts}
use Rattle.core_effects.specs.Writing.{CanWrite}
use Rattle.core_effects.specs.declared.writing.Writing.{Writing}
use Rattle.txn_machine.specs.Acts as act
use Rattle.txn_machine.specs.Counts.{put_size, told_need}
use Rattle.txn_machine.specs.Log.{logs, growth_back, delta_entry, owed_bytes}
use Rattle.txn_machine.specs.RowChanges.{row_change}
use Rattle.txn_machine.specs.Store.{Takes, Writes, does, schema_of}
use Rattle.core_state.specs.declared.state.CoreState.{CoreState}
use Rattle.core_state.proofs.Sessions.{owes_none}
use Rattle.core_effects.proofs.Results.{on_err_of}
use Rattle.core_changes.specs.Room.{AreDeltas, HasRoom}
use Rattle.core_changes.proofs.Puts.{open_here, table_here, rows_fit, few_locks, few_owed, are_deltas}
use Rattle.core_changes.proofs.Within.{free_there, between, can_write, same, written_are, log_left, put_told, can_still}
use Rattle.core_changes.proofs.Full.{rows_here}
use Rattle.core_changes.proofs.putting.put_within.Goals as goal

pub reserve_ahead-requires-clause-few : goal.reserve_ahead-requires-clause-few
reserve_ahead-requires-clause-few g c κs within =
    let s = c.requires.0 in
    let can = c.requires.1 in
    let room = can.room in
    let exact : c.args.bytes ≡ put_size (schema_of s.store) (row_change c.args.change) c.args.owed = can.bytes_are ∙ ap (put_size (schema_of s.store) (row_change c.args.change)) (sym can.owed_is) in
    let few = few_owed g.M.SortedMaps.maps g.M.SortedMaps.spare g.M.SortedMaps.limit c.args.core.now s c.args.session c.args.change c.args.wants can.puts c.args.owed can.owed_is (omega (arith, room, exact)) in
    let many : length c.as_slice-3.result.now ≡ length c.args.owed = ap length c.as_slice-3.ensures in
    omega (arith, few, many)

pub reserve_ahead-requires-clause-began : goal.reserve_ahead-requires-clause-began
reserve_ahead-requires-clause-began g c κs within =
    (c.requires.0, c.requires.1.puts.began, open_here g.M.SortedMaps.maps g.M.SortedMaps.spare g.M.SortedMaps.limit c.args.core.now c.requires.0 c.args.session c.args.change c.args.wants c.requires.1.puts)

pub returns-in_err-reserve_ahead-clause-err : goal.returns-in_err-reserve_ahead-clause-err
returns-in_err-reserve_ahead-clause-err g c = on_err_of c.from_residual-in_err-reserve_ahead.result (λ s can. c.reserve_ahead.ensures.began s can.puts.began)

pub make_room-requires-clause-wants : goal.make_room-requires-clause-wants
make_room-requires-clause-wants g c κs within =
    subst (λ ws. length ws ≤ 258) (sym c.as_slice-4.ensures) (few_locks g.M.SortedMaps.maps g.M.SortedMaps.spare g.M.SortedMaps.limit c.args.core.now c.requires.0 c.args.session c.args.change c.args.wants c.requires.1.puts)

pub make_room-requires-clause-few : goal.make_room-requires-clause-few
make_room-requires-clause-few g c κs within =
    let s = c.requires.0 in
    let can = c.requires.1 in
    let room = can.room in
    let exact : c.args.bytes ≡ put_size (schema_of s.store) (row_change c.args.change) c.args.owed = can.bytes_are ∙ ap (put_size (schema_of s.store) (row_change c.args.change)) (sym can.owed_is) in
    let few = few_owed g.M.SortedMaps.maps g.M.SortedMaps.spare g.M.SortedMaps.limit c.args.core.now s c.args.session c.args.change c.args.wants can.puts c.args.owed can.owed_is (omega (arith, room, exact)) in
    subst (λ ds. length ds ≤ 524288) (sym c.as_slice-5.ensures) few

pub make_room-requires-clause-table : goal.make_room-requires-clause-table
make_room-requires-clause-table g c κs within =
    let s = c.requires.0 in
    let can = c.requires.1 in
    let base = c.args.core.now in
    let i = c.args.session in
    let ch = c.args.change in
    let core = c.reserve_ahead.new.core in
    let can0 = can_still g.M.SortedMaps.maps g.M.SortedMaps.spare g.M.SortedMaps.limit base core s i ch c.args.wants c.args.owed c.args.bytes c.args.entry_bytes can (c.reserve_ahead.ensures.began s can.puts.began) in
    (_, table_here g.M.SortedMaps.maps g.M.SortedMaps.spare g.M.SortedMaps.limit core s i ch c.args.wants can0.puts, tt)

pub make_room-requires-clause-began : goal.make_room-requires-clause-began
make_room-requires-clause-began g c κs within =
    let s = c.requires.0 in
    let can = c.requires.1 in
    let base = c.args.core.now in
    let i = c.args.session in
    let ch = c.args.change in
    let core = c.reserve_ahead.new.core in
    let can0 = can_still g.M.SortedMaps.maps g.M.SortedMaps.spare g.M.SortedMaps.limit base core s i ch c.args.wants c.args.owed c.args.bytes c.args.entry_bytes can (c.reserve_ahead.ensures.began s can.puts.began) in
    (s, can0.puts.began, open_here g.M.SortedMaps.maps g.M.SortedMaps.spare g.M.SortedMaps.limit core s i ch c.args.wants can0.puts, subst (AreDeltas s.store) (sym c.as_slice-5.ensures) (are_deltas g.M.SortedMaps.maps g.M.SortedMaps.spare g.M.SortedMaps.limit core s i ch c.args.wants can0.puts c.args.owed can0.owed_is))

pub returns-in_err-make_room-clause-err : goal.returns-in_err-make_room-clause-err
returns-in_err-make_room-clause-err g c = on_err_of c.from_residual-in_err-make_room.result (λ s can.
    let base = c.args.core.now in
    let i = c.args.session in
    let ch = c.args.change in
    let core = c.reserve_ahead.new.core in
    let can0 = can_still g.M.SortedMaps.maps g.M.SortedMaps.spare g.M.SortedMaps.limit base core s i ch c.args.wants c.args.owed c.args.bytes c.args.entry_bytes can (c.reserve_ahead.ensures.began s can.puts.began) in
    let one = c.make_room.new.core in
    let b1 = c.make_room.ensures.began s can0.puts.began (open_here g.M.SortedMaps.maps g.M.SortedMaps.spare g.M.SortedMaps.limit core s i ch c.args.wants can0.puts)
    (subst (AreDeltas s.store) (sym c.as_slice-5.ensures) (are_deltas g.M.SortedMaps.maps g.M.SortedMaps.spare g.M.SortedMaps.limit core s i ch c.args.wants can0.puts c.args.owed can0.owed_is)) in
    let can1 = can_still g.M.SortedMaps.maps g.M.SortedMaps.spare g.M.SortedMaps.limit core one s i ch c.args.wants c.args.owed c.args.bytes c.args.entry_bytes can0 b1 in
    b1)

pub prepare-requires-after_bounds : goal.prepare-requires-after_bounds
prepare-requires-after_bounds g c κs within =
    let s = c.requires.0 in
    let can = c.requires.1 in
    let base = c.args.core.now in
    let i = c.args.session in
    let ch = c.args.change in
    let core = c.reserve_ahead.new.core in
    let can0 = can_still g.M.SortedMaps.maps g.M.SortedMaps.spare g.M.SortedMaps.limit base core s i ch c.args.wants c.args.owed c.args.bytes c.args.entry_bytes can (c.reserve_ahead.ensures.began s can.puts.began) in
    let one = c.make_room.new.core in
    let b1 = c.make_room.ensures.began s can0.puts.began (open_here g.M.SortedMaps.maps g.M.SortedMaps.spare g.M.SortedMaps.limit core s i ch c.args.wants can0.puts)
    (subst (AreDeltas s.store) (sym c.as_slice-5.ensures) (are_deltas g.M.SortedMaps.maps g.M.SortedMaps.spare g.M.SortedMaps.limit core s i ch c.args.wants can0.puts c.args.owed can0.owed_is)) in
    let can1 = can_still g.M.SortedMaps.maps g.M.SortedMaps.spare g.M.SortedMaps.limit core one s i ch c.args.wants c.args.owed c.args.bytes c.args.entry_bytes can0 b1 in
    rows_fit g.M.SortedMaps.maps g.M.SortedMaps.spare g.M.SortedMaps.limit one s i ch c.args.wants can1.puts

pub returns-in_err-noting-clause-err : goal.returns-in_err-noting-clause-err
returns-in_err-noting-clause-err g c = on_err_of c.from_residual-in_err-noting.result (λ s can.
    let base = c.args.core.now in
    let i = c.args.session in
    let ch = c.args.change in
    let core = c.reserve_ahead.new.core in
    let can0 = can_still g.M.SortedMaps.maps g.M.SortedMaps.spare g.M.SortedMaps.limit base core s i ch c.args.wants c.args.owed c.args.bytes c.args.entry_bytes can (c.reserve_ahead.ensures.began s can.puts.began) in
    c.make_room.ensures.began s can0.puts.began (open_here g.M.SortedMaps.maps g.M.SortedMaps.spare g.M.SortedMaps.limit core s i ch c.args.wants can0.puts)
    (subst (AreDeltas s.store) (sym c.as_slice-5.ensures) (are_deltas g.M.SortedMaps.maps g.M.SortedMaps.spare g.M.SortedMaps.limit core s i ch c.args.wants can0.puts c.args.owed can0.owed_is)))

pub version_of-requires : goal.version_of-requires
version_of-requires g c =
    let s = c.requires.0 in
    let can = c.requires.1 in
    let base = c.args.core.now in
    let i = c.args.session in
    let ch = c.args.change in
    let core = c.reserve_ahead.new.core in
    let can0 = can_still g.M.SortedMaps.maps g.M.SortedMaps.spare g.M.SortedMaps.limit base core s i ch c.args.wants c.args.owed c.args.bytes c.args.entry_bytes can (c.reserve_ahead.ensures.began s can.puts.began) in
    let one = c.make_room.new.core in
    let b1 = c.make_room.ensures.began s can0.puts.began (open_here g.M.SortedMaps.maps g.M.SortedMaps.spare g.M.SortedMaps.limit core s i ch c.args.wants can0.puts)
    (subst (AreDeltas s.store) (sym c.as_slice-5.ensures) (are_deltas g.M.SortedMaps.maps g.M.SortedMaps.spare g.M.SortedMaps.limit core s i ch c.args.wants can0.puts c.args.owed can0.owed_is)) in
    let can1 = can_still g.M.SortedMaps.maps g.M.SortedMaps.spare g.M.SortedMaps.limit core one s i ch c.args.wants c.args.owed c.args.bytes c.args.entry_bytes can0 b1 in
    let fit = rows_fit g.M.SortedMaps.maps g.M.SortedMaps.spare g.M.SortedMaps.limit one s i ch c.args.wants can1.puts in
    (fit.0, fit.1, fit.2.before)

pub returns-in_err-version-clause-err : goal.returns-in_err-version-clause-err
returns-in_err-version-clause-err g c = on_err_of c.from_residual-in_err-version.result (λ s can.
    let base = c.args.core.now in
    let i = c.args.session in
    let ch = c.args.change in
    let core = c.reserve_ahead.new.core in
    let can0 = can_still g.M.SortedMaps.maps g.M.SortedMaps.spare g.M.SortedMaps.limit base core s i ch c.args.wants c.args.owed c.args.bytes c.args.entry_bytes can (c.reserve_ahead.ensures.began s can.puts.began) in
    c.make_room.ensures.began s can0.puts.began (open_here g.M.SortedMaps.maps g.M.SortedMaps.spare g.M.SortedMaps.limit core s i ch c.args.wants can0.puts)
    (subst (AreDeltas s.store) (sym c.as_slice-5.ensures) (are_deltas g.M.SortedMaps.maps g.M.SortedMaps.spare g.M.SortedMaps.limit core s i ch c.args.wants can0.puts c.args.owed can0.owed_is)))

pub returns-in_err-copies-clause-err : goal.returns-in_err-copies-clause-err
returns-in_err-copies-clause-err g c = on_err_of c.from_residual-in_err-copies.result (λ s can.
    let base = c.args.core.now in
    let i = c.args.session in
    let ch = c.args.change in
    let core = c.reserve_ahead.new.core in
    let can0 = can_still g.M.SortedMaps.maps g.M.SortedMaps.spare g.M.SortedMaps.limit base core s i ch c.args.wants c.args.owed c.args.bytes c.args.entry_bytes can (c.reserve_ahead.ensures.began s can.puts.began) in
    c.make_room.ensures.began s can0.puts.began (open_here g.M.SortedMaps.maps g.M.SortedMaps.spare g.M.SortedMaps.limit core s i ch c.args.wants can0.puts)
    (subst (AreDeltas s.store) (sym c.as_slice-5.ensures) (are_deltas g.M.SortedMaps.maps g.M.SortedMaps.spare g.M.SortedMaps.limit core s i ch c.args.wants can0.puts c.args.owed can0.owed_is)))

pub returns-in_err-ready-clause-err : goal.returns-in_err-ready-clause-err
returns-in_err-ready-clause-err g c = on_err_of c.from_residual-in_err-ready.result (λ s can.
    let base = c.args.core.now in
    let i = c.args.session in
    let ch = c.args.change in
    let core = c.reserve_ahead.new.core in
    let can0 = can_still g.M.SortedMaps.maps g.M.SortedMaps.spare g.M.SortedMaps.limit base core s i ch c.args.wants c.args.owed c.args.bytes c.args.entry_bytes can (c.reserve_ahead.ensures.began s can.puts.began) in
    let one = c.make_room.new.core in
    let b1 = c.make_room.ensures.began s can0.puts.began (open_here g.M.SortedMaps.maps g.M.SortedMaps.spare g.M.SortedMaps.limit core s i ch c.args.wants can0.puts)
    (subst (AreDeltas s.store) (sym c.as_slice-5.ensures) (are_deltas g.M.SortedMaps.maps g.M.SortedMaps.spare g.M.SortedMaps.limit core s i ch c.args.wants can0.puts c.args.owed can0.owed_is)) in
    let can1 = can_still g.M.SortedMaps.maps g.M.SortedMaps.spare g.M.SortedMaps.limit core one s i ch c.args.wants c.args.owed c.args.bytes c.args.entry_bytes can0 b1 in
    b1)

pub take-requires-clause-free : goal.take-requires-clause-free
take-requires-clause-free g c κs within =
    let s = c.requires.0 in
    let can = c.requires.1 in
    let base = c.args.core.now in
    let i = c.args.session in
    let ch = c.args.change in
    let core = c.reserve_ahead.new.core in
    let can0 = can_still g.M.SortedMaps.maps g.M.SortedMaps.spare g.M.SortedMaps.limit base core s i ch c.args.wants c.args.owed c.args.bytes c.args.entry_bytes can (c.reserve_ahead.ensures.began s can.puts.began) in
    let one = c.make_room.new.core in
    let b1 = c.make_room.ensures.began s can0.puts.began (open_here g.M.SortedMaps.maps g.M.SortedMaps.spare g.M.SortedMaps.limit core s i ch c.args.wants can0.puts)
    (subst (AreDeltas s.store) (sym c.as_slice-5.ensures) (are_deltas g.M.SortedMaps.maps g.M.SortedMaps.spare g.M.SortedMaps.limit core s i ch c.args.wants can0.puts c.args.owed can0.owed_is)) in
    let can1 = can_still g.M.SortedMaps.maps g.M.SortedMaps.spare g.M.SortedMaps.limit core one s i ch c.args.wants c.args.owed c.args.bytes c.args.entry_bytes can0 b1 in
    free_there g.M.SortedMaps.maps g.M.SortedMaps.spare g.M.SortedMaps.limit one s i ch c.args.wants c.args.owed c.args.bytes c.args.entry_bytes can1

pub write-requires-clause-can : goal.write-requires-clause-can
write-requires-clause-can g c κs within =
    let s = c.requires.0 in
    let can = c.requires.1 in
    let base = c.args.core.now in
    let i = c.args.session in
    let ch = c.args.change in
    let core = c.reserve_ahead.new.core in
    let can0 = can_still g.M.SortedMaps.maps g.M.SortedMaps.spare g.M.SortedMaps.limit base core s i ch c.args.wants c.args.owed c.args.bytes c.args.entry_bytes can (c.reserve_ahead.ensures.began s can.puts.began) in
    let one = c.make_room.new.core in
    let b1 = c.make_room.ensures.began s can0.puts.began (open_here g.M.SortedMaps.maps g.M.SortedMaps.spare g.M.SortedMaps.limit core s i ch c.args.wants can0.puts)
    (subst (AreDeltas s.store) (sym c.as_slice-5.ensures) (are_deltas g.M.SortedMaps.maps g.M.SortedMaps.spare g.M.SortedMaps.limit core s i ch c.args.wants can0.puts c.args.owed can0.owed_is)) in
    let can1 = can_still g.M.SortedMaps.maps g.M.SortedMaps.spare g.M.SortedMaps.limit core one s i ch c.args.wants c.args.owed c.args.bytes c.args.entry_bytes can0 b1 in
    let room = subst (λ ws. HasRoom g.M.SortedMaps.spare one i ch.table (length ws) c.args.owed) c.as_slice-4.ensures (subst (λ ds. HasRoom g.M.SortedMaps.spare one i ch.table (length c.as_slice-4.result.now) ds) c.as_slice-5.ensures c.in_ok-make_room.ensures.room) in
    let many : length c.as_slice-3.result.now ≡ length c.args.owed = ap length c.as_slice-3.ensures in
    let w : Writing = record { ready = c.in_ok-ready.ready; noting = c.in_ok-noting.noting; version = c.in_ok-version.version; copies = c.in_ok-copies.copies; owed = c.into_vec.result; wants = c.in_ok-pays.pays; txn_bytes = c.args.bytes; history_bytes = c.args.entry_bytes } in
    let two = c.take.new.core in
    let a = act.Put ch.table ch.key ch.after in
    let took = c.take.ensures.holds s.store s.log (its_texts s) a b1.holds (open_here g.M.SortedMaps.maps g.M.SortedMaps.spare g.M.SortedMaps.limit one s i ch c.args.wants can1.puts) (owes_none g.M.SortedMaps.maps g.M.SortedMaps.spare g.M.SortedMaps.limit one s i b1 can1.puts.may.0) in
    let mid = between g.M.SortedMaps.maps g.M.SortedMaps.spare g.M.SortedMaps.limit one s i ch c.args.wants c.args.owed c.args.bytes c.args.entry_bytes can1 in
    let writes = subst (λ x. CanWrite g.M.SortedMaps.maps g.M.SortedMaps.spare g.M.SortedMaps.limit mid x i w) (sym c.take.ensures.rest)
    (can_write g.M.SortedMaps.maps g.M.SortedMaps.spare g.M.SortedMaps.limit one s i ch c.args.wants c.args.owed c.args.bytes c.args.entry_bytes can1 c.book_law.ensures c.number_law.ensures room two.locks w c.take.ensures.room
    c.into_vec.ensures (c.in_ok-pays.ensures ∙ ap (map (λ d. group_want d ∷ [])) c.as_slice-2.ensures) refl refl c.in_ok-ready.ensures.kept c.in_ok-ready.ensures.coming
    c.in_ok-noting.ensures.place.0 (c.in_ok-noting.ensures.place.1 ∙ c.as_slice-6.ensures) (c.in_ok-noting.ensures.committed ∙ ap (λ k. committed_value one.store.pending.entries (g.M.SortedMaps.maps one.store.tables) (ch.table, k)) c.as_slice-6.ensures)
    c.in_ok-version.ensures (c.in_ok-copies.ensures ∙ c.as_slice-7.ensures)
    (subst (λ (x : CoreState g.row.M.Denot). CanAddAt x.ahead i (length c.args.owed)) (sym c.make_room.ensures.rest) (subst (CanAddAt core.ahead i) many c.in_ok-reserve_ahead.ensures.room))
    (subst (λ (x : CoreState g.row.M.Denot). all_rows x.ahead + 1 ≤ x.store.row_versions.room) (sym c.make_room.ensures.rest) c.in_ok-reserve_ahead.ensures.rows)
    (subst (λ (x : CoreState g.row.M.Denot). all_deltas x.ahead + length c.args.owed ≤ x.store.delta_versions.room) (sym c.make_room.ensures.rest) (subst (λ n. all_deltas core.ahead + n ≤ core.store.delta_versions.room) many c.in_ok-reserve_ahead.ensures.deltas))) in
    (mid, logs s.store i a (Takes c.args.wants) s.log, (its_texts s), took, writes)

pub kept_room-aside-requires-after_bounds : goal.kept_room-aside-requires-after_bounds
kept_room-aside-requires-after_bounds g c κs within =
    let s = c.requires.0 in
    let can = c.requires.1 in
    let base = c.args.core.now in
    let i = c.args.session in
    let ch = c.args.change in
    let core = c.reserve_ahead.new.core in
    let can0 = can_still g.M.SortedMaps.maps g.M.SortedMaps.spare g.M.SortedMaps.limit base core s i ch c.args.wants c.args.owed c.args.bytes c.args.entry_bytes can (c.reserve_ahead.ensures.began s can.puts.began) in
    let one = c.make_room.new.core in
    let b1 = c.make_room.ensures.began s can0.puts.began (open_here g.M.SortedMaps.maps g.M.SortedMaps.spare g.M.SortedMaps.limit core s i ch c.args.wants can0.puts)
    (subst (AreDeltas s.store) (sym c.as_slice-5.ensures) (are_deltas g.M.SortedMaps.maps g.M.SortedMaps.spare g.M.SortedMaps.limit core s i ch c.args.wants can0.puts c.args.owed can0.owed_is)) in
    let can1 = can_still g.M.SortedMaps.maps g.M.SortedMaps.spare g.M.SortedMaps.limit core one s i ch c.args.wants c.args.owed c.args.bytes c.args.entry_bytes can0 b1 in
    rows_here g.M.SortedMaps.maps g.M.SortedMaps.spare g.M.SortedMaps.limit one s i ch c.args.wants can1.puts

pub set_aside-requires : goal.set_aside-requires
set_aside-requires g c =
    let s = c.requires.0 in
    let is = (open_here g.M.SortedMaps.maps g.M.SortedMaps.spare g.M.SortedMaps.limit c.args.core.now s c.args.session c.args.change c.args.wants c.requires.1.puts).of_session in
    omega (arith, is)

pub returns-clause-told : goal.returns-clause-told
returns-clause-told g c = λ s can.
    let base = c.args.core.now in
    let i = c.args.session in
    let ch = c.args.change in
    let core = c.reserve_ahead.new.core in
    let can0 = can_still g.M.SortedMaps.maps g.M.SortedMaps.spare g.M.SortedMaps.limit base core s i ch c.args.wants c.args.owed c.args.bytes c.args.entry_bytes can (c.reserve_ahead.ensures.began s can.puts.began) in
    let one = c.make_room.new.core in
    let b1 = c.make_room.ensures.began s can0.puts.began (open_here g.M.SortedMaps.maps g.M.SortedMaps.spare g.M.SortedMaps.limit core s i ch c.args.wants can0.puts)
    (subst (AreDeltas s.store) (sym c.as_slice-5.ensures) (are_deltas g.M.SortedMaps.maps g.M.SortedMaps.spare g.M.SortedMaps.limit core s i ch c.args.wants can0.puts c.args.owed can0.owed_is)) in
    let can1 = can_still g.M.SortedMaps.maps g.M.SortedMaps.spare g.M.SortedMaps.limit core one s i ch c.args.wants c.args.owed c.args.bytes c.args.entry_bytes can0 b1 in
    let room = subst (λ ws. HasRoom g.M.SortedMaps.spare one i ch.table (length ws) c.args.owed) c.as_slice-4.ensures (subst (λ ds. HasRoom g.M.SortedMaps.spare one i ch.table (length c.as_slice-4.result.now) ds) c.as_slice-5.ensures c.in_ok-make_room.ensures.room) in
    let many : length c.as_slice-3.result.now ≡ length c.args.owed = ap length c.as_slice-3.ensures in
    let w : Writing = record { ready = c.in_ok-ready.ready; noting = c.in_ok-noting.noting; version = c.in_ok-version.version; copies = c.in_ok-copies.copies; owed = c.into_vec.result; wants = c.in_ok-pays.pays; txn_bytes = c.args.bytes; history_bytes = c.args.entry_bytes } in
    let two = c.take.new.core in
    let a = act.Put ch.table ch.key ch.after in
    let took = c.take.ensures.holds s.store s.log (its_texts s) a b1.holds (open_here g.M.SortedMaps.maps g.M.SortedMaps.spare g.M.SortedMaps.limit one s i ch c.args.wants can1.puts) (owes_none g.M.SortedMaps.maps g.M.SortedMaps.spare g.M.SortedMaps.limit one s i b1 can1.puts.may.0) in
    let mid = between g.M.SortedMaps.maps g.M.SortedMaps.spare g.M.SortedMaps.limit one s i ch c.args.wants c.args.owed c.args.bytes c.args.entry_bytes can1 in
    let writes = subst (λ x. CanWrite g.M.SortedMaps.maps g.M.SortedMaps.spare g.M.SortedMaps.limit mid x i w) (sym c.take.ensures.rest)
    (can_write g.M.SortedMaps.maps g.M.SortedMaps.spare g.M.SortedMaps.limit one s i ch c.args.wants c.args.owed c.args.bytes c.args.entry_bytes can1 c.book_law.ensures c.number_law.ensures room two.locks w c.take.ensures.room
    c.into_vec.ensures (c.in_ok-pays.ensures ∙ ap (map (λ d. group_want d ∷ [])) c.as_slice-2.ensures) refl refl c.in_ok-ready.ensures.kept c.in_ok-ready.ensures.coming
    c.in_ok-noting.ensures.place.0 (c.in_ok-noting.ensures.place.1 ∙ c.as_slice-6.ensures) (c.in_ok-noting.ensures.committed ∙ ap (λ k. committed_value one.store.pending.entries (g.M.SortedMaps.maps one.store.tables) (ch.table, k)) c.as_slice-6.ensures)
    c.in_ok-version.ensures (c.in_ok-copies.ensures ∙ c.as_slice-7.ensures)
    (subst (λ (x : CoreState g.row.M.Denot). CanAddAt x.ahead i (length c.args.owed)) (sym c.make_room.ensures.rest) (subst (CanAddAt core.ahead i) many c.in_ok-reserve_ahead.ensures.room))
    (subst (λ (x : CoreState g.row.M.Denot). all_rows x.ahead + 1 ≤ x.store.row_versions.room) (sym c.make_room.ensures.rest) c.in_ok-reserve_ahead.ensures.rows)
    (subst (λ (x : CoreState g.row.M.Denot). all_deltas x.ahead + length c.args.owed ≤ x.store.delta_versions.room) (sym c.make_room.ensures.rest) (subst (λ n. all_deltas core.ahead + n ≤ core.store.delta_versions.room) many c.in_ok-reserve_ahead.ensures.deltas))) in
    let new = c.write.new.core in
    let left = c.set_aside.new.self in
    let logged = c.put.new.self in
    let after : CoreState g.row.M.Denot = record new { data_room = left; log_room = logged } in
    let kept_are : c.kept_room-aside.result ≡ told_need (growth_back (schema_of s.store) (row_change ch) + sum (map delta_entry c.args.owed)) =
    c.kept_room-aside.ensures ∙ (ap (λ ds. told_need (growth_back (defined.schema_of one.store.catalog) (row_change ch) + sum (map delta_entry ds))) c.as_slice-8.ensures ∙ ap (λ o. told_need (growth_back o (row_change ch) + sum (map delta_entry c.args.owed))) b1.holds.stored.objects) in
    let kept = same g.M.SortedMaps.maps g.M.SortedMaps.spare g.M.SortedMaps.limit one s i ch c.args.wants c.args.owed c.args.bytes c.args.entry_bytes can1 c.book_law.ensures c.number_law.ensures room two.locks w c.take.ensures.room
    c.into_vec.ensures (c.in_ok-pays.ensures ∙ ap (map (λ d. group_want d ∷ [])) c.as_slice-2.ensures) refl refl c.in_ok-ready.ensures.kept c.in_ok-ready.ensures.coming
    c.in_ok-noting.ensures.place.0 (c.in_ok-noting.ensures.place.1 ∙ c.as_slice-6.ensures) (c.in_ok-noting.ensures.committed ∙ ap (λ k. committed_value one.store.pending.entries (g.M.SortedMaps.maps one.store.tables) (ch.table, k)) c.as_slice-6.ensures)
    c.in_ok-version.ensures (c.in_ok-copies.ensures ∙ c.as_slice-7.ensures)
    (subst (λ (x : CoreState g.row.M.Denot). CanAddAt x.ahead i (length c.args.owed)) (sym c.make_room.ensures.rest) (subst (CanAddAt core.ahead i) many c.in_ok-reserve_ahead.ensures.room))
    (subst (λ (x : CoreState g.row.M.Denot). all_rows x.ahead + 1 ≤ x.store.row_versions.room) (sym c.make_room.ensures.rest) c.in_ok-reserve_ahead.ensures.rows)
    (subst (λ (x : CoreState g.row.M.Denot). all_deltas x.ahead + length c.args.owed ≤ x.store.delta_versions.room) (sym c.make_room.ensures.rest) (subst (λ n. all_deltas core.ahead + n ≤ core.store.delta_versions.room) many c.in_ok-reserve_ahead.ensures.deltas)) in
    let wrote = subst (λ (x : Change). Holds g.M.SortedMaps.maps g.M.SortedMaps.spare g.M.SortedMaps.limit new (does the_views mid i (Writes (x.table, x.key) x.after)) (logs mid i a (Writes (x.table, x.key) x.after) (logs s.store i a (Takes c.args.wants) s.log)) (its_texts s)) kept
    (c.write.ensures.holds mid (logs s.store i a (Takes c.args.wants) s.log) (its_texts s) a took writes) in
    let e2 = c.take.ensures.rest in
    let e3 = c.write.ensures.rest in
    let same_log : new.log_room ≡ one.log_room = ap (λ (x : CoreState g.row.M.Denot). x.log_room) e3 ∙ ap (λ (x : CoreState g.row.M.Denot). x.log_room) e2 in
    let owes : c.owed_bytes-reserved.result ≡ told_need (owed_bytes false c.args.owed) =
    c.owed_bytes-reserved.ensures ∙ ap told_need (none_ghosted false c.as_slice-9.result.now refl ∙ ap (owed_bytes false) c.as_slice-9.ensures) in
    let log_then = log_left g.M.SortedMaps.maps g.M.SortedMaps.spare g.M.SortedMaps.limit one s i ch c.args.wants c.args.owed c.args.bytes c.args.entry_bytes can1 c.same_room_law.ensures new.log_room logged c.write_bytes-written.result c.owed_bytes-reserved.result same_log
    (written_are g.M.SortedMaps.maps g.M.SortedMaps.spare g.M.SortedMaps.limit one s i ch c.args.wants c.args.owed c.args.bytes c.args.entry_bytes can1 c.in_ok-ready.ready.kept c.write_bytes-written.result c.in_ok-ready.ensures.kept c.write_bytes-written.ensures) owes
    (c.put.ensures.room mid (logs s.store i a (Takes c.args.wants) s.log) i a (ch.table, ch.key) ch.after) in
    let before : c.in_ok-before.before ≡ ch.before = c.in_ok-before.ensures ∙ c.as_ref.ensures.value in
    let told : c.from_vec-told.result ≡ c.args.owed = c.from_vec-told.ensures ∙ (c.in_ok-copied_deltas.ensures ∙ c.as_slice.ensures) in
    subst (λ d. Told g.M.SortedMaps.maps g.M.SortedMaps.spare g.M.SortedMaps.limit s i a (answer.Changed c.in_ok-before.before d) after) (sym told)
    (subst (λ b. Told g.M.SortedMaps.maps g.M.SortedMaps.spare g.M.SortedMaps.limit s i a (answer.Changed b c.args.owed) after) (sym before)
    (put_told g.M.SortedMaps.maps g.M.SortedMaps.spare g.M.SortedMaps.limit one s i ch c.args.wants c.args.owed c.args.bytes c.args.entry_bytes can1 new left logged c.kept_room-aside.result kept_are wrote
    (ap (λ (x : CoreState g.row.M.Denot). x.data_room) e3 ∙ ap (λ (x : CoreState g.row.M.Denot). x.data_room) e2) (ap (λ (d : DataRoom). d.limit) c.set_aside.ensures.rest) c.set_aside.ensures.own c.set_aside.ensures.others c.set_aside.ensures.total log_then
    (record {
      steps = ap (λ (x : CoreState g.row.M.Denot). x.steps) e3 ∙ ap (λ (x : CoreState g.row.M.Denot). x.steps) e2;
      seats = ap (λ (x : CoreState g.row.M.Denot). x.seats) e3 ∙ ap (λ (x : CoreState g.row.M.Denot). x.seats) e2;
      cleaner = ap (λ (x : CoreState g.row.M.Denot). x.cleaner) e3 ∙ ap (λ (x : CoreState g.row.M.Denot). x.cleaner) e2;
      stop = ap (λ (x : CoreState g.row.M.Denot). x.stop) e3 ∙ ap (λ (x : CoreState g.row.M.Denot). x.stop) e2;
      limit = ap (λ (d : DataRoom). d.limit) c.set_aside.ensures.rest ∙ (ap (λ (x : CoreState g.row.M.Denot). x.data_room.limit) e3 ∙ ap (λ (x : CoreState g.row.M.Denot). x.data_room.limit) e2);
      log_limit = c.put.ensures.limit ∙ ap (λ (r : LogRoom). r.limit) same_log;
    })
    (ap (λ (x : CoreState g.row.M.Denot). lock.waiting_of x.locks i) e3 ∙ c.take.ensures.own)
    (λ j n. ap (λ (x : CoreState g.row.M.Denot). lock.waiting_of x.locks j) e3 ∙ c.take.ensures.others j n)))
