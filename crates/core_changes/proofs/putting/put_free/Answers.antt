use Rattle.data_changes.proofs.Answered.{if_ok_as}
use Rattle.core_state.proofs.Data.{began_within}
use Rattle.core_effects.proofs.Results.{on_err_as}
use Rattle.core_changes.proofs.Full.{can_put, full_told, rows_here}
use Rattle.core_changes.proofs.Making.{mine}
use Rattle.core_changes.proofs.Puts.{can_change, open_here}
use Rattle.core_changes.proofs.putting.put_free.Goals as goal

pub owed-requires-after_bounds : goal.owed-requires-after_bounds
owed-requires-after_bounds g c κs within = can_change g.M.SortedMaps.maps g.M.SortedMaps.spare g.M.SortedMaps.limit c.args.core.now c.requires.0 c.args.session c.args.change c.args.wants c.requires.1

pub put_size-bytes-requires-after_bounds : goal.put_size-bytes-requires-after_bounds
put_size-bytes-requires-after_bounds g c κs within = rows_here g.M.SortedMaps.maps g.M.SortedMaps.spare g.M.SortedMaps.limit c.args.core.now c.requires.0 c.args.session c.args.change c.args.wants c.requires.1

pub kept_change_size-entry_bytes-requires-after_bounds : goal.kept_change_size-entry_bytes-requires-after_bounds
kept_change_size-entry_bytes-requires-after_bounds g c κs within = rows_here g.M.SortedMaps.maps g.M.SortedMaps.spare g.M.SortedMaps.limit c.args.core.now c.requires.0 c.args.session c.args.change c.args.wants c.requires.1

pub change_need-data_need-requires-after_bounds : goal.change_need-data_need-requires-after_bounds
change_need-data_need-requires-after_bounds g c κs within = rows_here g.M.SortedMaps.maps g.M.SortedMaps.spare g.M.SortedMaps.limit c.args.core.now c.requires.0 c.args.session c.args.change c.args.wants c.requires.1

pub write_need-log_need-requires-after_bounds : goal.write_need-log_need-requires-after_bounds
write_need-log_need-requires-after_bounds g c κs within = rows_here g.M.SortedMaps.maps g.M.SortedMaps.spare g.M.SortedMaps.limit c.args.core.now c.requires.0 c.args.session c.args.change c.args.wants c.requires.1

pub refusal-requires-clause-logged : goal.refusal-requires-clause-logged
refusal-requires-clause-logged g c κs within = (c.requires.0.store, c.requires.0.log, c.requires.1.began.reserves.log_room)

pub refusal-requires-clause-within : goal.refusal-requires-clause-within
refusal-requires-clause-within g c κs within = began_within g.M.SortedMaps.maps g.M.SortedMaps.spare g.M.SortedMaps.limit c.args.core.now c.requires.0 c.args.session c.requires.1.began

pub refusal-requires-clause-is_open : goal.refusal-requires-clause-is_open
refusal-requires-clause-is_open g c κs within =
    let s = c.requires.0 in
    let p = c.requires.1 in
    let own = mine g.M.SortedMaps.maps g.M.SortedMaps.spare g.M.SortedMaps.limit c.args.core.now s c.args.session p.began (open_here g.M.SortedMaps.maps g.M.SortedMaps.spare g.M.SortedMaps.limit c.args.core.now s c.args.session c.args.change c.args.wants p) in
    (own.txn, own.there, tt)

pub put_within-requires-after_bounds : goal.put_within-requires-after_bounds
put_within-requires-after_bounds g c κs within =
    let s = c.requires.0 in
    let p = c.requires.1 in
    (s, can_put g.M.SortedMaps.maps g.M.SortedMaps.spare g.M.SortedMaps.limit c.args.core.now s c.args.session c.args.change c.args.wants p c.book_law.ensures c.in_ok-owed.owed c.in_ok-owed.ensures c.as_slice.result.now c.as_slice.ensures c.as_slice-2.result.now c.as_slice-2.ensures c.as_slice-3.result.now c.as_slice-3.ensures c.put_size-bytes.result c.write_need-log_need.result c.change_need-data_need.result c.kept_change_size-entry_bytes.result c.put_size-bytes.ensures c.write_need-log_need.ensures c.change_need-data_need.ensures c.kept_change_size-entry_bytes.ensures c.in-None.ensures.none.0 c.in-None.ensures.none.1 c.in-None.ensures.none.2 c.in-None.ensures.none.3)

pub returns-in-Some-clause-told : goal.returns-in-Some-clause-told
returns-in-Some-clause-told g c = λ s p. full_told g.M.SortedMaps.maps g.M.SortedMaps.spare g.M.SortedMaps.limit c.args.core.now s c.args.session c.args.change c.args.wants p c.book_law.ensures c.in_ok-owed.owed c.in_ok-owed.ensures c.as_slice.result.now c.as_slice.ensures c.as_slice-2.result.now c.as_slice-2.ensures c.as_slice-3.result.now c.as_slice-3.ensures c.put_size-bytes.result c.write_need-log_need.result c.change_need-data_need.result c.kept_change_size-entry_bytes.result c.put_size-bytes.ensures c.write_need-log_need.ensures c.change_need-data_need.ensures c.kept_change_size-entry_bytes.ensures c.in-Some.why c.in-Some.ensures.some

pub returns-in-None-clause-told : goal.returns-in-None-clause-told
returns-in-None-clause-told g c = if_ok_as c.put_within.result _ _ (λ said told s p. told s (can_put g.M.SortedMaps.maps g.M.SortedMaps.spare g.M.SortedMaps.limit c.args.core.now s c.args.session c.args.change c.args.wants p c.book_law.ensures c.in_ok-owed.owed c.in_ok-owed.ensures c.as_slice.result.now c.as_slice.ensures c.as_slice-2.result.now c.as_slice-2.ensures c.as_slice-3.result.now c.as_slice-3.ensures c.put_size-bytes.result c.write_need-log_need.result c.change_need-data_need.result c.kept_change_size-entry_bytes.result c.put_size-bytes.ensures c.write_need-log_need.ensures c.change_need-data_need.ensures c.kept_change_size-entry_bytes.ensures c.in-None.ensures.none.0 c.in-None.ensures.none.1 c.in-None.ensures.none.2 c.in-None.ensures.none.3)) c.put_within.ensures.told

pub returns-in-None-clause-err : goal.returns-in-None-clause-err
returns-in-None-clause-err g c = on_err_as c.put_within.result (λ err s p. err s (can_put g.M.SortedMaps.maps g.M.SortedMaps.spare g.M.SortedMaps.limit c.args.core.now s c.args.session c.args.change c.args.wants p c.book_law.ensures c.in_ok-owed.owed c.in_ok-owed.ensures c.as_slice.result.now c.as_slice.ensures c.as_slice-2.result.now c.as_slice-2.ensures c.as_slice-3.result.now c.as_slice-3.ensures c.put_size-bytes.result c.write_need-log_need.result c.change_need-data_need.result c.kept_change_size-entry_bytes.result c.put_size-bytes.ensures c.write_need-log_need.ensures c.change_need-data_need.ensures c.kept_change_size-entry_bytes.ensures c.in-None.ensures.none.0 c.in-None.ensures.none.1 c.in-None.ensures.none.2 c.in-None.ensures.none.3)) c.put_within.ensures.err
