-- The scripts, played.
use Rattle.std.specs.Prelude.{[]}
use Rattle.std.specs.Fmt.{digits}
use Rattle.std.specs.Str.{is_utf8, chars}
use lib.Utf8.{encode}
use Rattle.iv_types.specs.Terminals.{same}
use Rattle.iv_types.specs.Printing.{bare_pieces}
use Rattle.script_runs.specs.Increments.{both_commit as both_commit_script, BothCommit, one_rolls_back as one_rolls_back_script, OneRollsBack, ghost_is_cleaned as ghost_is_cleaned_script, GhostIsCleaned, deleted_comes_back as deleted_comes_back_script, DeletedComesBack}
use Rattle.script_runs.specs.Bounds.{sum_is_refused as sum_is_refused_script, SumIsRefused, undo_is_covered as undo_is_covered_script, UndoIsCovered, room_is_freed as room_is_freed_script, RoomIsFreed, FreedRoomIsSerial}
use Rattle.script_runs.specs.Waiting.{reader_waits as reader_waits_script, ReaderWaits, ring_is_refused as ring_is_refused_script, RingIsRefused, insert_waits as insert_waits_script, InsertWaits, both_are_tried as both_are_tried_script, BothAreTried}
use Rattle.script_runs.specs.Snapshots.{snapshot_is_kept as snapshot_is_kept_script, SnapshotIsKept, snapshot_by_steps as snapshot_by_steps_script, SnapshotBySteps}
use Rattle.script_runs.specs.Inside.{refused_insert as refused_insert_script, RefusedInsert, savepoint_returns as savepoint_returns_script, SavepointReturns, insert_by_steps as insert_by_steps_script, InsertBySteps, statements_are_refused as statements_are_refused_script, StatementsAreRefused}
use Rattle.script_runs.specs.Day.{day, DayRuns}
use Rattle.script_runs.specs.Creating.{sales_are_shown as shown_script, SalesAreShown, creations_are_refused as creations_script, CreationsAreRefused}
use Rattle.script_runs.specs.Joining.{stores_move as stores_script, StoresMove}
use Rattle.script_runs.proofs.Spelled.{second_sale_spelled, index_spelled, sale_spelled, store_spelled, sale_shop_spelled, shop_view_spelled, by_region_spelled}
use Rattle.script_runs.proofs.Scripts.{printed_on, printed, serial}
use Rattle.iv_meaning.specs.Database.{created}
use Rattle.iv_meaning.specs.SerialExample.{shop_database}
use Rattle.txn_machine.proofs.Beginning.{empty_law}
use Rattle.txn_machine.proofs.ShopOpening.{shop_opened}

pub both_commit : BothCommit
unfolding digits
both_commit = printed both_commit_script tt

pub one_rolls_back : OneRollsBack
unfolding digits
one_rolls_back = printed one_rolls_back_script tt

pub ghost_is_cleaned : GhostIsCleaned
unfolding digits
ghost_is_cleaned = printed ghost_is_cleaned_script tt

pub deleted_comes_back : DeletedComesBack
unfolding digits
deleted_comes_back = printed deleted_comes_back_script tt

pub sum_is_refused : SumIsRefused
unfolding digits
sum_is_refused = printed sum_is_refused_script tt

pub undo_is_covered : UndoIsCovered
unfolding digits
undo_is_covered = printed undo_is_covered_script tt

pub room_is_freed : RoomIsFreed
unfolding digits
room_is_freed = printed room_is_freed_script tt

pub reader_waits : ReaderWaits
unfolding digits
reader_waits = printed reader_waits_script tt

pub ring_is_refused : RingIsRefused
unfolding digits
ring_is_refused = printed ring_is_refused_script tt

pub insert_waits : InsertWaits
unfolding digits
insert_waits = printed insert_waits_script tt

pub both_are_tried : BothAreTried
unfolding digits
both_are_tried = printed both_are_tried_script tt

pub snapshot_is_kept : SnapshotIsKept
unfolding digits
snapshot_is_kept = printed snapshot_is_kept_script tt

pub snapshot_by_steps : SnapshotBySteps
unfolding digits
snapshot_by_steps = printed snapshot_by_steps_script tt

pub refused_insert : RefusedInsert
unfolding digits
refused_insert = printed refused_insert_script tt

pub savepoint_returns : SavepointReturns
unfolding digits
savepoint_returns = printed savepoint_returns_script tt

pub insert_by_steps : InsertBySteps
unfolding digits
insert_by_steps = printed insert_by_steps_script tt

pub statements_are_refused : StatementsAreRefused
unfolding digits
statements_are_refused = printed statements_are_refused_script tt

pub freed_room_is_serial : FreedRoomIsSerial
freed_room_is_serial = serial shop_database shop_opened room_is_freed_script room_is_freed

pub day_runs : DayRuns
unfolding digits
day_runs = printed day tt

-- on a database that defines nothing
pub sales_are_shown : SalesAreShown
unfolding digits same bare_pieces is_utf8 chars encode
sales_are_shown = let run = printed_on 0 [] shown_script tt in record { is_printed = run; is_serial = serial created (empty_law 0) shown_script run; sales = sale_spelled; shops = shop_view_spelled }

pub creations_are_refused : CreationsAreRefused
unfolding digits same
creations_are_refused = record { is_printed = printed creations_script tt; taken = second_sale_spelled; busy = index_spelled }

-- on a database that defines nothing
pub stores_move : StoresMove
unfolding digits same bare_pieces is_utf8 chars encode
stores_move = let run = printed_on 0 [] stores_script tt in record { is_printed = run; is_serial = serial created (empty_law 0) stores_script run; sales = sale_spelled; stores = store_spelled; index = sale_shop_spelled; regions = by_region_spelled }
