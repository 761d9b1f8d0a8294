use Rattle.std.proofs.Common.{◌+◌, ◌≤◌, refl, sym, ap, subst, ◌∙◌}
use Rattle.lock_manager.specs.Table.{waiting_of}
use Rattle.txn_machine.specs.Acts as act
use Rattle.txn_machine.specs.Counts.{most_of_transaction}
use Rattle.txn_machine.specs.Log.{logs}
use Rattle.txn_machine.specs.Steps.{stored, note_of}
use Rattle.txn_machine.specs.Store.{Takes}
use Rattle.txn_book.specs.Books.{IsOpenAnd}
use Rattle.data_store.specs.Contents.{contents_of}
use Rattle.core_state.specs.declared.state.CoreState.{CoreState}
use Rattle.core_state.proofs.Sessions.{of_ready, owes_none}
use Rattle.core_reads.proofs.Fetched.{readable, can_find, free_there, fits, read_told, between}
use Rattle.core_reads.proofs.fetching.read.Goals as goal
use Rattle.core_state.specs.Stands.{its_texts}

pub found-requires-after_bounds : goal.found-requires-after_bounds
found-requires-after_bounds g c κs within =
    let can = c.requires.2 in
    can_find g.M.SortedMaps.maps g.M.SortedMaps.spare g.M.SortedMaps.limit c.reserve_locks.new.core c.requires.0 c.args.session (c.reserve_locks.ensures.began c.requires.0 can.fetches.began) c.requires.1 c.args.index can.fetches.may.1

pub take-requires-clause-free : goal.take-requires-clause-free
take-requires-clause-free g c κs within =
    let can = c.requires.2 in
    free_there g.M.SortedMaps.maps g.M.SortedMaps.spare g.M.SortedMaps.limit c.reserve_locks.new.core c.requires.0 c.args.session (c.reserve_locks.ensures.began c.requires.0 can.fetches.began) c.args.wants can.fetches.free

pub note-requires-clause-fits : goal.note-requires-clause-fits
note-requires-clause-fits g c κs within =
    let can = c.requires.2 in
    let h = c.reserve_locks.ensures.began c.requires.0 can.fetches.began in
    subst (λ b. IsOpenAnd b c.args.session (λ t. t.txn_bytes + c.args.need ≤ most_of_transaction)) (sym (ap (λ (x : CoreState g.row.M.Denot). x.book) c.take.ensures.rest))
    (fits g.M.SortedMaps.maps g.M.SortedMaps.spare g.M.SortedMaps.limit c.reserve_locks.new.core c.requires.0 c.args.session h (of_ready g.M.SortedMaps.maps g.M.SortedMaps.spare g.M.SortedMaps.limit c.reserve_locks.new.core c.requires.0 c.args.session h can.fetches.may.0) c.args.need can.room)

pub returns-clause-told : goal.returns-clause-told
returns-clause-told g c = λ s mode can.
    let h = c.reserve_locks.ensures.began s can.fetches.began in
    let rows = c.in_ok-rows.rows in
    let e1 = c.reserve_locks.ensures.rest in
    let e2 = c.take.ensures.rest in
    let e3 = c.note.ensures.rest in
    let middle = c.reserve_locks.new.core in
    let mid_store = between g.M.SortedMaps.maps g.M.SortedMaps.spare g.M.SortedMaps.limit c.args.core.now middle c.take.new.core c.note.new.core s c.args.session c.args.index c.args.interval.now mode c.args.wants c.args.need can h in
    read_told g.M.SortedMaps.maps g.M.SortedMaps.spare g.M.SortedMaps.limit c.args.core.now middle c.take.new.core c.note.new.core s c.args.session c.args.index c.args.interval.now mode c.args.wants c.args.need can h rows
    (c.in_ok-rows.ensures (contents_of s.store) (stored s.store) (readable g.M.SortedMaps.maps g.M.SortedMaps.spare g.M.SortedMaps.limit middle s c.args.session h) refl refl)
    (λ hh o. c.take.ensures.holds s.store s.log (its_texts s) (act.Fetch c.args.index c.args.interval.now mode) hh o (owes_none g.M.SortedMaps.maps g.M.SortedMaps.spare g.M.SortedMaps.limit middle s c.args.session h can.fetches.may.0))
    (λ hh o size last. c.note.ensures.holds mid_store (logs s.store c.args.session (act.Fetch c.args.index c.args.interval.now mode) (Takes c.args.wants) s.log) (its_texts s) (act.Fetch c.args.index c.args.interval.now mode) (note_of s.store c.args.session c.args.index c.args.interval.now rows) hh o size last)
    c.same_room_law.ensures
    (ap (λ (x : CoreState g.row.M.Denot). x.data_room) e3 ∙ (ap (λ (x : CoreState g.row.M.Denot). x.data_room) e2 ∙ ap (λ (x : CoreState g.row.M.Denot). x.data_room) e1))
    (ap (λ (x : CoreState g.row.M.Denot). x.log_room) e3 ∙ (ap (λ (x : CoreState g.row.M.Denot). x.log_room) e2 ∙ ap (λ (x : CoreState g.row.M.Denot). x.log_room) e1))
    (record {
      steps = ap (λ (x : CoreState g.row.M.Denot). x.steps) e3 ∙ (ap (λ (x : CoreState g.row.M.Denot). x.steps) e2 ∙ ap (λ (x : CoreState g.row.M.Denot). x.steps) e1);
      seats = ap (λ (x : CoreState g.row.M.Denot). x.seats) e3 ∙ (ap (λ (x : CoreState g.row.M.Denot). x.seats) e2 ∙ ap (λ (x : CoreState g.row.M.Denot). x.seats) e1);
      cleaner = ap (λ (x : CoreState g.row.M.Denot). x.cleaner) e3 ∙ (ap (λ (x : CoreState g.row.M.Denot). x.cleaner) e2 ∙ ap (λ (x : CoreState g.row.M.Denot). x.cleaner) e1);
      stop = ap (λ (x : CoreState g.row.M.Denot). x.stop) e3 ∙ (ap (λ (x : CoreState g.row.M.Denot). x.stop) e2 ∙ ap (λ (x : CoreState g.row.M.Denot). x.stop) e1);
      limit = ap (λ (x : CoreState g.row.M.Denot). x.data_room.limit) e3 ∙ (ap (λ (x : CoreState g.row.M.Denot). x.data_room.limit) e2 ∙ ap (λ (x : CoreState g.row.M.Denot). x.data_room.limit) e1);
      log_limit = ap (λ (x : CoreState g.row.M.Denot). x.log_room.limit) e3 ∙ (ap (λ (x : CoreState g.row.M.Denot). x.log_room.limit) e2 ∙ ap (λ (x : CoreState g.row.M.Denot). x.log_room.limit) e1);
    })
    (ap (λ (x : CoreState g.row.M.Denot). waiting_of x.locks c.args.session) e3 ∙ c.take.ensures.own)
    (λ j differ. ap (λ (x : CoreState g.row.M.Denot). waiting_of x.locks j) e3 ∙ c.take.ensures.others j differ)
