use Rattle.std.proofs.Common.{ap, ◌∙◌}
use Rattle.txn_book.specs.Opens.{open_at}
use Rattle.core_state.specs.declared.state.CoreState.{CoreState}
use Rattle.core_effects.proofs.Results.{on_ok_two}
use Rattle.core_changes.proofs.Making.{book_rest, tables_rest, views_rest, began_on, some_open, has_buffers, all_room}
use Rattle.core_changes.proofs.room.make_room.Goals as goal
use Rattle.core_state.specs.Stands.{its_texts}

pub returns-in_err-reserve_step-clause-began : goal.returns-in_err-reserve_step-clause-began
returns-in_err-reserve_step-clause-began g c = λ s h o are.
    let core = c.args.core.now in
    let i = c.args.session in
    let one = c.reserve_step.new.core in
    let b1 = began_on g.M.SortedMaps.maps g.M.SortedMaps.spare g.M.SortedMaps.limit core s i h one (book_rest core one c.reserve_step.ensures.rest) (c.reserve_step.ensures.holds s.store s.log (its_texts s) o h.holds) in
    b1

pub reserve_entries-requires-clause-held : goal.reserve_entries-requires-clause-held
reserve_entries-requires-clause-held g c κs within =
    let s = c.requires.began.0 in
    let h = c.requires.began.1 in
    let o = c.requires.began.2 in
    let are = c.requires.began.3 in
    let core = c.args.core.now in
    let i = c.args.session in
    let one = c.reserve_step.new.core in
    let b1 = began_on g.M.SortedMaps.maps g.M.SortedMaps.spare g.M.SortedMaps.limit core s i h one (book_rest core one c.reserve_step.ensures.rest) (c.reserve_step.ensures.holds s.store s.log (its_texts s) o h.holds) in
    (s.store, s.log, (its_texts s), b1.holds)

pub returns-in_err-reserve_entries-clause-began : goal.returns-in_err-reserve_entries-clause-began
returns-in_err-reserve_entries-clause-began g c = λ s h o are.
    let core = c.args.core.now in
    let i = c.args.session in
    let one = c.reserve_step.new.core in
    let b1 = began_on g.M.SortedMaps.maps g.M.SortedMaps.spare g.M.SortedMaps.limit core s i h one (book_rest core one c.reserve_step.ensures.rest) (c.reserve_step.ensures.holds s.store s.log (its_texts s) o h.holds) in
    let two = c.reserve_entries.new.core in
    let b2 = began_on g.M.SortedMaps.maps g.M.SortedMaps.spare g.M.SortedMaps.limit one s i b1 two (tables_rest one two c.reserve_entries.ensures.rest) (c.reserve_entries.ensures.holds s.store s.log (its_texts s) b1.holds) in
    b2

pub returns-in_err-reserve_locks-clause-began : goal.returns-in_err-reserve_locks-clause-began
returns-in_err-reserve_locks-clause-began g c = λ s h o are.
    let core = c.args.core.now in
    let i = c.args.session in
    let one = c.reserve_step.new.core in
    let b1 = began_on g.M.SortedMaps.maps g.M.SortedMaps.spare g.M.SortedMaps.limit core s i h one (book_rest core one c.reserve_step.ensures.rest) (c.reserve_step.ensures.holds s.store s.log (its_texts s) o h.holds) in
    let two = c.reserve_entries.new.core in
    let b2 = began_on g.M.SortedMaps.maps g.M.SortedMaps.spare g.M.SortedMaps.limit one s i b1 two (tables_rest one two c.reserve_entries.ensures.rest) (c.reserve_entries.ensures.holds s.store s.log (its_texts s) b1.holds) in
    let three = c.reserve_locks.new.core in
    let b3 = c.reserve_locks.ensures.began s b2 in
    b3

pub open_of-requires-after_bounds : goal.open_of-requires-after_bounds
open_of-requires-after_bounds g c κs within =
    let s = c.requires.began.0 in
    let h = c.requires.began.1 in
    let o = c.requires.began.2 in
    let are = c.requires.began.3 in
    let core = c.args.core.now in
    let i = c.args.session in
    let one = c.reserve_step.new.core in
    let b1 = began_on g.M.SortedMaps.maps g.M.SortedMaps.spare g.M.SortedMaps.limit core s i h one (book_rest core one c.reserve_step.ensures.rest) (c.reserve_step.ensures.holds s.store s.log (its_texts s) o h.holds) in
    let two = c.reserve_entries.new.core in
    let b2 = began_on g.M.SortedMaps.maps g.M.SortedMaps.spare g.M.SortedMaps.limit one s i b1 two (tables_rest one two c.reserve_entries.ensures.rest) (c.reserve_entries.ensures.holds s.store s.log (its_texts s) b1.holds) in
    let three = c.reserve_locks.new.core in
    let b3 = c.reserve_locks.ensures.began s b2 in
    some_open g.M.SortedMaps.maps g.M.SortedMaps.spare g.M.SortedMaps.limit three s i b3 o

pub reserve_pays-requires-clause-held : goal.reserve_pays-requires-clause-held
reserve_pays-requires-clause-held g c κs within =
    let s = c.requires.began.0 in
    let h = c.requires.began.1 in
    let o = c.requires.began.2 in
    let are = c.requires.began.3 in
    let core = c.args.core.now in
    let i = c.args.session in
    let one = c.reserve_step.new.core in
    let b1 = began_on g.M.SortedMaps.maps g.M.SortedMaps.spare g.M.SortedMaps.limit core s i h one (book_rest core one c.reserve_step.ensures.rest) (c.reserve_step.ensures.holds s.store s.log (its_texts s) o h.holds) in
    let two = c.reserve_entries.new.core in
    let b2 = began_on g.M.SortedMaps.maps g.M.SortedMaps.spare g.M.SortedMaps.limit one s i b1 two (tables_rest one two c.reserve_entries.ensures.rest) (c.reserve_entries.ensures.holds s.store s.log (its_texts s) b1.holds) in
    let three = c.reserve_locks.new.core in
    let b3 = c.reserve_locks.ensures.began s b2 in
    (s.store, s.log, (its_texts s), b3.holds, are)

pub returns-clause-began : goal.returns-clause-began
returns-clause-began g c = λ s h o are.
    let core = c.args.core.now in
    let i = c.args.session in
    let one = c.reserve_step.new.core in
    let b1 = began_on g.M.SortedMaps.maps g.M.SortedMaps.spare g.M.SortedMaps.limit core s i h one (book_rest core one c.reserve_step.ensures.rest) (c.reserve_step.ensures.holds s.store s.log (its_texts s) o h.holds) in
    let two = c.reserve_entries.new.core in
    let b2 = began_on g.M.SortedMaps.maps g.M.SortedMaps.spare g.M.SortedMaps.limit one s i b1 two (tables_rest one two c.reserve_entries.ensures.rest) (c.reserve_entries.ensures.holds s.store s.log (its_texts s) b1.holds) in
    let three = c.reserve_locks.new.core in
    let b3 = c.reserve_locks.ensures.began s b2 in
    let four = c.reserve_pays.new.core in
    let b4 = began_on g.M.SortedMaps.maps g.M.SortedMaps.spare g.M.SortedMaps.limit three s i b3 four (views_rest three four c.reserve_pays.ensures.rest) (c.reserve_pays.ensures.holds s.store s.log (its_texts s) are b3.holds) in
    b4

pub returns-clause-room : goal.returns-clause-room
returns-clause-room g c =
    let s = c.requires.began.0 in
    let h = c.requires.began.1 in
    let o = c.requires.began.2 in
    let are = c.requires.began.3 in
    let core = c.args.core.now in
    let i = c.args.session in
    let one = c.reserve_step.new.core in
    let b1 = began_on g.M.SortedMaps.maps g.M.SortedMaps.spare g.M.SortedMaps.limit core s i h one (book_rest core one c.reserve_step.ensures.rest) (c.reserve_step.ensures.holds s.store s.log (its_texts s) o h.holds) in
    let two = c.reserve_entries.new.core in
    let b2 = began_on g.M.SortedMaps.maps g.M.SortedMaps.spare g.M.SortedMaps.limit one s i b1 two (tables_rest one two c.reserve_entries.ensures.rest) (c.reserve_entries.ensures.holds s.store s.log (its_texts s) b1.holds) in
    let three = c.reserve_locks.new.core in
    let b3 = c.reserve_locks.ensures.began s b2 in
    let four = c.reserve_pays.new.core in
    let b4 = began_on g.M.SortedMaps.maps g.M.SortedMaps.spare g.M.SortedMaps.limit three s i b3 four (views_rest three four c.reserve_pays.ensures.rest) (c.reserve_pays.ensures.holds s.store s.log (its_texts s) are b3.holds) in
    let book = ap (λ (x : CoreState g.row.M.Denot). x.book) c.reserve_pays.ensures.rest in
    let owed = c.args.owed.now in
    on_ok_two c.reserve_pays.result
    (λ seats room. all_room g.M.SortedMaps.spare one two three four i c.args.table c.args.wants owed c.reserve_entries.ensures.rest c.reserve_locks.ensures.rest c.reserve_pays.ensures.rest
    c.in_ok-reserve_step.ensures.room c.in_ok-reserve_entries.ensures.room c.in_ok-reserve_locks.ensures.room
    (has_buffers g.M.SortedMaps.maps g.M.SortedMaps.spare g.M.SortedMaps.limit four s i b4 o owed c.open_of.result.now c.len.result (ap (λ b. open_at b.opens i) book ∙ c.open_of.ensures) (c.len.ensures ∙ c.open_of.result.now.kept.ok.0) room)
    seats) c.reserve_pays.ensures.seats c.reserve_pays.ensures.room
