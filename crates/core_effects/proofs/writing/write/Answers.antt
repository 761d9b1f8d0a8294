use Rattle.std.proofs.Common.{◌+◌, sym, ap, subst, ◌∙◌}
use Rattle.iv_types.specs.declared.lock.Kept.{Kept}
use Rattle.txn_machine.specs.Ghosts.{the_views}
use Rattle.txn_machine.specs.Log.{logs}
use Rattle.txn_machine.specs.RowChanges.{row_change}
use Rattle.txn_machine.specs.Store.{does, Writes}
use Rattle.txn_book.specs.Books.{Changes}
use Rattle.txn_book.specs.Txns.{txn_of, with_put}
use Rattle.data_store.specs.Held.{IsHeld}
use Rattle.data_store.specs.declared.store.DataStore.{DataStore}
use Rattle.data_changes.specs.Effects as effect
use Rattle.data_past.specs.Moves.{one_more, ChangesAt, CanCount}
use Rattle.core_state.specs.Stands.{Holds, told}
use Rattle.core_state.proofs.Texts.{told_stored}
use Rattle.core_effects.proofs.Written.{mine, counted_once, written_holds}
use Rattle.core_effects.proofs.writing.write.Goals as goal

pub note_change-requires-after_bounds : goal.note_change-requires-after_bounds
note_change-requires-after_bounds g c κs within =
    let w = c.args.writing in
    let can = c.requires.can in
    subst (λ (st : DataStore g.row.M.Denot). CanCount st.pending.entries (w.noting.index, w.noting.key)) (sym c.put-kept.ensures.rest)
    (counted_once g.M.SortedMaps.maps g.M.SortedMaps.spare g.M.SortedMaps.limit c.args.core.now can.0 can.1 can.2 c.args.session can.3 w can.4)

pub add-requires : goal.add-requires
add-requires g c = c.requires.can.4.ahead.room

pub returns-clause-holds : goal.returns-clause-holds
returns-clause-holds g c = λ s l texts a h can.
    let core = c.args.core.now in
    let i = c.args.session in
    let w = c.args.writing in
    let own = mine g.M.SortedMaps.maps g.M.SortedMaps.spare g.M.SortedMaps.limit core s l texts i h w can in
    let new = c.put-kept.new.store in
    let rest = c.put-kept.ensures.rest in
    let noted = c.note_change.new.store in
    let ch = row_change w.ready.kept.change in
    subst (λ st. Holds g.M.SortedMaps.maps g.M.SortedMaps.spare g.M.SortedMaps.limit (record core { store = st; book = c.keep.new.self; wants = c.set.new.self; ahead = c.add.new.self; next = core.next + 1 }) (does the_views s i (Writes ch.key ch.after)) (logs s i a (Writes ch.key ch.after) l) texts) (sym (c.note_change.ensures.rest ∙ ap (λ (st : DataStore g.row.M.Denot). record st { pending = noted.pending }) rest))
    (written_holds g.M.SortedMaps.maps g.M.SortedMaps.spare g.M.SortedMaps.limit core s l texts i h w can a new.tables noted.pending c.keep.new.self c.set.new.self
    (subst (λ (st : DataStore g.row.M.Denot). ChangesAt (w.noting.index, w.noting.key) (one_more w.noting.committed) st.pending.entries noted.pending.entries) rest c.note_change.ensures.pending) c.add.new.self c.add.ensures c.put-kept.ensures.limit c.book_law.ensures c.put-kept.ensures.spare
    (subst (λ (st : DataStore g.row.M.Denot). IsHeld st.catalog (g.M.SortedMaps.maps new.tables) st.views (effect.with_put (told s texts) i ch w.owed.items)) rest (c.put-kept.ensures.held (told s texts) i w.owed.items (told_stored g.M.SortedMaps.maps g.M.SortedMaps.spare g.M.SortedMaps.limit core s l texts h)))
    (subst (λ (k : Kept). Changes core.book c.keep.new.self i (with_put (txn_of own.txn) k core.next w.owed.items w.txn_bytes w.history_bytes)) c.put-kept.ensures.kept (c.keep.ensures own.txn own.there))
    c.set.ensures.own c.set.ensures.others)
