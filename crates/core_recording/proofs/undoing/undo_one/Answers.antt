use Rattle.txn_machine.specs.Acts as act
use Rattle.txn_machine.specs.Records.{Record, Undo}
use Rattle.txn_machine.specs.Store.{schema_of}
use Rattle.log_records.specs.Lent.{stands_for}
use Rattle.txn_book.specs.Acts.{answer_of}
use Rattle.core_recording.proofs.Ones.{undo_told, can_one, gave_one}
use Rattle.core_recording.proofs.undoing.undo_one.Goals as goal

pub undo_of_latest-undone-requires-after_bounds : goal.undo_of_latest-undone-requires-after_bounds
undo_of_latest-undone-requires-after_bounds g c κs within = (c.requires.state, c.requires.began, c.requires.may)

pub undo_one-said-requires-after_bounds : goal.undo_one-said-requires-after_bounds
undo_one-said-requires-after_bounds g c κs within = (c.requires.state, c.requires.began, c.requires.may)

pub give-requires : goal.give-requires
give-requires g c =
    let q = c.requires in
    let s = q.state in
    let i = c.args.session in
    let u = c.undo_of_latest-undone.ensures s q.began q.may in
    let told = c.undo_one-said.ensures s q.began q.may in
    let r : Record = Undo (s.log.logged i).transaction u.0 in (
      schema_of s.store,
      r,
      q.records,
      u.3 (schema_of s.store),
      q.behind.has_them,
      can_one g.M.SortedMaps.maps g.M.SortedMaps.spare g.M.SortedMaps.limit g.J.Journal.has g.J.Journal.limit c.args.core.now c.args.journal.now s i act.UndoOne (answer_of c.undo_one-said.result) c.undo_one-said.new.core
          q.began told r q.records (undo_told s i q.records (answer_of c.undo_one-said.result) told.effects u.0 u.1 told.says u.2) tt q.behind,
    )

pub returns-clause-gives : goal.returns-clause-gives
returns-clause-gives g c = λ s began may.
    let i = c.args.session in
    let u = c.undo_of_latest-undone.ensures s began may in
    let told = c.undo_one-said.ensures s began may in
    gave_one g.M.SortedMaps.maps g.M.SortedMaps.spare g.M.SortedMaps.limit g.J.Journal.has g.J.Journal.limit g.J.Journal.medium g.J.Journal.leaves c.args.core.now c.args.journal.now s i act.UndoOne (answer_of c.undo_one-said.result) c.undo_one-said.new.core
    began told (Undo (s.log.logged i).transaction u.0) (stands_for c.undo_of_latest-undone.result) c.give.new.journal
    (λ rs. undo_told s i rs (answer_of c.undo_one-said.result) told.effects u.0 u.1 told.says u.2) (u.3 (schema_of s.store)) c.give.ensures.has c.give.ensures.limit c.give.ensures.medium tt

pub returns-clause-medium : goal.returns-clause-medium
returns-clause-medium g c = c.give.ensures.medium
