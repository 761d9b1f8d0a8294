use Rattle.std.proofs.Common.{cond, Some, None, sym, ◌∙◌}
use Rattle.txn_machine.specs.Acts as act
use Rattle.txn_machine.specs.Records.{Abort}
use Rattle.txn_machine.specs.Store.{schema_of}
use Rattle.txn_book.specs.Acts.{answer_of}
use Rattle.core_state.proofs.Sessions.{is_there, wrote_is}
use Rattle.core_journal.specs.Records.{with_perhaps}
use Rattle.core_recording.proofs.Kept.{id_is}
use Rattle.core_recording.proofs.Ones.{end_told, can_one, gave_perhaps}
use Rattle.core_recording.proofs.ending.end.Goals as goal

pub open_of-txn-requires-after_bounds : goal.open_of-txn-requires-after_bounds
open_of-txn-requires-after_bounds g c κs within = is_there g.M.SortedMaps.maps g.M.SortedMaps.spare g.M.SortedMaps.limit c.args.core.now c.requires.state c.args.session c.requires.began c.requires.may.0

pub end-said-requires-after_bounds : goal.end-said-requires-after_bounds
end-said-requires-after_bounds g c κs within = (c.requires.state, c.requires.began, c.requires.may)

pub give_abort-requires : goal.give_abort-requires
give_abort-requires g c = λ wrote.
    let q = c.requires in
    let s = q.state in
    let i = c.args.session in
    let told = c.end-said.ensures s q.began q.may in
    let txn = c.open_of-txn.result.now in
    let id = id_is g.M.SortedMaps.maps g.M.SortedMaps.spare g.M.SortedMaps.limit c.args.core.now s i q.began q.may.0 txn c.open_of-txn.ensures in
    let is = sym (wrote_is g.M.SortedMaps.maps g.M.SortedMaps.spare g.M.SortedMaps.limit c.args.core.now s i q.began q.may.0 txn c.open_of-txn.ensures) ∙ wrote in (
      schema_of s.store,
      q.records,
      q.behind.has_them,
      can_one g.M.SortedMaps.maps g.M.SortedMaps.spare g.M.SortedMaps.limit g.J.Journal.has g.J.Journal.limit c.args.core.now c.args.journal.now s i act.End (answer_of c.end-said.result) c.end-said.new.core
          q.began told (Abort txn.id) q.records
          (end_told s i q.records (answer_of c.end-said.result) told.effects told.says ∙ (λ x. with_perhaps (schema_of s.store) s.log.next (cond (is x) (Some (Abort (sym id x))) None) q.records)) tt q.behind,
    )

pub returns-clause-gives : goal.returns-clause-gives
returns-clause-gives g c = λ s began may.
    let i = c.args.session in
    let told = c.end-said.ensures s began may in
    let txn = c.open_of-txn.result.now in
    let id = id_is g.M.SortedMaps.maps g.M.SortedMaps.spare g.M.SortedMaps.limit c.args.core.now s i began may.0 txn c.open_of-txn.ensures in
    let is = wrote_is g.M.SortedMaps.maps g.M.SortedMaps.spare g.M.SortedMaps.limit c.args.core.now s i began may.0 txn c.open_of-txn.ensures in
    gave_perhaps g.M.SortedMaps.maps g.M.SortedMaps.spare g.M.SortedMaps.limit g.J.Journal.has g.J.Journal.limit g.J.Journal.medium g.J.Journal.leaves c.args.core.now c.args.journal.now s i act.End (answer_of c.end-said.result) c.end-said.new.core
    began told (cond txn.has_written (Some (Abort txn.id)) None) c.give_abort.new.journal
    (λ rs. end_told s i rs (answer_of c.end-said.result) told.effects told.says ∙ (λ x. with_perhaps (schema_of s.store) s.log.next (cond (sym is x) (Some (Abort (sym id x))) None) rs)) c.give_abort.ensures.has c.give_abort.ensures.limit c.give_abort.ensures.medium tt

pub returns-clause-medium : goal.returns-clause-medium
returns-clause-medium g c = c.give_abort.ensures.medium
