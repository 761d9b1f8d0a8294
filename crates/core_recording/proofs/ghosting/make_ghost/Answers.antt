use Rattle.std.proofs.Common.{refl}
use Rattle.std.proofs.lemmas.Result.{err_from_is_err_and}
use Rattle.txn_machine.specs.Acts as act
use Rattle.txn_book.specs.Acts.{answer_of}
use Rattle.core_effects.proofs.Results.{on_err_of}
use Rattle.core_pays.proofs.Firsts.{owes_first}
use Rattle.core_recording.proofs.Results.{if_ok_at}
use Rattle.core_recording.proofs.Ones.{still_ungiven, gave_all}
use Rattle.core_recording.proofs.ghosting.make_ghost.Goals as goal
use Rattle.core_state.specs.Stands.{its_texts}

pub has_row-was_there-requires-after_bounds : goal.has_row-was_there-requires-after_bounds
has_row-was_there-requires-after_bounds g c κs within =
    let q = c.requires in
    (q.state.store, q.state.log, (its_texts q.state), q.began.holds, owes_first g.M.SortedMaps.maps g.M.SortedMaps.spare g.M.SortedMaps.limit c.args.core.now q.state c.args.session q.began q.may.0)

pub make_ghost-requires-after_bounds : goal.make_ghost-requires-after_bounds
make_ghost-requires-after_bounds g c κs within = (c.requires.state, c.requires.began, c.requires.may)

pub give_made-requires-after_bounds : goal.give_made-requires-after_bounds
give_made-requires-after_bounds g c κs within =
    let q = c.requires in (
      still_ungiven g.M.SortedMaps.maps g.M.SortedMaps.spare g.M.SortedMaps.limit g.J.Journal.has g.J.Journal.limit c.args.core.now c.args.journal.now q.state c.args.session act.Ghost (answer_of c.in_ok-said.said) c.make_ghost.new.core
          q.began (c.in_ok-said.ensures.told q.state q.began q.may) q.may q.records q.behind,
      q.began.holds.next,
      c.has_row-was_there.ensures q.state.store q.state.log (its_texts q.state) (owes_first g.M.SortedMaps.maps g.M.SortedMaps.spare g.M.SortedMaps.limit c.args.core.now q.state c.args.session q.began q.may.0) q.began.holds,
    )

pub returns-clause-gives : goal.returns-clause-gives
returns-clause-gives g c = λ s began may.
    let told = c.in_ok-said.ensures.told s began may in
    let was = c.has_row-was_there.ensures s.store s.log (its_texts s) (owes_first g.M.SortedMaps.maps g.M.SortedMaps.spare g.M.SortedMaps.limit c.args.core.now s c.args.session began may.0) began.holds in
    gave_all g.M.SortedMaps.maps g.M.SortedMaps.spare g.M.SortedMaps.limit g.J.Journal.has g.J.Journal.limit g.J.Journal.medium g.J.Journal.leaves c.args.core.now c.args.journal.now s c.args.session act.Ghost (answer_of c.in_ok-said.said) c.make_ghost.new.core
    began told c.give_made.new.journal (λ rs has. c.give_made.ensures.gave s may began.holds.next was told rs has) c.give_made.ensures.limit c.give_made.ensures.medium tt

pub returns-clause-err : goal.returns-clause-err
returns-clause-err g c = tt

pub returns-clause-ungiven : goal.returns-clause-ungiven
returns-clause-ungiven g c = tt

pub returns-clause-medium : goal.returns-clause-medium
returns-clause-medium g c = c.give_made.ensures.medium

pub returns-in_err-said-clause-gives : goal.returns-in_err-said-clause-gives
returns-in_err-said-clause-gives g c = let p = err_from_is_err_and c.from_residual.result c.from_residual.ensures.1 in if_ok_at _ c.from_residual.result _ p.1

pub returns-in_err-said-clause-err : goal.returns-in_err-said-clause-err
returns-in_err-said-clause-err g c = on_err_of c.from_residual.result c.in_err-said.ensures.err

pub returns-in_err-said-clause-ungiven : goal.returns-in_err-said-clause-ungiven
returns-in_err-said-clause-ungiven g c = on_err_of c.from_residual.result refl

pub returns-in_err-said-clause-medium : goal.returns-in_err-said-clause-medium
returns-in_err-said-clause-medium g c = refl
