use Rattle.txn_machine.specs.Acts as act
use Rattle.txn_book.specs.Acts.{answer_of}
use Rattle.core_recording.proofs.Ones.{still_ungiven, gave_all}
use Rattle.core_recording.proofs.keeping.pay.Goals as goal

pub pay-said-requires-after_bounds : goal.pay-said-requires-after_bounds
pay-said-requires-after_bounds g c κs within = (c.requires.state, c.requires.began, c.requires.may)

pub give_kept-requires-after_bounds : goal.give_kept-requires-after_bounds
give_kept-requires-after_bounds g c κs within =
    let q = c.requires in (
      act.Pay,
      tt,
      still_ungiven g.M.SortedMaps.maps g.M.SortedMaps.spare g.M.SortedMaps.limit g.J.Journal.has g.J.Journal.limit c.args.core.now c.args.journal.now q.state c.args.session act.Pay (answer_of c.pay-said.result) c.pay-said.new.core
          q.began (c.pay-said.ensures q.state q.began q.may) q.may q.records q.behind,
    )

pub returns-clause-gives : goal.returns-clause-gives
returns-clause-gives g c = λ s began may.
    let told = c.pay-said.ensures s began may in
    gave_all g.M.SortedMaps.maps g.M.SortedMaps.spare g.M.SortedMaps.limit g.J.Journal.has g.J.Journal.limit g.J.Journal.medium g.J.Journal.leaves c.args.core.now c.args.journal.now s c.args.session act.Pay (answer_of c.pay-said.result) c.pay-said.new.core
    began told c.give_kept.new.journal (λ rs has. c.give_kept.ensures.gave s act.Pay tt may told rs has) c.give_kept.ensures.limit c.give_kept.ensures.medium tt

pub returns-clause-medium : goal.returns-clause-medium
returns-clause-medium g c = c.give_kept.ensures.medium
