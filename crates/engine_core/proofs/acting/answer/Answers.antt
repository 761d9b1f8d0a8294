use Rattle.txn_book.specs.Acts.{act_of}
use Rattle.core_recording.specs.Giving.{MayGiveUp}
use Rattle.txn_machine.specs.Answers.{Refused}
use Rattle.iv_types.specs.declared.refusal.EngineRefusal.TheVariants.{NoMemory}
use Rattle.std.proofs.Common.{refl, sym, ap, subst}
use Rattle.engine_core.proofs.Giving.{fine_counts, lacks_did}
use Rattle.engine_core.proofs.acting.answer.Goals as goal

pub returns-in-Err-clause-gives : goal.returns-in-Err-clause-gives
returns-in-Err-clause-gives g c =
    subst (λ j. MayGiveUp g.M.SortedMaps.maps g.M.SortedMaps.spare g.M.SortedMaps.limit g.J.Journal.has g.J.Journal.limit g.J.Journal.medium g.J.Journal.leaves c.args.core.now c.args.journal.now c.args.session (act_of c.args.asked.now) (Refused NoMemory) c.act.new.core j) (sym c.in-Err.ensures.ungiven)
    (lacks_did g.M.SortedMaps.maps g.M.SortedMaps.spare g.M.SortedMaps.limit g.J.Journal.has g.J.Journal.limit g.J.Journal.medium g.J.Journal.leaves c.args.core.now c.args.journal.now c.args.session (act_of c.args.asked.now) c.act.new.core c.in-Err.ensures.err.0 c.in-Err.ensures.err.1)

pub returns-in-Err-clause-faults : goal.returns-in-Err-clause-faults
returns-in-Err-clause-faults g c = fine_counts _ _ _ refl (ap (λ j. g.J.Journal.faults (g.J.Journal.medium j)) c.in-Err.ensures.ungiven)
