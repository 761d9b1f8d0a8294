use Rattle.std.proofs.Common.{sym, refl, subst, ◌∙◌}
use Rattle.txn_machine.specs.Answers.{Refused}
use Rattle.iv_types.specs.declared.refusal.EngineRefusal.TheVariants.{Stopped}
use Rattle.txn_book.specs.Acts.{act_of}
use Rattle.engine_core.specs.Acting.{Recorded}
use Rattle.engine_core.proofs.Giving.{fine_counts}
use Rattle.engine_core.proofs.Recording.{recorded_stop}
use Rattle.engine_core.proofs.Stopping.{stopped_by, runs_on}
use Rattle.engine_core.proofs.acting.do_one.Goals as goal

pub run-requires-after_bounds : goal.run-requires-after_bounds
run-requires-after_bounds g c κs within =
    let q = c.requires in
    let runs = runs_on q.0.stop (sym c.in-None.is ∙ q.2.counts.stop) in
    (q.0, q.1, q.2, q.3 runs, runs, q.4, q.5)

pub returns-in-Some-clause-recorded : goal.returns-in-Some-clause-recorded
returns-in-Some-clause-recorded g c = λ s rs h behind asked.
    let i = c.args.step.now.session in
    let a = act_of c.args.step.now.act in
    let x = stopped_by s.stop c.in-Some.number (sym c.in-Some.is ∙ h.counts.stop) in
    subst (λ n. Recorded g.M.SortedMaps.maps g.M.SortedMaps.spare g.M.SortedMaps.limit g.J.Journal.has g.J.Journal.limit g.J.Journal.medium g.J.Journal.leaves s i a (Refused (Stopped n)) rs c.args.journal.now c.tell_of_stop.new.self c.args.journal.now) (sym x.number_is)
    (recorded_stop g.M.SortedMaps.maps g.M.SortedMaps.spare g.M.SortedMaps.limit g.J.Journal.has g.J.Journal.limit g.J.Journal.medium g.J.Journal.leaves s i a x.by c.args.core.now c.args.journal.now rs x.is c.tell_of_stop.new.self (c.tell_of_stop.ensures s x.by a asked h x.is))

pub returns-in-Some-clause-faults : goal.returns-in-Some-clause-faults
returns-in-Some-clause-faults g c = fine_counts _ _ _ refl refl

pub returns-in-None-clause-recorded : goal.returns-in-None-clause-recorded
returns-in-None-clause-recorded g c = λ s rs h behind asked. let runs = runs_on s.stop (sym c.in-None.is ∙ h.counts.stop) in c.run.ensures.recorded s rs h (behind runs) runs asked
