use Rattle.ordered_index.specs.Tree.{map_of, spare_of, limit_of}
use Rattle.core_journal.specs.NoJournal as no_journal
use Rattle.engine_core.proofs.Steps.{moves_as}
use Rattle.engine_core.proofs.engine.CorePageMapsNoJournalStepper.step.Goals as goal

pub returns-clause-moves : goal.returns-clause-moves
returns-clause-moves c = λ s h asked.
    moves_as map_of spare_of limit_of no_journal.has_any no_journal.limit_of (λ journal. 0) (λ _. tt) no_journal.leaves_any c.args.self.now.journal (record { state = c.do_one.new.core; journal = c.do_one.new.journal }) s c.args.step.now c.do_one.result h.records h.few h.well
    c.do_one.ensures.faults (c.do_one.ensures.recorded s h.records h.stands h.behind asked)

pub returns-clause-cause : goal.returns-clause-cause
returns-clause-cause c = c.do_one.ensures.faults
