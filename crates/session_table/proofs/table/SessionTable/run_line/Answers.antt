use Rattle.std.proofs.Common.{sym, subst, ap, ◌∙◌, length}
use Rattle.std.proofs.lemmas.Result.{on_ok_weaker, on_err_weaker}
use Rattle.session_table.specs.Slots.{AreSlots, IsTable}
use Rattle.session_table.proofs.Seating.{items_as, line_as}
use Rattle.session_table.proofs.Losing.{table_lost}
use Rattle.session_table.proofs.table.SessionTable.run_line.Goals as goal

pub run_on-requires-clause-slots : goal.run_on-requires-clause-slots
run_on-requires-clause-slots g c = subst AreSlots (sym c.deref_mut.ensures.value) c.self.invariant.are

pub invariant_of-self : goal.invariant_of-self
invariant_of-self g c = subst IsTable (sym (items_as c.self.inside.slots c.deref_mut.result.now c.run_on.new.slots c.deref_mut.ensures.value c.run_on.auto.slots)) (record { count = c.run_on.auto.slots ∙ (ap length c.deref_mut.ensures.value ∙ c.self.invariant.count); are = c.run_on.ensures.slots })

pub returns-clause-ran : goal.returns-clause-ran
returns-clause-ran g c = on_ok_weaker c.run_on.result (λ ran. line_as (g.S.Stepper.stands c.args.engine.now) c.args.request c.deref_mut.result.now c.args.self.now c.run_on.new.slots _ c.args.text.now.items c.run_on.new.text.items (c.deref_mut.ensures.value ∙ c.self.view_is)
    (items_as c.self.inside.slots c.deref_mut.result.now c.run_on.new.slots c.deref_mut.ensures.value c.run_on.auto.slots) ran) c.run_on.ensures.ran

pub returns-clause-lost : goal.returns-clause-lost
returns-clause-lost g c = on_err_weaker c.run_on.result (table_lost (g.S.Stepper.stands c.args.engine.now) c.deref_mut.result.now c.args.self.now (c.deref_mut.ensures.value ∙ c.self.view_is)) c.run_on.ensures.lost
