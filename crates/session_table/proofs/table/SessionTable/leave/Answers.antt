use Rattle.std.specs.Prelude.{◌≡◌, length}
use Rattle.std.proofs.Common.{sym, subst, ◌∙◌}
use Rattle.session_table.specs.Slots.{AreSlots}
use Rattle.session_table.proofs.Seating.{engine_needs, table_left}
use Rattle.session_table.proofs.table.SessionTable.leave.Goals as goal

pub leave_all-requires-clause-slots : goal.leave_all-requires-clause-slots
leave_all-requires-clause-slots g c = subst AreSlots (sym c.deref.ensures.value) c.self.invariant.are

pub leave_all-requires-clause-engine : goal.leave_all-requires-clause-engine
leave_all-requires-clause-engine g c = engine_needs c.args.self.now (subst (λ l. length l ≡ 64) c.self.view_is c.self.invariant.count) c.requires

pub returns : goal.returns
returns g c = table_left (g.S.Stepper.stands c.args.engine.now) c.args.self.now c.deref.result.now (c.deref.ensures.value ∙ c.self.view_is) (subst (λ l. length l ≡ 64) c.self.view_is c.self.invariant.count) c.leave_all.ensures
