use Rattle.std.proofs.Common.{◌+◌, length, refl, sym, ap, ◌∙◌, eq-eqb, ne_eqb}
use Rattle.std.specs.Option.{option_map}
use Rattle.txn_machine.specs.State.{Stop, most_steps}
use Rattle.core_state.specs.Seats.{cleaned}
use Rattle.core_state.proofs.Closed.{told_closed, stop_if}
use Rattle.core_state.proofs.state.CoreState.close_step.Goals as goal

pub returns-then-number-eq-LAST_STEP : goal.returns-then-number-eq-LAST_STEP
returns-then-number-eq-LAST_STEP g c = λ s a may t.
    told_closed g.M.SortedMaps.maps g.M.SortedMaps.spare g.M.SortedMaps.limit c.args.self.now s c.args.session a c.args.said.now may c.requires.session t (c.args.self.now.steps + 1) c.count.new.self c.cleaner_after-self.result _ refl
    c.count.ensures.own c.count.ensures.others
    (c.cleaner_after-self.ensures ∙ ap (λ n. cleaned c.args.self.now.cleaner (c.args.self.now.steps + 1) n c.args.said.now) (ap length c.history.ensures))
    (ap (λ b. option_map (λ (y : Stop). y.step) (stop_if b (record { step = c.args.self.now.steps + 1; act = a }))) (sym (eq-eqb (c.args.self.now.steps + 1) most_steps c.if-number-eq-LAST_STEP.true)))
    (t.counts.running t.runs)

pub returns-else-number-eq-LAST_STEP : goal.returns-else-number-eq-LAST_STEP
returns-else-number-eq-LAST_STEP g c = λ s a may t.
    told_closed g.M.SortedMaps.maps g.M.SortedMaps.spare g.M.SortedMaps.limit c.args.self.now s c.args.session a c.args.said.now may c.requires.session t (c.args.self.now.steps + 1) c.count.new.self c.cleaner_after-self.result c.args.self.now.stop refl
    c.count.ensures.own c.count.ensures.others
    (c.cleaner_after-self.ensures ∙ ap (λ n. cleaned c.args.self.now.cleaner (c.args.self.now.steps + 1) n c.args.said.now) (ap length c.history.ensures))
    ((t.counts.stop ∙ ap (option_map (λ (y : Stop). y.step)) t.runs)
    ∙ ap (λ b. option_map (λ (y : Stop). y.step) (stop_if b (record { step = c.args.self.now.steps + 1; act = a }))) (sym (ne_eqb (c.args.self.now.steps + 1) most_steps c.if-number-eq-LAST_STEP.false)))
    (t.counts.running t.runs)
