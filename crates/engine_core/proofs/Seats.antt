-- What sessions that there are not were told: nothing.
use Rattle.std.specs.Prelude.{◌≡◌, ◌≢◌, ℕ, ◌≤◌, ◌<◌, List, [], ◌∷◌, None}
use mathlib.Core.Path.{ap, ◌∙◌}
use Rattle.std.proofs.Common.{arith}
use Rattle.txn_machine.specs.State.{State, Seat}
use Rattle.txn_machine.specs.Steps.{Did, Run, Step}
use Rattle.txn_machine.specs.Laws.{IsReached}
use Rattle.txn_machine.proofs.Parting.{part_law}
use Rattle.engine_core.proofs.Asking.{few_ask}

-- a step counts one of the sessions
one_step : (s : State) (d : Did) (after : State) → Step s d.session d.act d.said after → (other : ℕ) → 64 < other → after.seat_of other ≡ s.seat_of other
one_step s d after step other many =
    let few : d.session ≤ 64 = few_ask d.session d.act step.may.0 in
    let differ : other ≢ d.session = λ e. absurd (omega (arith, many, few, e)) in
    ((part_law s d after step).0 other differ).seat

run_leaves : (s : State) (ds : List Did) (after : State) → Run s ds after → (other : ℕ) → 64 < other → after.seat_of other ≡ s.seat_of other
run_leaves s [] after run other many = ap (λ (x : State). x.seat_of other) run
run_leaves s (d ∷ ds) after run other many = run_leaves run.0 ds after run.2 other many ∙ one_step s d run.0 run.1 other many

pub none_told : (s : State) → IsReached s → (other : ℕ) → 64 < other → (s.seat_of other).refused ≡ None
none_told s r other many = ap (λ (seat : Seat). seat.refused) (run_leaves _ r.steps s r.run other many)
