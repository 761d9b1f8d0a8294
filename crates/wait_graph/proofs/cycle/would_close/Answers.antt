use Rattle.std.proofs.Common.{ℕ, ◌-◌, List, set, sym, subst, Option, IfNone, arith}
use Rattle.iv_types.specs.declared.session.Sessions.{Sessions}
use Rattle.iv_types.specs.declared.session.Cycle.{Cycle}
use Rattle.iv_meaning.specs.Waits.{recorded, would_wait_for, IsCycle, sessions_of}
use Rattle.wait_graph.proofs.Cycles.{Agree, no_cycle, cycle_along, first_cycle_along, replaced}
use Rattle.wait_graph.proofs.Levels.{no_shorter}
use Rattle.wait_graph.proofs.cycle.would_close.Goals as goal

pub returns-in_err-length-clause-none : goal.returns-in_err-length-clause-none
returns-in_err-length-clause-none c =
    let graph : List Sessions = set c.args.waits.now (c.args.session - 1) c.args.holders in
    let same : Agree (recorded graph) (would_wait_for c.args.waits.now c.args.session c.args.holders) = replaced c.args.waits.now c.args.session c.args.holders c.requires.from_1 (omega arith) in
    subst (λ (r : Option Cycle). IfNone r ((cycle : List ℕ) → IsCycle (would_wait_for c.args.waits.now c.args.session c.args.holders) c.args.session cycle → ⊥)) (sym c.from_residual.ensures)
    (λ cycle is. no_cycle (recorded graph) c.args.session (record { from = c.requires.from_1; to = c.requires.to_64 })
    (λ steps some few walk. c.in_err-length.ensures.none steps some few ((c.levels_of-levels.ensures steps few c.args.session c.requires.from_1).1 walk))
    cycle (cycle_along (would_wait_for c.args.waits.now c.args.session c.args.holders) (recorded graph) (λ s from. sym (same s from)) c.args.session cycle c.requires.from_1 is))

pub first_cycle-requires-clause-shortest : goal.first_cycle-requires-clause-shortest
first_cycle-requires-clause-shortest c =
    no_shorter (recorded (set c.args.waits.now (c.args.session - 1) c.args.holders)) c.args.session c.in_ok-length.length c.levels_of-levels.result
    c.requires.from_1 (omega (arith, c.in_ok-length.ensures.in_range)) c.levels_of-levels.ensures c.in_ok-length.ensures.before

pub returns-clause-some : goal.returns-clause-some
returns-clause-some c =
    first_cycle_along (recorded (set c.args.waits.now (c.args.session - 1) c.args.holders)) (would_wait_for c.args.waits.now c.args.session c.args.holders)
    (replaced c.args.waits.now c.args.session c.args.holders c.requires.from_1 (omega arith)) c.args.session (sessions_of c.first_cycle.result) c.requires.from_1 c.first_cycle.ensures.first
