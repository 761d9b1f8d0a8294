use Rattle.std.proofs.Common.{◌≡◌}
use Rattle.txn_sessions.specs.Sessions.{IsIdle}
use Rattle.session_table.proofs.Asking.{Known}
use Rattle.session_table.proofs.going.go_on.Given as goal

-- what was done is the front of a run
abbrev pub invariant-loop : goal.invariant-loop
invariant-loop g l = record {
  number : l.session.number ≡ l.fn.session.number;
  busy : IsIdle l.session → ⊥;
  known : Known (g.S.Stepper.stands l.fn.engine) l.fn.session (g.S.Stepper.stands l.engine) l.moved l.counter l.session;
}
