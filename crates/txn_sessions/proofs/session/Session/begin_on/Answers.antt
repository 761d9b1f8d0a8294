use Rattle.std.proofs.Common.{arith}
use Rattle.std.proofs.Common.{◌≡◌, true}
use mathlib.Core.Path.{subst}
use Rattle.iv_types.specs.declared.statement.Mode.TheVariants.{Serial}
use Rattle.iv_types.specs.Trees.{statement_tree}
use Rattle.iv_meaning.specs.Objects.{schema_of}
use Rattle.statement_law.specs.Statements.{statement_work}
use Rattle.script_law.specs.Works.{Work}
use Rattle.task_parts.specs.declared.turn.Turn.TheVariants.{NoMemory}
use Rattle.statement_tasks.specs.Tasks.{mode_of, Moves}
use Rattle.txn_sessions.specs.declared.standing.Standing.{Standing}
use Rattle.txn_sessions.specs.Standings.{standing_of}
use Rattle.txn_sessions.specs.Sessions.{stands, Comes}
use Rattle.txn_sessions.specs.Left.{with_copy, runs_as}
use Rattle.txn_sessions.proofs.Works.{first_taken}
use Rattle.txn_sessions.proofs.session.Session.begin_on.Goals as goal

pub returns-in-Ok-clause-comes : goal.returns-in-Ok-clause-comes
returns-in-Ok-clause-comes c = λ number.
    let w = statement_work Serial (schema_of c.args.catalog) (statement_tree c.args.statement) in
    let first_of = c.in-Ok.field-0 in
    let first = c.in-Ok.ensures.begun in
    let went = subst (λ (x : Standing). (v : Work) → Moves (mode_of first_of.task) v first_of.turn first_of.task → (first_of.turn ≡ NoMemory → ⊥) → Comes c.take.new.self (runs_as x.mode (standing_of x) (mode_of first_of.task) v 0))
    c.learn.ensures.standing c.take.ensures.went in
    (true, first_taken c.args.self.now.standing.mode (with_copy (stands c.args.self.now) (schema_of c.args.catalog)) c.take.new.self Serial w c.in-Ok.field-0.turn c.in-Ok.field-0.task 0 first.moves first.memory went)

pub returns-in-Ok-clause-within : goal.returns-in-Ok-clause-within
returns-in-Ok-clause-within c = λ n h. let s = c.learn.ensures.within n h in let k = s.kept in c.take.ensures.within n s (omega (arith, k))

pub returns-in-Err-clause-within : goal.returns-in-Err-clause-within
returns-in-Err-clause-within c = λ n h. c.back-in-Err.ensures.within n (c.learn-in-Err.ensures.within n h)
