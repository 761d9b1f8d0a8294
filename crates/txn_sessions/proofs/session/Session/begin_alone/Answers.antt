use Rattle.std.proofs.Common.{arith}
use Rattle.std.proofs.Common.{true}
use Rattle.iv_types.specs.declared.statement.Mode.TheVariants.{Serial}
use Rattle.iv_types.specs.Trees.{statement_tree}
use Rattle.iv_meaning.specs.Objects.{schema_of}
use Rattle.statement_law.specs.Statements.{statement_work}
use Rattle.txn_sessions.specs.Sessions.{stands}
use Rattle.txn_sessions.proofs.Works.{first_taken, refused_first}
use Rattle.txn_sessions.proofs.session.Session.begin_alone.Goals as goal

pub returns-in-Ok-clause-comes : goal.returns-in-Ok-clause-comes
returns-in-Ok-clause-comes c = λ number.
    let w = statement_work Serial (schema_of c.args.self.now.standing.catalog) (statement_tree c.args.statement) in
    let first = c.in-Ok.ensures.begun in
    (true, first_taken c.args.self.now.standing.mode (stands c.args.self.now) c.take.new.self Serial w c.in-Ok.field-0.turn c.in-Ok.field-0.task 0 first.moves first.memory c.take.ensures.went)

pub returns-in-Err-clause-comes : goal.returns-in-Err-clause-comes
returns-in-Err-clause-comes c = λ number.
    let w = statement_work Serial (schema_of c.args.self.now.standing.catalog) (statement_tree c.args.statement) in
    refused_first c.args.self.now.standing.mode (stands c.args.self.now) c.back.new.self Serial w c.in-Err.why c.in-Err.ensures.begun c.back.ensures.comes

pub returns-in-Ok-clause-within : goal.returns-in-Ok-clause-within
returns-in-Ok-clause-within c = λ n h. let k = h.kept in c.take.ensures.within n h (omega (arith, k))
