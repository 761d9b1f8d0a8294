use Rattle.std.proofs.lemmas.Result.{IfOk-weaker}
use Rattle.iv_types.specs.Trees.{statement_tree}
use Rattle.core_schema.proofs.Made.{none_open, busy_told}
use Rattle.iv_types.specs.declared.refusal.EngineRefusal.TheVariants.{SchemaBusy}
use Rattle.txn_machine.specs.Answers as answer
use Rattle.core_schema.proofs.Recorded.{left_alone}
use Rattle.core_schema.proofs.defining.make.Goals as goal

pub returns-in-Some-clause-did : goal.returns-in-Some-clause-did
returns-in-Some-clause-did g c = λ s m.
    left_alone g.M.SortedMaps.maps g.M.SortedMaps.spare g.M.SortedMaps.limit g.J.Journal.has g.J.Journal.limit g.J.Journal.medium g.J.Journal.leaves c.args.core.now c.args.journal.now s c.args.session (statement_tree c.args.statement.now) (answer.Refused (SchemaBusy c.in-Some.least)) tt
    (busy_told g.M.SortedMaps.maps g.M.SortedMaps.spare g.M.SortedMaps.limit c.args.core.now s c.args.session m.began (statement_tree c.args.statement.now) c.in-Some.least _ m.makes c.in-Some.ensures)

pub make_alone-requires-after_bounds : goal.make_alone-requires-after_bounds
make_alone-requires-after_bounds g c κs within =
    let s = c.requires.0 in
    let m = c.requires.2 in
    (s, c.requires.1, record { began = m.began; may = m.may; none = none_open g.M.SortedMaps.maps g.M.SortedMaps.spare g.M.SortedMaps.limit c.args.core.now s c.args.session m.began c.in-None.ensures; makes = m.makes }, c.requires.3)

pub returns-in-None-clause-did : goal.returns-in-None-clause-did
returns-in-None-clause-did g c = IfOk-weaker c.make_alone.result _ _
    (λ said did s m. did s (record { began = m.began; may = m.may; none = none_open g.M.SortedMaps.maps g.M.SortedMaps.spare g.M.SortedMaps.limit c.args.core.now s c.args.session m.began c.in-None.ensures; makes = m.makes })) c.make_alone.ensures.did
