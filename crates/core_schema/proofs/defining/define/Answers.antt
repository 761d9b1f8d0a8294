use Rattle.std.proofs.Common.{◌≡◌, true, false, refl}
use Rattle.std.proofs.lemmas.Result.{IfOk-weaker}
use mathlib.Core.Logic.{inl, inr}
use Rattle.iv_types.specs.Trees.{statement_tree}
use Rattle.iv_meaning.specs.Bound.{bound_tree}
use Rattle.iv_meaning.specs.Objects.{object_of, schema_of}
use Rattle.machine_answers.proofs.Defining.{creates}
use Rattle.core_schema.proofs.Made.{makes_here, unbound_told, denied_as}
use Rattle.core_schema.proofs.Roomier.{on_err_of}
use Rattle.txn_machine.specs.Answers as answer
use Rattle.core_schema.proofs.Recorded.{left_alone}
use Rattle.core_schema.proofs.defining.define.Goals as goal

pub definition_of-requires : goal.definition_of-requires
definition_of-requires g c = creates (schema_of c.args.core.now.store.catalog) (statement_tree c.args.statement.now) (bound_tree c.in-Ok.bound) c.requires.may.2 c.in-Ok.ensures

pub make-requires-after_bounds : goal.make-requires-after_bounds
make-requires-after_bounds g c κs within =
    let s = c.requires.state in
    let h = c.requires.began in
    let may = c.requires.may in
    (s, c.requires.records, record { began = h; may = may; makes = makes_here g.M.SortedMaps.maps g.M.SortedMaps.spare g.M.SortedMaps.limit c.args.core.now s c.args.session h (statement_tree c.args.statement.now) (bound_tree c.in-Ok.bound) (object_of c.definition_of.result) c.in-Ok.ensures c.definition_of.ensures }, c.requires.behind)

pub returns-in-Ok-clause-gives : goal.returns-in-Ok-clause-gives
returns-in-Ok-clause-gives g c = IfOk-weaker c.make.result _ _ (λ said did s h may.
    did s (record { began = h; may = may; makes = makes_here g.M.SortedMaps.maps g.M.SortedMaps.spare g.M.SortedMaps.limit c.args.core.now s c.args.session h (statement_tree c.args.statement.now) (bound_tree c.in-Ok.bound) (object_of c.definition_of.result) c.in-Ok.ensures c.definition_of.ensures })) c.make.ensures.did

pub returns-in-Err-clause-gives : goal.returns-in-Err-clause-gives
returns-in-Err-clause-gives g c = denied_as c.in-Err.refusal c.denied.result _ c.denied.ensures (λ other s h may.
    elim c.in-Err.ensures [
      | inl e ↦ absurd (other e)
      | inr e ↦ left_alone g.M.SortedMaps.maps g.M.SortedMaps.spare g.M.SortedMaps.limit g.J.Journal.has g.J.Journal.limit g.J.Journal.medium g.J.Journal.leaves c.args.core.now c.args.journal.now s c.args.session (statement_tree c.args.statement.now) (answer.Denied c.in-Err.refusal) tt (unbound_told g.M.SortedMaps.maps g.M.SortedMaps.spare g.M.SortedMaps.limit c.args.core.now s c.args.session h (statement_tree c.args.statement.now) c.in-Err.refusal e)
    ])

pub returns-in-Err-clause-err : goal.returns-in-Err-clause-err
returns-in-Err-clause-err g c = on_err_of c.denied.result (λ s h. h)

pub returns-in-Err-clause-faults : goal.returns-in-Err-clause-faults
returns-in-Err-clause-faults g c = denied_as c.in-Err.refusal c.denied.result _ c.denied.ensures (λ other fine. refl)

pub returns-in-Err-clause-rose : goal.returns-in-Err-clause-rose
returns-in-Err-clause-rose g c = denied_as c.in-Err.refusal c.denied.result _ c.denied.ensures (λ other bad. absurd (let no : false ≡ true = bad in cc))

pub returns-in-Err-clause-ungiven : goal.returns-in-Err-clause-ungiven
returns-in-Err-clause-ungiven g c = on_err_of c.denied.result refl
