use Rattle.std.proofs.Common.{◌≡◌, true, false, refl, sym}
use mathlib.Core.Logic.{inl, inr}
use Rattle.std.proofs.lemmas.Result.{IfOk-weaker}
use Rattle.iv_types.specs.Trees.{statement_tree}
use Rattle.txn_machine.specs.Store.{committed}
use Rattle.data_store.specs.Contents.{contents_of}
use Rattle.core_schema.proofs.Made.{can_evaluate, rows_stay, refused_told, denied_as}
use Rattle.core_schema.proofs.Roomier.{on_err_of}
use Rattle.txn_machine.specs.Answers as answer
use Rattle.core_schema.proofs.Recorded.{left_alone}
use Rattle.core_schema.proofs.defining.make_alone.Goals as goal

pub first_entries-requires-after_bounds : goal.first_entries-requires-after_bounds
first_entries-requires-after_bounds g c κs within =
    (contents_of c.requires.0.store, can_evaluate g.M.SortedMaps.maps g.M.SortedMaps.spare g.M.SortedMaps.limit c.args.core.now c.requires.0 c.args.session (statement_tree c.args.statement.now) c.args.definition c.requires.2)

pub make_with-requires-after_bounds : goal.make_with-requires-after_bounds
make_with-requires-after_bounds g c κs within =
    let s = c.requires.0 in
    let m = c.requires.2 in
    (s, c.requires.1, record { may = m; first_are = c.in-Ok.ensures.first (contents_of s.store) (can_evaluate g.M.SortedMaps.maps g.M.SortedMaps.spare g.M.SortedMaps.limit c.args.core.now s c.args.session (statement_tree c.args.statement.now) c.args.definition m) }, c.requires.3)

pub returns-in-Ok-clause-did : goal.returns-in-Ok-clause-did
returns-in-Ok-clause-did g c = IfOk-weaker c.make_with.result _ _
    (λ said did s m. did s (record { may = m; first_are = c.in-Ok.ensures.first (contents_of s.store) (can_evaluate g.M.SortedMaps.maps g.M.SortedMaps.spare g.M.SortedMaps.limit c.args.core.now s c.args.session (statement_tree c.args.statement.now) c.args.definition m) })) c.make_with.ensures.did

pub returns-in-Err-clause-did : goal.returns-in-Err-clause-did
returns-in-Err-clause-did g c = denied_as c.in-Err.refusal c.denied.result _ c.denied.ensures (λ other s m.
    elim (c.in-Err.ensures.refused (contents_of s.store) (committed s.store) (can_evaluate g.M.SortedMaps.maps g.M.SortedMaps.spare g.M.SortedMaps.limit c.args.core.now s c.args.session (statement_tree c.args.statement.now) c.args.definition m) refl
    (sym (rows_stay g.M.SortedMaps.maps g.M.SortedMaps.spare g.M.SortedMaps.limit c.args.core.now s c.args.session (statement_tree c.args.statement.now) c.args.definition m))) [
      | inl e ↦ absurd (other e)
      | inr e ↦ left_alone g.M.SortedMaps.maps g.M.SortedMaps.spare g.M.SortedMaps.limit g.J.Journal.has g.J.Journal.limit g.J.Journal.medium g.J.Journal.leaves c.args.core.now c.args.journal.now s c.args.session (statement_tree c.args.statement.now) (answer.Denied c.in-Err.refusal) tt (refused_told g.M.SortedMaps.maps g.M.SortedMaps.spare g.M.SortedMaps.limit c.args.core.now s c.args.session m.began (statement_tree c.args.statement.now) c.in-Err.refusal _ m.makes m.none e)
    ])

pub returns-in-Err-clause-err : goal.returns-in-Err-clause-err
returns-in-Err-clause-err g c = on_err_of c.denied.result (λ s h. h)

pub returns-in-Err-clause-faults : goal.returns-in-Err-clause-faults
returns-in-Err-clause-faults g c = denied_as c.in-Err.refusal c.denied.result _ c.denied.ensures (λ other fine. refl)

pub returns-in-Err-clause-rose : goal.returns-in-Err-clause-rose
returns-in-Err-clause-rose g c = denied_as c.in-Err.refusal c.denied.result _ c.denied.ensures (λ other bad. absurd (let no : false ≡ true = bad in cc))

pub returns-in-Err-clause-ungiven : goal.returns-in-Err-clause-ungiven
returns-in-Err-clause-ungiven g c = on_err_of c.denied.result refl
