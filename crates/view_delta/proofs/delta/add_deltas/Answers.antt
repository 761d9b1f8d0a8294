use Rattle.std.proofs.Common.{◌∙◌, ◌++◌, sym, ap, append-nil}
use Rattle.iv_meaning.specs.Objects.{schema_of, view_tree}
use Rattle.txn_machine.specs.Deltas.{rows_after}
use Rattle.txn_machine.specs.RowChanges.{row_change}
use Rattle.view_delta.proofs.OwedRows.{alone_stays, owed_here, owed_elsewhere}
use Rattle.std.proofs.lemmas.Result.{on_ok_weaker}
use Rattle.view_delta.proofs.delta.add_deltas.Goals as goal

pub returns-then-change-view-clause-alone : goal.returns-then-change-view-clause-alone
returns-then-change-view-clause-alone c =
    let o = schema_of c.args.catalog.now in
    let v = view_tree c.args.view.now in
    let r = row_change c.args.change.now in
    on_ok_weaker c.add_of_one.result (λ e none rows is. e rows ∙ ap (λ l. c.args.owed.now ++ l) (sym (owed_here o rows r v (alone_stays v (rows_after r rows) rows c.in_default.is) is c.if-change-view.true))) c.add_of_one.ensures

pub returns-then-change-view-clause-joined : goal.returns-then-change-view-clause-joined
returns-then-change-view-clause-joined c =
    let o = schema_of c.args.catalog.now in
    let v = view_tree c.args.view.now in
    let r = row_change c.args.change.now in
    on_ok_weaker c.add_of_one.result (λ e rows right read. e rows ∙ ap (λ l. c.args.owed.now ++ l) (sym (owed_here o rows r v (alone_stays v (rows_after r rows) rows c.in_default.is) (sym right.told) c.if-change-view.true))) c.add_of_one.ensures

pub returns-clause-alone : goal.returns-clause-alone
returns-clause-alone c = λ none rows is.
    let o = schema_of c.args.catalog.now in
    let v = view_tree c.args.view.now in
    let r = row_change c.args.change.now in
    sym (append-nil c.args.owed.now) ∙ ap (λ l. c.args.owed.now ++ l) (sym (owed_elsewhere o rows r v (alone_stays v (rows_after r rows) rows c.in_default.is) is c.if-change-view.false))

pub returns-clause-joined : goal.returns-clause-joined
returns-clause-joined c = λ rows right read.
    let o = schema_of c.args.catalog.now in
    let v = view_tree c.args.view.now in
    let r = row_change c.args.change.now in
    sym (append-nil c.args.owed.now) ∙ ap (λ l. c.args.owed.now ++ l) (sym (owed_elsewhere o rows r v (alone_stays v (rows_after r rows) rows c.in_default.is) (sym right.told) c.if-change-view.false))
