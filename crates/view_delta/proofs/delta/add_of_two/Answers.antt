use Rattle.std.proofs.Common.{◌∙◌, ◌++◌, sym, ap, append-nil}
use Rattle.iv_meaning.specs.Objects.{schema_of, view_tree}
use Rattle.txn_machine.specs.Deltas.{exchanged}
use Rattle.txn_machine.specs.RowChanges.{row_change}
use Rattle.view_delta.specs.Parts.{of_first}
use Rattle.view_delta.proofs.Fits.{fit_first}
use Rattle.view_delta.proofs.LookUps.{owed_first, owed_second, owed_neither}
use Rattle.std.proofs.lemmas.Result.{on_ok_weaker}
use Rattle.view_delta.proofs.delta.add_of_two.Goals as goal

pub add_of_looked_up-requires-clause-before : goal.add_of_looked_up-requires-clause-before
add_of_looked_up-requires-clause-before c =
    fit_first (schema_of c.args.catalog.now) (view_tree c.args.view.now) c.args.second.now c.requires.second c.args.change.now.table c.args.change.now.before c.args.joined
    c.if-change-view.false c.if-change-second.true c.requires.rows.before c.requires.joined

pub add_of_looked_up-requires-clause-after : goal.add_of_looked_up-requires-clause-after
add_of_looked_up-requires-clause-after c =
    fit_first (schema_of c.args.catalog.now) (view_tree c.args.view.now) c.args.second.now c.requires.second c.args.change.now.table c.args.change.now.after c.args.joined
    c.if-change-view.false c.if-change-second.true c.requires.rows.after c.requires.joined

pub returns-then-change-view : goal.returns-then-change-view
returns-then-change-view c =
    let o = schema_of c.args.catalog.now in
    let v = view_tree c.args.view.now in
    on_ok_weaker c.add_of_first.result (λ e rows right read.
    e ∙ ap (λ l. c.args.owed.now ++ l) (ap (λ rs. exchanged (of_first o v c.args.change.now.before rs) (of_first o v c.args.change.now.after rs)) c.as_slice.ensures
    ∙ sym (owed_first o v c.args.second.now c.requires.second c.requires.join rows (row_change c.args.change.now) right c.if-change-view.true c.args.joined read))) c.add_of_first.ensures

pub returns-then-change-second : goal.returns-then-change-second
returns-then-change-second c =
    let o = schema_of c.args.catalog.now in
    let v = view_tree c.args.view.now in
    on_ok_weaker c.add_of_looked_up.result (λ e rows right read.
    e ∙ ap (λ l. c.args.owed.now ++ l) (sym (owed_second o v c.args.second.now c.requires.second c.requires.join rows (row_change c.args.change.now) right c.if-change-second.true c.args.joined read))) c.add_of_looked_up.ensures

pub returns : goal.returns
returns c = λ rows right read.
    let o = schema_of c.args.catalog.now in
    let v = view_tree c.args.view.now in
    sym (append-nil c.args.owed.now) ∙ ap (λ l. c.args.owed.now ++ l) (sym (owed_neither o v c.args.second.now c.requires.second c.requires.join rows (row_change c.args.change.now) right c.if-change-view.false c.if-change-second.false))
