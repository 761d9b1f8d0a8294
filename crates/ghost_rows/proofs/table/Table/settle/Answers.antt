use Rattle.std.proofs.Common.{◌≡◌, sym, ap, ◌∙◌, Some, true, false}
use Rattle.table_laws.specs.Place.{Place}
use Rattle.ghost_rows.specs.Rows.{OpenRows, row_at, settled_row, is_open}
use Rattle.ghost_rows.proofs.TableLemmas.{laid, removed_here, removed_other, settled_here, left_open_row, left_shut_row}
use Rattle.ghost_rows.proofs.table.Table.settle.Goals as goal

pub returns-then-is_open-clause-here : goal.returns-then-is_open-clause-here
returns-then-is_open-clause-here c =
    let place : Place = (c.args.view, c.args.group.now) in
    let lifted = c.lift-row.result in
    let changes = (laid c.args.self.now c.lift-row.new.self c.lay.new.self place lifted lifted c.settle.new.self c.lift-row.ensures.row c.lift-row.ensures.others c.lay.ensures c.lift-row.ensures.row).1 in
    let shown : is_open (settled_row c.args.session lifted) ≡ true = ap is_open (sym c.settle.ensures.value) ∙ sym c.if-is_open.ensures in
    changes.here ∙ (ap Some c.settle.ensures.value ∙ sym (settled_here c.args.session (row_at c.args.self.now place) lifted c.lift-row.ensures.row ∙ left_open_row (settled_row c.args.session lifted) shown))

pub returns-then-is_open-clause-others : goal.returns-then-is_open-clause-others
returns-then-is_open-clause-others c =
    let place : Place = (c.args.view, c.args.group.now) in
    let lifted = c.lift-row.result in
    (laid c.args.self.now c.lift-row.new.self c.lay.new.self place lifted lifted c.settle.new.self c.lift-row.ensures.row c.lift-row.ensures.others c.lay.ensures c.lift-row.ensures.row).1.others

pub returns-else-is_open-clause-here : goal.returns-else-is_open-clause-here
returns-else-is_open-clause-here c =
    let place : Place = (c.args.view, c.args.group.now) in
    let lifted = c.lift-row.result in
    let shut : is_open (settled_row c.args.session lifted) ≡ false = ap is_open (sym c.settle.ensures.value) ∙ sym c.if-is_open.ensures in
    ap (λ (l : OpenRows). row_at l place) c.take.ensures.entries
    ∙ (removed_here _ place ∙ sym (settled_here c.args.session (row_at c.args.self.now place) lifted c.lift-row.ensures.row ∙ left_shut_row (settled_row c.args.session lifted) shut))

pub returns-else-is_open-clause-others : goal.returns-else-is_open-clause-others
returns-else-is_open-clause-others c = λ q n.
    let place : Place = (c.args.view, c.args.group.now) in
    ap (λ (l : OpenRows). row_at l q) c.take.ensures.entries
    ∙ (removed_other _ place q n ∙ (ap (λ (l : OpenRows). row_at l q) c.self-else-is_open.view_is ∙ c.lift-row.ensures.others q n))
