use Rattle.std.proofs.Common.{◌<◌, ◌≡◌, length, get_or, arith, ◌∙◌, sym, slice_get, Some}
use Rattle.std.proofs.lemmas.Option.{slice_get-get_or}
use Rattle.txn_machine.specs.Deltas.{worth}
use Rattle.escrow_bounds.specs.Column.{added, part}
use Rattle.table_laws.proofs.SetPlaces.{set_length}
use Rattle.ghost_rows.proofs.Steps.{halfway_here, halfway_more, halfway_last, each_last}
use Rattle.ghost_rows.proofs.RowSteps.{prefixes_more}
use Rattle.ghost_rows.proofs.row.add_all.Goals as goal

pub add-requires-clause-allowed : goal.add-requires-clause-allowed
add-requires-clause-allowed c =
    let columns = c.loop-index.columns in
    let index = c.loop-index.index in
    let lt : index < length columns = omega (arith, c.loop-index-test.true, c.loop-index.auto.columns) in
    c.requires.allowed index (get_or columns index c.index-columns-index.result)
    (sym (halfway_here (λ i c'. added c' c.args.session (worth i c.args.delta.now)) c.args.columns.now columns index c.loop-index.invariant.moves) ∙ slice_get-get_or columns index c.index-columns-index.result lt)

pub loop-index-preserved : goal.loop-index-preserved
loop-index-preserved c =
    let columns = c.loop-index.columns in
    let index = c.loop-index.index in
    let lt : index < length columns = omega (arith, c.loop-index-test.true, c.loop-index.auto.columns) in
    let at = slice_get-get_or columns index c.index-columns-index.result lt in
    let there = sym (halfway_here (λ i c'. added c' c.args.session (worth i c.args.delta.now)) c.args.columns.now columns index c.loop-index.invariant.moves) ∙ at in
    let few : index < length c.loop-index.before = omega (arith, c.loop-index-test.true, c.requires.few, c.loop-index.invariant.nine) in
    record {
      moves = halfway_more (λ i c'. added c' c.args.session (worth i c.args.delta.now)) c.args.columns.now columns index (get_or columns index c.index-columns-index.result) c.add.new.escrow lt
          at c.add.ensures.value c.loop-index.invariant.moves;
      nine = set_length c.loop-index.before index c.add.result ∙ c.loop-index.invariant.nine;
      before = prefixes_more c.args.columns.now c.loop-index.before index c.args.session (get_or columns index c.index-columns-index.result) c.add.result there few c.add.ensures.before c.loop-index.invariant.before;
    }

pub returns-clause-moves : goal.returns-clause-moves
returns-clause-moves c = halfway_last (λ i c'. added c' c.args.session (worth i c.args.delta.now)) c.args.columns.now c.loop-index.columns c.loop-index.index c.loop-index-test.false c.loop-index.invariant.moves

pub returns-clause-before : goal.returns-clause-before
returns-clause-before c = each_last (λ i c'. slice_get c.loop-index.before i ≡ Some (part c' c.args.session)) c.args.columns.now c.loop-index.index c.loop-index-test.false c.loop-index.invariant.before
