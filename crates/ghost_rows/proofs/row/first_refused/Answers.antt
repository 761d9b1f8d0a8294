use Rattle.std.proofs.Common.{◌<◌, length, get_or, arith, ap, ◌∙◌, sym, slice_get, List}
use Rattle.std.proofs.lemmas.Option.{slice_get-get_or}
use Rattle.txn_machine.specs.Deltas.{worth}
use Rattle.escrow_bounds.specs.Column as column
use Rattle.escrow_bounds.specs.Column.{Column}
use Rattle.ghost_rows.proofs.Steps.{each_more, each_last, set_same}
use Rattle.ghost_rows.proofs.row.first_refused.Goals as goal

pub returns-in-Some-clause-refused : goal.returns-in-Some-clause-refused
returns-in-Some-clause-refused c =
    let columns = c.loop-index.columns in
    let index = c.loop-index.index in
    let lt : index < length columns = omega (arith, c.loop-index-test.true, c.loop-index.auto.columns) in
    let at = slice_get-get_or columns index c.index-columns-index.result lt in
    record {
      here = get_or columns index c.index-columns-index.result;
      is_here = sym (ap (λ (l : List Column). slice_get l index) c.loop-index.invariant.same) ∙ at;
      refused = c.in-Some.ensures.refused.0;
      range_is = c.in-Some.ensures.refused.1;
      earlier = c.loop-index.invariant.allowed;
    }

pub loop-index-preserved : goal.loop-index-preserved
loop-index-preserved c =
    let columns = c.loop-index.columns in
    let index = c.loop-index.index in
    let lt : index < length columns = omega (arith, c.loop-index-test.true, c.loop-index.auto.columns) in
    let at = slice_get-get_or columns index c.index-columns-index.result lt in
    record {
      same = set_same columns index (get_or columns index c.index-columns-index.result) c.refused.new.escrow at c.in_default.ensures.same ∙ c.loop-index.invariant.same;
      allowed = each_more (λ i c'. column.IsAllowed c' c.args.session (worth i c.args.delta.now)) c.args.columns.now index (get_or columns index c.index-columns-index.result)
          (sym (ap (λ (l : List Column). slice_get l index) c.loop-index.invariant.same) ∙ at) c.in_default.ensures.allowed c.loop-index.invariant.allowed;
    }

pub returns-clause-allowed : goal.returns-clause-allowed
returns-clause-allowed c = each_last (λ i c'. column.IsAllowed c' c.args.session (worth i c.args.delta.now)) c.args.columns.now c.loop-index.index c.loop-index-test.false c.loop-index.invariant.allowed
