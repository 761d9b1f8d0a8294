use Rattle.std.proofs.Common.{◌∙◌}
use Rattle.std.proofs.lemmas.Result.{err_from_is_err_and}
use Rattle.iv_types.specs.Encoding.{kinds_of}
use Rattle.row_codec.proofs.Formats.{same_again, no_fault}
use Rattle.row_codec.proofs.RowFormat.{row_format}
use Rattle.row_codec.proofs.rows.decode_row.Goals as goal

pub returns-in_err-columns_of-clause-again : goal.returns-in_err-columns_of-clause-again
returns-in_err-columns_of-clause-again c row fits is =
    let p = err_from_is_err_and c.from_residual.result c.from_residual.ensures.1 in
    rw (p.1, p.2) (no_fault row_format (kinds_of c.args.table.now) c.args.bytes.now c.in_err-columns_of.field-0.0 row c.in_err-columns_of.ensures.fault fits is)

pub returns-clause-again : goal.returns-clause-again
returns-clause-again c row fits is =
    c.from_vec.ensures ∙ same_again row_format (kinds_of c.args.table.now) c.args.bytes.now c.in_ok-columns_of.field-0.items row c.in_ok-columns_of.ensures.found fits is
