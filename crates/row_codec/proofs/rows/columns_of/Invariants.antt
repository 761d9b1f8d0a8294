use Rattle.iv_types.specs.Encoding.{value_bytes, kinds_of}
use Rattle.row_codec.proofs.Columns.{Taken}
use Rattle.row_codec.proofs.rows.columns_of.Given as goal

abbrev pub invariant-loop-column : goal.invariant-loop-column
invariant-loop-column l = Taken value_bytes (kinds_of l.table) l.bytes l.column-index l.values.items l.rest
