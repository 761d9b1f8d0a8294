use Rattle.iv_types.specs.Encoding.{value_bytes, kinds_of}
use Rattle.row_codec.proofs.Columns.{Written}
use Rattle.row_codec.proofs.rows.encode_row.Given as goal

abbrev pub invariant-loop-place : goal.invariant-loop-place
invariant-loop-place l = Written value_bytes (kinds_of l.table) l.values l.place l.bytes.items
