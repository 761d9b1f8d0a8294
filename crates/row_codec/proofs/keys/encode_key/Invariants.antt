use Rattle.iv_types.specs.Encoding.{key_value_bytes}
use Rattle.row_codec.proofs.Columns.{Written}
use Rattle.row_codec.proofs.keys.encode_key.Given as goal

abbrev pub invariant-loop-place : goal.invariant-loop-place
invariant-loop-place l = Written key_value_bytes l.kinds l.values l.place l.bytes.items
