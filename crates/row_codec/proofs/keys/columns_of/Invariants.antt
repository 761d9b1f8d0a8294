use Rattle.iv_types.specs.Encoding.{key_value_bytes}
use Rattle.row_codec.proofs.Columns.{Taken}
use Rattle.row_codec.proofs.keys.columns_of.Given as goal

abbrev pub invariant-loop-kind : goal.invariant-loop-kind
invariant-loop-kind l = Taken key_value_bytes l.kinds l.bytes l.kind-index l.values.items l.rest
