use Rattle.std.proofs.Common.{◌≡◌, ◌++◌, drop}
use Rattle.iv_types.specs.Encoding.{key_bytes}
use Rattle.sql_plan.proofs.keys.key_bytes.Given as goal

abbrev pub invariant-loop-place : goal.invariant-loop-place
invariant-loop-place l = l.bytes.items ++ key_bytes (drop l.place l.kinds) (drop l.place l.values) ≡ key_bytes l.kinds l.values
