use Rattle.std.proofs.Common.{◌≡◌, ◌++◌, List, drop}
use Rattle.iv_types.specs.declared.value.Value.{Value}
use Rattle.iv_types.specs.Encoding.{kinds_of, FitAll}
use Rattle.table_store.specs.Stored.{key_at}
use Rattle.table_store.proofs.keys.primary_part.Given as goal

abbrev pub invariant-loop-place : goal.invariant-loop-place
invariant-loop-place l = (row : List Value) → FitAll (kinds_of l.table) row → l.fn.key ≡ key_at l.table (l.columns ++ l.table.primary) row
    → l.rest ≡ key_at l.table (drop l.place-index l.columns ++ l.table.primary) row
