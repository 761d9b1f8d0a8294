use Rattle.std.proofs.Common.{◌≡◌, ◌++◌, drop}
use Rattle.iv_types.specs.Encoding.{kinds_of}
use Rattle.iv_meaning.specs.Schema.{items_at, key_kinds}
use Rattle.store_cases.proofs.table_facts.kinds_at.Given as goal

abbrev pub invariant-loop-index : goal.invariant-loop-index
invariant-loop-index l = l.kinds ++ items_at (kinds_of l.table) (drop l.index l.places) ≡ key_kinds l.table
