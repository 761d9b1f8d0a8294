use Rattle.std.proofs.Common.{◌≡◌, ◌+◌, ◌*◌, ◌^◌, ◌≤◌, drop}
use Rattle.iv_meaning.specs.Objects.{schema_of}
use Rattle.data_store.proofs.EntrySums.{index_sum}
use Rattle.data_store.proofs.entries.index_entries.Given as goal

abbrev pub invariant-loop-definition : goal.invariant-loop-definition
invariant-loop-definition l = record {
  most : l.size ≤ 810 * 2 ^ 64 * l.definition-index;
  told : l.size + index_sum l.table l.row (schema_of (drop l.definition-index l.definition-items)) ≡ index_sum l.table l.row (schema_of l.definition-items);
}
