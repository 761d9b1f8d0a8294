use Rattle.std.proofs.Common.{◌≡◌, ◌+◌, ◌-◌, ◌<◌, ◌^◌, min, drop}
use Rattle.table_store.specs.Changes.{sizes}
use Rattle.table_store.proofs.tables.entry_bytes.Given as goal

abbrev pub invariant-loop-entry : goal.invariant-loop-entry
invariant-loop-entry l = record {
  fits : l.sum < 2 ^ 64;
  told : min (l.sum + sizes (drop l.entry-index l.entries)) (2 ^ 64 - 1) ≡ min (sizes l.entries) (2 ^ 64 - 1);
}
