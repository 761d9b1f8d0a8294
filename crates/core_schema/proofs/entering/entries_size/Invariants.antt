use Rattle.std.proofs.Common.{◌≡◌, ◌+◌, ◌-◌, ◌^◌, ◌<◌, min, drop}
use Rattle.table_store.specs.Changes.{sizes}
use Rattle.core_schema.proofs.entering.entries_size.Given as goal

abbrev pub invariant-loop-entry : goal.invariant-loop-entry
invariant-loop-entry l = record {
  fits : l.size < 2 ^ 64;
  told : min (l.size + sizes (drop l.entry-index l.entries)) (2 ^ 64 - 1) ≡ min (sizes l.entries) (2 ^ 64 - 1);
}
