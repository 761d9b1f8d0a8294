use Rattle.std.proofs.Common.{◌≡◌, ◌++◌, drop}
use Rattle.std.specs.List.{flat_map}
use Rattle.iv_meaning.specs.Schema.{indexes_of}
use Rattle.iv_meaning.specs.Objects.{schema_of}
use Rattle.table_store.specs.Changes.{entry_in}
use Rattle.table_store.proofs.row_entries.push_entries.Given as goal

abbrev pub invariant-loop-definition : goal.invariant-loop-definition
invariant-loop-definition l =
    l.entries ++ flat_map (entry_in l.table l.row l.other) (indexes_of (schema_of (drop l.definition-index l.definition-items)) l.table.number)
    ≡ l.initial.entries ++ flat_map (entry_in l.table l.row l.other) (indexes_of (schema_of l.definition-items) l.table.number)
