-- A change's rows in bytes stand in its entries.
use Rattle.std.proofs.Common.{◌≡◌, ℕ, List, Option, Some, None, refl, sym, ap, ◌∙◌}
use Rattle.std.specs.Option.{option_map}
use Rattle.iv_types.specs.declared.value.Value.{Value}
use Rattle.iv_types.specs.declared.value.Kind.{Kind}
use Rattle.iv_types.specs.declared.catalog.TableDef.{TableDef}
use Rattle.iv_types.specs.declared.lock.Kept.{Kept}
use Rattle.iv_types.specs.Definitions.{Definitions}
use Rattle.iv_types.specs.Encoding.{kinds_of, row_bytes}
use Rattle.iv_meaning.specs.Objects.{schema_of}
use Rattle.iv_meaning.specs.Schema.{numbered, kinds_of_table}
use Rattle.table_store.specs.Stored.{IsTableAnd}
use Rattle.table_store.specs.Changes.{own_entries, IsKept}
use Rattle.table_store.proofs.Fresh.{in_schema}
use Rattle.txn_machine.specs.Records as machine
use Rattle.txn_machine.specs.RowChanges.{row_change}
use Rattle.log_records.specs.declared.record.Record.TheVariants.{Write}
use Rattle.log_disk.specs.Spelled.{in_bytes}
use Rattle.record_lending.specs.Steps.{first_value}

-- that of the table's own index stands first
row_stands : (ds : Definitions) (t : TableDef) (key : List ℕ) (row other : Option (List Value)) → first_value (own_entries ds t key row other) ≡ option_map (row_bytes (kinds_of t)) row
row_stands ds t key None other = refl
row_stands ds t key (Some row) other = refl

pub write_stands : (ds : Definitions) (transaction : ℕ) (k : Kept) (before after : Option (List ℕ)) → before ≡ first_value k.gone → after ≡ first_value k.made
    → IsTableAnd ds k.change.table (IsKept ds k.change k)
    → Write transaction k.change.table k.change.key before after ≡ in_bytes (schema_of ds) (machine.Write transaction (row_change k.change))
write_stands ds transaction k before after was now kept =
    let t : TableDef = kept.0 in
    let kinds : kinds_of t ≡ kinds_of_table (numbered (schema_of ds) k.change.table) = sym (ap kinds_of_table (in_schema ds k.change.table t kept.1)) in
    let b : before ≡ option_map (row_bytes (kinds_of_table (numbered (schema_of ds) k.change.table))) k.change.before =
    was ∙ ap first_value kept.2.removed ∙ row_stands ds t k.change.key k.change.before k.change.after ∙ ap (λ (ks : List Kind). option_map (row_bytes ks) k.change.before) kinds in
    let a : after ≡ option_map (row_bytes (kinds_of_table (numbered (schema_of ds) k.change.table))) k.change.after =
    now ∙ ap first_value kept.2.made ∙ row_stands ds t k.change.key k.change.after k.change.before ∙ ap (λ (ks : List Kind). option_map (row_bytes ks) k.change.after) kinds in
    λ i. Write transaction k.change.table k.change.key (b i) (a i)
