use Rattle.iv_meaning.specs.Objects.{schema_of}
use Rattle.txn_machine.specs.Records.{Write}
use Rattle.txn_machine.specs.RowChanges.{row_change}
use Rattle.record_lending.proofs.sizes.write_bytes.Goals as goal

pub returns : goal.returns
returns c definitions kept =
    c.record_bytes.ensures.counted (schema_of definitions) (Write 0 (row_change c.args.kept.now.change)) (c.write_of.ensures definitions kept)
