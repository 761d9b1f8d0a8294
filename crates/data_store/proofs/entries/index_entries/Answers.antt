use Rattle.std.proofs.Common.{arith}
use Rattle.data_store.proofs.EntrySums.{one_more}
use Rattle.data_store.proofs.entries.index_entries.Goals as goal

pub loop-definition-preserved : goal.loop-definition-preserved
loop-definition-preserved c = record {
  most = omega (arith, c.index_entry-size.ensures.most);
  told = one_more c.args.table.now c.args.row.now c.definitions-definition-items.result.now c.loop-definition.definition-index c.definition-item.result c.loop-definition.size c.index_entry-size.result _ c.loop-definition-test.true c.definition-item.is c.index_entry-size.ensures.size c.loop-definition.invariant.told;
}
