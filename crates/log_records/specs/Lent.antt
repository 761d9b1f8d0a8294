-- No clause of `run` rests on this module: it serves contracts between crates.
--
-- The record for which lent bytes stand.
use Rattle.std.specs.Option.{option_copied}
use Rattle.log_records.specs.declared.record.Record.{Record}
use Rattle.log_records.specs.declared.record.Record.TheVariants as owned
use Rattle.log_records.specs.declared.record.LentRecord.{LentRecord}
use Rattle.log_records.specs.declared.record.LentRecord.TheVariants as lent

abbrev pub stands_for : LentRecord → Record
stands_for (lent.Write transaction table key before after) = owned.Write transaction table key.now (option_copied before) (option_copied after)
stands_for (lent.Delta transaction view group count sums) = owned.Delta transaction view group.now count sums.now
stands_for (lent.Ghost view group) = owned.Ghost view group.now
stands_for (lent.Clean view group) = owned.Clean view group.now
stands_for (lent.Undo transaction number) = owned.Undo transaction number
stands_for (lent.Commit transaction commit session) = owned.Commit transaction commit session
stands_for (lent.Abort transaction) = owned.Abort transaction
stands_for (lent.Schema commit session text) = owned.Schema commit session text.now
