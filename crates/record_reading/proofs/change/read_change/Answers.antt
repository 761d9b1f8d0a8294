use Rattle.std.proofs.Common.{◌≡◌, Some, rules}
use Rattle.std.specs.Option.{option_copied}
use Rattle.std.proofs.lemmas.Result.{IfOk-weaker}
use Rattle.iv_meaning.specs.Schema.{table, numbered}
use Rattle.iv_meaning.specs.Objects.{schema_of}
use Rattle.record_reading.proofs.Changing.{none_weaker, change_in_table}
use Rattle.record_reading.proofs.change.read_change.Goals as goal

pub returns-in-Some-Table-clause-none : goal.returns-in-Some-Table-clause-none
returns-in-Some-Table-clause-none c =
    let is : numbered (schema_of c.args.catalog.now) c.args.table ≡ Some (table c.in-Some-Table.of) = search rules in
    IfOk-weaker c.change_in.result _ _ (none_weaker _ _ (λ none d k h. none d
    (change_in_table (schema_of c.args.catalog.now) c.args.table c.args.key.now c.in-Some-Table.of is (option_copied c.args.before) (option_copied c.args.after) d k h))) c.change_in.ensures.none
