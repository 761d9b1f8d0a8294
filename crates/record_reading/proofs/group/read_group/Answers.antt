use Rattle.std.proofs.Common.{◌≡◌, Some, rules}
use Rattle.std.proofs.lemmas.Result.{IfOk-weaker}
use Rattle.iv_meaning.specs.Schema.{view, numbered}
use Rattle.iv_meaning.specs.Objects.{schema_of, view_tree}
use Rattle.record_reading.proofs.Grouping.{groups_of}
use Rattle.record_reading.proofs.group.read_group.Goals as goal

pub returns-in-Some-View-clause-some : goal.returns-in-Some-View-clause-some
returns-in-Some-View-clause-some c =
    let is : numbered (schema_of c.args.catalog.now) c.args.view ≡ Some (view (view_tree c.in-Some-View.of)) = search rules in
    IfOk-weaker c.sums_of_group.result _ _ (groups_of (schema_of c.args.catalog.now) c.args.view c.args.group.now (view_tree c.in-Some-View.of) is) c.sums_of_group.ensures.some
