use Rattle.std.proofs.Common.{◌≡◌, Some, rules}
use Rattle.std.proofs.lemmas.Result.{IfOk-weaker}
use Rattle.iv_meaning.specs.Schema.{view, numbered}
use Rattle.iv_meaning.specs.Objects.{schema_of, view_tree}
use Rattle.image_rows.proofs.Entries.{view_entry}
use Rattle.image_rows.proofs.entry.entry_stands.Goals as goal

pub returns-in-Some-View : goal.returns-in-Some-View
returns-in-Some-View c =
    let is : numbered (schema_of c.args.catalog.now) c.args.index ≡ Some (view (view_tree c.in-Some-View.field-0-0)) = search rules in
    IfOk-weaker c.group_stands.result _ _ (λ b h. view_entry (schema_of c.args.catalog.now) c.args.index c.args.key.now c.args.value.now c.if-index-eq0.false (view_tree c.in-Some-View.field-0-0) b is h) c.group_stands.ensures
