use Rattle.std.proofs.Common.{◌≡◌, ◌∙◌, ap, length, rules}
use Rattle.std.specs.Int.{w8}
use Rattle.std.specs.Int.RustNames.{FitsSigned}
use Rattle.std.proofs.lemmas.Int.{to_z-of_z}
use Rattle.iv_meaning.specs.Objects.{schema_of}
use Rattle.record_reading.specs.Groups.{IsGroupOf, delta}
use Rattle.record_reading.proofs.Grouping.{known}
use Rattle.record_reading.proofs.delta.read_delta.Goals as goal

pub returns-in_ok-made_delta-in-Some-clause-some : goal.returns-in_ok-made_delta-in-Some-clause-some
returns-in_ok-made_delta-in-Some-clause-some c =
    let fits : FitsSigned w8 c.args.count = search rules in
    let same : c.in-Some.many ≡ length c.args.sums.now = search rules in
    let group : IsGroupOf (schema_of c.args.catalog.now) (c.args.view, c.args.group.now) c.in-Some.many = search rules in
    known (schema_of c.args.catalog.now) c.args.view c.args.group.now c.args.count c.args.sums.now c.in-Some.many group same c.in_ok-made_delta-in-Some.field-0
    (c.in_ok-made_delta-in-Some.ensures ∙ ap (λ n. delta c.args.view c.args.group.now n c.args.sums.now) (to_z-of_z w8 c.args.count fits))
