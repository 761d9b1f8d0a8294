use Rattle.std.proofs.Common.{◌∙◌, sym, ap, ◌&&◌}
use Rattle.iv_meaning.specs.Objects.{schema_of, view_tree}
use Rattle.iv_meaning.specs.Query.{conjunction}
use Rattle.iv_meaning.specs.Values.{is_true}
use Rattle.std.specs.Option.{option_to_list}
use Rattle.row_eval.specs.Seen.{rows_of}
use Rattle.view_delta.proofs.Combined.{counted_two}
use Rattle.view_delta.proofs.contribution.is_counted.Goals as goal

pub returns-then-are_joined : goal.returns-then-are_joined
returns-then-are_joined c =
    let v = view_tree c.args.view.now in
    let two = counted_two (schema_of c.args.catalog.now) v c.in-Some.second (rows_of c.args.rows) c.in-Some.is c.as_slice.result.now c.primary_of-key.result.now c.as_slice.ensures c.primary_of-key.ensures in
    c.is_met.ensures ∙ (ap (λ b. b && is_true (conjunction (option_to_list v.condition) (rows_of c.args.rows))) c.if-are_joined.ensures ∙ sym two)

pub returns-else-are_joined : goal.returns-else-are_joined
returns-else-are_joined c =
    let v = view_tree c.args.view.now in
    let two = counted_two (schema_of c.args.catalog.now) v c.in-Some.second (rows_of c.args.rows) c.in-Some.is c.as_slice.result.now c.primary_of-key.result.now c.as_slice.ensures c.primary_of-key.ensures in
    c.if-are_joined.false ∙ (ap (λ b. b && is_true (conjunction (option_to_list v.condition) (rows_of c.args.rows))) c.if-are_joined.ensures ∙ sym two)
