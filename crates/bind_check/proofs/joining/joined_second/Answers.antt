use Rattle.std.proofs.Common.{◌++◌, ap, ◌∙◌}
use Rattle.iv_types.specs.Trees.{tree}
use Rattle.iv_meaning.specs.Schema.{as_table}
use Rattle.iv_meaning.specs.Objects.{object_of}
use Rattle.bind_check.specs.Joining.{pairs_of}
use Rattle.bind_check.proofs.ViewLemmas.{second_found}
use Rattle.bind_check.proofs.joining.joined_second.Goals as goal

pub returns : goal.returns
returns c =
    second_found (as_table (object_of c.args.join.now.object.now)) c.in-Some.second.now (tree c.args.join.now.on) _ _ _
    c.in-Some.ensures (c.deref.ensures.value ∙ (c.in_ok-push_pairs.ensures ∙ ap (λ xs. xs ++ pairs_of (tree c.args.join.now.on)) c.new-pairs.ensures.items)) c.as_slice.ensures (c.from_vec.ensures ∙ c.in_ok-columns.ensures)
