use Rattle.std.proofs.Common.{◌≡◌, map, ap, ◌∙◌, rules}
use Rattle.iv_meaning.specs.Shape.{repeats}
use Rattle.iv_meaning.specs.Tests.{same_number}
use Rattle.bind_check.proofs.SeenLemmas.{set_twice}
use Rattle.bind_check.proofs.shape.sets_twice.Goals as goal

pub returns : goal.returns
returns c =
    let columns : c.as_slice.result.now ≡ map (λ a. a.column) c.args.sets.now = search rules in
    c.repeats.ensures ∙ (ap (repeats same_number) columns ∙ set_twice c.args.sets.now)
