use Rattle.std.proofs.Common.{rules, ◌-ℤ◌, ◌∙◌, ap, ℤ, of_z}
use Rattle.std.proofs.lemmas.Int.{wrapping_sub_onto, to_z-of_z}
use Rattle.std.specs.Int.{w128, int_wrap}
use Rattle.version_chain.proofs.deltas.wrapped_less.Goals as goal

pub returns : goal.returns
returns c =
    wrapping_sub_onto w128 (of_z w128 c.args.number) c.args.step (search rules) (search rules)
    ∙ ap (λ (z : ℤ). int_wrap w128 (z -ℤ c.args.step)) (to_z-of_z w128 c.args.number (search rules))
