use Rattle.std.proofs.Common.{rules, ◌∙◌}
use Rattle.std.specs.Int.{w128}
use Rattle.std.specs.Int.RustNames.{FitsSigned}
use Rattle.std.proofs.lemmas.Int.{to_z-of_z}
use Rattle.row_codec.proofs.Shifts.{huge_front}
use Rattle.iv_types.proofs.Fitting.{huge_so}
use Rattle.row_codec.proofs.keys.huge_of.Goals as goal

pub returns-clause-taken : goal.returns-clause-taken
returns-clause-taken c =
    let wide : FitsSigned w128 c.cast_signed-number.result = search rules in
    let f = huge_front c.args.bytes.now c.read_u128-shifted.result _ (λ i. (c.type_inv.bytes i).fits) c.if-bytes-lt16.false c.read_u128-shifted.ensures c.if-shifted-eq0.false
    (to_z-of_z w128 c.cast_signed-number.result wide ∙ c.cast_signed-number.ensures) in
    (huge_so _ f.0, f.1)
