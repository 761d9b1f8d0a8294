use Rattle.std.proofs.Common.{rules, ◌≡◌, ◌∙◌, refl, to_z, of_z}
use Rattle.std.specs.Int.{w64, w128, cast_signed}
use Rattle.std.specs.Int.RustNames.{FitsSigned}
use Rattle.std.proofs.lemmas.Int.{to_z-of_z}
use Rattle.byteorder.specs.Endian.{big_number}
use Rattle.row_codec.proofs.Numbers.{signed_front}
use Rattle.iv_types.proofs.Fitting.{int_so}
use Rattle.row_codec.proofs.rows.int_of.Goals as goal

pub returns-clause-taken : goal.returns-clause-taken
returns-clause-taken c =
    let wide : FitsSigned w128 c.from.result = search rules in
    let narrow : FitsSigned w64 c.read_i64-number.result = search rules in
    let e : to_z w128 (of_z w128 c.from.result) ≡ cast_signed w64 (big_number 8 c.args.bytes.now) =
    to_z-of_z w128 c.from.result wide ∙ c.from.ensures ∙ to_z-of_z w64 c.read_i64-number.result narrow ∙ c.read_i64-number.ensures in
    let f = signed_front w64 refl c.args.bytes.now _ (λ i. (c.type_inv.bytes i).fits) c.if-bytes-lt8.false e in
    (int_so _ f.0, f.1)
