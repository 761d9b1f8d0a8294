use Rattle.std.proofs.Common.{rules, ◌≡◌, ◌∙◌, refl, to_z, of_z}
use Rattle.std.specs.Int.{w128, cast_signed}
use Rattle.std.specs.Int.RustNames.{FitsSigned}
use Rattle.std.proofs.lemmas.Int.{to_z-of_z}
use Rattle.byteorder.specs.Endian.{big_number}
use Rattle.row_codec.proofs.Numbers.{signed_front}
use Rattle.ghost_rows.proofs.numbers.front.Goals as goal

pub returns-clause-bytes : goal.returns-clause-bytes
returns-clause-bytes c =
    let wide : FitsSigned w128 c.read_i128.result = search rules in
    let e : to_z w128 (of_z w128 c.read_i128.result) ≡ cast_signed w128 (big_number 16 c.args.bytes.now) =
    to_z-of_z w128 c.read_i128.result wide ∙ c.read_i128.ensures in
    (signed_front w128 refl c.args.bytes.now _ (λ i. (c.type_inv.bytes i).fits) c.requires e).1
