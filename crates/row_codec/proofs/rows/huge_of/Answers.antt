use Rattle.std.proofs.Common.{rules, ◌≡◌, ◌∙◌, refl, sym, ap, to_z, of_z}
use Rattle.std.specs.Int.{w128, cast_signed}
use Rattle.std.specs.Int.RustNames.{FitsSigned}
use Rattle.std.proofs.lemmas.Int.{to_z-of_z}
use Rattle.byteorder.specs.Endian.{big_number}
use Rattle.row_codec.proofs.Numbers.{signed_front}
use Rattle.iv_types.proofs.Fitting.{huge_so}
use Rattle.row_codec.proofs.rows.huge_of.Goals as goal

pub returns-clause-taken : goal.returns-clause-taken
returns-clause-taken c =
    let wide : FitsSigned w128 c.read_i128-number.result = search rules in
    let e : to_z w128 (of_z w128 c.read_i128-number.result) ≡ cast_signed w128 (big_number 16 c.args.bytes.now) =
    to_z-of_z w128 c.read_i128-number.result wide ∙ c.read_i128-number.ensures in
    let f = signed_front w128 refl c.args.bytes.now _ (λ i. (c.type_inv.bytes i).fits) c.if-bytes-lt16.false e in
    (huge_so _ (f.0, λ least. c.if-number.false (ap (of_z w128) (sym (to_z-of_z w128 c.read_i128-number.result wide) ∙ least))), f.1)
