use Rattle.std.proofs.Common.{◌≡◌, ℕ, ℤ, pos, ◌+◌, ◌%◌, ◌^◌, ◌+ℤ◌, List, ◌++◌, ap, ◌∙◌}
use Rattle.std.specs.Int.{w128, bytes_high_first, cast_unsigned}
use Rattle.std.proofs.lemmas.Int.{to_z-of_z}
use Rattle.row_codec.proofs.Shifts.{huge_shifted}
use Rattle.sql_plan.proofs.keys.put_huge.Goals as goal

pub returns : goal.returns
returns c =
    let e : (c.cast_unsigned.result + 2 ^ 127) % 2 ^ 128 ≡ cast_unsigned w128 (c.args.number +ℤ pos (2 ^ 127)) =
    ap (λ (n : ℕ). (n + 2 ^ 127) % 2 ^ 128) c.cast_unsigned.ensures
    ∙ ap (λ (z : ℤ). (cast_unsigned w128 z + 2 ^ 127) % 2 ^ 128) (to_z-of_z w128 c.args.number c.ranges.number) ∙ huge_shifted c.args.number c.ranges.number in
    c.in_ok-extend_from_slice.ensures.items ∙ ap (λ (l : List ℕ). c.args.out.now.items ++ l) (c.write_u128.ensures ∙ ap (bytes_high_first 16) e)
