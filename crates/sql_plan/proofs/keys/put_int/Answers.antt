use Rattle.std.proofs.Common.{ℕ, ℤ, pos, ◌^◌, ◌+ℤ◌, List, ◌++◌, take, drop, ap, ◌∙◌}
use Rattle.std.specs.Int.{w64, w128, bytes_high_first, cast_unsigned}
use Rattle.std.proofs.lemmas.Int.{to_z-of_z}
use Rattle.sql_plan.proofs.keys.put_int.Goals as goal

pub returns : goal.returns
returns c =
    c.in_ok-extend_from_slice.ensures.items
    ∙ (ap (λ (l : List ℕ). c.args.out.now.items ++ take 8 (drop 8 l)) c.write_u128.ensures
    ∙ (ap (λ (n : ℕ). c.args.out.now.items ++ bytes_high_first 8 n) c.shifted_int.ensures
    ∙ ap (λ (z : ℤ). c.args.out.now.items ++ bytes_high_first 8 (cast_unsigned w64 (z +ℤ pos (2 ^ 63)))) (to_z-of_z w128 c.args.number c.ranges.number)))
