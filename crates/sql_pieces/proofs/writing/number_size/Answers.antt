use Rattle.std.proofs.Common.{ap, ◌∙◌, ◌+◌, length}
use Rattle.std.specs.Int.{w128}
use Rattle.std.specs.Fmt.{decimal}
use Rattle.std.proofs.lemmas.Int.{to_z-of_z}
use Rattle.sql_pieces.proofs.Counting.{size_negative, size_positive}
use Rattle.sql_pieces.proofs.writing.number_size.Goals as goal

pub returns-then-number-lt0 : goal.returns-then-number-lt0
returns-then-number-lt0 c =
    ap (λ n. n + 1) c.digits_of-digits.ensures.digits ∙ (ap (λ n. length (decimal n) + 1) c.unsigned_abs.ensures.value
    ∙ size_negative _ c.args.number (to_z-of_z w128 c.args.number c.ranges.number) c.if-number-lt0.true)

pub returns-else-number-lt0 : goal.returns-else-number-lt0
returns-else-number-lt0 c =
    c.digits_of-digits.ensures.digits ∙ (ap (λ n. length (decimal n)) c.unsigned_abs.ensures.value
    ∙ size_positive _ c.args.number (to_z-of_z w128 c.args.number c.ranges.number) c.if-number-lt0.false)
