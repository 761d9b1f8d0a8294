use Rattle.std.proofs.Common.{ap, ◌∙◌, ◌&&◌}
use Rattle.std.specs.Ordering.{is_eq, int_cmp}
use Rattle.std.specs.Cmp.Lexicographic.{slice_cmp}
use Rattle.view_delta.proofs.OwedRows.{sums_tied}
use Rattle.view_delta.proofs.delta.is_same.Goals as goal

pub returns-then-eq : goal.returns-then-eq
returns-then-eq c =
    c.eq-then-eq.ensures ∙ (sums_tied c.args.old.now.sums c.args.new.now.sums
    ∙ ap (λ b. b && is_eq (slice_cmp int_cmp c.args.old.now.sums c.args.new.now.sums)) c.if-eq.ensures)
