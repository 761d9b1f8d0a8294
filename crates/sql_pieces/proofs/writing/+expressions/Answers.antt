use Rattle.std.proofs.Common.{rules, [], ◌∷◌, ℤ, ap, sym, ◌∙◌}
use Rattle.std.specs.Int.{w128}
use Rattle.std.specs.Int.RustNames.{FitsSigned}
use Rattle.std.proofs.lemmas.Int.{to_z-of_z}
use Rattle.sql_pieces.specs.Sinks.{number_piece}
use Rattle.iv_types.specs.Printing.{bare_pieces}
use Rattle.iv_types.specs.Trees.{tree}
use Rattle.sql_pieces.proofs.Pieces.{behind, nothing, same_pieces, bare_number}
use Rattle.sql_pieces.proofs.writing.+expressions.Goals as goal

pub write_bare-returns-in-Number : goal.write_bare-returns-in-Number
write_bare-returns-in-Number g t c =
    let fits : FitsSigned w128 c.in-Number.number = search rules in
    same_pieces (ap (λ x. bare_pieces (tree x)) c.in-Number.is ∙ (bare_number c.in-Number.number ∙ ap (λ (n : ℤ). number_piece n ∷ []) (sym (to_z-of_z w128 c.in-Number.number fits)))) c.number.ensures

pub write_bare-returns-in-Word : goal.write_bare-returns-in-Word
unfolding bare_pieces
write_bare-returns-in-Word g t c = rw (c.in-Word.is, ← c.as_slice.ensures) c.text.ensures

pub write_bare-returns-in-Named : goal.write_bare-returns-in-Named
unfolding bare_pieces
write_bare-returns-in-Named g t c = rw c.in-Named.is c.write.ensures

pub write_bare-returns-in-At : goal.write_bare-returns-in-At
unfolding bare_pieces
write_bare-returns-in-At g t c = rw c.in-At.is (nothing _ _ _ _)

pub write_bare-returns-in_ok-fixed-in-Minus : goal.write_bare-returns-in_ok-fixed-in-Minus
unfolding bare_pieces
write_bare-returns-in_ok-fixed-in-Minus g t c = rw (c.in-Minus.is, ← c.deref.ensures) (behind c.in_ok-fixed-in-Minus.ensures c.write_at.ensures)

pub write_bare-returns-in_ok-fixed-in-Not : goal.write_bare-returns-in_ok-fixed-in-Not
unfolding bare_pieces
write_bare-returns-in_ok-fixed-in-Not g t c = rw (c.in-Not.is, ← c.deref-in-Not.ensures) (behind c.in_ok-fixed-in-Not.ensures c.write_at-in-Not.ensures)

pub write_bare-returns-in_ok-fixed-in-Pair : goal.write_bare-returns-in_ok-fixed-in-Pair
unfolding bare_pieces
write_bare-returns-in_ok-fixed-in-Pair g t c =
    rw (c.in-Pair.is, ← c.deref-in-Pair.ensures, ← c.deref-in-Pair-2.ensures, ← c.place_on_the_left.ensures, ← c.place_on_the_right.ensures, ← c.mark_of_operator.ensures)
    (behind c.in_ok-write_at-in-Pair.ensures (behind c.in_ok-fixed-in-Pair.ensures c.write_at-in-Pair-2.ensures))
