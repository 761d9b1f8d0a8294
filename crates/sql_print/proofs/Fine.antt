-- Pieces that can be read again: their names are names, and their numbers are within the limit.
use Rattle.std.proofs.Common.{◌≡◌, ℕ, Bool, true, false, pos, negsuc, List, [], ◌∷◌, ◌++◌, Option, Some, None}
use Rattle.std.specs.List.{AllByRecursion}
use Rattle.iv_types.specs.declared.expression.Ref.{Ref}
use Rattle.iv_types.specs.Limits.{Limits, allows}
use Rattle.iv_types.specs.Syntax as s
use Rattle.iv_types.specs.Syntax.{Tree}
use Rattle.iv_types.specs.Printing as p
use Rattle.iv_types.specs.Printing.{Piece, rank, left_place, right_place, enclosed_unless, ref_pieces, bare_pieces, tree_pieces}
use Rattle.std.specs.Prelude.{nat_le}
use Rattle.sql_print.proofs.Facts.{TreeFits, RefFits}

abbrev pub Fine : (List ℕ → Type 0) → Limits → Piece → Type 0
Fine N l (p.fixed k) = Unit {0}
Fine N l (p.name w) = N w
Fine N l (p.number n) = allows l.number_value n ≡ true
Fine N l (p.negative n) = allows l.number_value n ≡ true
Fine N l (p.text w) = Unit {0}

abbrev pub AllFine : (List ℕ → Type 0) → Limits → List Piece → Type 0
AllFine N l ps = AllByRecursion (Fine N l) ps

pub fine_append : (N : List ℕ → Type 0) (l : Limits) (ps qs : List Piece) → AllFine N l ps → AllFine N l qs → AllFine N l (ps ++ qs)
fine_append N l [] qs h k = k
fine_append N l (q ∷ ps) qs h k = (h.0, fine_append N l ps qs h.1 k)

fine_enclosed_unless : (N : List ℕ → Type 0) (l : Limits) (b : Bool) (ps : List Piece) → AllFine N l ps → AllFine N l (enclosed_unless b ps)
fine_enclosed_unless N l true ps h = h
fine_enclosed_unless N l false ps h = (tt, fine_append N l ps (_ ∷ []) h (tt, tt))

qualified_fine : (N : List ℕ → Type 0) (l : Limits) (w : List ℕ) (q : Option (List ℕ)) → RefFits N l (record { qualifier = q; name = w }) → AllFine N l (ref_pieces (record { qualifier = q; name = w }))
qualified_fine N l w None h = (h.0.1, tt)
qualified_fine N l w (Some q) h = (h.1.1, (tt, (h.0.1, tt)))

pub ref_fine : (N : List ℕ → Type 0) (l : Limits) (ref : Ref) → RefFits N l ref → AllFine N l (ref_pieces ref)
ref_fine N l ref h = qualified_fine N l ref.name ref.qualifier h

bare_fine : (N : List ℕ → Type 0) (l : Limits) (e : Tree) → TreeFits N l e → AllFine N l (bare_pieces e)
unfolding bare_pieces
bare_fine N l (s.number (pos n)) h = (h, tt)
bare_fine N l (s.number (negsuc n)) h = (h, tt)
bare_fine N l (s.word w) h = (tt, tt)
bare_fine N l (s.named ref) h = ref_fine N l ref h
bare_fine N l (s.at place) h = tt
bare_fine N l (s.minus e) h = (tt, fine_enclosed_unless N l (nat_le 7 (rank e)) (bare_pieces e) (bare_fine N l e h))
bare_fine N l (s.not e) h = (tt, fine_enclosed_unless N l (nat_le 2 (rank e)) (bare_pieces e) (bare_fine N l e h))
bare_fine N l (s.pair o a b) h =
    let left = fine_enclosed_unless N l (nat_le (left_place o) (rank a)) (bare_pieces a) (bare_fine N l a h.0) in
    let right = fine_enclosed_unless N l (nat_le (right_place o) (rank b)) (bare_pieces b) (bare_fine N l b h.1) in
    fine_append N l (enclosed_unless (nat_le (left_place o) (rank a)) (bare_pieces a)) (_ ∷ enclosed_unless (nat_le (right_place o) (rank b)) (bare_pieces b)) left (tt, right)

-- the pieces of an expression whose names and numbers are within their limits
pub tree_fine : (N : List ℕ → Type 0) (l : Limits) (place : ℕ) (e : Tree) → TreeFits N l e → AllFine N l (tree_pieces place e)
tree_fine N l place e h = fine_enclosed_unless N l (nat_le place (rank e)) (bare_pieces e) (bare_fine N l e h)
