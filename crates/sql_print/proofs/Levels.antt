-- The nesting of printed expressions.
use Rattle.std.proofs.Common.{◌≡◌, ℕ, suc, ◌≤◌, Bool, true, false, pos, negsuc, refl, arith}
use Rattle.std.specs.Prelude.{nat_le, max}
use Rattle.std.proofs.lemmas.Bool.Decides.{nat_tests}
use Rattle.iv_types.specs.declared.expression.Op.{Op}
use Rattle.iv_types.specs.Syntax as s
use Rattle.iv_types.specs.Syntax.{Tree}
use Rattle.iv_types.specs.Printing.{rank, operator_rank, left_place, right_place}

-- parentheses are a level
abbrev pub wrap_levels : Bool → ℕ → ℕ
wrap_levels true n = n
wrap_levels false n = suc n

-- the levels of an expression without parentheses around it
abbrev pub bare_levels : Tree → ℕ
bare_levels (s.number (pos n)) = 0
bare_levels (s.number (negsuc n)) = 1
bare_levels (s.word bytes) = 0
bare_levels (s.named ref) = 0
bare_levels (s.at place) = 0
bare_levels (s.minus e) = suc (wrap_levels (nat_le 7 (rank e)) (bare_levels e))
bare_levels (s.not e) = suc (wrap_levels (nat_le 2 (rank e)) (bare_levels e))
bare_levels (s.pair o a b) = max (wrap_levels (nat_le (left_place o) (rank a)) (bare_levels a)) (wrap_levels (nat_le (right_place o) (rank b)) (bare_levels b))

-- at a place
abbrev pub levels : ℕ → Tree → ℕ
levels p e = wrap_levels (nat_le p (rank e)) (bare_levels e)

wrap_le : (a b : Bool) (k : ℕ) → (b ≡ true → a ≡ true) → wrap_levels a k ≤ wrap_levels b k
wrap_le true true k h = omega arith
wrap_le true false k h = omega arith
wrap_le false true k h = let no : false ≡ true = h refl in absurd cc
wrap_le false false k h = omega arith

le_looser : (p r : ℕ) → nat_le (suc p) r ≡ true → nat_le p r ≡ true
le_looser p r h = grind (arith, nat_tests)

pub looser_levels : (p : ℕ) (e : Tree) → levels p e ≤ levels (suc p) e
looser_levels p e = wrap_le (nat_le p (rank e)) (nat_le (suc p) (rank e)) (bare_levels e) (le_looser p (rank e))

wrap_most : (a : Bool) (k : ℕ) → wrap_levels a k ≤ suc k
wrap_most true k = omega arith
wrap_most false k = omega arith

wrap_least : (a : Bool) (k : ℕ) → k ≤ wrap_levels a k
wrap_least true k = omega arith
wrap_least false k = omega arith

-- in parentheses at most
pub enclosed_levels : (p n : ℕ) (e : Tree) → levels 0 e ≤ n → levels p e ≤ suc n
enclosed_levels p n e h = omega (arith, wrap_most (nat_le p (rank e)) (bare_levels e), wrap_least (nat_le 0 (rank e)) (bare_levels e))

le_self : (p r : ℕ) → r ≡ p → nat_le p r ≡ true
le_self p r h = grind (arith, nat_tests)

pub pair_levels : (n p : ℕ) (o : Op) (a y : Tree) → operator_rank o ≡ p → levels (left_place o) a ≤ n → levels (right_place o) y ≤ n → levels p (s.pair o a y) ≤ n
pair_levels n p o a y e h k = let t : nat_le p (operator_rank o) ≡ true = le_self p (operator_rank o) e in rw t (omega arith)
