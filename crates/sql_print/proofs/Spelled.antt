-- What is printed of an expression is in the grammar.
use Rattle.std.proofs.Common.{◌≡◌, ℕ, zero, suc, ◌≤◌, Bool, true, false, pos, negsuc, List, [], ◌∷◌, ◌++◌, length, Option, Some, None, inl, inr, ◌⊎◌, refl, sym, ap, subst, ◌∙◌, append_assoc, arith}
use Rattle.std.specs.Prelude.{nat_le}
use Rattle.std.proofs.lemmas.Bool.Decides.{nat_tests}
use Rattle.std.proofs.lemmas.List.{append-nil}
use Rattle.text_grammar.specs.Languages.{Lang, One, Then}
use Rattle.text_grammar.proofs.Rows.{row_one, row_snoc}
use Rattle.iv_types.specs.declared.terminal.Terminal.TheVariants as t
use Rattle.iv_types.specs.declared.expression.Op.{Op}
use Rattle.iv_types.specs.declared.expression.Op.TheVariants as op
use Rattle.iv_types.specs.declared.expression.Ref.{Ref}
use Rattle.iv_types.specs.Terminals.{same}
use Rattle.iv_types.specs.Tokens.{Symbol, fixed, name, number, text}
use Rattle.iv_types.specs.Limits.{Limits, allows}
use Rattle.iv_types.specs.Expressions.{text_in, or_op, and_op, comparison_op, sum_op, product_op, paired, Chain, Nested, ANumber, AName, AReference, Signed, Unary, Negated, Product, Sum, Comparison, Negation, Conjunction, Disjunction, nested, AnExpression}
use Rattle.iv_types.specs.Syntax as s
use Rattle.iv_types.specs.Syntax.{Tree}
use Rattle.iv_types.specs.Printing as p
use Rattle.iv_types.specs.Printing.{Piece, rank, operator_rank, left_place, right_place, operator_mark, enclosed_unless, ref_pieces, bare_pieces, tree_pieces}
use Rattle.sql_print.proofs.Printed.{piece_symbols, symbols_of_pieces}
use Rattle.sql_print.proofs.Levels.{levels, bare_levels, wrap_levels}
use Rattle.sql_print.proofs.Facts.{NameFits, RefFits, TreeFits, expression_facts, AllReal}

pub symbols-append : (ps qs : List Piece) → symbols_of_pieces (ps ++ qs) ≡ symbols_of_pieces ps ++ symbols_of_pieces qs
symbols-append [] qs = refl
symbols-append (q ∷ ps) qs = ap (λ (l : List Symbol). piece_symbols q ++ l) (symbols-append ps qs) ∙ sym (append_assoc (piece_symbols q) (symbols_of_pieces ps) (symbols_of_pieces qs))

-- the language of a place
abbrev At : Limits → Nested → ℕ → Lang Symbol Tree
At l n zero = Disjunction l n
At l n (suc zero) = Conjunction l n
At l n (suc (suc zero)) = Negation l n
At l n (suc (suc (suc zero))) = Comparison l n
At l n (suc (suc (suc (suc zero)))) = Sum l n
At l n (suc (suc (suc (suc (suc zero))))) = Product l n
At l n (suc (suc (suc (suc (suc (suc zero)))))) = Unary l n
At l n (suc (suc (suc (suc (suc (suc (suc place))))))) = Signed l n

chain_one : (pick : Symbol → Option Op) (lang : Lang Symbol Tree) (ts : List Symbol) (e : Tree) → lang ts e → Chain pick lang ts e
chain_one pick lang ts e h = row_one (λ a. a) paired lang (λ _. Then (One pick) lang) ts e h

chain_more : (pick : Symbol → Option Op) (lang : Lang Symbol Tree) (ts us : List Symbol) (a x : Tree) (o : Op) (token : Symbol) → pick token ≡ Some o → Chain pick lang ts a → lang us x → Chain pick lang (ts ++ (token ∷ us)) (s.pair o a x)
chain_more pick lang ts us a x o token e h k = row_snoc (λ a. a) paired lang (λ _. Then (One pick) lang) ts (token ∷ us) a (o, x) h (record { front = token ∷ []; back = us; text = refl; first = record { token = token; text = refl; value = e }; second = k })

-- a tighter place will do
looser : (l : Limits) (n : Nested) (place : ℕ) (ts : List Symbol) (e : Tree) → At l n (suc place) ts e → At l n place ts e
unfolding Disjunction Conjunction Negation Comparison Sum Product Unary
looser l n zero ts e h = chain_one or_op (Conjunction l n) ts e h
looser l n (suc zero) ts e h = chain_one and_op (Negation l n) ts e h
looser l n (suc (suc zero)) ts e h = inr h
looser l n (suc (suc (suc zero))) ts e h = record { value = (e, None); spelled = record { front = ts; back = []; text = sym (append-nil ts); first = h; second = refl }; made = refl }
looser l n (suc (suc (suc (suc zero)))) ts e h = chain_one sum_op (Product l n) ts e h
looser l n (suc (suc (suc (suc (suc zero))))) ts e h = chain_one product_op (Unary l n) ts e h
looser l n (suc (suc (suc (suc (suc (suc zero)))))) ts e h = inr h
looser l n (suc (suc (suc (suc (suc (suc (suc place))))))) ts e h = h

eq_or_le : (x y : ℕ) → x ≤ suc y → (x ≡ suc y) ⊎ (x ≤ y)
eq_or_le x y le = grind arith

down : (l : Limits) (n : Nested) (q place : ℕ) (ts : List Symbol) (e : Tree) → place ≤ q → At l n q ts e → At l n place ts e
down l n zero place ts e le h = let z : place ≡ 0 = omega arith in rw z h
down l n (suc q) place ts e le h =
    elim (eq_or_le place q le) [
      | inl same ↦ rw same h
      | inr less ↦ down l n q place ts e less (looser l n q ts e h)
    ]

-- in parentheses, one level further in
wrapped : (l : Limits) (n place : ℕ) (ps : List Piece) (e : Tree) (test : Bool) (k : ℕ) → place ≤ 7 → wrap_levels test k ≤ n → (test ≡ true → At l (nested l n) place (symbols_of_pieces ps) e) → ((m : ℕ) → k ≤ m → Disjunction l (nested l m) (symbols_of_pieces ps) e) → At l (nested l n) place (symbols_of_pieces (enclosed_unless test ps)) e
unfolding nested Signed same
wrapped l n place ps e true k le fits plain inside = plain refl
wrapped l zero place ps e false k le fits plain inside = absurd (omega arith)
wrapped l (suc m) place ps e false k le fits plain inside =
    down l (nested l (suc m)) 7 place (symbols_of_pieces (enclosed_unless false ps)) e le (inr (inl (record {
      token = fixed t.Open;
      back = symbols_of_pieces (ps ++ p.fixed t.Close ∷ []);
      text = refl;
      is = refl;
      value = record {
        value = (e, tt);
        spelled = record { front = symbols_of_pieces ps; back = fixed t.Close ∷ []; text = symbols-append ps (p.fixed t.Close ∷ []); first = inside m (omega arith); second = record { token = fixed t.Close; text = refl; value = refl } };
        made = refl;
      };
    })))

le_true : (x y : ℕ) → nat_le x y ≡ true → x ≤ y
le_true x y h = grind (arith, nat_tests)

plain_levels : (test : Bool) (k n : ℕ) → wrap_levels test k ≤ n → k ≤ n
plain_levels true k n h = h
plain_levels false k n h = omega arith

-- at a place, where it is in the grammar at its rank
placed : (l : Limits) (n place : ℕ) (e : Tree) → place ≤ 7 → levels place e ≤ n → ((m : ℕ) → bare_levels e ≤ m → At l (nested l m) (rank e) (symbols_of_pieces (bare_pieces e)) e) → At l (nested l n) place (symbols_of_pieces (tree_pieces place e)) e
placed l n place e le fits h =
    wrapped l n place (bare_pieces e) e (nat_le place (rank e)) (bare_levels e) le fits
    (λ there. down l (nested l n) (rank e) place (symbols_of_pieces (bare_pieces e)) e (le_true place (rank e) there) (h n (plain_levels (nat_le place (rank e)) (bare_levels e) n fits)))
    (λ m small. down l (nested l m) (rank e) 0 (symbols_of_pieces (bare_pieces e)) e (omega arith) (h m small))

compare : (l : Limits) (n : Nested) (o : Op) (token : Symbol) (ts us : List Symbol) (a x : Tree) → comparison_op token ≡ Some o → Sum l n ts a → Sum l n us x → Comparison l n (ts ++ (token ∷ us)) (s.pair o a x)
unfolding Comparison
compare l n o token ts us a x e h k = record { value = (a, Some (o, x)); spelled = record { front = ts; back = token ∷ us; text = refl; first = h; second = record { front = token ∷ []; back = us; text = refl; first = record { token = token; text = refl; value = e }; second = k } }; made = refl }

operator_spelled : (l : Limits) (n : Nested) (o : Op) (ts us : List Symbol) (a x : Tree) → At l n (left_place o) ts a → At l n (right_place o) us x → At l n (operator_rank o) (ts ++ (fixed (operator_mark o) ∷ us)) (s.pair o a x)
unfolding Disjunction Conjunction Sum Product
operator_spelled l n op.Or ts us a x h k = chain_more or_op (Conjunction l n) ts us a x op.Or (fixed t.Or) refl h k
operator_spelled l n op.And ts us a x h k = chain_more and_op (Negation l n) ts us a x op.And (fixed t.And) refl h k
operator_spelled l n op.Equal ts us a x h k = compare l n op.Equal (fixed t.Equal) ts us a x refl h k
operator_spelled l n op.NotEqual ts us a x h k = compare l n op.NotEqual (fixed t.NotEqual) ts us a x refl h k
operator_spelled l n op.Less ts us a x h k = compare l n op.Less (fixed t.Less) ts us a x refl h k
operator_spelled l n op.AtMost ts us a x h k = compare l n op.AtMost (fixed t.AtMost) ts us a x refl h k
operator_spelled l n op.Greater ts us a x h k = compare l n op.Greater (fixed t.Greater) ts us a x refl h k
operator_spelled l n op.AtLeast ts us a x h k = compare l n op.AtLeast (fixed t.AtLeast) ts us a x refl h k
operator_spelled l n op.Add ts us a x h k = chain_more sum_op (Product l n) ts us a x op.Add (fixed t.Plus) refl h k
operator_spelled l n op.Subtract ts us a x h k = chain_more sum_op (Product l n) ts us a x op.Subtract (fixed t.Minus) refl h k
operator_spelled l n op.Multiply ts us a x h k = chain_more product_op (Unary l n) ts us a x op.Multiply (fixed t.Star) refl h k

left_small : (o : Op) → left_place o ≤ 7
left_small op.Or = omega arith
left_small _ = omega arith

right_small : (o : Op) → right_place o ≤ 7
right_small op.Or = omega arith
right_small _ = omega arith

-- ---- single symbols

pub name_spelled : (N : List ℕ → Type 0) (l : Limits) (w : List ℕ) → NameFits N l w → AName l (name w ∷ []) w
name_spelled N l w h = record { token = name w; text = refl; value = rw h.0 refl }

pub number_spelled : (l : Limits) (n : ℕ) → allows l.number_value n ≡ true → ANumber l (number n ∷ []) n
number_spelled l n h = record { token = number n; text = refl; value = rw h refl }

text_spelled : (l : Limits) (w : List ℕ) → allows l.text_bytes (length w) ≡ true → One (text_in l.text_bytes) (text w ∷ []) w
text_spelled l w h = record { token = text w; text = refl; value = rw h refl }

qualified : (N : List ℕ → Type 0) (l : Limits) (w : List ℕ) (q : Option (List ℕ)) → RefFits N l (record { qualifier = q; name = w }) → AReference l (symbols_of_pieces (ref_pieces (record { qualifier = q; name = w }))) (record { qualifier = q; name = w })
unfolding AReference same
qualified N l w None h = record { value = (w, None); spelled = record { front = name w ∷ []; back = []; text = refl; first = name_spelled N l w h.0; second = refl }; made = refl }
qualified N l w (Some q) h = record { value = (q, Some w); spelled = record { front = name q ∷ []; back = fixed t.Point ∷ name w ∷ []; text = refl; first = name_spelled N l q h.1; second = record { token = fixed t.Point; back = name w ∷ []; text = refl; is = refl; value = name_spelled N l w h.0 } }; made = refl }

pub reference_spelled : (N : List ℕ → Type 0) (l : Limits) (ref : Ref) → RefFits N l ref → AReference l (symbols_of_pieces (ref_pieces ref)) ref
reference_spelled N l ref h = qualified N l ref.name ref.qualifier h

-- what is printed with no parentheses around it is in the grammar at its rank
bare_spelled : (N : List ℕ → Type 0) (l : Limits) (e : Tree) (n : ℕ) → TreeFits N l e → bare_levels e ≤ n → At l (nested l n) (rank e) (symbols_of_pieces (bare_pieces e)) e
unfolding bare_pieces nested Signed Unary Negated Negation same
bare_spelled N l (s.number (pos v)) n fits deep = inl (record { value = v; spelled = number_spelled l v fits; made = refl })
bare_spelled N l (s.number (negsuc v)) zero fits deep = absurd (omega arith)
bare_spelled N l (s.number (negsuc v)) (suc n) fits deep = inl (record { token = fixed t.Minus; back = number (suc v) ∷ []; text = refl; is = refl; value = inl (record { value = suc v; spelled = number_spelled l (suc v) fits; made = refl }) })
bare_spelled N l (s.word w) n fits deep = inr (inr (inl (record { value = w; spelled = text_spelled l w fits; made = refl })))
bare_spelled N l (s.named ref) n fits deep = inr (inr (inr (record { value = ref; spelled = reference_spelled N l ref fits; made = refl })))
bare_spelled N l (s.at place) n fits deep = absurd fits
bare_spelled N l (s.minus e) zero fits deep = absurd (omega arith)
bare_spelled N l (s.minus e) (suc n) fits deep = inl (record { token = fixed t.Minus; back = symbols_of_pieces (tree_pieces 7 e); text = refl; is = refl; value = inr (record { value = e; spelled = placed l n 7 e (omega arith) (omega arith) (λ m small. bare_spelled N l e m fits small); made = refl }) })
bare_spelled N l (s.not e) zero fits deep = absurd (omega arith)
bare_spelled N l (s.not e) (suc n) fits deep = inl (record { token = fixed t.Not; back = symbols_of_pieces (tree_pieces 2 e); text = refl; is = refl; value = record { value = e; spelled = placed l n 2 e (omega arith) (omega arith) (λ m small. bare_spelled N l e m fits small); made = refl } })
bare_spelled N l (s.pair o a x) n fits deep =
    let ts = symbols_of_pieces (tree_pieces (left_place o) a) in
    let us = symbols_of_pieces (tree_pieces (right_place o) x) in
    subst (λ (z : List Symbol). At l (nested l n) (operator_rank o) z (s.pair o a x)) (sym (symbols-append (tree_pieces (left_place o) a) (p.fixed (operator_mark o) ∷ tree_pieces (right_place o) x)))
    (operator_spelled l (nested l n) o ts us a x
    (placed l n (left_place o) a (left_small o) (omega arith) (λ m small. bare_spelled N l a m fits.0 small))
    (placed l n (right_place o) x (right_small o) (omega arith) (λ m small. bare_spelled N l x m fits.1 small)))

-- the printed text of every expression of a text is that of the same expression
pub expression_again : (N : List ℕ → Type 0) (l : Limits) (ts : List Symbol) (e : Tree) → AnExpression l ts e → AllReal N ts → AnExpression l (symbols_of_pieces (tree_pieces 0 e)) e
unfolding AnExpression
expression_again N l ts e h all =
    let f = expression_facts N l ts e h all in
    (placed l l.nesting 0 e (omega arith) f.deep (λ m small. bare_spelled N l e m f.fits small), h.1)
