-- What spells a statement, put together from what spells its parts.
use Rattle.std.specs.Prelude.{◌≡◌, ℕ, Bool, true, List, [], ◌∷◌, ◌++◌, Option, Some, None}
use mathlib.Core.Path.{refl, sym, subst}
use mathlib.Core.Logic.{inl, inr}
use Rattle.std.proofs.Common.{append-nil}
use Rattle.text_grammar.specs.Languages.{Lang, One, Both, Behind, Before, Mapped, Either, Perhaps, Many}
use Rattle.iv_types.specs.declared.terminal.Terminal.{Terminal}
use Rattle.iv_types.specs.Limits.{the_limits}
use Rattle.iv_types.specs.Tokens.{Symbol, fixed, tokens, symbols}
use Rattle.iv_types.specs.Expressions.{the}
use Rattle.iv_types.specs.Syntax.{StatementTree}
use Rattle.iv_types.specs.Grammar.{Only, Spells, ALine, AStatement}
use Rattle.iv_types.proofs.Spellings.{the_value, the_some}

-- tokens that spell a value
pub record Piece {A : Type 0} (p : Lang Symbol A) (a : A) : Type 0 where
  pub ts : List Symbol
  pub is : p ts a

abbrev pub one : {A : Type 0} {pick : Symbol → Option A} {a : A} (token : Symbol) → pick token ≡ Some a → Piece (One pick) a
one token e = record { ts = token ∷ []; is = record { token = token; text = refl; value = e } }

abbrev pub left : {A : Type 0} {p q : Lang Symbol A} {a : A} → Piece p a → Piece (Either p q) a
left x = record { ts = x.ts; is = inl x.is }

abbrev pub right : {A : Type 0} {p q : Lang Symbol A} {a : A} → Piece q a → Piece (Either p q) a
right x = record { ts = x.ts; is = inr x.is }

abbrev pub none : {A : Type 0} {p : Lang Symbol A} → Piece (Perhaps p) None
none = record { ts = []; is = refl }

abbrev pub some : {A : Type 0} {p : Lang Symbol A} {a : A} → Piece p a → Piece (Perhaps p) (Some a)
some x = record { ts = x.ts; is = x.is }

abbrev pub made : {A B : Type 0} {f : A → B} {p : Lang Symbol A} (a : A) → Piece p a → Piece (Mapped f p) (f a)
made a x = record { ts = x.ts; is = record { value = a; spelled = x.is; made = refl } }

abbrev pub behind : {A : Type 0} {p : Lang Symbol A} {a : A} (k : Terminal) → Piece p a → Piece (Behind (the k) p) a
behind k x = record { ts = fixed k ∷ x.ts; is = record { token = fixed k; back = x.ts; text = refl; is = the_some k; value = x.is } }

abbrev pub both : {A B : Type 0} {p : Lang Symbol A} {q : A → Lang Symbol B} {a : A} {b : B} → Piece p a → Piece (q a) b → Piece (Both p q) (a, b)
both x y = record { ts = x.ts ++ y.ts; is = record { front = x.ts; back = y.ts; text = refl; first = x.is; second = y.is } }

abbrev pub before : {A : Type 0} {p : Lang Symbol A} {a : A} (k : Terminal) → Piece p a → Piece (Before (the k) p) a
before {a = a} k x = made (a, tt) (both x (one (fixed k) (the_value k)))

-- where a test holds
abbrev pub only : {A : Type 0} {test : Bool} {p : Lang Symbol A} {a : A} → test ≡ true → Piece p a → Piece (Only test p) a
only e x = record { ts = x.ts; is = (e, x.is) }

abbrev pub no_more : {A B : Type 0} {step : A → B → A} {q : A → Lang Symbol B} {a : A} → Piece (Many step q a) []
no_more = record { ts = []; is = refl }

abbrev pub more : {A B : Type 0} {step : A → B → A} {q : A → Lang Symbol B} {a : A} {b : B} {bs : List B} → Piece (q a) b → Piece (Many step q (step a b)) bs → Piece (Many step q a) (b ∷ bs)
more x y = record { ts = x.ts ++ y.ts; is = record { front = x.ts; back = y.ts; text = refl; first = x.is; second = y.is } }

-- what is spelled so is written
pub written : (text : List ℕ) (statement : StatementTree) (x : Piece (AStatement the_limits) statement) → symbols (tokens text) ≡ x.ts → Spells text statement
unfolding ALine
written text statement x e = subst (λ ts. ALine the_limits ts statement) (sym e) (record {
  value = (statement, None);
  spelled = record { front = x.ts; back = []; text = sym (append-nil x.ts); first = x.is; second = refl };
  made = refl;
})
