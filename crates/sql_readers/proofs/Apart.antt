-- Kinds of tokens that are apart.
use Rattle.std.proofs.Common.{◌≡◌, ℕ, List, Bool, true, false, cond, Option, Some, None, refl, ap, ◌∙◌}
use Rattle.std.specs.Prelude.{is_some, ◌||◌}
use Rattle.std.specs.Str.{bytes_eq}
use Rattle.iv_types.proofs.Spellings.{same_alike}
use Rattle.text_grammar.specs.Readers.{is}
use Rattle.iv_types.specs.declared.terminal.Terminal.{Terminal}
use Rattle.iv_types.specs.declared.terminal.Terminal.TheVariants as t
use Rattle.iv_types.specs.Terminals.{spelling, same}
use Rattle.iv_types.specs.Tokens.{Symbol, fixed, name, number, text}
use Rattle.iv_types.specs.Expressions.{the, name_in, number_in, text_in, or_op, and_op, comparison_op, sum_op, product_op}
use Rattle.sql_readers.specs.Ladder.{is_name, is_number, is_text}

-- ---- keywords and marks

some_of : {A : Type 0} (b : Bool) (a : A) → is_some (cond b (Some a) None) ≡ true → b ≡ true
some_of true a h = refl
some_of false a h = absurd cc

-- a token of one kind is of no other
pub apart_kinds : (j k : Terminal) (x : Symbol) → bytes_eq (spelling j) (spelling k) ≡ false → is (the j) x ≡ true → is (the k) x ≡ false
unfolding same
apart_kinds j k (fixed i) e h =
    let differ : same i k ≡ false = ap (λ (z : List ℕ). bytes_eq z (spelling k)) (same_alike i j (some_of (same i j) (tt {0}) h)) ∙ e in
    rw differ refl
apart_kinds j k _ e h = absurd cc

-- ---- names, numbers and texts

pub name_is : (most : Option ℕ) (x : Symbol) → is (name_in most) x ≡ true → is_name x ≡ true
name_is most (name n) h = refl
name_is most _ h = absurd cc

pub number_is : (most : Option ℕ) (x : Symbol) → is (number_in most) x ≡ true → is_number x ≡ true
number_is most (number n) h = refl
number_is most _ h = absurd cc

pub text_is : (most : Option ℕ) (x : Symbol) → is (text_in most) x ≡ true → is_text x ≡ true
text_is most (text n) h = refl
text_is most _ h = absurd cc

-- a keyword or a mark is none of these
pub fixed_not_name : (k : Terminal) (x : Symbol) → is (the k) x ≡ true → is_name x ≡ false
fixed_not_name k (fixed i) h = refl
fixed_not_name k _ h = absurd cc

pub fixed_not_number : (k : Terminal) (x : Symbol) → is (the k) x ≡ true → is_number x ≡ false
fixed_not_number k (fixed i) h = refl
fixed_not_number k _ h = absurd cc

pub fixed_not_text : (k : Terminal) (x : Symbol) → is (the k) x ≡ true → is_text x ≡ false
fixed_not_text k (fixed i) h = refl
fixed_not_text k _ h = absurd cc

pub name_not_fixed : (k : Terminal) (x : Symbol) → is_name x ≡ true → is (the k) x ≡ false
name_not_fixed k (name n) h = refl
name_not_fixed k _ h = absurd cc

pub number_not_fixed : (k : Terminal) (x : Symbol) → is_number x ≡ true → is (the k) x ≡ false
number_not_fixed k (number n) h = refl
number_not_fixed k _ h = absurd cc

pub text_not_fixed : (k : Terminal) (x : Symbol) → is_text x ≡ true → is (the k) x ≡ false
text_not_fixed k (text n) h = refl
text_not_fixed k _ h = absurd cc

pub name_not_number : (x : Symbol) → is_name x ≡ true → is_number x ≡ false
name_not_number (name n) h = refl
name_not_number _ h = absurd cc

pub name_not_text : (x : Symbol) → is_name x ≡ true → is_text x ≡ false
name_not_text (name n) h = refl
name_not_text _ h = absurd cc

pub text_not_number : (x : Symbol) → is_text x ≡ true → is_number x ≡ false
text_not_number (text n) h = refl
text_not_number _ h = absurd cc

-- ---- operators

-- an operator of one rule is none of the rules that bind more tightly
pub product_ends : (x : Symbol) → is product_op x ≡ true → is (the t.Point) x ≡ false
unfolding same
product_ends (fixed t.Star) h = refl
product_ends _ h = absurd cc

abbrev pub on_unary : Symbol → Bool
on_unary x = is (the t.Point) x

abbrev pub on_product : Symbol → Bool
on_product x = on_unary x || is product_op x

abbrev pub on_sum : Symbol → Bool
on_sum x = on_product x || is sum_op x

abbrev pub on_comparison : Symbol → Bool
on_comparison x = on_sum x || is comparison_op x

abbrev pub on_conjunction : Symbol → Bool
on_conjunction x = on_comparison x || is and_op x

-- what goes on with an expression
abbrev pub on_expression : Symbol → Bool
on_expression x = on_conjunction x || is or_op x

pub sum_ends : (x : Symbol) → is sum_op x ≡ true → on_product x ≡ false
unfolding same
sum_ends (fixed t.Plus) h = refl
sum_ends (fixed t.Minus) h = refl
sum_ends _ h = absurd cc

pub comparison_ends : (x : Symbol) → is comparison_op x ≡ true → on_sum x ≡ false
unfolding same
comparison_ends (fixed t.Equal) h = refl
comparison_ends (fixed t.NotEqual) h = refl
comparison_ends (fixed t.Less) h = refl
comparison_ends (fixed t.AtMost) h = refl
comparison_ends (fixed t.Greater) h = refl
comparison_ends (fixed t.AtLeast) h = refl
comparison_ends _ h = absurd cc

pub and_ends : (x : Symbol) → is and_op x ≡ true → on_comparison x ≡ false
unfolding same
and_ends (fixed t.And) h = refl
and_ends _ h = absurd cc

pub or_ends : (x : Symbol) → is or_op x ≡ true → on_conjunction x ≡ false
unfolding same
or_ends (fixed t.Or) h = refl
or_ends _ h = absurd cc

-- a closing parenthesis goes on with no expression
pub close_ends : (x : Symbol) → is (the t.Close) x ≡ true → on_expression x ≡ false
unfolding same
close_ends (fixed t.Close) h = refl
close_ends _ h = absurd cc
