-- What a derivation says of the expression that it derives.
use Rattle.std.proofs.Common.{◌≡◌, ℕ, zero, suc, ◌≤◌, Bool, true, false, pos, negsuc, List, [], ◌∷◌, ◌++◌, length, Option, Some, None, inl, inr, refl, sym, subst, arith}
use Rattle.std.specs.Prelude.{if◌then◌else◌}
use Rattle.std.specs.List.{AllByRecursion}
use Rattle.text_grammar.specs.Languages.{Lang, One, Then, Behind, Before, Mapped, Many, Perhaps, fold_left}
use Rattle.iv_types.specs.declared.terminal.Terminal.TheVariants as t
use Rattle.iv_types.specs.declared.expression.Op.{Op}
use Rattle.iv_types.specs.declared.expression.Op.TheVariants as op
use Rattle.iv_types.specs.declared.expression.Ref.{Ref}
use Rattle.iv_types.specs.Tokens.{Symbol, fixed, name, number, text, hole}
use Rattle.iv_types.specs.Limits.{Limits, allows}
use Rattle.iv_types.specs.Expressions.{the, name_in, number_in, text_in, or_op, and_op, comparison_op, sum_op, product_op, paired, Chain, Nested, AName, ref_of, negative, compared, AReference, Signed, Unary, Negated, Product, Sum, Comparison, Negation, Conjunction, Disjunction, nested, AnExpression}
use Rattle.iv_types.specs.Syntax as s
use Rattle.iv_types.specs.Syntax.{Tree}
use Rattle.iv_types.specs.Printing.{operator_rank, left_place, right_place}
use Rattle.sql_print.proofs.Levels.{levels, looser_levels, enclosed_levels, pair_levels}

-- a symbol of a text, whose names have a property
abbrev pub Real : (List ℕ → Type 0) → Symbol → Type 0
Real N hole = ⊥
Real N (name w) = N w
Real N _ = Unit {0}

abbrev pub AllReal : (List ℕ → Type 0) → List Symbol → Type 0
AllReal N ts = AllByRecursion (Real N) ts

abbrev pub NameFits : (List ℕ → Type 0) → Limits → List ℕ → Type 0
NameFits N l w = (allows l.name_bytes (length w) ≡ true) × N w

abbrev pub PerhapsFits : (List ℕ → Type 0) → Limits → Option (List ℕ) → Type 0
PerhapsFits N l None = Unit {0}
PerhapsFits N l (Some w) = NameFits N l w

abbrev pub RefFits : (List ℕ → Type 0) → Limits → Ref → Type 0
RefFits N l ref = NameFits N l ref.name × PerhapsFits N l ref.qualifier

-- names, numbers and texts are within their limits
abbrev pub TreeFits : (List ℕ → Type 0) → Limits → Tree → Type 0
TreeFits N l (s.number (pos n)) = allows l.number_value n ≡ true
TreeFits N l (s.number (negsuc n)) = allows l.number_value (suc n) ≡ true
TreeFits N l (s.word bytes) = allows l.text_bytes (length bytes) ≡ true
TreeFits N l (s.named ref) = RefFits N l ref
TreeFits N l (s.at place) = ⊥
TreeFits N l (s.minus e) = TreeFits N l e
TreeFits N l (s.not e) = TreeFits N l e
TreeFits N l (s.pair o a b) = TreeFits N l a × TreeFits N l b

-- what printing needs of an expression at a place, in so many levels
pub record Facts (N : List ℕ → Type 0) (l : Limits) (n p : ℕ) (e : Tree) : Type 0 where
  pub fits : TreeFits N l e
  pub deep : levels p e ≤ n

-- ---- symbols

pub all_front : {A : Type 0} (P : A → Type 0) (xs ys : List A) → AllByRecursion P (xs ++ ys) → AllByRecursion P xs
all_front P [] ys h = tt
all_front P (x ∷ xs) ys h = (h.0, all_front P xs ys h.1)

pub all_back : {A : Type 0} (P : A → Type 0) (xs ys : List A) → AllByRecursion P (xs ++ ys) → AllByRecursion P ys
all_back P [] ys h = h
all_back P (x ∷ xs) ys h = all_back P xs ys h.1

if_some : {A : Type 0} (b : Bool) (v w : A) → (if b then Some v else None) ≡ Some w → (b ≡ true) × (v ≡ w)
if_some true v w h = (refl, cc)
if_some false v w h = absurd cc

name_symbol : (N : List ℕ → Type 0) (most : Option ℕ) (symbol : Symbol) (w : List ℕ) → name_in most symbol ≡ Some w → Real N symbol → (allows most (length w) ≡ true) × N w
name_symbol N most (name v) w h real =
    let both = if_some (allows most (length v)) v w h in
    subst (λ (x : List ℕ). (allows most (length x) ≡ true) × N x) both.1 (both.0, real)
name_symbol N most _ w h real = absurd cc

number_symbol : (most : Option ℕ) (symbol : Symbol) (n : ℕ) → number_in most symbol ≡ Some n → allows most n ≡ true
number_symbol most (number m) n h =
    let both = if_some (allows most m) m n h in
    subst (λ (x : ℕ). allows most x ≡ true) both.1 both.0
number_symbol most _ n h = absurd cc

text_symbol : (most : Option ℕ) (symbol : Symbol) (w : List ℕ) → text_in most symbol ≡ Some w → allows most (length w) ≡ true
text_symbol most (text v) w h =
    let both = if_some (allows most (length v)) v w h in
    subst (λ (x : List ℕ). allows most (length x) ≡ true) both.1 both.0
text_symbol most _ w h = absurd cc

pub name_facts : (N : List ℕ → Type 0) (l : Limits) (ts : List Symbol) (w : List ℕ) → AName l ts w → AllReal N ts → NameFits N l w
name_facts N l ts w h all = name_symbol N l.name_bytes h.token w h.value (subst (AllReal N) h.text all).0

pub number_facts : (l : Limits) (ts : List Symbol) (n : ℕ) → One (number_in l.number_value) ts n → allows l.number_value n ≡ true
number_facts l ts n h = number_symbol l.number_value h.token n h.value

text_facts : (l : Limits) (ts : List Symbol) (w : List ℕ) → One (text_in l.text_bytes) ts w → allows l.text_bytes (length w) ≡ true
text_facts l ts w h = text_symbol l.text_bytes h.token w h.value

-- ---- operators

along : (P : Op → Type 0) (a o : Op) → Some a ≡ Some o → P a → P o
along P a o e h = let same : a ≡ o = cc in subst P same h

-- where an operator and its operands stand
abbrev Places : ℕ → ℕ → ℕ → Op → Type 0
Places p q r o = (operator_rank o ≡ p) × (left_place o ≡ q) × (right_place o ≡ r)

or_places : (symbol : Symbol) (o : Op) → or_op symbol ≡ Some o → Places 0 0 1 o
or_places (fixed t.Or) o h = along (Places 0 0 1) op.Or o h (refl, refl, refl)
or_places _ o h = absurd cc

and_places : (symbol : Symbol) (o : Op) → and_op symbol ≡ Some o → Places 1 1 2 o
and_places (fixed t.And) o h = along (Places 1 1 2) op.And o h (refl, refl, refl)
and_places _ o h = absurd cc

comparison_places : (symbol : Symbol) (o : Op) → comparison_op symbol ≡ Some o → Places 3 4 4 o
comparison_places (fixed t.Equal) o h = along (Places 3 4 4) op.Equal o h (refl, refl, refl)
comparison_places (fixed t.NotEqual) o h = along (Places 3 4 4) op.NotEqual o h (refl, refl, refl)
comparison_places (fixed t.Less) o h = along (Places 3 4 4) op.Less o h (refl, refl, refl)
comparison_places (fixed t.AtMost) o h = along (Places 3 4 4) op.AtMost o h (refl, refl, refl)
comparison_places (fixed t.Greater) o h = along (Places 3 4 4) op.Greater o h (refl, refl, refl)
comparison_places (fixed t.AtLeast) o h = along (Places 3 4 4) op.AtLeast o h (refl, refl, refl)
comparison_places _ o h = absurd cc

sum_places : (symbol : Symbol) (o : Op) → sum_op symbol ≡ Some o → Places 4 4 5 o
sum_places (fixed t.Plus) o h = along (Places 4 4 5) op.Add o h (refl, refl, refl)
sum_places (fixed t.Minus) o h = along (Places 4 4 5) op.Subtract o h (refl, refl, refl)
sum_places _ o h = absurd cc

product_places : (symbol : Symbol) (o : Op) → product_op symbol ≡ Some o → Places 5 5 6 o
product_places (fixed t.Star) o h = along (Places 5 5 6) op.Multiply o h (refl, refl, refl)
product_places _ o h = absurd cc

-- ---- the ladder

looser_facts : {N : List ℕ → Type 0} {l : Limits} {n : ℕ} {e : Tree} (p : ℕ) → Facts N l n (suc p) e → Facts N l n p e
looser_facts {e = e} p h = record { fits = h.fits; deep = omega (arith, h.deep, looser_levels p e) }

pair_facts : (N : List ℕ → Type 0) (l : Limits) (n p q r : ℕ) (a : Tree) (o : Op) (y : Tree) → Places p q r o → Facts N l n q a → Facts N l n r y → Facts N l n p (s.pair o a y)
pair_facts N l n p q r a o y places fa fy = record {
  fits = (fa.fits, fy.fits);
  deep = pair_levels n p o a y places.0 (subst (λ (x : ℕ). levels x a ≤ n) (sym places.1) fa.deep) (subst (λ (x : ℕ). levels x y ≤ n) (sym places.2) fy.deep);
}

-- what stands at a place has its facts
abbrev Told : (List ℕ → Type 0) → Limits → ℕ → ℕ → Lang Symbol Tree → Type 0
Told N l n p lang = (ts : List Symbol) (e : Tree) → lang ts e → AllReal N ts → Facts N l n p e

operand_facts : (N : List ℕ → Type 0) (l : Limits) (n p q r : ℕ) (pick : Symbol → Option Op) (lang : Lang Symbol Tree) (places : (symbol : Symbol) (o : Op) → pick symbol ≡ Some o → Places p q r o) (told : Told N l n r lang) (a : Tree) (x : Op × Tree) (ts : List Symbol) → Facts N l n q a → Then (One pick) lang ts x → AllReal N ts → Facts N l n p (paired a x)
operand_facts N l n p q r pick lang places told a x ts fa h all =
    let real = subst (AllReal N) h.text all in
    pair_facts N l n p q r a x.0 x.1 (places h.first.token x.0 h.first.value) fa (told h.back x.1 h.second (all_back (Real N) h.front h.back real))

many_facts : (N : List ℕ → Type 0) (l : Limits) (n p : ℕ) (pick : Symbol → Option Op) (lang : Lang Symbol Tree) (places : (symbol : Symbol) (o : Op) → pick symbol ≡ Some o → Places p p (suc p) o) (told : Told N l n (suc p) lang) (a : Tree) (xs : List (Op × Tree)) (ts : List Symbol) → Facts N l n p a → Many paired (λ _. Then (One pick) lang) a ts xs → AllReal N ts → Facts N l n p (fold_left paired a xs)
many_facts N l n p pick lang places told a [] ts fa h all = fa
many_facts N l n p pick lang places told a (x ∷ xs) ts fa h all =
    let real = subst (AllReal N) h.text all in
    many_facts N l n p pick lang places told (paired a x) xs h.back
    (operand_facts N l n p p (suc p) pick lang places told a x h.front fa h.first (all_front (Real N) h.front h.back real))
    h.second (all_back (Real N) h.front h.back real)

chain_facts : (N : List ℕ → Type 0) (l : Limits) (n p : ℕ) (pick : Symbol → Option Op) (lang : Lang Symbol Tree) (places : (symbol : Symbol) (o : Op) → pick symbol ≡ Some o → Places p p (suc p) o) → Told N l n (suc p) lang → Told N l n p (Chain pick lang)
chain_facts N l n p pick lang places told ts e h all =
    let k = h.spelled in
    let real = subst (AllReal N) k.text all in
    subst (Facts N l n p) (sym h.made) (many_facts N l n p pick lang places told h.value.0 h.value.1 k.back
    (looser_facts p (told k.front h.value.0 k.first (all_front (Real N) k.front k.back real))) k.second (all_back (Real N) k.front k.back real))

-- what is known one level of nesting further in
pub record Inside (N : List ℕ → Type 0) (l : Limits) (n : ℕ) (nest : Nested) : Type 0 where
  pub group : Told N l n 7 nest.group
  pub minus : Told N l n 7 nest.minus
  pub inversion : Told N l n 2 nest.inversion

ref_fits : (N : List ℕ → Type 0) (l : Limits) (first : List ℕ) (second : Option (List ℕ)) (ts : List Symbol) → NameFits N l first → Perhaps (Behind (the t.Point) (AName l)) ts second → AllReal N ts → RefFits N l (ref_of (first, second))
ref_fits N l first None ts f h all = (f, tt)
ref_fits N l first (Some column) ts f h all = let real = subst (AllReal N) h.text all in (name_facts N l h.back column h.value real.1, f)

pub reference_facts : (N : List ℕ → Type 0) (l : Limits) (ts : List Symbol) (ref : Ref) → AReference l ts ref → AllReal N ts → RefFits N l ref
unfolding AReference
reference_facts N l ts ref h all =
    let k = h.spelled in
    let real = subst (AllReal N) k.text all in
    subst (RefFits N l) (sym h.made) (ref_fits N l h.value.0 h.value.1 k.back (name_facts N l k.front h.value.0 k.first (all_front (Real N) k.front k.back real)) k.second (all_back (Real N) k.front k.back real))

signed_facts : (N : List ℕ → Type 0) (l : Limits) (n : ℕ) (nest : Nested) → Inside N l n nest → Told N l n 7 (Signed l nest)
unfolding Signed
signed_facts N l n nest inside ts e (inl h) all = inside.minus ts e h all
signed_facts N l n nest inside ts e (inr (inl h)) all = inside.group ts e h all
signed_facts N l n nest inside ts e (inr (inr (inl h))) all = subst (Facts N l n 7) (sym h.made) (record { fits = text_facts l ts h.value h.spelled; deep = omega arith })
signed_facts N l n nest inside ts e (inr (inr (inr h))) all = subst (Facts N l n 7) (sym h.made) (record { fits = reference_facts N l ts h.value h.spelled all; deep = omega arith })

unary_facts : (N : List ℕ → Type 0) (l : Limits) (n : ℕ) (nest : Nested) → Inside N l n nest → Told N l n 6 (Unary l nest)
unfolding Unary
unary_facts N l n nest inside ts e (inl h) all = subst (Facts N l n 6) (sym h.made) (record { fits = number_facts l ts h.value h.spelled; deep = omega arith })
unary_facts N l n nest inside ts e (inr h) all = looser_facts 6 (signed_facts N l n nest inside ts e h all)

product_facts : (N : List ℕ → Type 0) (l : Limits) (n : ℕ) (nest : Nested) → Inside N l n nest → Told N l n 5 (Product l nest)
unfolding Product
product_facts N l n nest inside = chain_facts N l n 5 product_op (Unary l nest) product_places (unary_facts N l n nest inside)

sum_facts : (N : List ℕ → Type 0) (l : Limits) (n : ℕ) (nest : Nested) → Inside N l n nest → Told N l n 4 (Sum l nest)
unfolding Sum
sum_facts N l n nest inside = chain_facts N l n 4 sum_op (Product l nest) sum_places (product_facts N l n nest inside)

compared_facts : (N : List ℕ → Type 0) (l : Limits) (n : ℕ) (nest : Nested) → Inside N l n nest → (a : Tree) (o : Option (Op × Tree)) (ts : List Symbol) → Facts N l n 4 a → Perhaps (Then (One comparison_op) (Sum l nest)) ts o → AllReal N ts → Facts N l n 3 (compared (a, o))
compared_facts N l n nest inside a None ts fa h all = looser_facts 3 fa
compared_facts N l n nest inside a (Some x) ts fa h all = operand_facts N l n 3 4 4 comparison_op (Sum l nest) comparison_places (sum_facts N l n nest inside) a x ts fa h all

comparison_facts : (N : List ℕ → Type 0) (l : Limits) (n : ℕ) (nest : Nested) → Inside N l n nest → Told N l n 3 (Comparison l nest)
unfolding Comparison
comparison_facts N l n nest inside ts e h all =
    let k = h.spelled in
    let real = subst (AllReal N) k.text all in
    subst (Facts N l n 3) (sym h.made) (compared_facts N l n nest inside h.value.0 h.value.1 k.back (sum_facts N l n nest inside k.front h.value.0 k.first (all_front (Real N) k.front k.back real)) k.second (all_back (Real N) k.front k.back real))

negation_facts : (N : List ℕ → Type 0) (l : Limits) (n : ℕ) (nest : Nested) → Inside N l n nest → Told N l n 2 (Negation l nest)
unfolding Negation
negation_facts N l n nest inside ts e (inl h) all = inside.inversion ts e h all
negation_facts N l n nest inside ts e (inr h) all = looser_facts 2 (comparison_facts N l n nest inside ts e h all)

conjunction_facts : (N : List ℕ → Type 0) (l : Limits) (n : ℕ) (nest : Nested) → Inside N l n nest → Told N l n 1 (Conjunction l nest)
unfolding Conjunction
conjunction_facts N l n nest inside = chain_facts N l n 1 and_op (Negation l nest) and_places (negation_facts N l n nest inside)

disjunction_facts : (N : List ℕ → Type 0) (l : Limits) (n : ℕ) (nest : Nested) → Inside N l n nest → Told N l n 0 (Disjunction l nest)
unfolding Disjunction
disjunction_facts N l n nest inside = chain_facts N l n 0 or_op (Conjunction l nest) or_places (conjunction_facts N l n nest inside)

-- ---- one level of nesting further in

-- the minus of a number makes a negative literal, but for 0
negative_facts : (N : List ℕ → Type 0) (l : Limits) (n v : ℕ) → allows l.number_value v ≡ true → Facts N l (suc n) 7 (negative v)
negative_facts N l n zero h = record { fits = h; deep = omega arith }
negative_facts N l n (suc v) h = record { fits = h; deep = omega arith }

negated_facts : (N : List ℕ → Type 0) (l : Limits) (n : ℕ) (nest : Nested) → Inside N l n nest → Told N l (suc n) 7 (Negated l nest)
unfolding Negated
negated_facts N l n nest inside ts e (inl h) all = subst (Facts N l (suc n) 7) (sym h.made) (negative_facts N l n h.value (number_facts l ts h.value h.spelled))
negated_facts N l n nest inside ts e (inr h) all =
    let f = signed_facts N l n nest inside ts h.value h.spelled all in
    subst (Facts N l (suc n) 7) (sym h.made) (record { fits = f.fits; deep = omega (arith, f.deep) })

group_told : (N : List ℕ → Type 0) (l : Limits) (n : ℕ) (nest : Nested) → Inside N l n nest → Told N l (suc n) 7 (Behind (the t.Open) (Before (the t.Close) (Disjunction l nest)))
group_told N l n nest inside ts e h all =
    let real = subst (AllReal N) h.text all in
    let k = h.value.spelled in
    let within = subst (AllReal N) k.text real.1 in
    let f = disjunction_facts N l n nest inside k.front h.value.value.0 k.first (all_front (Real N) k.front k.back within) in
    subst (Facts N l (suc n) 7) (sym h.value.made) (record { fits = f.fits; deep = enclosed_levels 7 n h.value.value.0 f.deep })

minus_told : (N : List ℕ → Type 0) (l : Limits) (n : ℕ) (nest : Nested) → Inside N l n nest → Told N l (suc n) 7 (Behind (the t.Minus) (Negated l nest))
minus_told N l n nest inside ts e h all = let real = subst (AllReal N) h.text all in negated_facts N l n nest inside h.back e h.value real.1

inversion_told : (N : List ℕ → Type 0) (l : Limits) (n : ℕ) (nest : Nested) → Inside N l n nest → Told N l (suc n) 2 (Behind (the t.Not) (Mapped s.not (Negation l nest)))
inversion_told N l n nest inside ts e h all =
    let real = subst (AllReal N) h.text all in
    let f = negation_facts N l n nest inside h.back h.value.value h.value.spelled real.1 in
    subst (Facts N l (suc n) 2) (sym h.value.made) (record { fits = f.fits; deep = omega (arith, f.deep) })

inside_told : (N : List ℕ → Type 0) (l : Limits) (n : ℕ) → Inside N l n (nested l n)
unfolding nested
inside_told N l zero = record { group = λ ts e h all. absurd h; minus = λ ts e h all. absurd h; inversion = λ ts e h all. absurd h }
inside_told N l (suc n) = record {
  group = group_told N l n (nested l n) (inside_told N l n);
  minus = minus_told N l n (nested l n) (inside_told N l n);
  inversion = inversion_told N l n (nested l n) (inside_told N l n);
}

-- what every derivation of an expression says
pub expression_facts : (N : List ℕ → Type 0) (l : Limits) (ts : List Symbol) (e : Tree) → AnExpression l ts e → AllReal N ts → Facts N l l.nesting 0 e
unfolding AnExpression
expression_facts N l ts e h all = disjunction_facts N l l.nesting (nested l l.nesting) (inside_told N l l.nesting) ts e h.0 all
