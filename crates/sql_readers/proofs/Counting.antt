-- The ladder with a budget spells the trees of the grammar that have no more operations than the budget has.
use Rattle.std.proofs.Common.{◌≡◌, ℕ, zero, suc, ◌+◌, ◌-◌, ◌<◌, ◌≤◌, true, List, [], ◌∷◌, Option, Some, None, refl, sym, ap, subst, arith, nat_lt, inl, inr}
use Rattle.text_grammar.specs.Languages.{Lang, One, Then, Behind, Before, Perhaps, Mapped, Many, fold_left}
use Rattle.iv_types.specs.declared.terminal.Terminal.{Terminal}
use Rattle.iv_types.specs.declared.terminal.Terminal.TheVariants as t
use Rattle.iv_types.specs.declared.expression.Op.{Op}
use Rattle.iv_types.specs.Tokens.{Symbol}
use Rattle.iv_types.specs.Limits.{Limits}
use Rattle.iv_types.specs.Syntax as s
use Rattle.iv_types.specs.Syntax.{Tree}
use Rattle.iv_types.specs.Expressions.{the, or_op, and_op, comparison_op, sum_op, product_op, operations, paired, compared, Chain as PlainChain, Nested as PlainNested, Signed as PlainSigned, Unary as PlainUnary, Negated as PlainNegated, Product as PlainProduct, Sum as PlainSum, Comparison as PlainComparison, Negation as PlainNegation, Conjunction as PlainConjunction, Disjunction as PlainDisjunction, nested as plain_nested}
use Rattle.sql_readers.proofs.Budget.{Operand, Chain, Spent, Nested, Signed, Unary, Negated, Product, Sum, Comparison, Negation, Conjunction, Disjunction, nested}

abbrev pub Bounded : (ℕ → Lang Symbol Tree) → Type 0
Bounded p = (b : ℕ) (ts : List Symbol) (e : Tree) → p b ts e → operations e ≤ b

-- with each budget p spells what q does and has no more operations
pub record Counts (p : ℕ → Lang Symbol Tree) (q : Lang Symbol Tree) : Type 0 where
  pub only : (b : ℕ) (ts : List Symbol) (e : Tree) → p b ts e → q ts e × (operations e ≤ b)
  pub all : (b : ℕ) (ts : List Symbol) (e : Tree) → q ts e → operations e ≤ b → p b ts e

pub bounded : (p : ℕ → Lang Symbol Tree) (q : Lang Symbol Tree) → Counts p q → Bounded p
bounded p q c b ts e h = (c.only b ts e h).1

-- ---- operators

pub below : (m n : ℕ) → nat_lt m n ≡ true → m < n
below m n h = grind arith

is_below : (m n : ℕ) → m < n → nat_lt m n ≡ true
is_below m n h = grind arith

-- what an operator and its operand add
pub operand_bounded : (pick : Symbol → Option Op) (p : ℕ → Lang Symbol Tree) → Bounded p → (b : ℕ) (a : Tree) (ts : List Symbol) (x : Op × Tree) → Operand pick p b a ts x → operations (paired a x) ≤ b
operand_bounded pick p q b a ts x h =
    let lt = below (operations a) b h.0 in
    let le = q (b - suc (operations a)) h.1.back x.1 h.1.second in
    omega (arith, lt, le)

operand_only : (pick : Symbol → Option Op) (p : ℕ → Lang Symbol Tree) (q : Lang Symbol Tree) → Counts p q → (b : ℕ) (a : Tree) (ts : List Symbol) (x : Op × Tree) → Operand pick p b a ts x → Then (One pick) q ts x
operand_only pick p q c b a ts x h = record { front = h.1.front; back = h.1.back; text = h.1.text; first = h.1.first; second = (c.only (b - suc (operations a)) h.1.back x.1 h.1.second).0 }

operand_all : (pick : Symbol → Option Op) (p : ℕ → Lang Symbol Tree) (q : Lang Symbol Tree) → Counts p q → (b : ℕ) (a : Tree) (ts : List Symbol) (x : Op × Tree) → Then (One pick) q ts x → operations (paired a x) ≤ b → Operand pick p b a ts x
operand_all pick p q c b a ts x h fits =
    let le : suc (operations a + operations x.1) ≤ b = fits in
    (is_below (operations a) b (omega (arith, le)), record { front = h.front; back = h.back; text = h.text; first = h.first; second = c.all (b - suc (operations a)) h.back x.1 h.second (omega (arith, le)) })

many_only : (pick : Symbol → Option Op) (p : ℕ → Lang Symbol Tree) (q : Lang Symbol Tree) → Counts p q → (b : ℕ) (a : Tree) (ts : List Symbol) (xs : List (Op × Tree)) → operations a ≤ b → Many paired (Operand pick p b) a ts xs → Many paired (λ _. Then (One pick) q) a ts xs × (operations (fold_left paired a xs) ≤ b)
many_only pick p q c b a ts [] le h = (h, le)
many_only pick p q c b a ts (x ∷ xs) le h =
    let rest = many_only pick p q c b (paired a x) h.back xs (operand_bounded pick p (bounded p q c) b a h.front x h.first) h.second in
    (record { front = h.front; back = h.back; text = h.text; first = operand_only pick p q c b a h.front x h.first; second = rest.0 }, rest.1)

-- further operands take no operation away
no_fewer : (a : Tree) (xs : List (Op × Tree)) → operations a ≤ operations (fold_left paired a xs)
no_fewer a [] = omega arith
no_fewer a (x ∷ xs) = let le : suc (operations a + operations x.1) ≤ operations (fold_left paired (paired a x) xs) = no_fewer (paired a x) xs in omega (arith, le)

many_all : (pick : Symbol → Option Op) (p : ℕ → Lang Symbol Tree) (q : Lang Symbol Tree) → Counts p q → (b : ℕ) (a : Tree) (ts : List Symbol) (xs : List (Op × Tree)) → Many paired (λ _. Then (One pick) q) a ts xs → operations (fold_left paired a xs) ≤ b → Many paired (Operand pick p b) a ts xs
many_all pick p q c b a ts [] h fits = h
many_all pick p q c b a ts (x ∷ xs) h fits =
    let le = no_fewer (paired a x) xs in
    record { front = h.front; back = h.back; text = h.text; first = operand_all pick p q c b a h.front x h.first (omega (arith, le, fits)); second = many_all pick p q c b (paired a x) h.back xs h.second fits }

pub chain_counts : (pick : Symbol → Option Op) (p : ℕ → Lang Symbol Tree) (q : Lang Symbol Tree) → Counts p q → Counts (Chain pick p) (PlainChain pick q)
chain_counts pick p q c = record {
  only = λ b ts e h.
      let k = h.spelled in
      let first = c.only b k.front h.value.0 k.first in
      let rest = many_only pick p q c b h.value.0 k.back h.value.1 first.1 k.second in
      (record { value = h.value; spelled = record { front = k.front; back = k.back; text = k.text; first = first.0; second = rest.0 }; made = h.made }, subst (λ (z : Tree). operations z ≤ b) (sym h.made) rest.1);
  all = λ b ts e h fits.
      let k = h.spelled in
      let in_all = subst (λ (z : Tree). operations z ≤ b) h.made fits in
      let le = no_fewer h.value.0 h.value.1 in
      record { value = h.value; spelled = record { front = k.front; back = k.back; text = k.text; first = c.all b k.front h.value.0 k.first (omega (arith, le, in_all)); second = many_all pick p q c b h.value.0 k.back h.value.1 k.second in_all }; made = h.made };
}

-- one operation for what p adds to its operand
spent_counts : (p : ℕ → Lang Symbol Tree) (q : Lang Symbol Tree) → ((c : ℕ) (ts : List Symbol) (e : Tree) → p c ts e → q ts e × (operations e ≤ suc c)) → ((c : ℕ) (ts : List Symbol) (e : Tree) → q ts e → operations e ≤ suc c → p c ts e) → ((ts : List Symbol) (e : Tree) → q ts e → 0 < operations e) → Counts (Spent p) q
spent_counts p q only all some = record {
  only = λ b ts e h. spent_only b ts e h;
  all = λ b ts e h fits. spent_all b ts e h fits;
} where
  spent_only : (b : ℕ) (ts : List Symbol) (e : Tree) → Spent p b ts e → q ts e × (operations e ≤ b)
  spent_only zero ts e h = absurd h
  spent_only (suc b) ts e h = only b ts e h

  spent_all : (b : ℕ) (ts : List Symbol) (e : Tree) → q ts e → operations e ≤ b → Spent p b ts e
  spent_all zero ts e h fits = absurd (let lt = some ts e h in omega (arith, lt, fits))
  spent_all (suc b) ts e h fits = all b ts e h fits

-- what adds one operation to a tree
abbrev Adds : (Tree → Tree) → Type 0
Adds f = (e : Tree) → operations (f e) ≡ suc (operations e)

added_only : (f : Tree → Tree) → Adds f → (p : ℕ → Lang Symbol Tree) (q : Lang Symbol Tree) → Counts p q → (b : ℕ) (ts : List Symbol) (e : Tree) → Mapped f (p b) ts e → Mapped f q ts e × (operations e ≤ suc b)
added_only f adds p q c b ts e h =
    let k = c.only b ts h.value h.spelled in
    (record { value = h.value; spelled = k.0; made = h.made }, subst (λ (z : Tree). operations z ≤ suc b) (sym h.made) (omega (arith, k.1, adds h.value)))

added_all : (f : Tree → Tree) → Adds f → (p : ℕ → Lang Symbol Tree) (q : Lang Symbol Tree) → Counts p q → (b : ℕ) (ts : List Symbol) (e : Tree) → Mapped f q ts e → operations e ≤ suc b → Mapped f (p b) ts e
added_all f adds p q c b ts e h fits =
    let le = subst (λ (z : Tree). operations z ≤ suc b) h.made fits in
    record { value = h.value; spelled = c.all b ts h.value h.spelled (omega (arith, le, adds h.value)); made = h.made }

added_some : (f : Tree → Tree) → Adds f → (q : Lang Symbol Tree) (ts : List Symbol) (e : Tree) → Mapped f q ts e → 0 < operations e
added_some f adds q ts e h = subst (λ (z : Tree). 0 < operations z) (sym h.made) (omega (arith, adds h.value))

-- ---- the ladder

-- what is known one level of nesting further in
pub record CountsNested (n : Nested) (m : PlainNested) : Type 0 where
  pub group : Counts n.group m.group
  pub minus : Counts n.minus m.minus
  pub inversion : Counts n.inversion m.inversion

none : (e : Tree) (b : ℕ) → operations e ≡ 0 → operations e ≤ b
none e b h = omega arith

signed_counts : (l : Limits) (n : Nested) (m : PlainNested) → CountsNested n m → Counts (Signed l n) (PlainSigned l m)
unfolding Signed PlainSigned
signed_counts l n m c = record {
  only = λ b ts e h. elim h [
    | inl v ↦ (let k = c.minus.only b ts e v in (inl k.0, k.1))
    | inr r ↦ elim r [
      | inl g ↦ (let k = c.group.only b ts e g in (inr (inl k.0), k.1))
      | inr u ↦ elim u [
        | inl w ↦ (inr (inr (inl w)), none e b (ap operations w.made))
        | inr d ↦ (inr (inr (inr d)), none e b (ap operations d.made))
      ]
    ]
  ];
  all = λ b ts e h fits. elim h [
    | inl v ↦ inl (c.minus.all b ts e v fits)
    | inr r ↦ elim r [ inl g ↦ inr (inl (c.group.all b ts e g fits)) | inr u ↦ inr (inr u) ]
  ];
}

pub unary_counts : (l : Limits) (n : Nested) (m : PlainNested) → CountsNested n m → Counts (Unary l n) (PlainUnary l m)
unfolding Unary PlainUnary
unary_counts l n m c =
    let k = signed_counts l n m c in
    record {
      only = λ b ts e h. elim h [ inl d ↦ (inl d, none e b (ap operations d.made)) | inr r ↦ (let f = k.only b ts e r in (inr f.0, f.1)) ];
      all = λ b ts e h fits. elim h [ inl d ↦ inl d | inr r ↦ inr (k.all b ts e r fits) ];
    }

minus_adds : Adds s.minus
minus_adds e = refl

not_adds : Adds s.not
not_adds e = refl

negated_counts : (l : Limits) (n : Nested) (m : PlainNested) → CountsNested n m → Counts (Negated l n) (PlainNegated l m)
unfolding Negated PlainNegated
negated_counts l n m c =
    let k = signed_counts l n m c in
    let v = spent_counts (λ c. Mapped s.minus (Signed l n c)) (Mapped s.minus (PlainSigned l m)) (added_only s.minus minus_adds (Signed l n) (PlainSigned l m) k) (added_all s.minus minus_adds (Signed l n) (PlainSigned l m) k) (added_some s.minus minus_adds (PlainSigned l m)) in
    record {
      only = λ b ts e h. elim h [ inl d ↦ (inl d, none e b (ap operations d.made)) | inr r ↦ (let f = v.only b ts e r in (inr f.0, f.1)) ];
      all = λ b ts e h fits. elim h [ inl d ↦ inl d | inr r ↦ inr (v.all b ts e r fits) ];
    }

pub product_counts : (l : Limits) (n : Nested) (m : PlainNested) → CountsNested n m → Counts (Product l n) (PlainProduct l m)
unfolding Product PlainProduct
product_counts l n m c = let k = chain_counts product_op (Unary l n) (PlainUnary l m) (unary_counts l n m c) in record { only = k.only; all = k.all }

pub sum_counts : (l : Limits) (n : Nested) (m : PlainNested) → CountsNested n m → Counts (Sum l n) (PlainSum l m)
unfolding Sum PlainSum
sum_counts l n m c = let k = chain_counts sum_op (Product l n) (PlainProduct l m) (product_counts l n m c) in record { only = k.only; all = k.all }

abbrev Further : Limits → Nested → ℕ → Tree → Lang Symbol (Option (Op × Tree))
Further l n b a = Perhaps (Operand comparison_op (Sum l n) b a)

abbrev PlainFurther : Limits → PlainNested → Lang Symbol (Option (Op × Tree))
PlainFurther l m = Perhaps (Then (One comparison_op) (PlainSum l m))

further_only : (l : Limits) (n : Nested) (m : PlainNested) → Counts (Sum l n) (PlainSum l m) → (b : ℕ) (a : Tree) (ts : List Symbol) (o : Option (Op × Tree)) → operations a ≤ b → Further l n b a ts o → PlainFurther l m ts o × (operations (compared (a, o)) ≤ b)
further_only l n m c b a ts None le h = (h, le)
further_only l n m c b a ts (Some x) le h = (operand_only comparison_op (Sum l n) (PlainSum l m) c b a ts x h, operand_bounded comparison_op (Sum l n) (bounded (Sum l n) (PlainSum l m) c) b a ts x h)

further_all : (l : Limits) (n : Nested) (m : PlainNested) → Counts (Sum l n) (PlainSum l m) → (b : ℕ) (a : Tree) (ts : List Symbol) (o : Option (Op × Tree)) → PlainFurther l m ts o → operations (compared (a, o)) ≤ b → Further l n b a ts o
further_all l n m c b a ts None h fits = h
further_all l n m c b a ts (Some x) h fits = operand_all comparison_op (Sum l n) (PlainSum l m) c b a ts x h fits

further_more : (a : Tree) (o : Option (Op × Tree)) → operations a ≤ operations (compared (a, o))
further_more a None = omega arith
further_more a (Some x) = omega arith

pub comparison_counts : (l : Limits) (n : Nested) (m : PlainNested) → CountsNested n m → Counts (Comparison l n) (PlainComparison l m)
unfolding Comparison PlainComparison
comparison_counts l n m c =
    let f = sum_counts l n m c in
    record {
      only = λ b ts e h.
          let k = h.spelled in
          let first = f.only b k.front h.value.0 k.first in
          let rest = further_only l n m f b h.value.0 k.back h.value.1 first.1 k.second in
          (record { value = h.value; spelled = record { front = k.front; back = k.back; text = k.text; first = first.0; second = rest.0 }; made = h.made }, subst (λ (z : Tree). operations z ≤ b) (sym h.made) rest.1);
      all = λ b ts e h fits.
          let k = h.spelled in
          let in_all = subst (λ (z : Tree). operations z ≤ b) h.made fits in
          let le = further_more h.value.0 h.value.1 in
          record { value = h.value; spelled = record { front = k.front; back = k.back; text = k.text; first = f.all b k.front h.value.0 k.first (omega (arith, le, in_all)); second = further_all l n m f b h.value.0 k.back h.value.1 k.second in_all }; made = h.made };
    }

pub negation_counts : (l : Limits) (n : Nested) (m : PlainNested) → CountsNested n m → Counts (Negation l n) (PlainNegation l m)
unfolding Negation PlainNegation
negation_counts l n m c =
    let k = comparison_counts l n m c in
    record {
      only = λ b ts e h. elim h [ inl v ↦ (let f = c.inversion.only b ts e v in (inl f.0, f.1)) | inr r ↦ (let f = k.only b ts e r in (inr f.0, f.1)) ];
      all = λ b ts e h fits. elim h [ inl v ↦ inl (c.inversion.all b ts e v fits) | inr r ↦ inr (k.all b ts e r fits) ];
    }

pub conjunction_counts : (l : Limits) (n : Nested) (m : PlainNested) → CountsNested n m → Counts (Conjunction l n) (PlainConjunction l m)
unfolding Conjunction PlainConjunction
conjunction_counts l n m c = let k = chain_counts and_op (Negation l n) (PlainNegation l m) (negation_counts l n m c) in record { only = k.only; all = k.all }

pub disjunction_counts : (l : Limits) (n : Nested) (m : PlainNested) → CountsNested n m → Counts (Disjunction l n) (PlainDisjunction l m)
unfolding Disjunction PlainDisjunction
disjunction_counts l n m c = let k = chain_counts or_op (Conjunction l n) (PlainConjunction l m) (conjunction_counts l n m c) in record { only = k.only; all = k.all }

-- ---- levels

behind_counts : (j : Terminal) (p : ℕ → Lang Symbol Tree) (q : Lang Symbol Tree) → Counts p q → Counts (λ b. Behind (the j) (p b)) (Behind (the j) q)
behind_counts j p q c = record {
  only = λ b ts e h. let k = c.only b h.back e h.value in (record { token = h.token; back = h.back; text = h.text; is = h.is; value = k.0 }, k.1);
  all = λ b ts e h fits. record { token = h.token; back = h.back; text = h.text; is = h.is; value = c.all b h.back e h.value fits };
}

before_counts : (j : Terminal) (p : ℕ → Lang Symbol Tree) (q : Lang Symbol Tree) → Counts p q → Counts (λ b. Before (the j) (p b)) (Before (the j) q)
before_counts j p q c = record {
  only = λ b ts e h.
      let k = h.spelled in
      let f = c.only b k.front h.value.0 k.first in
      (record { value = h.value; spelled = record { front = k.front; back = k.back; text = k.text; first = f.0; second = k.second }; made = h.made }, subst (λ (z : Tree). operations z ≤ b) (sym h.made) f.1);
  all = λ b ts e h fits.
      let k = h.spelled in
      record { value = h.value; spelled = record { front = k.front; back = k.back; text = k.text; first = c.all b k.front h.value.0 k.first (subst (λ (z : Tree). operations z ≤ b) h.made fits); second = k.second }; made = h.made };
}

inversion_counts : (l : Limits) (n : Nested) (m : PlainNested) → Counts (Negation l n) (PlainNegation l m) → Counts (Spent (λ c. Behind (the t.Not) (Mapped s.not (Negation l n c)))) (Behind (the t.Not) (Mapped s.not (PlainNegation l m)))
inversion_counts l n m k = spent_counts (λ c. Behind (the t.Not) (Mapped s.not (Negation l n c))) (Behind (the t.Not) (Mapped s.not (PlainNegation l m)))
    (λ c ts e h. let f = added_only s.not not_adds (Negation l n) (PlainNegation l m) k c h.back e h.value in (record { token = h.token; back = h.back; text = h.text; is = h.is; value = f.0 }, f.1))
    (λ c ts e h fits. record { token = h.token; back = h.back; text = h.text; is = h.is; value = added_all s.not not_adds (Negation l n) (PlainNegation l m) k c h.back e h.value fits })
    (λ ts e h. added_some s.not not_adds (PlainNegation l m) h.back e h.value)

pub nested_counts : (l : Limits) (n : ℕ) → CountsNested (nested l n) (plain_nested l n)
unfolding nested plain_nested
nested_counts l zero = record {
  group = record { only = λ b ts e h. absurd h; all = λ b ts e h fits. absurd h };
  minus = record { only = λ b ts e h. absurd h; all = λ b ts e h fits. absurd h };
  inversion = record { only = λ b ts e h. absurd h; all = λ b ts e h fits. absurd h };
}
nested_counts l (suc n) =
    let c = nested_counts l n in
    let d = disjunction_counts l (nested l n) (plain_nested l n) c in
    let g = behind_counts t.Open (λ b. Before (the t.Close) (Disjunction l (nested l n) b)) (Before (the t.Close) (PlainDisjunction l (plain_nested l n))) (before_counts t.Close (Disjunction l (nested l n)) (PlainDisjunction l (plain_nested l n)) d) in
    let v = behind_counts t.Minus (Negated l (nested l n)) (PlainNegated l (plain_nested l n)) (negated_counts l (nested l n) (plain_nested l n) c) in
    record {
      group = record { only = g.only; all = g.all };
      minus = record { only = v.only; all = v.all };
      inversion = inversion_counts l (nested l n) (plain_nested l n) (negation_counts l (nested l n) (plain_nested l n) c);
    }
