-- The readers of an expression under larger limits: they read the same, and go beyond where a limit was met.
use Rattle.std.proofs.Common.{◌≡◌, ℕ, zero, suc, ◌+◌, ◌-◌, ◌<◌, ◌≤◌, Bool, true, false, cond, List, [], ◌∷◌, length, Option, Some, None, Ok, refl, sym, ap, subst, ◌∙◌, arith, nat_lt, inl, inr}
use Rattle.std.specs.Prelude.{is_some, nat_le}
use Rattle.text_grammar.specs.declared.fault.Cause.TheVariants.{Syntax, Limit}
use Rattle.text_grammar.specs.Readers.{Reader, is, accept, one, one_or, both, mapped, behind, before, either, perhaps}
use Rattle.text_grammar.specs.Languages.{Lang, One, Before, Either}
use Rattle.text_grammar.specs.Places.{Begins}
use Rattle.text_grammar.proofs.Exactness.{Exact, never, StartsWith, the_test}
use Rattle.text_grammar.proofs.Tokens.{one-exact}
use Rattle.text_grammar.proofs.Repeating.{takes}
use Rattle.text_grammar.proofs.Starts.{mapped_starts, either_starts, wider_starts}
use Rattle.text_grammar.proofs.Extends.{raised, Beyond, Extends, ExtendsOn, Stays, Leaves, exact_stays, picks_more, one_or_extends, one_or_same, one_extends, mapped_extends, both_extends, both_extends_in, behind_extends, either_extends, perhaps_extends, perhaps_extends_on, row_extends_in, behind_leaves, both_leaves, mapped_stays, perhaps_stays, refused_extends, refused_raised, blocked_same, blocked_raised}
use Rattle.iv_types.specs.declared.terminal.Terminal.TheVariants as t
use Rattle.iv_types.specs.declared.expression.Op.{Op}
use Rattle.iv_types.specs.Tokens.{Symbol, name, number, text}
use Rattle.iv_types.specs.Limits.{Limits, Agree, allows}
use Rattle.iv_types.specs.Syntax as s
use Rattle.iv_types.specs.Syntax.{Tree}
use Rattle.iv_types.specs.Expressions.{the, name_in, number_in, text_in, or_op, and_op, comparison_op, sum_op, product_op, operations, paired, Nested as PlainNested, nested as plain_nested, Unary as PlainUnary, Product as PlainProduct, Sum as PlainSum, Negation as PlainNegation, Conjunction as PlainConjunction, ref_of, positive, negative, compared}
use Rattle.sql_readers.proofs.Budget.{Operand, Nested, Signed, Unary, Negated, Product, Sum, Negation, Conjunction, Disjunction, nested}
use Rattle.sql_readers.specs.Ladder.{is_name, is_number, is_text, unless, name_reader, number_reader, text_reader, spent, spent_late, operand, chain, Inner, reference, signed, unary, negated, product, sum, comparison, negation, conjunction, disjunction, inner, expression}
use Rattle.sql_readers.proofs.Apart.{on_unary, on_product, on_sum, on_comparison, on_conjunction}
use Rattle.sql_readers.proofs.Ladder.{ExactNested, nested-exact, Column, column-exact, operand-exact, Word, word, word_starts, Named, named, named_starts, numeral, Negation_of, negation_of, negation_of-exact, unary-exact, negated-exact, unary_begins, product_begins, sum_begins, negation_begins, conjunction_begins, product-exact, sum-exact, negation-exact, conjunction-exact, grouped-exact, inverted, further}
use Rattle.sql_readers.proofs.Counting.{Bounded, bounded, below, operand_bounded, CountsNested, nested_counts, unary_counts, product_counts, sum_counts, negation_counts, conjunction_counts}

-- The limits of all numbers from w on are raised: those of single tokens to none, the others by so much that a reader goes
-- beyond where one was met.
pub record Raised (w : ℕ) (l m : Limits) : Type 0 where
  pub agree : Agree w l m
  pub name_bytes : nat_le w 1 ≡ true → m.name_bytes ≡ None
  pub number_value : nat_le w 2 ≡ true → m.number_value ≡ None
  pub text_bytes : nat_le w 3 ≡ true → m.text_bytes ≡ None
  pub nesting : nat_le w 4 ≡ true → l.nesting < m.nesting
  pub rows : nat_le w 5 ≡ true → suc l.rows < m.rows
  pub relations : nat_le w 7 ≡ true → suc l.relations < m.relations
  pub items : nat_le w 17 ≡ true → suc l.items < m.items
  pub operations : nat_le w 18 ≡ true → l.operations + l.nesting < m.operations

pub above : (w v : ℕ) → nat_le w v ≡ false → v < w
above w v h = grind arith

at_most : (w v : ℕ) → nat_le w v ≡ true → w ≤ v
at_most w v h = grind arith

-- ---- single tokens

record Limited {A : Type 0} (test : Symbol → Bool) (pick : Option ℕ → Symbol → Option A) : Type 0 where
  keeps : (o : Option ℕ) (x : Symbol) (a : A) → pick o x ≡ Some a → pick None x ≡ Some a
  takes_all : (x : Symbol) → test x ≡ true → is_some (pick None x) ≡ true
  passes : (x : Symbol) → test x ≡ false → pick None x ≡ None

not_raised : (w v : ℕ) (b : Bool) → nat_le w v ≡ false → raised w (cond b (Limit v) Syntax) ≡ false
not_raised w v true h = h
not_raised w v false h = refl

raised_true : (w v : ℕ) (b : Bool) → raised w (cond b (Limit v) Syntax) ≡ true → b ≡ true
raised_true w v true h = refl
raised_true w v false h = absurd cc

raised_false : (w v : ℕ) (b : Bool) → nat_le w v ≡ true → raised w (cond b (Limit v) Syntax) ≡ false → b ≡ false
raised_false w v true up h = absurd (let both : true ≡ false = sym up ∙ h in cc)
raised_false w v false up h = refl

limited_extends : {A : Type 0} (w v : ℕ) (test : Symbol → Bool) (pick : Option ℕ → Symbol → Option A) (o o' : Option ℕ) → Limited test pick → (nat_le w v ≡ false → o ≡ o') → (nat_le w v ≡ true → o' ≡ None) → Extends w (one_or (unless test v) (pick o)) (one_or (unless test v) (pick o'))
limited_extends w v test pick o o' k same up =
    elim (the_test (nat_le w v)) [
      | inl yes_up ↦ subst (λ (z : Option ℕ). Extends w (one_or (unless test v) (pick o)) (one_or (unless test v) (pick z))) (sym (up yes_up))
          (one_or_extends w (unless test v) (unless test v) (pick o) (pick None) (λ x. picks_more w (unless test v) (unless test v) (pick o) (pick None) x (λ a e. k.keeps o x a e) (λ none r. k.takes_all x (raised_true w v (test x) r)) (λ none r. (k.passes x (raised_false w v (test x) yes_up r), refl))))
      | inr not_up ↦ subst (λ (z : Option ℕ). Extends w (one_or (unless test v) (pick o)) (one_or (unless test v) (pick z))) (same not_up)
          (one_or_same w (unless test v) (pick o) (λ x none. not_raised w v (test x) not_up))
    ]

some_anyway : {A : Type 0} (b : Bool) (x a : A) → cond b (Some x) None ≡ Some a → Some x ≡ Some a
some_anyway true x a e = e
some_anyway false x a e = absurd cc

name_keeps : (o : Option ℕ) (x : Symbol) (a : List ℕ) → name_in o x ≡ Some a → name_in None x ≡ Some a
name_keeps o (name n) a e = some_anyway (allows o (length n)) n a e
name_keeps o _ a e = absurd cc

name_takes : (x : Symbol) → is_name x ≡ true → is_some (name_in None x) ≡ true
name_takes (name n) h = refl
name_takes _ h = absurd cc

name_passes : (x : Symbol) → is_name x ≡ false → name_in None x ≡ None
name_passes (name n) h = absurd cc
name_passes _ h = refl

number_keeps : (o : Option ℕ) (x : Symbol) (a : ℕ) → number_in o x ≡ Some a → number_in None x ≡ Some a
number_keeps o (number n) a e = some_anyway (allows o n) n a e
number_keeps o _ a e = absurd cc

number_takes : (x : Symbol) → is_number x ≡ true → is_some (number_in None x) ≡ true
number_takes (number n) h = refl
number_takes _ h = absurd cc

number_passes : (x : Symbol) → is_number x ≡ false → number_in None x ≡ None
number_passes (number n) h = absurd cc
number_passes _ h = refl

text_keeps : (o : Option ℕ) (x : Symbol) (a : List ℕ) → text_in o x ≡ Some a → text_in None x ≡ Some a
text_keeps o (text n) a e = some_anyway (allows o (length n)) n a e
text_keeps o _ a e = absurd cc

text_takes : (x : Symbol) → is_text x ≡ true → is_some (text_in None x) ≡ true
text_takes (text n) h = refl
text_takes _ h = absurd cc

text_passes : (x : Symbol) → is_text x ≡ false → text_in None x ≡ None
text_passes (text n) h = absurd cc
text_passes _ h = refl

pub name_extends : (w : ℕ) (l m : Limits) → Raised w l m → Extends w (name_reader l) (name_reader m)
name_extends w l m up = limited_extends w 1 is_name name_in l.name_bytes m.name_bytes (record { keeps = name_keeps; takes_all = name_takes; passes = name_passes }) (λ h. up.agree.name_bytes (above w 1 h)) up.name_bytes

pub number_extends : (w : ℕ) (l m : Limits) → Raised w l m → Extends w (number_reader l) (number_reader m)
number_extends w l m up = limited_extends w 2 is_number number_in l.number_value m.number_value (record { keeps = number_keeps; takes_all = number_takes; passes = number_passes }) (λ h. up.agree.number_value (above w 2 h)) up.number_value

text_extends : (w : ℕ) (l m : Limits) → Raised w l m → Extends w (text_reader l) (text_reader m)
text_extends w l m up = limited_extends w 3 is_text text_in l.text_bytes m.text_bytes (record { keeps = text_keeps; takes_all = text_takes; passes = text_passes }) (λ h. up.agree.text_bytes (above w 3 h)) up.text_bytes

pub reference_extends : (w : ℕ) (l m : Limits) → Raised w l m → Extends w (reference l) (reference m)
unfolding reference
reference_extends w l m up =
    let e = name_extends w l m up in
    mapped_extends w ref_of (both (name_reader l) (λ _. perhaps (is (the t.Point)) (behind (the t.Point) (name_reader l)))) (both (name_reader m) (λ _. perhaps (is (the t.Point)) (behind (the t.Point) (name_reader m))))
    (both_extends w (name_reader l) (name_reader m) (λ _. perhaps (is (the t.Point)) (behind (the t.Point) (name_reader l))) (λ _. perhaps (is (the t.Point)) (behind (the t.Point) (name_reader m))) e
    (λ _. perhaps_extends w (is (the t.Point)) (behind (the t.Point) (name_reader l)) (behind (the t.Point) (name_reader m)) (behind_extends w (the t.Point) (name_reader l) (name_reader m) e))
    (λ _. exact_stays (Column m) on_unary (perhaps (is (the t.Point)) (behind (the t.Point) (name_reader m))) (column-exact m)))

-- ---- operations

-- The operations that are left compare so: where their limit is raised there are more, by more than there are levels.
abbrev Gap : ℕ → ℕ → ℕ → ℕ → Type 0
Gap w n b c = (nat_le w 18 ≡ false → b ≡ c) × (nat_le w 18 ≡ true → b + n < c)

gap_within : (w n b c : ℕ) → Gap w n b c → b ≤ c
gap_within w n b c g = elim (the_test (nat_le w 18)) [ inl up ↦ (let lt = g.1 up in omega (arith, lt)) | inr same ↦ (let e = g.0 same in omega (arith, e)) ]

gap_less : (w n b c k : ℕ) → k ≤ b → Gap w n b c → Gap w n (b - k) (c - k)
gap_less w n b c k le g = (λ h. ap (λ (z : ℕ). z - k) (g.0 h), λ h. let lt = g.1 h in omega (arith, lt, le))

before_all : (m n : ℕ) → m < n → nat_lt m n ≡ true
before_all m n h = grind arith

not_below : (m n : ℕ) → nat_lt m n ≡ false → n ≤ m
not_below m n h = grind arith

none_below : (m n : ℕ) → n ≤ m → nat_lt m n ≡ false
none_below m n h = grind arith

accept_beyond : {A : Type 0} (o : Option A) (x : Symbol) (xs : List Symbol) → is_some o ≡ true → Beyond (length (x ∷ xs)) (accept Syntax o (x ∷ xs) xs)
accept_beyond (Some a) x xs h = omega arith
accept_beyond None x xs h = absurd cc

one_leaves : {A : Type 0} (pick : Symbol → Option A) → Leaves (is pick) (one pick)
one_leaves pick [] h = absurd cc
one_leaves pick (x ∷ xs) h = accept_beyond (pick x) x xs h

-- readers of a tree with so many operations left, that extend those of fewer
abbrev ExtendsBy : ℕ → ℕ → (r s : ℕ → Reader Symbol Tree) → Type 0
ExtendsBy w n r s = (b c : ℕ) → Gap w n b c → Extends w (r b) (s c)

operand_extends : (w n : ℕ) (pick : Symbol → Option Op) (r s : ℕ → Reader Symbol Tree) → ExtendsBy w n r s → ((c : ℕ) → Stays (s c)) → (b c : ℕ) (a : Tree) → Gap w n b c → operations a ≤ b → ExtendsOn w (is pick) (operand pick r b a) (operand pick s c a)
operand_extends w n pick r s e stays b c a g le ts found =
    let k = suc (operations a) in
    let wider = gap_within w n b c g in
    elim (the_test (nat_lt (operations a) b)) [
      | inl more ↦
          let lt = below (operations a) b more in
          let again : nat_lt (operations a) c ≡ true = before_all (operations a) c (omega (arith, lt, wider)) in
          rw (more, again) (both_extends w (one pick) (one pick) (λ _. r (b - suc (operations a))) (λ _. s (c - suc (operations a))) (one_extends w pick) (λ _. e (b - suc (operations a)) (c - suc (operations a)) (gap_less w n b c (suc (operations a)) (omega (arith, lt)) g)) (λ _. stays (c - suc (operations a))) ts)
      | inr full ↦
          let at_end = not_below (operations a) b full in
          elim (the_test (nat_le w 18)) [
            | inl up ↦
                let lt = g.1 up in
                let again : nat_lt (operations a) c ≡ true = before_all (operations a) c (omega (arith, lt, le)) in
                rw (full, again) (refused_raised w (Limit 18) (is pick) (both (one pick) (λ _. s (c - suc (operations a)))) up (both_leaves (is pick) (one pick) (λ _. s (c - suc (operations a))) (one_leaves pick) (λ _. stays (c - suc (operations a)))) ts found)
            | inr same ↦
                let eq = g.0 same in
                let again : nat_lt (operations a) c ≡ false = none_below (operations a) c (omega (arith, eq, at_end)) in
                rw (full, again) (refused_extends (Op × Tree) w (Limit 18) same ts)
          ]
    ]

-- what is needed of a reader of operands and of its language
record Operands (w n : ℕ) (p q : ℕ → Lang Symbol Tree) (on : Symbol → Bool) (r s : ℕ → Reader Symbol Tree) : Type 0 where
  exact : (c : ℕ) → Exact (p c) on (r c)
  other : (c : ℕ) → Exact (q c) on (s c)
  some : (c : ℕ) → Begins (p c) []
  other_some : (c : ℕ) → Begins (q c) []
  bounded : Bounded p
  extends : ExtendsBy w n r s

first_bounded : (p : ℕ → Lang Symbol Tree) (on : Symbol → Bool) (r : ℕ → Reader Symbol Tree) → ((c : ℕ) → Exact (p c) on (r c)) → Bounded p → (b : ℕ) (ts : List Symbol) (x : Tree × List Symbol) → r b ts ≡ Ok x → operations x.0 ≤ b
first_bounded p on r e q b ts x h = let k = (e b).ok ts x h in q b k.front x.0 k.spelled

next_bounded : (pick : Symbol → Option Op) (p : ℕ → Lang Symbol Tree) (on : Symbol → Bool) (r : ℕ → Reader Symbol Tree) → ((c : ℕ) → Exact (p c) on (r c)) → ((c : ℕ) → Begins (p c) []) → Bounded p → (b : ℕ) (a : Tree) (ts : List Symbol) (x : (Op × Tree) × List Symbol) → operand pick r b a ts ≡ Ok x → operations (paired a x.0) ≤ b
next_bounded pick p on r e some q b a ts x h = let k = (operand-exact pick p on r e some b a).ok ts x h in operand_bounded pick p q b a k.front x.0 k.spelled

chain_extends : (w n : ℕ) (pick : Symbol → Option Op) (p q : ℕ → Lang Symbol Tree) (on : Symbol → Bool) (r s : ℕ → Reader Symbol Tree) → Operands w n p q on r s → (b c : ℕ) → Gap w n b c → Extends w (chain pick r b) (chain pick s c)
chain_extends w n pick p q on r s k b c g =
    row_extends_in w (is pick) (λ a. a) paired (r b) (s c) (operand pick r b) (operand pick s c) (λ a. operations a ≤ b) (k.extends b c g)
    (λ ts x h. first_bounded p on r k.exact k.bounded b ts x h)
    (λ a le. operand_extends w n pick r s k.extends (λ d. exact_stays (q d) on (s d) (k.other d)) b c a g le)
    (λ a ts x le h. next_bounded pick p on r k.exact k.some k.bounded b a ts x h)
    (λ a. exact_stays (Operand pick q c a) on (operand pick s c a) (operand-exact pick q on s k.other k.other_some c a))

-- ---- the ladder

-- the readers one level further in, n levels of the smaller limits being left
pub record Larger (w n : ℕ) (i j : Inner) : Type 0 where
  pub group : (b c : ℕ) → Gap w n b c → ExtendsOn w (is (the t.Open)) (i.group b) (j.group c)
  pub minus : (b c : ℕ) → Gap w n b c → ExtendsOn w (is (the t.Minus)) (i.minus b) (j.minus c)
  pub inversion : (b c : ℕ) → Gap w n b c → ExtendsOn w (is (the t.Not)) (i.inversion b) (j.inversion c)

-- the two sides of a step: limits, languages and readers of both
record Sides (w k : ℕ) (l m : Limits) (n o : Nested) (i j : Inner) : Type 1 where
  up : Raised w l m
  larger : Larger w k i j
  exact : ExactNested n i
  other : ExactNested o j
  plain : PlainNested
  counts : CountsNested n plain

signed_extends : (w k : ℕ) (l m : Limits) (n o : Nested) (i j : Inner) → Sides w k l m n o i j → ExtendsBy w k (signed l i) (signed m j)
unfolding signed
signed_extends w k l m n o i j d b c g =
    either_extends w (is (the t.Minus)) (i.minus b) (j.minus c) (either (is (the t.Open)) (i.group b) (either is_text (word l) (named l))) (either (is (the t.Open)) (j.group c) (either is_text (word m) (named m))) (d.larger.minus b c g)
    (either_extends w (is (the t.Open)) (i.group b) (j.group c) (either is_text (word l) (named l)) (either is_text (word m) (named m)) (d.larger.group b c g)
    (either_extends w is_text (word l) (word m) (named l) (named m) (λ ts h. mapped_extends w s.word (text_reader l) (text_reader m) (text_extends w l m d.up) ts) (mapped_extends w s.named (reference l) (reference m) (reference_extends w l m d.up))))

numeral_extends : (w : ℕ) (l m : Limits) (sign : ℕ → Tree) → Raised w l m → ExtendsOn w is_number (numeral l sign) (numeral m sign)
numeral_extends w l m sign up ts h = mapped_extends w sign (number_reader l) (number_reader m) (number_extends w l m up) ts

unary_extends : (w k : ℕ) (l m : Limits) (n o : Nested) (i j : Inner) → Sides w k l m n o i j → ExtendsBy w k (unary l i) (unary m j)
unfolding unary
unary_extends w k l m n o i j d b c g = either_extends w is_number (numeral l positive) (numeral m positive) (signed l i b) (signed m j c) (numeral_extends w l m positive d.up) (signed_extends w k l m n o i j d b c g)

-- there is a token
abbrev pub anything : Symbol → Bool
anything x = true

pub signed_starts : (l : Limits) (n : Nested) (i : Inner) → ExactNested n i → (b : ℕ) → StartsWith (Signed l n b) anything
unfolding Signed
signed_starts l n i e b =
    either_starts (n.minus b) (Either (n.group b) (Either (Word l) (Named l))) anything (wider_starts (n.minus b) (is (the t.Minus)) anything (e.minus_starts b) (λ x h. refl))
    (either_starts (n.group b) (Either (Word l) (Named l)) anything (wider_starts (n.group b) (is (the t.Open)) anything (e.group_starts b) (λ x h. refl))
    (either_starts (Word l) (Named l) anything (wider_starts (Word l) is_text anything (word_starts l) (λ x h. refl)) (wider_starts (Named l) is_name anything (named_starts l) (λ x h. refl))))

negation_of_extends : (w k : ℕ) (l m : Limits) (n o : Nested) (i j : Inner) → Sides w k l m n o i j → (b c : ℕ) → Gap w k b c → Extends w (negation_of l i b) (negation_of m j c)
negation_of_extends w k l m n o i j d b c g = mapped_extends w s.minus (signed l i b) (signed m j c) (signed_extends w k l m n o i j d b c g)

negation_of_takes : (l : Limits) (n : Nested) (i : Inner) → ExactNested n i → (b : ℕ) (ts : List Symbol) (x : Tree × List Symbol) → negation_of l i b ts ≡ Ok x → length x.1 < length ts
negation_of_takes l n i e b = takes anything (Negation_of l n b) on_unary (negation_of l i b) (negation_of-exact l n i e b) (mapped_starts s.minus (Signed l n b) anything (signed_starts l n i e b))

late_extends : (w k : ℕ) (l m : Limits) (n o : Nested) (i j : Inner) → Sides w k l m n o i j → (b c : ℕ) → Gap w (suc k) b c → Extends w (spent_late (negation_of l i) b) (spent_late (negation_of m j) c)
late_extends w k l m n o i j d zero zero g =
    elim (the_test (nat_le w 18)) [
      | inl up ↦ absurd (let lt = g.1 up in omega (arith, lt))
      | inr same ↦ blocked_same w 18 (negation_of l i zero) (negation_of m j zero) same (negation_of_extends w k l m n o i j d zero zero (λ h. refl, λ h. absurd (let bad : true ≡ false = sym h ∙ same in cc))) (exact_stays (Negation_of l n zero) on_unary (negation_of l i zero) (negation_of-exact l n i d.exact zero))
    ]
late_extends w k l m n o i j d zero (suc c) g =
    elim (the_test (nat_le w 18)) [
      | inl up ↦
          let lt = g.1 up in
          blocked_raised w 18 (negation_of l i zero) (negation_of m j c) up (negation_of_extends w k l m n o i j d zero c (λ h. absurd (let bad : true ≡ false = sym up ∙ h in cc), λ h. omega (arith, lt))) (exact_stays (Negation_of l n zero) on_unary (negation_of l i zero) (negation_of-exact l n i d.exact zero)) (negation_of_takes l n i d.exact zero)
      | inr same ↦ absurd (let e = g.0 same in omega (arith, e))
    ]
late_extends w k l m n o i j d (suc b) zero g =
    elim (the_test (nat_le w 18)) [ inl up ↦ absurd (let lt = g.1 up in omega (arith, lt)) | inr same ↦ absurd (let e = g.0 same in omega (arith, e)) ]
late_extends w k l m n o i j d (suc b) (suc c) g =
    negation_of_extends w k l m n o i j d b c (λ h. (let e = g.0 h in omega (arith, e)), λ h. (let lt = g.1 h in omega (arith, lt)))

negated_extends : (w k : ℕ) (l m : Limits) (n o : Nested) (i j : Inner) → Sides w k l m n o i j → ExtendsBy w (suc k) (negated l i) (negated m j)
unfolding negated
negated_extends w k l m n o i j d b c g = either_extends w is_number (numeral l negative) (numeral m negative) (spent_late (negation_of l i) b) (spent_late (negation_of m j) c) (numeral_extends w l m negative d.up) (late_extends w k l m n o i j d b c g)

product_extends : (w k : ℕ) (l m : Limits) (n o : Nested) (i j : Inner) → Sides w k l m n o i j → ExtendsBy w k (product l i) (product m j)
unfolding product
product_extends w k l m n o i j d b c g =
    chain_extends w k product_op (Unary l n) (Unary m o) on_unary (unary l i) (unary m j) (record { exact = unary-exact l n i d.exact; other = unary-exact m o j d.other; some = unary_begins l n; other_some = unary_begins m o; bounded = bounded (Unary l n) (PlainUnary l d.plain) (unary_counts l n d.plain d.counts); extends = unary_extends w k l m n o i j d }) b c g

products : (w k : ℕ) (l m : Limits) (n o : Nested) (i j : Inner) → Sides w k l m n o i j → Operands w k (Product l n) (Product m o) on_product (product l i) (product m j)
products w k l m n o i j d = record { exact = product-exact l n i d.exact; other = product-exact m o j d.other; some = product_begins l n; other_some = product_begins m o; bounded = bounded (Product l n) (PlainProduct l d.plain) (product_counts l n d.plain d.counts); extends = product_extends w k l m n o i j d }

sum_extends : (w k : ℕ) (l m : Limits) (n o : Nested) (i j : Inner) → Sides w k l m n o i j → ExtendsBy w k (sum l i) (sum m j)
unfolding sum
sum_extends w k l m n o i j d b c g = chain_extends w k sum_op (Product l n) (Product m o) on_product (product l i) (product m j) (products w k l m n o i j d) b c g

comparison_extends : (w k : ℕ) (l m : Limits) (n o : Nested) (i j : Inner) → Sides w k l m n o i j → ExtendsBy w k (comparison l i) (comparison m j)
unfolding comparison
comparison_extends w k l m n o i j d b c g =
    let e = sum-exact m o j d.other in
    mapped_extends w compared (both (sum l i b) (further l i b)) (both (sum m j c) (further m j c))
    (both_extends_in w (sum l i b) (sum m j c) (further l i b) (further m j c) (λ a. operations a ≤ b) (sum_extends w k l m n o i j d b c g)
    (λ ts x h. first_bounded (Sum l n) on_sum (sum l i) (sum-exact l n i d.exact) (bounded (Sum l n) (PlainSum l d.plain) (sum_counts l n d.plain d.counts)) b ts x h)
    (λ a le. perhaps_extends_on w (is comparison_op) (operand comparison_op (sum l i) b a) (operand comparison_op (sum m j) c a) (operand_extends w k comparison_op (sum l i) (sum m j) (sum_extends w k l m n o i j d) (λ f. exact_stays (Sum m o f) on_sum (sum m j f) (e f)) b c a g le))
    (λ a. perhaps_stays (is comparison_op) (operand comparison_op (sum m j) c a) (exact_stays (Operand comparison_op (Sum m o) c a) on_sum (operand comparison_op (sum m j) c a) (operand-exact comparison_op (Sum m o) on_sum (sum m j) e (sum_begins m o) c a))))

negation_extends : (w k : ℕ) (l m : Limits) (n o : Nested) (i j : Inner) → Sides w k l m n o i j → ExtendsBy w k (negation l i) (negation m j)
unfolding negation
negation_extends w k l m n o i j d b c g = either_extends w (is (the t.Not)) (i.inversion b) (j.inversion c) (comparison l i b) (comparison m j c) (d.larger.inversion b c g) (comparison_extends w k l m n o i j d b c g)

conjunction_extends : (w k : ℕ) (l m : Limits) (n o : Nested) (i j : Inner) → Sides w k l m n o i j → ExtendsBy w k (conjunction l i) (conjunction m j)
unfolding conjunction
conjunction_extends w k l m n o i j d b c g =
    chain_extends w k and_op (Negation l n) (Negation m o) on_comparison (negation l i) (negation m j) (record { exact = negation-exact l n i d.exact; other = negation-exact m o j d.other; some = negation_begins l n; other_some = negation_begins m o; bounded = bounded (Negation l n) (PlainNegation l d.plain) (negation_counts l n d.plain d.counts); extends = negation_extends w k l m n o i j d }) b c g

disjunction_extends : (w k : ℕ) (l m : Limits) (n o : Nested) (i j : Inner) → Sides w k l m n o i j → ExtendsBy w k (disjunction l i) (disjunction m j)
unfolding disjunction
disjunction_extends w k l m n o i j d b c g =
    chain_extends w k or_op (Conjunction l n) (Conjunction m o) on_conjunction (conjunction l i) (conjunction m j) (record { exact = conjunction-exact l n i d.exact; other = conjunction-exact m o j d.other; some = conjunction_begins l n; other_some = conjunction_begins m o; bounded = bounded (Conjunction l n) (PlainConjunction l d.plain) (conjunction_counts l n d.plain d.counts); extends = conjunction_extends w k l m n o i j d }) b c g

-- ---- levels

-- the levels of both sides compare so
abbrev Levels : ℕ → ℕ → ℕ → Type 0
Levels w n k = (nat_le w 4 ≡ false → n ≡ k) × (nat_le w 4 ≡ true → n < k)

close_stays : Stays (one (the t.Close))
close_stays = exact_stays (One (the t.Close)) never (one (the t.Close)) (one-exact (the t.Close))

later : (w : ℕ) → nat_le w 4 ≡ true → nat_le w 18 ≡ true
later w h = grind arith

inversion_extends : (w k : ℕ) (l m : Limits) (n o : Nested) (i j : Inner) → Sides w k l m n o i j → (b c : ℕ) → Gap w (suc k) b c → ExtendsOn w (is (the t.Not)) (spent (inverted l i) b) (spent (inverted m j) c)
inversion_extends w k l m n o i j d zero zero g ts h =
    elim (the_test (nat_le w 18)) [ inl up ↦ absurd (let lt = g.1 up in omega (arith, lt)) | inr same ↦ refused_extends Tree w (Limit 18) same ts ]
inversion_extends w k l m n o i j d zero (suc c) g ts h =
    elim (the_test (nat_le w 18)) [
      | inl up ↦ refused_raised w (Limit 18) (is (the t.Not)) (inverted m j c) up (behind_leaves (the t.Not) (mapped s.not (negation m j c)) (mapped_stays s.not (negation m j c) (exact_stays (Negation m o c) on_comparison (negation m j c) (negation-exact m o j d.other c)))) ts h
      | inr same ↦ absurd (let e = g.0 same in omega (arith, e))
    ]
inversion_extends w k l m n o i j d (suc b) zero g ts h =
    elim (the_test (nat_le w 18)) [ inl up ↦ absurd (let lt = g.1 up in omega (arith, lt)) | inr same ↦ absurd (let e = g.0 same in omega (arith, e)) ]
inversion_extends w k l m n o i j d (suc b) (suc c) g ts h =
    behind_extends w (the t.Not) (mapped s.not (negation l i b)) (mapped s.not (negation m j c)) (mapped_extends w s.not (negation l i b) (negation m j c) (negation_extends w k l m n o i j d b c (λ h. (let e = g.0 h in omega (arith, e)), λ h. (let lt = g.1 h in omega (arith, lt))))) ts

gap_inside : (w k b c : ℕ) → Gap w (suc k) b c → Gap w k b c
gap_inside w k b c g = (g.0, λ h. let lt = g.1 h in omega (arith, lt))

inner_step : (w : ℕ) (l m : Limits) (n k : ℕ) → Sides w n l m (nested l n) (nested m k) (inner l n) (inner m k) → Larger w (suc n) (inner l (suc n)) (inner m (suc k))
unfolding inner
inner_step w l m n k d =
    record {
      group = λ b c g ts h. behind_extends w (the t.Open) (before (the t.Close) (disjunction l (inner l n) b)) (before (the t.Close) (disjunction m (inner m k) c))
          (mapped_extends w (λ x. x.0) (both (disjunction l (inner l n) b) (λ _. one (the t.Close))) (both (disjunction m (inner m k) c) (λ _. one (the t.Close)))
          (both_extends w (disjunction l (inner l n) b) (disjunction m (inner m k) c) (λ _. one (the t.Close)) (λ _. one (the t.Close)) (disjunction_extends w n l m (nested l n) (nested m k) (inner l n) (inner m k) d b c (gap_inside w n b c g)) (λ _. one_extends w (the t.Close)) (λ _. close_stays))) ts;
      minus = λ b c g ts h. behind_extends w (the t.Minus) (negated l (inner l n) b) (negated m (inner m k) c) (negated_extends w n l m (nested l n) (nested m k) (inner l n) (inner m k) d b c g) ts;
      inversion = λ b c g ts h. inversion_extends w n l m (nested l n) (nested m k) (inner l n) (inner m k) d b c g ts h;
    }

inverted_leaves : (w : ℕ) (m : Limits) (k : ℕ) (b c : ℕ) → nat_le w 4 ≡ true → Gap w zero b c → Leaves (is (the t.Not)) (spent (inverted m (inner m k)) c)
inverted_leaves w m k b zero up g ts h = absurd (let lt = g.1 (later w up) in omega (arith, lt))
inverted_leaves w m k b (suc c) up g ts h = behind_leaves (the t.Not) (mapped s.not (negation m (inner m k) c)) (mapped_stays s.not (negation m (inner m k) c) (exact_stays (Negation m (nested m k) c) on_comparison (negation m (inner m k) c) (negation-exact m (nested m k) (inner m k) (nested-exact m k) c))) ts h

pub inner_extends : (w : ℕ) (l m : Limits) → Raised w l m → (n k : ℕ) → Levels w n k → Larger w n (inner l n) (inner m k)
unfolding inner
inner_extends w l m up zero zero v =
    elim (the_test (nat_le w 4)) [
      | inl raise ↦ absurd (let lt = v.1 raise in omega (arith, lt))
      | inr same ↦ record { group = λ b c g ts h. refused_extends Tree w (Limit 4) same ts; minus = λ b c g ts h. refused_extends Tree w (Limit 4) same ts; inversion = λ b c g ts h. refused_extends Tree w (Limit 4) same ts }
    ]
inner_extends w l m up zero (suc k) v =
    elim (the_test (nat_le w 4)) [
      | inl raise ↦
          let e = nested-exact m k in
          record {
            group = λ b c g ts h. refused_raised w (Limit 4) (is (the t.Open)) (behind (the t.Open) (before (the t.Close) (disjunction m (inner m k) c))) raise (behind_leaves (the t.Open) (before (the t.Close) (disjunction m (inner m k) c)) (exact_stays (Before (the t.Close) (Disjunction m (nested m k) c)) never (before (the t.Close) (disjunction m (inner m k) c)) (grouped-exact m (nested m k) (inner m k) e c))) ts h;
            minus = λ b c g ts h. refused_raised w (Limit 4) (is (the t.Minus)) (behind (the t.Minus) (negated m (inner m k) c)) raise (behind_leaves (the t.Minus) (negated m (inner m k) c) (exact_stays (Negated m (nested m k) c) on_unary (negated m (inner m k) c) (negated-exact m (nested m k) (inner m k) e c))) ts h;
            inversion = λ b c g ts h. refused_raised w (Limit 4) (is (the t.Not)) (spent (inverted m (inner m k)) c) raise (inverted_leaves w m k b c raise g) ts h;
          }
      | inr same ↦ absurd (let e = v.0 same in omega (arith, e))
    ]
inner_extends w l m up (suc n) zero v =
    elim (the_test (nat_le w 4)) [ inl raise ↦ absurd (let lt = v.1 raise in omega (arith, lt)) | inr same ↦ absurd (let e = v.0 same in omega (arith, e)) ]
inner_extends w l m up (suc n) (suc k) v =
    inner_step w l m n k (record { up = up; larger = inner_extends w l m up n k (λ h. (let e = v.0 h in omega (arith, e)), λ h. (let lt = v.1 h in omega (arith, lt))); exact = nested-exact l n; other = nested-exact m k; plain = plain_nested l n; counts = nested_counts l n })

pub expression_extends : (w : ℕ) (l m : Limits) → Raised w l m → Extends w (expression l) (expression m)
unfolding expression
expression_extends w l m up =
    disjunction_extends w l.nesting l m (nested l l.nesting) (nested m m.nesting) (inner l l.nesting) (inner m m.nesting)
    (record { up = up; larger = inner_extends w l m up l.nesting m.nesting (λ h. up.agree.nesting (above w 4 h), up.nesting); exact = nested-exact l l.nesting; other = nested-exact m m.nesting; plain = plain_nested l l.nesting; counts = nested_counts l l.nesting })
    l.operations m.operations (λ h. up.agree.operations (above w 18 h), up.operations)
