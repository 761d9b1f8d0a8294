-- The readers of an expression read its grammar.
use Rattle.std.proofs.Common.{◌≡◌, ℕ, zero, suc, ◌-◌, Bool, true, false, cond, List, [], Option, Some, None, refl, arith, nat_lt}
use Rattle.std.specs.Prelude.{◌||◌}
use Rattle.iv_types.proofs.Spellings.{the_value, the_some}
use Rattle.text_grammar.specs.declared.fault.Cause.{Cause}
use Rattle.text_grammar.specs.declared.fault.Cause.TheVariants.{Limit}
use Rattle.text_grammar.specs.Readers.{Reader, is, one, both, mapped, behind, before, either, perhaps, refused, blocked}
use Rattle.text_grammar.specs.Languages.{Lang, One, Then, Both, Behind, Mapped, Before, Either, Nothing, Perhaps}
use Rattle.text_grammar.specs.Places.{Begins}
use Rattle.text_grammar.proofs.Exactness.{Exact, never, StartsWith, StartsWithout, widened, along}
use Rattle.text_grammar.proofs.Tokens.{one-exact, one_or-exact, behind-exact}
use Rattle.text_grammar.proofs.Combining.{FitsBehind, mapped-exact, then-exact, both-exact, free_behind, fits_perhaps, refused-exact, either-exact, perhaps-exact}
use Rattle.text_grammar.proofs.Repeating.{row-exact}
use Rattle.text_grammar.proofs.Blocking.{blocked-exact}
use Rattle.text_grammar.proofs.Starts.{one_starts, behind_starts, both_starts, mapped_starts, wider_starts, without, either_without, mapped_without, both_without, row_without, one_begins, behind_begins_some, both_begins, mapped_begins, row_begins, perhaps_begins, left_begins, right_begins, or_false}
use Rattle.iv_types.specs.declared.terminal.Terminal.{Terminal}
use Rattle.iv_types.specs.declared.terminal.Terminal.TheVariants as t
use Rattle.iv_types.specs.declared.expression.Op.{Op}
use Rattle.iv_types.specs.Tokens.{Symbol, fixed, name, number}
use Rattle.iv_types.specs.Limits.{Limits, allows}
use Rattle.iv_types.specs.Syntax as s
use Rattle.iv_types.specs.Syntax.{Tree}
use Rattle.iv_types.specs.Expressions.{nested as plain_nested, the, name_in, number_in, text_in, or_op, and_op, comparison_op, sum_op, product_op, operations, paired, AName, ANumber, ref_of, AReference, positive, negative, compared, AnExpression}
use Rattle.iv_types.specs.Grammar.{Only}
use Rattle.sql_readers.proofs.Budget.{Spent, Operand, Chain, Nested, Signed, Unary, Negated, Product, Sum, Comparison, Negation, Conjunction, Disjunction, nested}
use Rattle.sql_readers.specs.Ladder.{is_name, is_number, is_text, unless, name_reader, number_reader, text_reader, spent, spent_late, operand, chain, Inner, reference, signed, unary, negated, product, sum, comparison, negation, conjunction, disjunction, inner, expression}
use Rattle.sql_readers.proofs.Counting.{disjunction_counts, nested_counts}
use Rattle.sql_readers.proofs.Apart.{apart_kinds, name_is, number_is, text_is, fixed_not_number, name_not_fixed, number_not_fixed, text_not_fixed, name_not_number, name_not_text, text_not_number, product_ends, on_unary, on_product, on_sum, on_comparison, on_conjunction, on_expression, sum_ends, comparison_ends, and_ends, or_ends, close_ends}

-- ---- single tokens

allows_zero : (most : Option ℕ) → allows most 0 ≡ true
allows_zero None = refl
allows_zero (Some n) = grind arith

pub name-exact : (l : Limits) → Exact (AName l) never (name_reader l)
name-exact l = one_or-exact (unless is_name 1) (name_in l.name_bytes)

pub number-exact : (l : Limits) → Exact (ANumber l) never (number_reader l)
number-exact l = one_or-exact (unless is_number 2) (number_in l.number_value)

pub text-exact : (l : Limits) → Exact (One (text_in l.text_bytes)) never (text_reader l)
text-exact l = one_or-exact (unless is_text 3) (text_in l.text_bytes)

pub name_begins : (l : Limits) → Begins (AName l) []
name_begins l = one_begins (name_in l.name_bytes) (name []) [] (rw (allows_zero l.name_bytes) refl)

pub number_begins : (l : Limits) → Begins (ANumber l) []
number_begins l = one_begins (number_in l.number_value) (number 0) 0 (rw (allows_zero l.number_value) refl)

pub name_starts : (l : Limits) → StartsWith (AName l) is_name
name_starts l = wider_starts (AName l) (is (name_in l.name_bytes)) is_name (one_starts (name_in l.name_bytes)) (name_is l.name_bytes)

pub number_starts : (l : Limits) → StartsWith (ANumber l) is_number
number_starts l = wider_starts (ANumber l) (is (number_in l.number_value)) is_number (one_starts (number_in l.number_value)) (number_is l.number_value)

text_starts : (l : Limits) → StartsWith (One (text_in l.text_bytes)) is_text
text_starts l = wider_starts (One (text_in l.text_bytes)) (is (text_in l.text_bytes)) is_text (one_starts (text_in l.text_bytes)) (text_is l.text_bytes)

-- behind a keyword or mark
pub behind_the : {A : Type 0} (k : Terminal) (q : Lang Symbol A) (on : Symbol → Bool) (r : Reader Symbol A) → Exact q on r → Begins q [] → Exact (Behind (the k) q) on (behind (the k) r)
behind_the k q on r e some = behind-exact (the k) q on r e some

pub behind_some : {A : Type 0} (k : Terminal) (q : Lang Symbol A) → Begins q [] → Begins (Behind (the k) q) []
behind_some k q some = behind_begins_some (the k) q (fixed k) (the_some k) some

pub the_begins : (k : Terminal) → Begins (One (the k)) []
the_begins k = one_begins (the k) (fixed k) tt (the_value k)

-- ---- references

abbrev pub Column : Limits → Lang Symbol (Option (List ℕ))
Column l = Perhaps (Behind (the t.Point) (AName l))

pub column-exact : (l : Limits) → Exact (Column l) on_unary (perhaps (is (the t.Point)) (behind (the t.Point) (name_reader l)))
column-exact l =
    perhaps-exact (is (the t.Point)) (Behind (the t.Point) (AName l)) never on_unary (behind (the t.Point) (name_reader l))
    (behind_the t.Point (AName l) never (name_reader l) (name-exact l) (name_begins l))
    (behind_starts (the t.Point) (AName l))
    (λ x h. (refl, h))

pub reference-exact : (l : Limits) → Exact (AReference l) on_unary (reference l)
unfolding AReference reference
reference-exact l =
    mapped-exact ref_of (Then (AName l) (Column l)) on_unary (both (name_reader l) (λ _. perhaps (is (the t.Point)) (behind (the t.Point) (name_reader l))))
    (then-exact (AName l) (Column l) never on_unary on_unary (name_reader l) (perhaps (is (the t.Point)) (behind (the t.Point) (name_reader l))) (name-exact l) (column-exact l)
    (perhaps_begins (Behind (the t.Point) (AName l))) (free_behind (Column l) on_unary))

pub reference_begins : (l : Limits) → Begins (AReference l) []
unfolding AReference
reference_begins l = mapped_begins ref_of (Then (AName l) (Column l)) (both_begins (AName l) (λ _. Column l) (name_begins l) (λ _. perhaps_begins (Behind (the t.Point) (AName l))))

pub reference_starts : (l : Limits) → StartsWith (AReference l) is_name
unfolding AReference
reference_starts l = mapped_starts ref_of (Then (AName l) (Column l)) is_name (both_starts (AName l) (λ _. Column l) is_name (name_starts l))

-- ---- operations

only_starts : {A : Type 0} (b : Bool) (p : Lang Symbol A) (test : Symbol → Bool) → StartsWith p test → StartsWith (Only b p) test
only_starts b p test with ts a h = with ts a h.1

pub only-exact : {A : Type 0} (b : Bool) (p : Lang Symbol A) (on : Symbol → Bool) (r s : Reader Symbol A) → Exact p on r → Exact Nothing on s → Exact (Only b p) on (λ ts. cond b (r ts) (s ts))
only-exact true p on r s e refuses = along p (Only true p) on r (λ ts a h. (refl, h)) (λ ts a h. h.1) e
only-exact false p on r s e refuses = along Nothing (Only false p) on s (λ ts a h. absurd h) (λ ts a h. absurd (let bad = h.0 in cc)) refuses

refused_on : {A : Type 0} (cause : Cause) (on : Symbol → Bool) → Exact {A = A} Nothing on (refused cause)
refused_on cause on = widened Nothing never on (refused cause) (refused-exact cause) (λ x h. refl)

pub operand-exact : (pick : Symbol → Option Op) (p : ℕ → Lang Symbol Tree) (on : Symbol → Bool) (r : ℕ → Reader Symbol Tree) → ((c : ℕ) → Exact (p c) on (r c)) → ((c : ℕ) → Begins (p c) []) → (b : ℕ) (a : Tree) → Exact (Operand pick p b a) on (operand pick r b a)
operand-exact pick p on r e some b a =
    let c = b - suc (operations a) in
    only-exact (nat_lt (operations a) b) (Then (One pick) (p c)) on (both (one pick) (λ _. r c)) (refused (Limit 18))
    (then-exact (One pick) (p c) never on on (one pick) (r c) (one-exact pick) (e c) (some c) (free_behind (p c) on))
    (refused_on (Limit 18) on)

pub operand_starts : (pick : Symbol → Option Op) (p : ℕ → Lang Symbol Tree) (b : ℕ) (a : Tree) → StartsWith (Operand pick p b a) (is pick)
operand_starts pick p b a = only_starts (nat_lt (operations a) b) (Then (One pick) (p (b - suc (operations a)))) (is pick) (both_starts (One pick) (λ _. p (b - suc (operations a))) (is pick) (one_starts pick))

pub chain-exact : (pick : Symbol → Option Op) (p : ℕ → Lang Symbol Tree) (on : Symbol → Bool) (r : ℕ → Reader Symbol Tree) → ((c : ℕ) → Exact (p c) on (r c)) → ((c : ℕ) → Begins (p c) []) → ((x : Symbol) → is pick x ≡ true → on x ≡ false) → (b : ℕ) → Exact (Chain pick p b) (λ x. on x || is pick x) (chain pick r b)
chain-exact pick p on r e some ends b =
    row-exact (is pick) (λ a. a) paired (p b) (Operand pick p b) on (λ x. on x || is pick x) (r b) (operand pick r b) (e b)
    (operand-exact pick p on r e some b)
    (operand_starts pick p b)
    (ends, λ x h. or_false (on x) (is pick x) h)

pub spent-exact : {A : Type 0} (p : ℕ → Lang Symbol A) (on : Symbol → Bool) (r : ℕ → Reader Symbol A) → ((c : ℕ) → Exact (p c) on (r c)) → (b : ℕ) → Exact (Spent p b) on (spent r b)
spent-exact p on r e zero = refused_on (Limit 18) on
spent-exact p on r e (suc b) = e b

spent_late-exact : {A : Type 0} (p : ℕ → Lang Symbol A) (on : Symbol → Bool) (r : ℕ → Reader Symbol A) → ((c : ℕ) → Exact (p c) on (r c)) → (b : ℕ) → Exact (Spent p b) on (spent_late r b)
spent_late-exact p on r e zero = widened Nothing never on (blocked (Limit 18) (r zero)) (blocked-exact (Limit 18) (p zero) on (r zero) (e zero)) (λ x h. refl)
spent_late-exact p on r e (suc b) = e b

pub spent_starts : {A : Type 0} (p : ℕ → Lang Symbol A) (test : Symbol → Bool) → ((c : ℕ) → StartsWith (p c) test) → (b : ℕ) → StartsWith (Spent p b) test
spent_starts p test with zero ts a h = absurd h
spent_starts p test with (suc b) ts a h = with b ts a h

spent_without : {A : Type 0} (p : ℕ → Lang Symbol A) (other : Symbol → Bool) → ((c : ℕ) → StartsWithout (p c) other) → (b : ℕ) → StartsWithout (Spent p b) other
spent_without p other w zero ts rest a h = absurd h
spent_without p other w (suc b) ts rest a h = w b ts rest a h

-- ---- one level over what stands further in

pub record ExactNested (n : Nested) (i : Inner) : Type 0 where
  pub group : (b : ℕ) → Exact (n.group b) never (i.group b)
  pub minus : (b : ℕ) → Exact (n.minus b) on_unary (i.minus b)
  pub inversion : (b : ℕ) → Exact (n.inversion b) on_comparison (i.inversion b)
  pub group_starts : (b : ℕ) → StartsWith (n.group b) (is (the t.Open))
  pub minus_starts : (b : ℕ) → StartsWith (n.minus b) (is (the t.Minus))
  pub inversion_starts : (b : ℕ) → StartsWith (n.inversion b) (is (the t.Not))

abbrev pub Word : Limits → Lang Symbol Tree
Word l = Mapped s.word (One (text_in l.text_bytes))

abbrev pub word : Limits → Reader Symbol Tree
word l = mapped s.word (text_reader l)

abbrev pub Named : Limits → Lang Symbol Tree
Named l = Mapped s.named (AReference l)

abbrev pub named : Limits → Reader Symbol Tree
named l = mapped s.named (reference l)

pub word_starts : (l : Limits) → StartsWith (Word l) is_text
word_starts l = mapped_starts s.word (One (text_in l.text_bytes)) is_text (text_starts l)

pub named_starts : (l : Limits) → StartsWith (Named l) is_name
named_starts l = mapped_starts s.named (AReference l) is_name (reference_starts l)

word-exact : (l : Limits) → Exact (Word l) on_unary (word l)
word-exact l = widened (Word l) never on_unary (word l) (mapped-exact s.word (One (text_in l.text_bytes)) never (text_reader l) (text-exact l)) (λ x h. refl)

named-exact : (l : Limits) → Exact (Named l) on_unary (named l)
named-exact l = mapped-exact s.named (AReference l) on_unary (reference l) (reference-exact l)

pub signed-exact : (l : Limits) (n : Nested) (i : Inner) → ExactNested n i → (b : ℕ) → Exact (Signed l n b) on_unary (signed l i b)
unfolding Signed signed
signed-exact l n i e b =
    either-exact (is (the t.Minus)) (n.minus b) (Either (n.group b) (Either (Word l) (Named l))) on_unary (i.minus b) (either (is (the t.Open)) (i.group b) (either is_text (word l) (named l))) (e.minus b)
    (either-exact (is (the t.Open)) (n.group b) (Either (Word l) (Named l)) on_unary (i.group b) (either is_text (word l) (named l))
    (widened (n.group b) never on_unary (i.group b) (e.group b) (λ x h. refl))
    (either-exact is_text (Word l) (Named l) on_unary (word l) (named l) (word-exact l) (named-exact l) (word_starts l) (without (Named l) is_name is_text (named_starts l) name_not_text))
    (e.group_starts b)
    (either_without (Word l) (Named l) (is (the t.Open)) (without (Word l) is_text (is (the t.Open)) (word_starts l) (text_not_fixed t.Open)) (without (Named l) is_name (is (the t.Open)) (named_starts l) (name_not_fixed t.Open))))
    (e.minus_starts b)
    (either_without (n.group b) (Either (Word l) (Named l)) (is (the t.Minus)) (without (n.group b) (is (the t.Open)) (is (the t.Minus)) (e.group_starts b) (λ x h. apart_kinds t.Open t.Minus x refl h))
    (either_without (Word l) (Named l) (is (the t.Minus)) (without (Word l) is_text (is (the t.Minus)) (word_starts l) (text_not_fixed t.Minus)) (without (Named l) is_name (is (the t.Minus)) (named_starts l) (name_not_fixed t.Minus))))

-- what an operand of no operation, a number aside, does not begin with
pub signed_without : (l : Limits) (n : Nested) (i : Inner) (other : Symbol → Bool) → ExactNested n i → ((x : Symbol) → is (the t.Minus) x ≡ true → other x ≡ false) → ((x : Symbol) → is (the t.Open) x ≡ true → other x ≡ false) → ((x : Symbol) → is_text x ≡ true → other x ≡ false) → ((x : Symbol) → is_name x ≡ true → other x ≡ false) → (b : ℕ) → StartsWithout (Signed l n b) other
unfolding Signed
signed_without l n i other e m o w c b =
    either_without (n.minus b) (Either (n.group b) (Either (Word l) (Named l))) other (without (n.minus b) (is (the t.Minus)) other (e.minus_starts b) m)
    (either_without (n.group b) (Either (Word l) (Named l)) other (without (n.group b) (is (the t.Open)) other (e.group_starts b) o)
    (either_without (Word l) (Named l) other (without (Word l) is_text other (word_starts l) w) (without (Named l) is_name other (named_starts l) c)))

abbrev pub Numeral : Limits → (ℕ → Tree) → Lang Symbol Tree
Numeral l sign = Mapped sign (ANumber l)

abbrev pub numeral : Limits → (ℕ → Tree) → Reader Symbol Tree
numeral l sign = mapped sign (number_reader l)

numeral-exact : (l : Limits) (sign : ℕ → Tree) → Exact (Numeral l sign) on_unary (numeral l sign)
numeral-exact l sign = widened (Numeral l sign) never on_unary (numeral l sign) (mapped-exact sign (ANumber l) never (number_reader l) (number-exact l)) (λ x h. refl)

pub numeral_starts : (l : Limits) (sign : ℕ → Tree) → StartsWith (Numeral l sign) is_number
numeral_starts l sign = mapped_starts sign (ANumber l) is_number (number_starts l)

numeral_begins : (l : Limits) (sign : ℕ → Tree) → Begins (Numeral l sign) []
numeral_begins l sign = mapped_begins sign (ANumber l) (number_begins l)

no_number : (l : Limits) (n : Nested) (i : Inner) → ExactNested n i → (b : ℕ) → StartsWithout (Signed l n b) is_number
no_number l n i e b = signed_without l n i is_number e (fixed_not_number t.Minus) (fixed_not_number t.Open) text_not_number name_not_number b

pub unary-exact : (l : Limits) (n : Nested) (i : Inner) → ExactNested n i → (b : ℕ) → Exact (Unary l n b) on_unary (unary l i b)
unfolding Unary unary
unary-exact l n i e b = either-exact is_number (Numeral l positive) (Signed l n b) on_unary (numeral l positive) (signed l i b) (numeral-exact l positive) (signed-exact l n i e b) (numeral_starts l positive) (no_number l n i e b)

abbrev pub Negation_of : Limits → Nested → ℕ → Lang Symbol Tree
Negation_of l n c = Mapped s.minus (Signed l n c)

abbrev pub negation_of : Limits → Inner → ℕ → Reader Symbol Tree
negation_of l i c = mapped s.minus (signed l i c)

pub negation_of-exact : (l : Limits) (n : Nested) (i : Inner) → ExactNested n i → (c : ℕ) → Exact (Negation_of l n c) on_unary (negation_of l i c)
negation_of-exact l n i e c = mapped-exact s.minus (Signed l n c) on_unary (signed l i c) (signed-exact l n i e c)

pub negated-exact : (l : Limits) (n : Nested) (i : Inner) → ExactNested n i → (b : ℕ) → Exact (Negated l n b) on_unary (negated l i b)
unfolding Negated negated
negated-exact l n i e b =
    either-exact is_number (Numeral l negative) (Spent (Negation_of l n) b) on_unary (numeral l negative) (spent_late (negation_of l i) b) (numeral-exact l negative)
    (spent_late-exact (Negation_of l n) on_unary (negation_of l i) (negation_of-exact l n i e) b)
    (numeral_starts l negative)
    (spent_without (Negation_of l n) is_number (λ c. mapped_without s.minus (Signed l n c) is_number (no_number l n i e c)) b)

-- ---- that there are some

pub unary_begins : (l : Limits) (n : Nested) (b : ℕ) → Begins (Unary l n b) []
unfolding Unary
unary_begins l n b = left_begins (Numeral l positive) (Signed l n b) (numeral_begins l positive)

negated_begins : (l : Limits) (n : Nested) (b : ℕ) → Begins (Negated l n b) []
unfolding Negated
negated_begins l n b = left_begins (Numeral l negative) (Spent (Negation_of l n) b) (numeral_begins l negative)

chain_begins : (pick : Symbol → Option Op) (p : ℕ → Lang Symbol Tree) (b : ℕ) → Begins (p b) [] → Begins (Chain pick p b) []
chain_begins pick p b some = row_begins (λ a. a) paired (p b) (Operand pick p b) some

pub product_begins : (l : Limits) (n : Nested) (b : ℕ) → Begins (Product l n b) []
unfolding Product
product_begins l n b = chain_begins product_op (Unary l n) b (unary_begins l n b)

pub sum_begins : (l : Limits) (n : Nested) (b : ℕ) → Begins (Sum l n b) []
unfolding Sum
sum_begins l n b = chain_begins sum_op (Product l n) b (product_begins l n b)

abbrev pub Compared : Limits → Nested → ℕ → Tree → Lang Symbol (Option (Op × Tree))
Compared l n b a = Perhaps (Operand comparison_op (Sum l n) b a)

comparison_begins : (l : Limits) (n : Nested) (b : ℕ) → Begins (Comparison l n b) []
unfolding Comparison
comparison_begins l n b = mapped_begins compared (Both (Sum l n b) (Compared l n b)) (both_begins (Sum l n b) (Compared l n b) (sum_begins l n b) (λ a. perhaps_begins (Operand comparison_op (Sum l n) b a)))

pub negation_begins : (l : Limits) (n : Nested) (b : ℕ) → Begins (Negation l n b) []
unfolding Negation
negation_begins l n b = right_begins (n.inversion b) (Comparison l n b) (comparison_begins l n b)

pub conjunction_begins : (l : Limits) (n : Nested) (b : ℕ) → Begins (Conjunction l n b) []
unfolding Conjunction
conjunction_begins l n b = chain_begins and_op (Negation l n) b (negation_begins l n b)

pub disjunction_begins : (l : Limits) (n : Nested) (b : ℕ) → Begins (Disjunction l n b) []
unfolding Disjunction
disjunction_begins l n b = chain_begins or_op (Conjunction l n) b (conjunction_begins l n b)

-- ---- the ladder

pub product-exact : (l : Limits) (n : Nested) (i : Inner) → ExactNested n i → (b : ℕ) → Exact (Product l n b) on_product (product l i b)
unfolding Product product
product-exact l n i e b = chain-exact product_op (Unary l n) on_unary (unary l i) (unary-exact l n i e) (unary_begins l n) product_ends b

pub sum-exact : (l : Limits) (n : Nested) (i : Inner) → ExactNested n i → (b : ℕ) → Exact (Sum l n b) on_sum (sum l i b)
unfolding Sum sum
sum-exact l n i e b = chain-exact sum_op (Product l n) on_product (product l i) (product-exact l n i e) (product_begins l n) sum_ends b

abbrev pub further : Limits → Inner → ℕ → Tree → Reader Symbol (Option (Op × Tree))
further l i b a = perhaps (is comparison_op) (operand comparison_op (sum l i) b a)

pub comparison-exact : (l : Limits) (n : Nested) (i : Inner) → ExactNested n i → (b : ℕ) → Exact (Comparison l n b) on_comparison (comparison l i b)
unfolding Comparison comparison
comparison-exact l n i e b =
    mapped-exact compared (Both (Sum l n b) (Compared l n b)) on_comparison (both (sum l i b) (further l i b))
    (both-exact (Sum l n b) (Compared l n b) on_sum on_comparison on_comparison (sum l i b) (further l i b) (sum-exact l n i e b)
    (λ a. perhaps-exact (is comparison_op) (Operand comparison_op (Sum l n) b a) on_sum on_comparison (operand comparison_op (sum l i) b a)
    (operand-exact comparison_op (Sum l n) on_sum (sum l i) (sum-exact l n i e) (sum_begins l n) b a)
    (operand_starts comparison_op (Sum l n) b a) (λ x h. or_false (on_sum x) (is comparison_op x) h))
    (λ a. perhaps_begins (Operand comparison_op (Sum l n) b a))
    (λ a. fits_perhaps (is comparison_op) (Operand comparison_op (Sum l n) b a) on_sum on_comparison (operand_starts comparison_op (Sum l n) b a) comparison_ends (λ x h. (or_false (on_sum x) (is comparison_op x) h).0)))

-- what an expression without a NOT does not begin with
comparison_without : (l : Limits) (n : Nested) (i : Inner) (other : Symbol → Bool) → ExactNested n i → ((x : Symbol) → is_number x ≡ true → other x ≡ false) → ((b : ℕ) → StartsWithout (Signed l n b) other) → (b : ℕ) → StartsWithout (Comparison l n b) other
unfolding Comparison Sum Product Unary
comparison_without l n i other e num w b =
    mapped_without compared (Both (Sum l n b) (Compared l n b)) other
    (both_without (Sum l n b) (Compared l n b) other
    (row_without (λ a. a) paired (Product l n b) (Operand sum_op (Product l n) b) other
    (row_without (λ a. a) paired (Unary l n b) (Operand product_op (Unary l n) b) other
    (either_without (Numeral l positive) (Signed l n b) other (without (Numeral l positive) is_number other (numeral_starts l positive) num) (w b)))))

pub negation-exact : (l : Limits) (n : Nested) (i : Inner) → ExactNested n i → (b : ℕ) → Exact (Negation l n b) on_comparison (negation l i b)
unfolding Negation negation
negation-exact l n i e b =
    either-exact (is (the t.Not)) (n.inversion b) (Comparison l n b) on_comparison (i.inversion b) (comparison l i b) (e.inversion b) (comparison-exact l n i e b) (e.inversion_starts b)
    (comparison_without l n i (is (the t.Not)) e (number_not_fixed t.Not)
    (signed_without l n i (is (the t.Not)) e (λ x h. apart_kinds t.Minus t.Not x refl h) (λ x h. apart_kinds t.Open t.Not x refl h) (text_not_fixed t.Not) (name_not_fixed t.Not)) b)

pub conjunction-exact : (l : Limits) (n : Nested) (i : Inner) → ExactNested n i → (b : ℕ) → Exact (Conjunction l n b) on_conjunction (conjunction l i b)
unfolding Conjunction conjunction
conjunction-exact l n i e b = chain-exact and_op (Negation l n) on_comparison (negation l i) (negation-exact l n i e) (negation_begins l n) and_ends b

pub disjunction-exact : (l : Limits) (n : Nested) (i : Inner) → ExactNested n i → (b : ℕ) → Exact (Disjunction l n b) on_expression (disjunction l i b)
unfolding Disjunction disjunction
disjunction-exact l n i e b = chain-exact or_op (Conjunction l n) on_conjunction (conjunction l i) (conjunction-exact l n i e) (conjunction_begins l n) or_ends b

close_fits : FitsBehind (One (the t.Close)) on_expression never never
close_fits back rest b h stop = (without (One (the t.Close)) (is (the t.Close)) on_expression (one_starts (the t.Close)) close_ends back rest b h, stop)

pub grouped-exact : (l : Limits) (n : Nested) (i : Inner) → ExactNested n i → (b : ℕ) → Exact (Before (the t.Close) (Disjunction l n b)) never (before (the t.Close) (disjunction l i b))
grouped-exact l n i e b =
    mapped-exact (λ x. x.0) (Then (Disjunction l n b) (One (the t.Close))) never (both (disjunction l i b) (λ _. one (the t.Close)))
    (then-exact (Disjunction l n b) (One (the t.Close)) on_expression never never (disjunction l i b) (one (the t.Close)) (disjunction-exact l n i e b) (one-exact (the t.Close)) (the_begins t.Close) close_fits)

grouped_begins : (l : Limits) (n : Nested) (b : ℕ) → Begins (Before (the t.Close) (Disjunction l n b)) []
grouped_begins l n b = mapped_begins (λ x. x.0) (Then (Disjunction l n b) (One (the t.Close))) (both_begins (Disjunction l n b) (λ _. One (the t.Close)) (disjunction_begins l n b) (λ _. the_begins t.Close))

-- a NOT and what stands behind it
abbrev pub Inverted : Limits → Nested → ℕ → Lang Symbol Tree
Inverted l n c = Behind (the t.Not) (Mapped s.not (Negation l n c))

abbrev pub inverted : Limits → Inner → ℕ → Reader Symbol Tree
inverted l i c = behind (the t.Not) (mapped s.not (negation l i c))

pub inverted-exact : (l : Limits) (n : Nested) (i : Inner) → ExactNested n i → (c : ℕ) → Exact (Inverted l n c) on_comparison (inverted l i c)
inverted-exact l n i e c =
    behind_the t.Not (Mapped s.not (Negation l n c)) on_comparison (mapped s.not (negation l i c))
    (mapped-exact s.not (Negation l n c) on_comparison (negation l i c) (negation-exact l n i e c))
    (mapped_begins s.not (Negation l n c) (negation_begins l n c))

pub nested-exact : (l : Limits) (n : ℕ) → ExactNested (nested l n) (inner l n)
unfolding nested inner
nested-exact l zero = record {
  group = λ b. refused-exact (Limit 4);
  minus = λ b. refused_on (Limit 4) on_unary;
  inversion = λ b. refused_on (Limit 4) on_comparison;
  group_starts = λ b ts a h. absurd h;
  minus_starts = λ b ts a h. absurd h;
  inversion_starts = λ b ts a h. absurd h;
}
nested-exact l (suc n) =
    let e = nested-exact l n in
    record {
      group = λ b. behind_the t.Open (Before (the t.Close) (Disjunction l (nested l n) b)) never (before (the t.Close) (disjunction l (inner l n) b)) (grouped-exact l (nested l n) (inner l n) e b) (grouped_begins l (nested l n) b);
      minus = λ b. behind_the t.Minus (Negated l (nested l n) b) on_unary (negated l (inner l n) b) (negated-exact l (nested l n) (inner l n) e b) (negated_begins l (nested l n) b);
      inversion = λ b. spent-exact (Inverted l (nested l n)) on_comparison (inverted l (inner l n)) (inverted-exact l (nested l n) (inner l n) e) b;
      group_starts = λ b. behind_starts (the t.Open) (Before (the t.Close) (Disjunction l (nested l n) b));
      minus_starts = λ b. behind_starts (the t.Minus) (Negated l (nested l n) b);
      inversion_starts = λ b. spent_starts (Inverted l (nested l n)) (is (the t.Not)) (λ c. behind_starts (the t.Not) (Mapped s.not (Negation l (nested l n) c))) b;
    }

-- the grammar of an expression by its budget
abbrev pub CountedExpression : Limits → Lang Symbol Tree
CountedExpression l = Disjunction l (nested l l.nesting) l.operations

-- it is the grammar
pub counted : (l : Limits) (ts : List Symbol) (e : Tree) → CountedExpression l ts e → AnExpression l ts e
unfolding AnExpression
counted l ts e h = (disjunction_counts l (nested l l.nesting) (plain_nested l l.nesting) (nested_counts l l.nesting)).only l.operations ts e h

pub countable : (l : Limits) (ts : List Symbol) (e : Tree) → AnExpression l ts e → CountedExpression l ts e
unfolding AnExpression
countable l ts e h = (disjunction_counts l (nested l l.nesting) (plain_nested l l.nesting) (nested_counts l l.nesting)).all l.operations ts e h.0 h.1

pub expression-exact : (l : Limits) → Exact (AnExpression l) on_expression (expression l)
unfolding expression
expression-exact l = along (CountedExpression l) (AnExpression l) on_expression (expression l) (counted l) (countable l) (disjunction-exact l (nested l l.nesting) (inner l l.nesting) (nested-exact l l.nesting) l.operations)

pub expression_begins : (l : Limits) → Begins (AnExpression l) []
expression_begins l =
    let b = disjunction_begins l (nested l l.nesting) l.operations in
    record { more = b.more; value = b.value; spelled = counted l b.more b.value b.spelled }

-- what an expression does not begin with
pub expression_without : (l : Limits) (other : Symbol → Bool) → ((x : Symbol) → is (the t.Not) x ≡ true → other x ≡ false) → ((x : Symbol) → is (the t.Minus) x ≡ true → other x ≡ false) → ((x : Symbol) → is (the t.Open) x ≡ true → other x ≡ false) → ((x : Symbol) → is_number x ≡ true → other x ≡ false) → ((x : Symbol) → is_text x ≡ true → other x ≡ false) → ((x : Symbol) → is_name x ≡ true → other x ≡ false) → StartsWithout (AnExpression l) other
unfolding Disjunction Conjunction Negation
expression_without l other v m o d w c ts rest a h =
    let n = nested l l.nesting in
    let i = inner l l.nesting in
    let e = nested-exact l l.nesting in
    let b = l.operations in
    row_without (λ a. a) paired (Conjunction l n b) (Operand or_op (Conjunction l n) b) other
    (row_without (λ a. a) paired (Negation l n b) (Operand and_op (Negation l n) b) other
    (either_without (n.inversion b) (Comparison l n b) other (without (n.inversion b) (is (the t.Not)) other (e.inversion_starts b) v)
    (comparison_without l n i other e d (signed_without l n i other e m o w c) b))) ts rest a (countable l ts a h)
