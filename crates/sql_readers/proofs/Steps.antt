-- Steps of the readers of an expression, as the code takes them.
use Rattle.std.proofs.Common.{◌≡◌, ℕ, zero, suc, ◌+◌, ◌-◌, ◌<◌, ◌≤◌, true, false, List, [], ◌∷◌, drop, Some, Ok, Err, refl, sym, ap, ◌∙◌, arith, nat_lt, sub-one}
use Rattle.std.specs.Prelude.{is_some}
use Rattle.text_grammar.specs.declared.fault.Cause.TheVariants.{Limit}
use Rattle.text_grammar.specs.declared.fault.Fault.{Fault}
use Rattle.text_grammar.specs.Readers.{Reader, is, starts, fault_at, mapped, behind, before, folded}
use Rattle.text_grammar.proofs.Repeating.{Consumes, consumes}
use Rattle.text_grammar.proofs.Loops.{row_on, row_fails, row_ends}
use Rattle.iv_types.specs.declared.terminal.Terminal.{Terminal}
use Rattle.iv_types.specs.declared.terminal.Terminal.TheVariants as t
use Rattle.iv_types.specs.declared.expression.Op.{Op}
use Rattle.iv_types.specs.Tokens.{Symbol}
use Rattle.iv_types.specs.Limits.{Limits}
use Rattle.iv_types.specs.Syntax as s
use Rattle.iv_types.specs.Syntax.{Tree}
use Rattle.iv_types.specs.Expressions.{the, operations, paired, or_op, and_op, comparison_op, sum_op, product_op}
use Rattle.sql_readers.proofs.Budget.{Operand, Conjunction, Negation, Sum, Product, Unary, nested}
use Rattle.sql_readers.specs.declared.expressions.Level.{Level}
use Rattle.sql_readers.specs.declared.expressions.Level.TheVariants as level
use Rattle.sql_readers.specs.Ladder.{operand, inner, conjunction, negation, product, sum, unary, disjunction, signed, negated, spent}
use Rattle.sql_readers.specs.Levels.{pick_of, operands, chain_at}
use Rattle.sql_readers.proofs.Apart.{on_unary, on_product, on_sum, on_comparison, on_conjunction}
use Rattle.sql_readers.proofs.Ladder.{nested-exact, operand-exact, operand_starts, unary-exact, unary_begins, product-exact, product_begins, sum-exact, sum_begins, negation-exact, negation_begins, conjunction-exact, conjunction_begins}

-- an operator and the operand behind it
abbrev pub item : Limits → ℕ → Level → ℕ → Tree → Reader Symbol (Op × Tree)
item l n lv b = operand (pick_of lv) (operands l (inner l n) lv) b

abbrev pub rest_of : Limits → ℕ → Level → ℕ → Tree → Reader Symbol Tree
rest_of l n lv b = folded (is (pick_of lv)) paired (item l n lv b)

item_consumes : (l : Limits) (n : ℕ) (lv : Level) (b : ℕ) (a : Tree) → Consumes (is (pick_of lv)) (item l n lv b a)
unfolding Sum sum
item_consumes l n level.Or b a = consumes (is or_op) (Operand or_op (Conjunction l (nested l n)) b a) on_conjunction (operand or_op (conjunction l (inner l n)) b a) (operand-exact or_op (Conjunction l (nested l n)) on_conjunction (conjunction l (inner l n)) (conjunction-exact l (nested l n) (inner l n) (nested-exact l n)) (conjunction_begins l (nested l n)) b a) (operand_starts or_op (Conjunction l (nested l n)) b a)
item_consumes l n level.And b a = consumes (is and_op) (Operand and_op (Negation l (nested l n)) b a) on_comparison (operand and_op (negation l (inner l n)) b a) (operand-exact and_op (Negation l (nested l n)) on_comparison (negation l (inner l n)) (negation-exact l (nested l n) (inner l n) (nested-exact l n)) (negation_begins l (nested l n)) b a) (operand_starts and_op (Negation l (nested l n)) b a)
item_consumes l n level.Comparison b a = consumes (is comparison_op) (Operand comparison_op (Sum l (nested l n)) b a) on_sum (operand comparison_op (sum l (inner l n)) b a) (operand-exact comparison_op (Sum l (nested l n)) on_sum (sum l (inner l n)) (sum-exact l (nested l n) (inner l n) (nested-exact l n)) (sum_begins l (nested l n)) b a) (operand_starts comparison_op (Sum l (nested l n)) b a)
item_consumes l n level.Sum b a = consumes (is sum_op) (Operand sum_op (Product l (nested l n)) b a) on_product (operand sum_op (product l (inner l n)) b a) (operand-exact sum_op (Product l (nested l n)) on_product (product l (inner l n)) (product-exact l (nested l n) (inner l n) (nested-exact l n)) (product_begins l (nested l n)) b a) (operand_starts sum_op (Product l (nested l n)) b a)
item_consumes l n level.Product b a = consumes (is product_op) (Operand product_op (Unary l (nested l n)) b a) on_unary (operand product_op (unary l (inner l n)) b a) (operand-exact product_op (Unary l (nested l n)) on_unary (unary l (inner l n)) (unary-exact l (nested l n) (inner l n) (nested-exact l n)) (unary_begins l (nested l n)) b a) (operand_starts product_op (Unary l (nested l n)) b a)

room : (m n : ℕ) → m < n → nat_lt m n ≡ true
room m n h = grind arith

full : (m n : ℕ) → n ≤ m → nat_lt m n ≡ false
full m n h = grind arith

-- an operator comes next
comes : (lv : Level) (x : Symbol) (op : Op) (ts rest : List Symbol) → ts ≡ x ∷ rest → pick_of lv x ≡ Some op → starts (is (pick_of lv)) ts ≡ true
comes lv x op ts rest text found = ap (starts (is (pick_of lv))) text ∙ ap is_some found

item_ok : (l : Limits) (n : ℕ) (lv : Level) (b : ℕ) (a e : Tree) (x : Symbol) (op : Op) (rest mid : List Symbol) → operations a < b → pick_of lv x ≡ Some op → operands l (inner l n) lv (b - suc (operations a)) rest ≡ Ok (e, mid) → item l n lv b a (x ∷ rest) ≡ Ok ((op, e), mid)
item_ok l n lv b a e x op rest mid lt found h = let r = room (operations a) b lt in rw (r, found, h) refl

item_err : (l : Limits) (n : ℕ) (lv : Level) (b : ℕ) (a : Tree) (x : Symbol) (op : Op) (rest : List Symbol) (f : Fault) → operations a < b → pick_of lv x ≡ Some op → operands l (inner l n) lv (b - suc (operations a)) rest ≡ Err f → item l n lv b a (x ∷ rest) ≡ Err f
item_err l n lv b a x op rest f lt found h = let r = room (operations a) b lt in rw (r, found, h) refl

-- one turn more
pub chain_turn : (l : Limits) (n : ℕ) (lv : Level) (b : ℕ) (a e : Tree) (ts : List Symbol) (x : Symbol) (op : Op) (rest mid : List Symbol) → ts ≡ x ∷ rest → operations a < b → pick_of lv x ≡ Some op → operands l (inner l n) lv (b - suc (operations a)) rest ≡ Ok (e, mid) → rest_of l n lv b (s.pair op a e) mid ≡ rest_of l n lv b a ts
chain_turn l n lv b a e ts x op rest mid text lt found h =
    row_on (is (pick_of lv)) paired (item l n lv b) a ts mid (op, e) (item_consumes l n lv b) (comes lv x op ts rest text found) (ap (item l n lv b a) text ∙ item_ok l n lv b a e x op rest mid lt found h)

pub chain_fails : (l : Limits) (n : ℕ) (lv : Level) (b : ℕ) (a : Tree) (ts : List Symbol) (x : Symbol) (op : Op) (rest : List Symbol) (f : Fault) → ts ≡ x ∷ rest → operations a < b → pick_of lv x ≡ Some op → operands l (inner l n) lv (b - suc (operations a)) rest ≡ Err f → rest_of l n lv b a ts ≡ Err f
chain_fails l n lv b a ts x op rest f text lt found h =
    row_fails (is (pick_of lv)) paired (item l n lv b) a ts f (comes lv x op ts rest text found) (ap (item l n lv b a) text ∙ item_err l n lv b a x op rest f lt found h)

-- no operation is left
pub chain_full : (l : Limits) (n : ℕ) (lv : Level) (b : ℕ) (a : Tree) (ts : List Symbol) (x : Symbol) (op : Op) (rest : List Symbol) → ts ≡ x ∷ rest → b ≤ operations a → pick_of lv x ≡ Some op → rest_of l n lv b a ts ≡ Err (fault_at (Limit 18) ts)
chain_full l n lv b a ts x op rest text le found =
    row_fails (is (pick_of lv)) paired (item l n lv b) a ts (fault_at (Limit 18) ts) (comes lv x op ts rest text found) (let r = full (operations a) b le in rw r refl)

pub chain_ends : (l : Limits) (n : ℕ) (lv : Level) (b : ℕ) (a : Tree) (ts : List Symbol) → starts (is (pick_of lv)) ts ≡ false → rest_of l n lv b a ts ≡ Ok (a, ts)
chain_ends l n lv b a ts h = row_ends (is (pick_of lv)) paired (item l n lv b) a ts h

-- ---- one level further in

pub group_zero : (l : Limits) (n b : ℕ) (ts : List Symbol) → n ≡ 0 → (inner l n).group b ts ≡ Err (fault_at (Limit 4) ts)
unfolding inner
group_zero l zero b ts e = refl
group_zero l (suc n) b ts e = absurd (omega arith)

pub minus_zero : (l : Limits) (n b : ℕ) (ts : List Symbol) → n ≡ 0 → (inner l n).minus b ts ≡ Err (fault_at (Limit 4) ts)
unfolding inner
minus_zero l zero b ts e = refl
minus_zero l (suc n) b ts e = absurd (omega arith)

pub inversion_zero : (l : Limits) (n b : ℕ) (ts : List Symbol) → n ≡ 0 → (inner l n).inversion b ts ≡ Err (fault_at (Limit 4) ts)
unfolding inner
inversion_zero l zero b ts e = refl
inversion_zero l (suc n) b ts e = absurd (omega arith)

pub group_suc : (l : Limits) (n b : ℕ) (ts : List Symbol) → 0 < n → (inner l n).group b ts ≡ behind (the t.Open) (before (the t.Close) (disjunction l (inner l (n - 1)) b)) ts
unfolding inner
group_suc l zero b ts h = absurd (omega arith)
group_suc l (suc n) b ts h = rw sub-one refl

pub minus_suc : (l : Limits) (n b : ℕ) (ts : List Symbol) → 0 < n → (inner l n).minus b ts ≡ behind (the t.Minus) (negated l (inner l (n - 1)) b) ts
unfolding inner
minus_suc l zero b ts h = absurd (omega arith)
minus_suc l (suc n) b ts h = rw sub-one refl

pub inversion_suc : (l : Limits) (n b : ℕ) (ts : List Symbol) → 0 < n → (inner l n).inversion b ts ≡ spent (λ c. behind (the t.Not) (mapped s.not (negation l (inner l (n - 1)) c))) b ts
unfolding inner
inversion_suc l zero b ts h = absurd (omega arith)
inversion_suc l (suc n) b ts h = rw sub-one refl

-- ---- the same, as the code counts

behind_first : (x : Symbol) (ts rest after : List Symbol) → ts ≡ x ∷ rest → after ≡ drop 1 ts → after ≡ rest
behind_first x ts rest after text e = e ∙ ap (drop 1) text

one_less : (left a b : ℕ) → left + a ≡ b → 0 < left → left - 1 ≡ b - suc a
one_less left a b e h = omega arith

pub turned : (l : Limits) (n : ℕ) (lv : Level) (b : ℕ) (a e : Tree) (ts : List Symbol) (x : Symbol) (op : Op) (rest after mid : List Symbol) (left : ℕ) → ts ≡ x ∷ rest → pick_of lv x ≡ Some op → after ≡ drop 1 ts → left + operations a ≡ b → 0 < left → operands l (inner l n) lv (left - 1) after ≡ Ok (e, mid) → rest_of l n lv b (s.pair op a e) mid ≡ rest_of l n lv b a ts
turned l n lv b a e ts x op rest after mid left text found passed count some h =
    chain_turn l n lv b a e ts x op rest mid text (omega arith) found
    (ap (operands l (inner l n) lv (b - suc (operations a))) (sym (behind_first x ts rest after text passed)) ∙ ap (λ (k : ℕ). operands l (inner l n) lv k after) (sym (one_less left (operations a) b count some)) ∙ h)

pub turn_fails : (l : Limits) (n : ℕ) (lv : Level) (b : ℕ) (a : Tree) (ts : List Symbol) (x : Symbol) (op : Op) (rest after : List Symbol) (left : ℕ) (f : Fault) → ts ≡ x ∷ rest → pick_of lv x ≡ Some op → after ≡ drop 1 ts → left + operations a ≡ b → 0 < left → operands l (inner l n) lv (left - 1) after ≡ Err f → rest_of l n lv b a ts ≡ Err f
turn_fails l n lv b a ts x op rest after left f text found passed count some h =
    chain_fails l n lv b a ts x op rest f text (omega arith) found
    (ap (operands l (inner l n) lv (b - suc (operations a))) (sym (behind_first x ts rest after text passed)) ∙ ap (λ (k : ℕ). operands l (inner l n) lv k after) (sym (one_less left (operations a) b count some)) ∙ h)

-- a keyword or mark comes first
pub behind_started : {A : Type 0} (k : Terminal) (r : Reader Symbol A) (ts : List Symbol) → starts (is (the k)) ts ≡ true → behind (the k) r ts ≡ r (drop 1 ts)
behind_started k r [] h = absurd cc
behind_started k r (x ∷ xs) h = rw h refl

spent_some : {A : Type 0} (r : ℕ → Reader Symbol A) (b : ℕ) (ts : List Symbol) → 0 < b → spent r b ts ≡ r (b - 1) ts
spent_some r zero ts h = absurd (omega arith)
spent_some r (suc b) ts h = rw sub-one refl

spent_none : {A : Type 0} (r : ℕ → Reader Symbol A) (b : ℕ) (ts : List Symbol) → b ≡ 0 → spent r b ts ≡ Err (fault_at (Limit 18) ts)
spent_none r zero ts h = refl
spent_none r (suc b) ts h = absurd (omega arith)

pub negation_deep : (l : Limits) (n b : ℕ) (ts : List Symbol) → starts (is (the t.Not)) ts ≡ true → n ≡ 0 → negation l (inner l n) b ts ≡ Err (fault_at (Limit 4) ts)
unfolding negation
negation_deep l n b ts h e = rw h (inversion_zero l n b ts e)

pub negation_full : (l : Limits) (n b : ℕ) (ts : List Symbol) → starts (is (the t.Not)) ts ≡ true → 0 < n → b ≡ 0 → negation l (inner l n) b ts ≡ Err (fault_at (Limit 18) ts)
unfolding negation
negation_full l n b ts h lt e = rw h (inversion_suc l n b ts lt ∙ spent_none (λ c. behind (the t.Not) (mapped s.not (negation l (inner l (n - 1)) c))) b ts e)

pub negation_not : (l : Limits) (n b : ℕ) (ts : List Symbol) → starts (is (the t.Not)) ts ≡ true → 0 < n → 0 < b → negation l (inner l n) b ts ≡ mapped s.not (negation l (inner l (n - 1)) (b - 1)) (drop 1 ts)
unfolding negation
negation_not l n b ts h lt some =
    rw h (inversion_suc l n b ts lt ∙ spent_some (λ c. behind (the t.Not) (mapped s.not (negation l (inner l (n - 1)) c))) b ts some ∙ behind_started t.Not (mapped s.not (negation l (inner l (n - 1)) (b - 1))) ts h)

pub signed_minus_deep : (l : Limits) (n b : ℕ) (ts : List Symbol) → starts (is (the t.Minus)) ts ≡ true → n ≡ 0 → signed l (inner l n) b ts ≡ Err (fault_at (Limit 4) ts)
unfolding signed
signed_minus_deep l n b ts h e = rw h (minus_zero l n b ts e)

pub signed_minus : (l : Limits) (n b : ℕ) (ts : List Symbol) → starts (is (the t.Minus)) ts ≡ true → 0 < n → signed l (inner l n) b ts ≡ negated l (inner l (n - 1)) b (drop 1 ts)
unfolding signed
signed_minus l n b ts h lt = rw h (minus_suc l n b ts lt ∙ behind_started t.Minus (negated l (inner l (n - 1)) b) ts h)

pub signed_open_deep : (l : Limits) (n b : ℕ) (ts : List Symbol) → starts (is (the t.Minus)) ts ≡ false → starts (is (the t.Open)) ts ≡ true → n ≡ 0 → signed l (inner l n) b ts ≡ Err (fault_at (Limit 4) ts)
unfolding signed
signed_open_deep l n b ts m h e = rw (m, h) (group_zero l n b ts e)

pub signed_open : (l : Limits) (n b : ℕ) (ts : List Symbol) → starts (is (the t.Minus)) ts ≡ false → starts (is (the t.Open)) ts ≡ true → 0 < n → signed l (inner l n) b ts ≡ before (the t.Close) (chain_at l (inner l (n - 1)) level.Or b) (drop 1 ts)
unfolding signed disjunction
signed_open l n b ts m h lt = rw (m, h) (group_suc l n b ts lt ∙ behind_started t.Open (before (the t.Close) (disjunction l (inner l (n - 1)) b)) ts h)
