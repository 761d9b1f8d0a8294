-- What the tests of a resolved statement give, and what a bound statement tells.
use Rattle.std.proofs.Common.{◌≡◌, ◌⊎◌, ℕ, List, [], ◌∷◌, Result, Ok, Err}
use mathlib.Core.Path.{refl, sym, ap, ◌∙◌}
use mathlib.Core.Logic.{inl, inr}
use Rattle.iv_types.specs.declared.refusal.Refusal.{Refusal}
use Rattle.iv_types.specs.declared.refusal.Refusal.TheVariants.{NoMemory}
use Rattle.iv_types.specs.Syntax.{StatementTree}
use Rattle.iv_types.specs.Printing.{statement_size}
use Rattle.iv_meaning.specs.Schema.{Schema}
use Rattle.iv_meaning.specs.Statement.{BoundTree}
use Rattle.iv_meaning.specs.Resolving.{Resolved, and_then, resolved}
use Rattle.iv_meaning.specs.Tests.{Test}
use Rattle.iv_meaning.specs.Binding.{bind, bound_of, checked, passed, passing, refuse_if}
use Rattle.bind_statements.specs.Checked.{every_test}
use Rattle.bind_resolve.proofs.Walks.{nested, under}

-- what all tests guard stands behind them
passing_is : {A : Type 0} (ts : List Test) (a : A) → passing ts a ≡ and_then (passed ts) (λ u. Ok a)
passing_is [] a = refl
passing_is (t ∷ ts) a = under (refuse_if t) _ _ (λ u. passing_is ts a) ∙ sym (nested (refuse_if t) (λ u. passed ts) (λ u. Ok a))

checked_is : (objects : Schema) (size : ℕ) (statement : Resolved) → checked objects size statement ≡ and_then (passed (every_test objects size statement)) (λ u. Ok (bound_of objects statement))
checked_is objects size statement = passing_is (every_test objects size statement) (bound_of objects statement)

-- a statement whose tests none fails
pub passes : (objects : Schema) (size : ℕ) (statement : Resolved) (b : BoundTree) → passed (every_test objects size statement) ≡ Ok tt → b ≡ bound_of objects statement → checked objects size statement ≡ Ok b
passes objects size statement b is made = checked_is objects size statement ∙ (ap (λ m. and_then m (λ u. Ok (bound_of objects statement))) is ∙ ap Ok (sym made))

-- a statement that a test refuses
pub refuses : (objects : Schema) (size : ℕ) (statement : Resolved) (r : Refusal) → (r ≡ NoMemory) ⊎ (passed (every_test objects size statement) ≡ Err r)
    → (r ≡ NoMemory) ⊎ (checked objects size statement ≡ Err r)
refuses objects size statement r (inl e) = inl e
refuses objects size statement r (inr e) = inr (checked_is objects size statement ∙ ap (λ m. and_then m (λ u. Ok (bound_of objects statement))) e)

-- ---- what a bound statement was

given : {A B : Type 0} (m : Result A Refusal) (more : A → Result B Refusal) (b : B) → and_then m more ≡ Ok b → (a : A) × (m ≡ Ok a) × (more a ≡ Ok b)
given (Ok a) more b e = (a, refl, e)
given (Err r) more b e = absurd cc

passed_by : (objects : Schema) (size : ℕ) (statement : Resolved) (b : BoundTree) → checked objects size statement ≡ Ok b
    → (passed (every_test objects size statement) ≡ Ok tt) × (b ≡ bound_of objects statement)
passed_by objects size statement b e =
    let w = given (passed (every_test objects size statement)) (λ u. Ok (bound_of objects statement)) b (sym (checked_is objects size statement) ∙ e) in
    (w.1, cc (w.2))

-- it was resolved, no test failed, and that is what it is bound to
pub checked_by : (objects : Schema) (statement : StatementTree) (b : BoundTree) → bind objects statement ≡ Ok b
    → (r : Resolved) × (resolved objects statement ≡ Ok r) × (passed (every_test objects (statement_size statement) r) ≡ Ok tt) × (b ≡ bound_of objects r)
checked_by objects statement b e =
    let w = given (resolved objects statement) (checked objects (statement_size statement)) b e in
    let v = passed_by objects (statement_size statement) w.0 b w.2 in
    (w.0, w.1, v.0, v.1)
