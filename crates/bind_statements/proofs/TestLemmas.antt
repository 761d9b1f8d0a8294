-- Lemmas on tests one after another.
use Rattle.std.proofs.Common.{◌≡◌, ℕ, not, is_some, Bool, true, false, List, [], ◌∷◌, ◌++◌, length, Result}
use Rattle.std.specs.List.{list_all}
use mathlib.Core.Path.{refl, sym, ap, ◌∙◌}
use Rattle.iv_types.specs.declared.refusal.Refusal.{Refusal}
use Rattle.iv_types.specs.declared.refusal.Refusal.TheVariants.{WrongType}
use Rattle.iv_types.specs.declared.statement.Order.{Order}
use Rattle.iv_types.specs.declared.limit.Limit.TheVariants.{Columns}
use Rattle.iv_types.specs.declared.limit.ShapeRule.TheVariants.{NoItem}
use Rattle.iv_meaning.specs.Schema.{Schema}
use Rattle.iv_meaning.specs.Types.{query_typed}
use Rattle.iv_meaning.specs.Resolving.{ResolvedQuery, and_then, select, view}
use Rattle.iv_meaning.specs.Tests.{Test, at_most, index_test, item_named, query_rules, rule, view_rules}
use Rattle.iv_meaning.specs.Binding.{passed, refuse_if}
use Rattle.bind_statements.specs.Checked.{every_test, select_chain, view_chain, view_limits}

at_test : (t : Bool) (r : Refusal) (m n : Result (Unit {0}) Refusal)
    → and_then (refuse_if (t, r)) (λ u. and_then m (λ v. n)) ≡ and_then (and_then (refuse_if (t, r)) (λ u. m)) (λ v. n)
at_test true r m n = refl
at_test false r m n = refl

-- some tests and others behind them
pub both_passed : (ts us : List Test) → passed (ts ++ us) ≡ and_then (passed ts) (λ u. passed us)
both_passed [] us = refl
both_passed (t ∷ ts) us = ap (λ (m : Result (Unit {0}) Refusal). and_then (refuse_if t) (λ u. m)) (both_passed ts us) ∙ at_test t.0 t.1 (passed ts) (passed us)

-- what a view is tested by: its types, and then four lists of tests
view_passed : (t : Test) (ts us vs ws : List Test)
    → and_then (refuse_if t) (λ a. and_then (passed ts) (λ b. and_then (passed us) (λ c. and_then (passed vs) (λ d. passed ws)))) ≡ passed (t ∷ (ts ++ (us ++ (vs ++ ws))))
view_passed t ts us vs ws =
    ap (λ (m : Result (Unit {0}) Refusal). and_then (refuse_if t) (λ a. m)) (sym (both_passed ts (us ++ (vs ++ ws))
    ∙ ap (λ (m : Result (Unit {0}) Refusal). and_then (passed ts) (λ a. m)) (both_passed us (vs ++ ws)
    ∙ ap (λ (m : Result (Unit {0}) Refusal). and_then (passed us) (λ a. m)) (both_passed vs ws))))

pub view_is : (objects : Schema) (size : ℕ) (name : List ℕ) (query : ResolvedQuery) → view_chain objects size query ≡ passed (every_test objects size (view name query))
view_is objects size name query =
    view_passed (not (query_typed objects query), WrongType) (query_rules query) (view_rules query) (view_limits objects size query) (index_test objects query)

pub select_is : (objects : Schema) (size : ℕ) (query : ResolvedQuery) (order : List Order) → select_chain objects query order ≡ passed (every_test objects size (select query order))
select_is objects size query order =
    ap (λ (m : Result (Unit {0}) Refusal). and_then (refuse_if (not (query_typed objects query), WrongType)) (λ a. m))
    (sym (both_passed (query_rules query) (rule NoItem (not (list_all (λ o. is_some (item_named query.items o.by)) order)) ∷ at_most Columns (length query.group) ∷ [])))
