-- Lemmas on rows that are set to others, one after the other.
use Rattle.std.specs.Prelude.{◌≡◌, ◌<◌, ◌+◌, ℕ, true, false, cond, List, [], ◌∷◌, ◌++◌, map, filter, length, drop, get_or}
use Rattle.std.proofs.Common.{append_assoc}
use Rattle.std.proofs.lemmas.List.{at_drop_more}
use mathlib.Core.Path.{refl, sym, ap, ◌∙◌}
use Rattle.iv_types.specs.declared.catalog.TableDef.{TableDef}
use Rattle.iv_meaning.specs.Database.{Row}
use Rattle.iv_meaning.specs.Statement.{pairs, is_changed}
use Rattle.dml_exec.specs.Tasks.{set_in}
use Rattle.dml_exec.specs.declared.pending.Pending.{Pending}

abbrev sets_of : TableDef → List (Row × Row) → List Pending
sets_of t ps = map (set_in t) (filter is_changed ps)

one_before : (t : TableDef) (p : Row × Row) (ps : List (Row × Row)) → sets_of t (p ∷ []) ++ sets_of t ps ≡ sets_of t (p ∷ ps)
one_before t p ps = elim (is_changed p) as (λ b. map (set_in t) (cond b (p ∷ []) []) ++ sets_of t ps ≡ map (set_in t) (cond b (p ∷ filter is_changed ps) (filter is_changed ps))) [ true ↦ refl | false ↦ refl ]

-- one row more was set to another
pub one_set : (t : TableDef) (found after : List Pending) (rows : List Row) (i : ℕ) (row : Row) (old more : List Row) (a : Row) (whole : List Pending)
    → i < length rows → row ≡ get_or rows i row → old ≡ a ∷ more → after ≡ found ++ sets_of t ((row, a) ∷ [])
    → found ++ sets_of t (pairs (drop i rows) old) ≡ whole → after ++ sets_of t (pairs (drop (i + 1) rows) more) ≡ whole
one_set t found after rows i row old more a whole h is e push so_far =
    ap (λ xs. xs ++ sets_of t (pairs (drop (i + 1) rows) more)) push
    ∙ (append_assoc found (sets_of t ((row, a) ∷ [])) (sets_of t (pairs (drop (i + 1) rows) more))
    ∙ (ap (λ xs. found ++ xs) (one_before t (row, a) (pairs (drop (i + 1) rows) more)
    ∙ (ap (λ x. sets_of t ((x, a) ∷ pairs (drop (i + 1) rows) more)) is
    ∙ (sym (at_drop_more (λ rs. sets_of t (pairs rs (a ∷ more))) rows i row h)
    ∙ ap (λ os. sets_of t (pairs (drop i rows) os)) (sym e))))
    ∙ so_far))

pub no_pairs : (rows : List Row) → pairs rows [] ≡ []
no_pairs [] = refl
no_pairs (row ∷ rows) = refl

-- no row is left to set one to
pub none_set : (t : TableDef) (found : List Pending) (rows others : List Row) (old more : List Row) (whole : List Pending) → old ≡ [] → more ≡ []
    → found ++ sets_of t (pairs rows old) ≡ whole → found ++ sets_of t (pairs others more) ≡ whole
none_set t found rows others old more whole e f so_far =
    ap (λ xs. found ++ sets_of t xs) (ap (pairs others) f ∙ (no_pairs others ∙ sym (ap (pairs rows) e ∙ no_pairs rows))) ∙ so_far
