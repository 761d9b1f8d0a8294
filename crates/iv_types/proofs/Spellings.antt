-- No two terminals have one spelling.
use Rattle.std.proofs.Common.{◌≡◌, ℕ, true, List, [], ◌∷◌, ◌++◌, Option, Some, None, rules, refl, sym, ap, ◌∙◌}
use Rattle.std.specs.Prelude.{is_some, if◌then◌else◌}
use Rattle.std.specs.Str.{bytes_eq}
use Rattle.std.proofs.lemmas.Bool.Decides.{same_from_decides}
use Rattle.std.proofs.lemmas.Slice.Eq.{bytes_eq-Decides}
use denote.Enum.Bare.{sameb, same_true, true_same}
use Rattle.iv_types.specs.contracts.terminal.Terminal.{the_type}
use Rattle.iv_types.specs.declared.terminal.Terminal.{Terminal}
use Rattle.iv_types.specs.declared.terminal.Terminal.TheVariants as t
use Rattle.iv_types.specs.Terminals.{spelling, same, keywords}
use Rattle.iv_types.specs.Tokens.{fixed}
use Rattle.iv_types.specs.Expressions.{the}

-- the first of these that is spelled so
abbrev spelled_among : List Terminal → List ℕ → Option Terminal
spelled_among [] bytes = None
spelled_among (k ∷ ks) bytes = if bytes_eq bytes (spelling k) then Some k else spelled_among ks bytes

abbrev terminals : List Terminal
terminals = keywords ++ (t.Open ∷ t.Close ∷ t.Comma ∷ t.Point ∷ t.Semicolon ∷ t.Star ∷ t.Plus ∷ t.Minus ∷ t.Equal ∷ t.NotEqual ∷ t.Less ∷ t.AtMost ∷ t.Greater ∷ t.AtLeast ∷ [])

found : (k : Terminal) → spelled_among terminals (spelling k) ≡ Some k
found t.And = refl
found _ = refl

one_spelling : (j k : Terminal) → spelling j ≡ spelling k → j ≡ k
one_spelling j k e = let both : Some j ≡ Some k = sym (found j) ∙ (ap (spelled_among terminals) e ∙ found k) in cc

-- the test of the code is that of the definition
pub same_is : (j k : Terminal) → sameb the_type j k ≡ same j k
unfolding same
same_is j k =
    same_from_decides (sameb the_type j k) (same j k)
    (λ h. ap spelling (same_true the_type (search rules) j k h), λ e. true_same the_type j k (one_spelling j k e))
    (bytes_eq-Decides (spelling j) (spelling k))

pub same_alike : (j k : Terminal) → same j k ≡ true → spelling j ≡ spelling k
unfolding same
same_alike j k h = (bytes_eq-Decides (spelling j) (spelling k)).0 h

pub same_itself : (k : Terminal) → same k k ≡ true
unfolding same
same_itself k = (bytes_eq-Decides (spelling k) (spelling k)).1 refl

-- a keyword or mark is itself
pub the_value : (k : Terminal) → the k (fixed k) ≡ Some tt
the_value k = let alike = same_itself k in rw alike refl

pub the_some : (k : Terminal) → is_some (the k (fixed k)) ≡ true
the_some k = ap is_some (the_value k)
