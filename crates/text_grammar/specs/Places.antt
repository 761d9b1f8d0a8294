-- The place from which no text of a language goes on.
use Rattle.std.specs.Prelude.{◌≡◌, ℕ, suc, List, [], ◌∷◌, ◌++◌, length}
use Rattle.text_grammar.specs.declared.fault.Cause.{Cause}
use Rattle.text_grammar.specs.declared.fault.Cause.TheVariants.{Syntax, Limit}
use Rattle.text_grammar.specs.declared.fault.Fault.{Fault}
use Rattle.text_grammar.specs.Languages.{Lang}

-- the tokens begin something that is spelled
pub record Begins {T A : Type 0} (p : Lang T A) (front : List T) : Type 0 where
  pub more : List T
  pub value : A
  pub spelled : p (front ++ more) value

-- with the next token they begin nothing, and where there is none they spell nothing
abbrev pub Stuck : {T A : Type 0} → Lang T A → List T → List T → Type 0
Stuck {A = A} p front [] = (a : A) → p front a → ⊥
Stuck p front (t ∷ rest) = Begins p (front ++ (t ∷ [])) → ⊥

-- with the next token they begin something
abbrev pub GoesOn : {T A : Type 0} → Lang T A → List T → List T → Type 0
GoesOn p front [] = ⊥
GoesOn p front (t ∷ rest) = Begins p (front ++ (t ∷ []))

-- A language under limits, of which `Agree w l m` says that l and m have the same limits of all numbers below w.
--
-- A syntax fault: under no limits does a text go on so. Limit w: with the limits below it, a text does, and with limit w
-- besides none does.
abbrev pub IsCause : {T A L : Type 0} → (p : L → Lang T A) → (Agree : ℕ → L → L → Type 0) → L → Cause → List T → List T → Type 0
IsCause {L = L} p Agree limits Syntax front rest = (l : L) → Stuck (p l) front rest
IsCause {L = L} p Agree limits (Limit w) front rest =
    ((l : L) × Agree w limits l × GoesOn (p l) front rest) × ((l : L) → Agree (suc w) limits l → Stuck (p l) front rest)

-- What stands before the last tokens begins something in the language under these limits, and with the next token, or
-- where there is none, that is no longer so, for the cause that the fault names.
pub record FirstFault {T A L : Type 0} (p : L → Lang T A) (Agree : ℕ → L → L → Type 0) (limits : L) (ts : List T) (f : Fault) : Type 0 where
  pub front : List T
  pub rest : List T
  pub text : ts ≡ front ++ rest
  pub place : length rest ≡ f.left
  pub begins : Begins (p limits) front
  pub stuck : Stuck (p limits) front rest
  pub cause : IsCause p Agree limits f.cause front rest
