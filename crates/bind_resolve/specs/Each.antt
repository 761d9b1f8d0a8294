-- No clause of `run` rests on this module: it serves contracts between crates.
--
-- What a step answers at each of some things, up to the first refusal.
use Rattle.std.specs.Prelude.{◌≡◌, ◌⊎◌, List, [], ◌∷◌, Result, Ok, Err}
use Rattle.std.specs.List.{AllZip}
use Rattle.iv_types.specs.declared.refusal.Refusal.{Refusal}
use Rattle.iv_types.specs.declared.refusal.Refusal.TheVariants.{NoMemory}

-- each gives something, up to one that is refused so
abbrev pub FailsAt : {X A : Type 0} → (X → Result A Refusal → Type 0) → List X → Refusal → Type 0
FailsAt R [] r = ⊥
FailsAt {X} {A} R (x ∷ xs) r = R x (Err r) ⊎ ((a : A) × R x (Ok a) × FailsAt R xs r)

-- what each gives, or the first refusal
abbrev pub EachBy : {X A : Type 0} → (X → Result A Refusal → Type 0) → List X → Result (List A) Refusal → Type 0
EachBy R xs (Ok as_) = AllZip (λ x a. R x (Ok a)) xs as_
EachBy R xs (Err r) = (r ≡ NoMemory) ⊎ FailsAt R xs r
