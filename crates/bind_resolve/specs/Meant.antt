-- No clause of `run` rests on this module: it serves contracts between crates.
--
-- When a step answers what is meant.
use Rattle.std.specs.Prelude.{◌≡◌, ◌⊎◌, Result, Ok, Err}
use Rattle.iv_types.specs.declared.refusal.Refusal.{Refusal}
use Rattle.iv_types.specs.declared.refusal.Refusal.TheVariants.{NoMemory}

-- it gives what is meant, or the refusal that is meant, unless memory ran out
abbrev pub IsMeant : {A B : Type 0} → (A → B) → Result A Refusal → Result B Refusal → Type 0
IsMeant f (Ok a) meant = meant ≡ Ok (f a)
IsMeant f (Err r) meant = (r ≡ NoMemory) ⊎ (meant ≡ Err r)
