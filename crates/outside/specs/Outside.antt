-- What the calls of an outside do to its names and to its count of faults.
use Rattle.std.specs.Prelude.{◌≡◌, ◌≢◌, ◌<◌, ℕ, List, Option, Some, Result, MatchResult}
use Rattle.iv_types.specs.Faults.{Rose}
use Rattle.outside.specs.declared.unmade.Unmade.{Unmade}
use Rattle.outside.specs.declared.unmade.Unmade.TheVariants.{Failed, NoMemory}

abbrev by_cause : Unmade → ℕ → ℕ → Type 0
by_cause Failed before now = Rose before now
by_cause NoMemory before now = now ≡ before

-- the count rose exactly where the call failed
abbrev pub CountsUnmade : {T : Type 0} → Result T Unmade → ℕ → ℕ → Type 0
CountsUnmade result before now = MatchResult result (λ _. now ≡ before) (λ why. by_cause why before now)

-- the count rose exactly where the disk that was closed had faults
pub record CountsClosed (disk before now : ℕ) : Type 0 where
  pub failed : 0 < disk → Rose before now
  pub sound : disk ≡ 0 → now ≡ before

-- each other name is as before
abbrev pub OthersStay : {D : Type 0} → List ℕ → (List ℕ → Option D) → (List ℕ → Option D) → Type 0
OthersStay name old new = (other : List ℕ) → other ≢ name → new other ≡ old other

-- a disk lay there, and this one reads as that one does; a crash leaves nothing else of it
pub record ReadsAsBefore {D : Type 0} (size : D → ℕ) (seen : D → List ℕ) (may_leave : D → List ℕ → Type 0) (lay : Option D) (disk : D) : Type 0 where
  pub closed : D
  pub there : lay ≡ Some closed
  pub same_size : size disk ≡ size closed
  pub reads : seen disk ≡ seen closed
  pub crash : (c : List ℕ) → may_leave disk c → may_leave closed c
