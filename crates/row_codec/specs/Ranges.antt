-- No clause of `run` rests on this module: it serves contracts between crates.
--
-- Words on ranges of keys.
use Rattle.std.specs.Prelude.{◌≡◌, ◌⊎◌, ℕ, ◌<◌, List, ◌++◌}
use Rattle.std.specs.List.{AllByRecursion}
use Rattle.iv_types.specs.Intervals.{IsAtMost}

abbrev pub AreBytes : List ℕ → Type 0
AreBytes key = AllByRecursion (λ b. b < 256) key

abbrev pub BeginsWith : List ℕ → List ℕ → Type 0
BeginsWith prefix key = (rest : List ℕ) × (key ≡ prefix ++ rest)

-- the greater of two, in lexicographic order
pub record IsGreater (a b greater : List ℕ) : Type 0 where
  pub one : (greater ≡ a) ⊎ (greater ≡ b)
  pub from_a : IsAtMost a greater
  pub from_b : IsAtMost b greater
