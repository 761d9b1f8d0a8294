-- No clause of `run` rests on this module: it serves contracts between crates.
--
-- Entries of indexes, at most one of each, that are taken out of maps or put into them.
use Rattle.std.specs.Prelude.{◌≡◌, ◌≢◌, ℕ, ◌≤◌, List, [], ◌∷◌, Some, None}
use Rattle.std.specs.List.{AllByRecursion}
use Rattle.std.specs.FinMap.{get, insert, remove}
use Rattle.iv_types.specs.declared.lock.IndexEntry.{IndexEntry}
use Rattle.iv_types.specs.Maps.{Map}

-- none of them is of the index
abbrev pub Off : ℕ → List IndexEntry → Type 0
Off index es = AllByRecursion (λ e. e.index ≢ index) es

-- no two are of one index
abbrev pub AreApart : List IndexEntry → Type 0
AreApart [] = Unit {0}
AreApart (e ∷ es) = Off e.index es × AreApart es

-- each is there, and none is
abbrev pub AreThere : (ℕ → Map) → List IndexEntry → Type 0
AreThere maps es = AllByRecursion (λ e. get (maps e.index) e.key ≡ Some e.value) es

abbrev pub AreAbsent : (ℕ → Map) → List IndexEntry → Type 0
AreAbsent maps es = AllByRecursion (λ e. get (maps e.index) e.key ≡ None) es

-- the index of each has room for one more
abbrev pub HavePlaces : (ℕ → ℕ) → List IndexEntry → Type 0
HavePlaces spare es = AllByRecursion (λ e. 1 ≤ spare e.index) es

-- each is taken out, and nothing else is
pub record TakesOut (es : List IndexEntry) (old new : ℕ → Map) : Type 0 where
  pub each : AllByRecursion (λ e. new e.index ≡ remove (old e.index) e.key) es
  pub rest : (n : ℕ) → Off n es → new n ≡ old n

-- each is put in, and nothing else is
pub record PutsIn (es : List IndexEntry) (old new : ℕ → Map) : Type 0 where
  pub each : AllByRecursion (λ e. new e.index ≡ insert (old e.index) e.key e.value) es
  pub rest : (n : ℕ) → Off n es → new n ≡ old n
