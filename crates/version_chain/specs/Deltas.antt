-- No clause of `run` rests on this module: it serves contracts between crates.
--
-- A row of a view at a commit number: what is stored now, less the deltas that were committed above that number.
use Rattle.std.specs.Prelude.{◌≡◌, ◌&&◌, ◌≤◌, ℕ, suc, nat_lt, ℤ, pos, ◌+ℤ◌, ◌-ℤ◌, List, [], ◌∷◌, get_or, if◌then◌else◌}
use Rattle.table_laws.specs.Place.{Place}
use Rattle.version_chain.specs.declared.deltas.Delta.{Delta}
use Rattle.version_chain.specs.Versions.{Version, number}
use Rattle.version_chain.specs.Chains.{is_of}
use Rattle.version_chain.specs.Law.{Call, left_by, pushed_by, AreRising}

-- what a delta adds to a column; the count is column 0, and the sums are those behind it
abbrev pub worth : ℕ → Delta → ℤ
worth column d = get_or (d.count ∷ d.sums) column (pos 0)

-- what the deltas of a place above a number add to a column
abbrev pub due : ℕ → Place → ℕ → List (Version Delta) → ℤ
due n p column [] = pos 0
due n p column (v ∷ vs) = (if is_of p v && nat_lt n (number v) then worth column v.1 else pos 0) +ℤ due n p column vs

-- numbers from a column on, each less a number of its column
abbrev pub less : (ℕ → ℤ) → ℕ → List ℤ → List ℤ
less f column [] = []
less f column (n ∷ ns) = (n -ℤ f column) ∷ less f (suc column) ns

-- Whatever was called, for a number that is not below what was pruned the kept deltas add up to those of all that was pushed.
abbrev pub DueLaw : Type 0
DueLaw = (calls : List (Call Delta)) → AreRising (pushed_by calls) → (n : ℕ) → (left_by calls).1 ≤ n → (p : Place) (column : ℕ)
    → due n p column (left_by calls).0 ≡ due n p column (pushed_by calls)
