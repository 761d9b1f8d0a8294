-- Things in the order in which they were made, with a number and a name each.
use Rattle.std.specs.Prelude.{ℕ, zero, suc, List, [], ◌∷◌, slice_get, Option, Some, None, if◌then◌else◌}
use Rattle.std.specs.Str.{bytes_eq}

-- that of a number: they count from 1
abbrev pub of_number : {X : Type 0} → List X → ℕ → Option X
of_number xs zero = None
of_number xs (suc n) = slice_get xs n

-- the first that has a name
abbrev pub of_name : {X : Type 0} → (X → List ℕ) → List X → List ℕ → Option X
of_name name_of [] name = None
of_name name_of (x ∷ xs) name = if bytes_eq name (name_of x) then Some x else of_name name_of xs name
