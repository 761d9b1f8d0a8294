-- No clause of `run` rests on this module: it serves contracts between crates.
--
-- The closed disks of an outside in memory.
use Rattle.std.specs.Prelude.{ℕ, ◌+◌, Bool, if◌then◌else◌, List, [], ◌∷◌, Option, Some, None, String, string_bytes, eqb}
use Rattle.std.specs.Cmp.Lexicographic.{pointwise}
use Rattle.outside.specs.declared.list_disk.ListDisk.{ListDisk}
use Rattle.outside.specs.declared.closed.ClosedDisk.{ClosedDisk}

abbrev pub is_named : List ℕ → ClosedDisk → Bool
is_named name p = pointwise eqb (string_bytes p.name) name

-- the disk that lies under a name: that which was closed last
abbrev pub lies_in : List ClosedDisk → List ℕ → Option ListDisk
lies_in [] name = None
lies_in (p ∷ ps) name = if is_named name p then Some p.disk else lies_in ps name

abbrev pub one_if : Bool → ℕ
one_if b = if b then 1 else 0

-- how many disks have the name
abbrev pub times_in : List ClosedDisk → List ℕ → ℕ
times_in [] name = 0
times_in (p ∷ ps) name = one_if (is_named name p) + times_in ps name

-- one for the name that is open, if it is this one
abbrev pub times_open : {A : Type 0} → Option (String A) → List ℕ → ℕ
times_open None name = 0
times_open (Some opened) name = one_if (pointwise eqb (string_bytes opened) name)
