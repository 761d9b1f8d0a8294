-- No clause of `run` rests on this module: it serves contracts between crates.
--
-- The wants of deltas that sessions owe.
use Rattle.std.specs.Prelude.{ℕ, List, [], ◌∷◌, slice_index_or, Option, None, Some}
use Rattle.iv_types.specs.declared.lock.Want.{Want}

-- session k's at place k: the wants of each delta, those of the next one to be paid first
abbrev pub wants_at : List (List (List Want)) → ℕ → List (List Want)
wants_at all session = slice_index_or all session []

abbrev pub first_of : List (List Want) → Option (List Want)
first_of [] = None
first_of (w ∷ ws) = Some w
