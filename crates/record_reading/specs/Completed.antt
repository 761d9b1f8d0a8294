-- No clause of `run` rests on this module: it serves contracts between crates.
--
-- A row that has these values in the columns of its key.
use Rattle.std.specs.Prelude.{ℕ, suc, pos, ◌==◌, nat_lt, List, [], ◌∷◌, length, Option, Some, None, if◌then◌else◌}
use Rattle.std.specs.Option.{unwrap_or}
use Rattle.iv_types.specs.declared.value.Kind.{Kind}
use Rattle.iv_types.specs.declared.value.Kind.TheVariants.{Int, Huge, Text}
use Rattle.iv_types.specs.declared.value.Value.{Value}
use Rattle.iv_types.specs.declared.value.Value.TheVariants.{Number, Word}

-- 0 or the empty text
abbrev pub blank : Kind → Value
blank Int = Number (pos 0)
blank Huge = Number (pos 0)
blank Text = Word []

-- the first value that a column has among those of some places, where each place that is one of so many columns has a value
abbrev pub value_among : ℕ → List ℕ → List Value → ℕ → Option Value
value_among columns [] values column = None
value_among columns (place ∷ places) values column =
    if nat_lt place columns then elim values [
      | [] ↦ None
      | value ∷ others ↦ if place == column then Some value else value_among columns places others column
    ]
    else value_among columns places values column

-- columns from one on, each with its value, if it has one, and else blank
abbrev pub filled_from : (ℕ → Option Value) → ℕ → List Kind → List Value
filled_from value column [] = []
filled_from value column (kind ∷ kinds) = unwrap_or (value column) (blank kind) ∷ filled_from value (suc column) kinds

-- the columns of some places with these values, and blank ones
abbrev pub completed : List Kind → List ℕ → List Value → List Value
completed kinds places values = filled_from (value_among (length kinds) places values) 0 kinds
