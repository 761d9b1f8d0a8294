-- Rows that are chosen one after another.
use Rattle.std.specs.Prelude.{List, ◌++◌, Option}
use Rattle.std.specs.Option.{option_map}

-- what was chosen, before others
abbrev pub behind : {X : Type 0} → List X → Option (List X) → Option (List X)
behind found more = option_map (λ xs. found ++ xs) more
