-- No clause of `run` rests on this module: it serves contracts between crates.
--
-- Groups of views and deltas, as records say them.
use Rattle.std.specs.Prelude.{◌≡◌, ℕ, ℤ, List, length}
use Rattle.iv_types.specs.declared.value.Kind.{Kind}
use Rattle.iv_types.specs.declared.lock.GroupDelta.{GroupDelta}
use Rattle.iv_types.specs.Encoding.{FitAll, key_bytes}
use Rattle.table_laws.specs.Place.{Place}
use Rattle.iv_meaning.specs.Schema.{Schema}
use Rattle.iv_meaning.specs.Database.{Row}
use Rattle.txn_log.specs.Fitting.{IsGroup}

-- the key of some values of these columns
pub record IsKeyIn (kinds : List Kind) (key : List ℕ) : Type 0 where
  pub values : Row
  pub fits : FitAll kinds values
  pub is : key ≡ key_bytes kinds values

-- a group of a view whose rows have so many sums
abbrev pub IsGroupOf : Schema → Place → ℕ → Type 0
IsGroupOf objects place sums = (g : IsGroup objects place) × (sums ≡ length g.of.sums)

-- the delta of this count and these sums for a group of a view
abbrev pub delta : ℕ → List ℕ → ℤ → List ℤ → GroupDelta
delta view group count sums = record { view = view; group = group; count = count; sums = sums }
