-- A table: its rows under their keys, one row a key, in the order of the keys.
use Rattle.std.specs.Prelude.{Bool, List, [], ◌∷◌, Option, Some, None, if◌then◌else◌}
use Rattle.std.specs.FinMap.{FinMap, insert, remove}
use Rattle.std.specs.declared.cmp.Ordering.{Ordering}

module _ {K : Type 0} {R : K → K → Ordering} {X : Type 0} where
  -- the table with this row under the key, or with none there
  abbrev pub write : FinMap R X → K → Option X → FinMap R X
  write table key None = remove table key
  write table key (Some row) = insert table key row

module _ {K X : Type 0} where
  -- the entries that pass a test of key and row, in their order
  abbrev pub rows_where : (K → X → Bool) → List (K × X) → List (K × X)
  rows_where test [] = []
  rows_where test (e ∷ es) = if test e.0 e.1 then e ∷ rows_where test es else rows_where test es

-- the row that stood under a key, if one did, and the row that stands there after, if one does
pub record Change (K X : Type 0) : Type 0 where
  pub key : K
  pub before : Option X
  pub after : Option X
