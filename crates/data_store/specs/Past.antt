-- No clause of `run` rests on this module: it serves contracts between crates.
--
-- What stood under a key at a commit number: by what is committed now, and by the versions.
use Rattle.std.specs.Prelude.{◌≡◌, ◌⊎◌, ℕ, false, List, [], ◌∷◌, Option, Some, None, IfSome, IsSome, if◌then◌else◌}
use Rattle.std.specs.Option.{option_map_or}
use Rattle.std.specs.Ordering.{nat_cmp, is_gt}
use Rattle.std.specs.Cmp.Lexicographic.{slice_cmp}
use Rattle.std.specs.FinMap.{FinMap, get}
use Rattle.iv_types.specs.declared.catalog.TableDef.{TableDef}
use Rattle.iv_types.specs.Maps.{Map, Entry}
use Rattle.table_laws.specs.Place.{Place, place_cmp}
use Rattle.iv_meaning.specs.Database.{Row, Rows}
use Rattle.table_store.specs.Stored.{stored, StandsUnder}
use Rattle.version_chain.specs.Versions.{Version}
use Rattle.version_chain.specs.Chains.{is_empty, row_at, IsUpTo, HasUpTo}
use Rattle.data_store.specs.declared.store.Pending.{Pending}

-- the committed rows of keys that open transactions have changed
abbrev pub Pendings : Type 0
Pendings = FinMap place_cmp Pending

abbrev pub RowVersions : Type 0
RowVersions = List (Version (Option (List ℕ)))

-- the committed value under a key: what is stored, unless an open transaction has changed it
abbrev pub committed_value : Pendings → (ℕ → Map) → Place → Option (List ℕ)
committed_value pending maps place = option_map_or (λ p. p.committed) (get pending place) (get (maps place.0) place.1)

-- the value under a key at a commit number
abbrev pub value_at : ℕ → RowVersions → Pendings → (ℕ → Map) → Place → Option (List ℕ)
value_at number versions pending maps place = row_at number place (committed_value pending maps place) versions

-- these were the rows of a table at a commit number
pub record WereRows (number : ℕ) (versions : RowVersions) (pending : Pendings) (maps : ℕ → Map) (rows : Rows) (t : TableDef) : Type 0 where
  pub same : (key : List ℕ) → value_at number versions pending maps (t.number, key) ≡ stored t (get rows (t.number, key))
  pub fitting : (key : List ℕ) (row : Row) → get rows (t.number, key) ≡ Some row → StandsUnder t key row

-- ---- the rows of an interval

-- a map that has what stood under the keys of an index at a commit number
abbrev pub IsMapAt : ℕ → RowVersions → Pendings → (ℕ → Map) → ℕ → Map → Type 0
IsMapAt number versions pending maps index m = (key : List ℕ) → get m key ≡ value_at number versions pending maps (index, key)

-- the entry of a key, if it has a value
abbrev pub entry_of : List ℕ → Option (List ℕ) → List Entry
entry_of key None = []
entry_of key (Some value) = (key, value) ∷ []

-- something stands under a key of an index, or did at some number
abbrev pub IsKnown : RowVersions → Pendings → (ℕ → Map) → ℕ → List ℕ → Type 0
IsKnown versions pending maps index key = (IsSome (get (maps index) key) ⊎ IsSome (get pending (index, key))) ⊎ (is_empty (index, key) versions ≡ false)

-- the least key at or after this one of which something is so, if there is one
pub record IsLeast (P : List ℕ → Type 0) (key : List ℕ) (found : Option (List ℕ)) : Type 0 where
  pub held : IfSome found (λ k. IsUpTo key k × P k)
  pub least : (k : List ℕ) → IsUpTo key k → P k → HasUpTo found k

-- the lesser of two keys, or the one that there is
abbrev pub lesser : Option (List ℕ) → Option (List ℕ) → Option (List ℕ)
lesser None other = other
lesser (Some one) None = Some one
lesser (Some one) (Some other) = if is_gt (slice_cmp nat_cmp one other) then Some other else Some one
