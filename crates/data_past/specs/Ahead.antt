-- No clause of `run` rests on this module: it serves contracts between crates.
--
-- The versions that commits will leave, made ahead as changes are put.
use Rattle.std.specs.Prelude.{◌≡◌, ◌≢◌, ◌≤◌, ◌+◌, ℕ, List, [], ◌++◌, map, reverse, length, sum_by, slice_get, Option, Some, None, vec_capacity}
use Rattle.iv_types.specs.declared.lock.GroupDelta.{GroupDelta}
use Rattle.iv_meaning.specs.Schema.{Schema}
use Rattle.txn_machine.specs.Deltas.{RowChange}
use Rattle.txn_machine.specs.Store.{Store, schema_of, now, changes_by}
use Rattle.version_chain.specs.declared.rows.Version as row
use Rattle.data_store.specs.Machine.{bytes_of}
use Rattle.data_past.specs.Moves.{pays_of}
use Rattle.data_past.specs.declared.versions.Versions.{Versions}

-- ---- of one session

abbrev pub rows_of : Option Versions → List row.Version
rows_of None = []
rows_of (Some v) = v.rows.items

abbrev pub deltas_of : Option Versions → List GroupDelta
deltas_of None = []
deltas_of (Some v) = v.deltas.items

-- session k's at place k
abbrev pub rows_at : List Versions → ℕ → List row.Version
rows_at all session = rows_of (slice_get all session)

abbrev pub deltas_at : List Versions → ℕ → List GroupDelta
deltas_at all session = deltas_of (slice_get all session)

-- there is room for one more, and for so many deltas more
pub record HasRoomFor (more : ℕ) (v : Versions) : Type 0 where
  pub rows : length v.rows.items + 1 ≤ vec_capacity v.rows
  pub deltas : length v.deltas.items + more ≤ vec_capacity v.deltas

abbrev pub CanAddAt : List Versions → ℕ → ℕ → Type 0
CanAddAt all session deltas = (v : Versions) × (slice_get all session ≡ Some v) × HasRoomFor deltas v

-- ---- of all

abbrev pub rows_in : Versions → ℕ
rows_in v = length v.rows.items

abbrev pub deltas_in : Versions → ℕ
deltas_in v = length v.deltas.items

abbrev pub all_rows : List Versions → ℕ
all_rows all = sum_by rows_in all

abbrev pub all_deltas : List Versions → ℕ
all_deltas all = sum_by deltas_in all

-- a session's are these now, and those of others are as before
pub record Becomes (old new : List Versions) (session : ℕ) (versions : List row.Version) (paid : List GroupDelta) : Type 0 where
  pub rows : rows_at new session ≡ versions
  pub deltas : deltas_at new session ≡ paid
  pub other_rows : (other : ℕ) → other ≢ session → rows_at new other ≡ rows_at old other
  pub other_deltas : (other : ℕ) → other ≢ session → deltas_at new other ≡ deltas_at old other
  pub sum : all_rows new + length (rows_at old session) ≡ all_rows old + length versions
  pub delta_sum : all_deltas new + length (deltas_at old session) ≡ all_deltas old + length paid

-- the version that a change will leave: the bytes of the row before it
abbrev pub made_of : Schema → RowChange → row.Version
made_of objects c = record { index = c.key.0; key = c.key.1; before = bytes_of objects c.key c.before }

-- Each session's are those of the changes that it keeps, in their order, and the deltas that it has paid, before those that it owes. The
-- chains have room for all of them.
pub record IsAhead (all : List Versions) (room more : ℕ) (s : Store) : Type 0 where
  pub rows : (session : ℕ) → rows_at all session ≡ map (made_of (schema_of s)) (reverse (changes_by s session))
  pub deltas : (session : ℕ) → deltas_at all session ≡ pays_of (now s session).kept ++ (now s session).owed
  pub row_room : all_rows all ≤ room
  pub delta_room : all_deltas all ≤ more
