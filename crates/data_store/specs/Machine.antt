-- No clause of `run` rests on this module: it serves contracts between crates.
--
-- When the versions and the pending rows of a store are those of a state of the machine.
use Rattle.std.specs.Prelude.{◌≡◌, ℕ, zero, suc, ◌+◌, true, List, [], ◌∷◌, ◌++◌, map, Option, Some, None, if◌then◌else◌}
use Rattle.std.specs.List.{Contains}
use Rattle.std.specs.Ordering.{eq_by_cmp}
use Rattle.std.specs.FinMap.{get}
use Rattle.iv_types.specs.declared.lock.GroupDelta.{GroupDelta}
use Rattle.table_laws.specs.Place.{Place, place_cmp}
use Rattle.iv_meaning.specs.Schema.{Schema, Object, table, numbered}
use Rattle.iv_meaning.specs.Database.{Row, Database}
use Rattle.iv_meaning.specs.History.{Entry, fold}
use Rattle.table_store.specs.Stored.{stored}
use Rattle.txn_machine.specs.Deltas.{RowChange, place_of, is_for}
use Rattle.txn_machine.specs.Ghosts.{the_views, versions}
use Rattle.txn_machine.specs.Store.{Store, committed, schema_of, changes_by, entry_deltas}
use Rattle.version_chain.specs.Versions.{Version}
use Rattle.version_chain.specs.Law.{Call, left_by, pushed_by, Committed}
use Rattle.version_chain.specs.States.{commits_of}
use Rattle.version_chain.specs.declared.deltas.Delta.{Delta}
use Rattle.data_store.specs.Past.{Pendings, RowVersions}
use Rattle.data_store.specs.ViewPast.{DeltaVersions}
use Rattle.data_store.specs.declared.store.Pending.{Pending}

-- ---- rows as bytes

abbrev pub bytes_by : Option Object → Option Row → Option (List ℕ)
bytes_by (Some (table t)) row = stored t row
bytes_by _ row = None

-- the bytes of a row at a place of a table, if there is one
abbrev pub bytes_of : Schema → Place → Option Row → Option (List ℕ)
bytes_of objects place row = bytes_by (numbered objects place.0) row

-- ---- pending rows

-- so many of some changes are of this row
abbrev pub changes_on : Place → List RowChange → ℕ
changes_on place [] = 0
changes_on place (c ∷ cs) = (if eq_by_cmp place_cmp place c.key then 1 else 0) + changes_on place cs

-- so many changes of this row are kept by the sessions up to n
abbrev pub kept_up_to : (ℕ → List RowChange) → Place → ℕ → ℕ
kept_up_to changes place zero = 0
kept_up_to changes place (suc n) = changes_on place (changes (suc n)) + kept_up_to changes place n

abbrev pub kept_on : Store → Place → ℕ
kept_on s place = kept_up_to (changes_by s) place 64

-- where so many changes are kept of a row whose committed bytes are these
abbrev pub pending_of : ℕ → Option (List ℕ) → Option Pending
pending_of zero bytes = None
pending_of (suc n) bytes = Some (record { changes = suc n; committed = bytes })

-- ---- versions

-- what is left of versions that were pushed one after another, where those up to this number were dropped
pub record AreLeft {V : Type 0} (versions : List (Version V)) (mark : ℕ) (pushes : List (Version V)) : Type 0 where
  pub calls : List (Call V)
  pub pushed : pushed_by calls ≡ pushes
  pub left : left_by calls ≡ (versions, mark)

-- the version that a committed change leaves: the bytes of the row before it
abbrev pub version_by : Schema → Committed Row → Version (Option (List ℕ))
version_by objects c = ((c.1.key, c.0), bytes_of objects c.1.key c.1.before)

-- those of all changes of a history
abbrev pub versions_by : Schema → List Entry → RowVersions
versions_by objects history = map (version_by objects) (commits_of history)

-- the version that a delta leaves
abbrev pub delta_by : ℕ → GroupDelta → Version Delta
delta_by number d = ((place_of d, number), record { count = d.count; sums = d.sums })

-- those of the deltas of all entries
abbrev pub deltas_by : Database → List Entry → DeltaVersions
deltas_by db [] = []
deltas_by db (e ∷ es) = map (delta_by e.number) (entry_deltas the_views db e.kept) ++ deltas_by (fold (e ∷ []) db) es

-- ---- all of it

-- A key is pending just where open transactions keep changes of it, with how many there are and the bytes that are committed; the
-- versions are those that the history left, without those up to the mark; and a view row that is not stored has none.
pub record IsPast (row_versions : RowVersions) (delta_versions : DeltaVersions) (changed : Pendings) (s : Store) : Type 0 where
  pub pending : (place : Place) → get changed place ≡ pending_of (kept_on s place) (bytes_of (schema_of s) place (get (committed s).rows place))
  pub rows : AreLeft row_versions s.mark (versions_by (schema_of s) s.history)
  pub deltas : AreLeft delta_versions s.mark (deltas_by s.origin s.history)
  pub absent : (place : Place) → get s.view place ≡ None → (d : GroupDelta) → Contains (versions s) d → is_for place d ≡ true → ⊥
