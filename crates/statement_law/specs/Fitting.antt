-- No clause of `run` rests on this module: it serves contracts between crates.
--
-- Whether the steps that a work asks for fit what is defined and stored.
use Rattle.std.specs.Prelude.{◌≡◌, ◌≢◌, ℕ, List, [], ◌∷◌, ◌++◌, Option, Some, None}
use Rattle.std.specs.FinMap.{get}
use Rattle.iv_types.specs.declared.statement.Mode.{Mode}
use Rattle.iv_types.specs.declared.statement.Mode.TheVariants.{Serial, Snapshot}
use Rattle.iv_types.specs.declared.catalog.TableDef.{TableDef}
use Rattle.iv_types.specs.declared.lock.LockMode.{LockMode}
use Rattle.iv_types.specs.declared.lock.LockMode.TheVariants.{Exclusive}
use Rattle.iv_types.specs.declared.lock.Want.{Want}
use Rattle.iv_types.specs.declared.value.Interval.{Interval}
use Rattle.table_laws.specs.Place.{Place}
use Rattle.table_laws.specs.Kept.{redo}
use Rattle.iv_meaning.specs.Schema.{Schema, Object, table, numbered}
use Rattle.iv_meaning.specs.Database.{Row, Database}
use Rattle.iv_meaning.specs.View.{read}
use Rattle.txn_machine.specs.Deltas.{RowChange}
use Rattle.txn_machine.specs.Ghosts.{Holds}
use Rattle.txn_machine.specs.Entries.{entry_key}
use Rattle.txn_machine.specs.May.{MayLock, MayPeek, FitsUnder}
use Rattle.txn_machine.specs.Acts as act
use Rattle.txn_machine.specs.Acts.{Act}
use Rattle.txn_machine.specs.Alone.{Fact, Found, WasThere, with_changes}
use Rattle.script_law.specs.Sessions.{reads_by}
use Rattle.script_law.specs.Works.{Work, fetches, puts}

-- an object may be locked so and read, or be read by a snapshot
abbrev pub MayReadBy : Mode → LockMode → Option Object → Type 0
MayReadBy Serial lock o = MayLock lock o
MayReadBy Snapshot lock o = MayPeek o

-- what is there is locked: an entry of the row in some index, or where there is none the key in the table's own
abbrev pub IsLocked : Schema → List Want → Place → Option Row → Type 0
IsLocked objects locks place None = Holds locks Exclusive place.0 place.1
IsLocked objects locks place (Some row) = (index : ℕ) × (key : List ℕ) × (entry_key objects index place row ≡ Some key) × Holds locks Exclusive index key

-- a row, or none, may be set under a key of a table, which changes what is there
pub record FitsPut (db : Database) (locks : List Want) (number : ℕ) (key : List ℕ) (new : Option Row) : Type 0 where
  pub of : TableDef
  pub table_is : numbered db.schema number ≡ Some (table of)
  pub fits : FitsUnder of key new
  pub changes : get db.rows (number, key) ≢ new
  pub locked : IsLocked db.schema locks (number, key) (get db.rows (number, key))

-- each step of a work fits that has these locks and made these changes, the latest first, where it is told what is so on a database
abbrev pub EachFits : Mode → Database → Work → List Want → List RowChange → Type 0
EachFits mode db (fetches index interval lock f) locks cs =
    MayReadBy mode lock (numbered db.schema index)
    × EachFits mode db (f (read (with_changes cs db) index interval)) (record { index = index; interval = interval; mode = lock } ∷ locks) cs
EachFits mode db (puts number key new f) locks cs =
    let before : Option Row = get (redo cs db.rows) (number, key) in
    (mode ≡ Serial) × FitsPut (with_changes cs db) locks number key new × EachFits mode db (f before) locks (record { key = (number, key); before = before; after = new } ∷ cs)
EachFits mode db w locks cs = Unit {0}

-- ---- how far a work came

-- its next step, in a transaction of a mode
abbrev pub next_step : Mode → Work → Option Act
next_step mode (fetches index interval lock f) = Some (reads_by mode index interval lock)
next_step mode (puts number key new f) = Some (act.Put number key new)
next_step mode w = None

-- What was told since a work began, the latest first, leads it here, with these changes. Its transaction kept others before.
pub data Leads (earlier : List RowChange) (begun : Work) : List Fact → List RowChange → Work → Type 0 where
  begins : Leads earlier begun [] [] begun
  finds : (told : List Fact) (cs : List RowChange) (index : ℕ) (interval : Interval) (lock : LockMode) (f : List Row → Work) (rows : List Row)
      → Leads earlier begun told cs (fetches index interval lock f) → Leads earlier begun (Found index interval rows (cs ++ earlier) ∷ told) cs (f rows)
  sets : (told : List Fact) (cs : List RowChange) (number : ℕ) (key : List ℕ) (new : Option Row) (f : Option Row → Work) (before : Option Row)
      → Leads earlier begun told cs (puts number key new f)
      → Leads earlier begun (WasThere (number, key) new before (cs ++ earlier) ∷ told) (record { key = (number, key); before = before; after = new } ∷ cs) (f before)
