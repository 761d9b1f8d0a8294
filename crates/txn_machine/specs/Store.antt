-- No clause of `run` rests on this module: it serves contracts between crates.
--
-- What an engine stores, what was committed, and the effects of one session's steps on it. An effect is a function; whether
-- it may come is said where steps are answered.
use Rattle.std.specs.Prelude.{ℕ, ℤ, ◌+◌, true, nat_le, List, [], ◌∷◌, ◌++◌, map, filter, length, reverse, Option, Some, None, if◌then◌else◌}
use Rattle.std.specs.Option.{unwrap_or}
use Rattle.std.specs.FinMap.{get}
use Rattle.iv_types.specs.declared.statement.Mode.{Mode}
use Rattle.iv_types.specs.declared.statement.Mode.TheVariants.{Serial, Snapshot}
use Rattle.iv_types.specs.declared.lock.GroupDelta.{GroupDelta}
use Rattle.iv_types.specs.declared.lock.Want.{Want}
use Rattle.table_laws.specs.Place.{Place}
use Rattle.table_laws.specs.Table.{write}
use Rattle.iv_meaning.specs.Schema.{Schema, Object}
use Rattle.iv_meaning.specs.Database.{Row, Rows, Database}
use Rattle.iv_meaning.specs.Statement.{Kept, sets, defines, keep}
use Rattle.iv_meaning.specs.History.{Entry, fold}
use Rattle.iv_meaning.specs.Escrow.{Account}
use Rattle.txn_machine.specs.Locks.{Locks, with_one}
use Rattle.txn_machine.specs.Deltas.{RowChange, negated}
use Rattle.txn_machine.specs.Keeping.{KeptStep, Put, Pay, changes_of, increments, Note, Open, begun, idle}
use Rattle.txn_machine.specs.Stored.{ViewRows, add_to, add_all, zeros}

pub record Store : Type 0 where
  -- the database as it was opened
  pub origin : Database
  -- what was committed since, the first first
  pub history : List Entry
  -- the rows of all tables, with the changes of open transactions
  pub rows : Rows
  -- the stored view rows, with the pays of open transactions
  pub view : ViewRows
  -- up to this number versions were dropped
  pub mark : ℕ
  -- the open transaction of each session
  pub open_of : ℕ → Option Open

-- the database as it is opened, with stored view rows, and no transaction
abbrev pub opened : Database → ViewRows → Store
opened db view = record { origin = db; history = []; rows = db.rows; view = view; mark = db.number; open_of = λ session. None }

-- ---- what is committed

abbrev pub committed : Store → Database
committed s = fold s.history s.origin

abbrev pub schema_of : Store → Schema
schema_of s = (committed s).schema

-- the session's transaction
abbrev pub now : Store → ℕ → Open
now s session = unwrap_or (s.open_of session) idle

abbrev pub changes_by : Store → ℕ → List RowChange
changes_by s session = changes_of (now s session).kept

abbrev pub locks_of : Store → Locks
locks_of s session = (now s session).locks

-- the changes as an entry keeps them: the first first
abbrev pub entry_changes : List KeptStep → List Kept
entry_changes ks = map sets (reverse (changes_of ks))

-- ---- the account of a column of a view row

-- the value without the kept increments of open transactions, and these
abbrev pub account : Store → (Place → ℕ → ℤ) → Place → ℕ → Account
account s value place column = record { committed = value place column; kept = λ session. increments place column (now s session).kept }

-- ---- effects of one session

-- What the machine is told of views: what a change owes to them, and what the stored rows of a new object are made of.
pub record Views : Type 0 where
  pub owed : Schema → Rows → RowChange → List GroupDelta
  pub made_of : Schema → Rows → Object → List GroupDelta

pub data Effect : Type 0 where
  Opens : Mode → Effect
  Takes : List Want → Effect
  Notes : Note → Effect
  Writes : Place → Option Row → Effect
  Pays : Effect
  -- a row of zeros, with so many columns
  Ghosts : Place → ℕ → Effect
  Undoes : Effect
  -- a deadlock met the transaction
  Loses : Effect
  Ends : Effect
  -- the kept changes become an entry
  Commits : Effect
  -- the definition becomes an entry
  Defines : Object → Effect
  Cleans : Place → Effect
  Prunes : Effect

abbrev pub with_txn : Store → ℕ → Option Open → Store
with_txn s session o = record s { open_of = with_one s.open_of session o }

abbrev pub change_at : Store → Place → Option Row → RowChange
change_at s place new = record { key = place; before = get s.rows place; after = new }

-- the notes that stand when a change is taken back that followed this many kept steps
abbrev pub notes_before : ℕ → List Note → List Note
notes_before kept notes = filter (λ n. nat_le n.kept kept) notes

abbrev pub wrote : Store → ℕ → Open → RowChange → List GroupDelta → Store
wrote s session t c owed = record s {
  rows = write s.rows c.key c.after;
  open_of = with_one s.open_of session (Some (record t { kept = Put c owed ∷ t.kept; owed = owed; back = 0 }));
}

-- the first owed delta is paid
abbrev pub paid_first : Store → ℕ → Open → List GroupDelta → Store
paid_first s session t [] = s
paid_first s session t (d ∷ ds) = record s {
  view = add_to s.view d;
  open_of = with_one s.open_of session (Some (record t { kept = Pay d ∷ t.kept; owed = ds }));
}

-- the latest kept step is taken back
abbrev pub undone : Store → ℕ → Open → List KeptStep → Store
undone s session t [] = s
undone s session t (Put c ds ∷ ks) = record s {
  rows = write s.rows c.key c.before;
  open_of = with_one s.open_of session (Some (record t { kept = ks; owed = []; back = 0; notes = notes_before (length ks) t.notes }));
}
undone s session t (Pay d ∷ ks) = record s {
  view = add_to s.view (negated d);
  open_of = with_one s.open_of session (Some (record t { kept = ks; owed = d ∷ t.owed; back = t.back + 1 }));
}

-- an entry of the next number
abbrev pub with_entry : Store → ℕ → List Kept → Store
with_entry s session kept = record s { history = s.history ++ record { number = (committed s).number + 1; session = session; kept = kept } ∷ [] }

-- ---- the mark of versions

-- the least number of an open snapshot of the sessions up to n, or this number where there is none
abbrev pub least_snapshot : (ℕ → Option Open) → ℕ → ℕ → ℕ
least_snapshot open_of ℕ.zero number = number
least_snapshot open_of (ℕ.suc n) number = elim (open_of (ℕ.suc n)) [
  | None ↦ least_snapshot open_of n number
  | Some o ↦ elim o.mode [
    | Serial ↦ least_snapshot open_of n number
    | Snapshot ↦ if nat_le o.number number then least_snapshot open_of n o.number else least_snapshot open_of n number
  ]
]

module _ (views : Views) where
  abbrev pub does : Store → ℕ → Effect → Store
  does s session (Opens mode) = with_txn s session (Some (begun mode (committed s).number))
  does s session (Takes wants) = let t : Open = now s session in with_txn s session (Some (record t { locks = wants ++ t.locks }))
  does s session (Notes note) = let t : Open = now s session in with_txn s session (Some (record t { notes = note ∷ t.notes }))
  does s session (Writes place new) =
      let c : RowChange = change_at s place new in
      wrote s session (now s session) c (views.owed (schema_of s) s.rows c)
  does s session Pays = paid_first s session (now s session) (now s session).owed
  does s session (Ghosts place columns) = record s { view = write s.view place (Some (zeros columns)) }
  does s session Undoes = undone s session (now s session) (now s session).kept
  does s session Loses = with_txn s session (Some (record (now s session) { is_lost = true }))
  does s session Ends = with_txn s session None
  does s session Commits = with_txn (with_entry s session (entry_changes (now s session).kept)) session None
  does s session (Defines object) =
      let after : Store = with_entry s session (defines object ∷ []) in
      record after { view = add_all s.view (views.made_of (schema_of after) s.rows object) }
  does s session (Cleans place) = record s { view = write s.view place None }
  does s session Prunes = record s { mark = least_snapshot s.open_of 64 (committed s).number }

  -- one after the other
  abbrev pub run : Store → ℕ → List Effect → Store
  run s session [] = s
  run s session (e ∷ es) = run (does s session e) session es

  -- ---- versions

  -- the deltas of an entry's changes, as its transaction owed them
  abbrev pub entry_deltas : Database → List Kept → List GroupDelta
  entry_deltas db [] = []
  entry_deltas db (sets c ∷ ks) = views.owed db.schema db.rows c ++ entry_deltas (keep (sets c) db) ks
  entry_deltas db (defines object ∷ ks) = entry_deltas (keep (defines object) db) ks

  -- the deltas of the entries above a number
  abbrev pub deltas_above : ℕ → Database → List Entry → List GroupDelta
  deltas_above number db [] = []
  deltas_above number db (e ∷ es) =
      let later : List GroupDelta = deltas_above number (fold (e ∷ []) db) es in
      if nat_le e.number number then later else entry_deltas db e.kept ++ later
