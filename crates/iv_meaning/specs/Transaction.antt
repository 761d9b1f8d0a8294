-- A transaction that runs alone: its statements one after another, by their meaning.
use Rattle.std.specs.Prelude.{ℕ, ◌+◌, nat_le, List, [], ◌∷◌, ◌++◌, map, length, Option, Some, None, Result, Ok, Err, if◌then◌else◌}
use Rattle.std.specs.Str.{bytes_eq}
use Rattle.iv_types.specs.declared.refusal.Refusal.{Refusal}
use Rattle.iv_types.specs.declared.refusal.Refusal.TheVariants.{NoTransaction, InTransaction, ReadOnly, UnknownSavepoint, Limit}
use Rattle.iv_types.specs.declared.limit.TheConstants.{MOST_SAVEPOINTS}
use Rattle.iv_types.specs.declared.limit.Limit.TheVariants.{Savepoints}
use Rattle.iv_types.specs.declared.reply.Reply.{Reply}
use Rattle.iv_types.specs.declared.reply.Reply.TheVariants as reply
use Rattle.iv_types.specs.declared.statement.Mode.{Mode}
use Rattle.iv_types.specs.declared.statement.Mode.TheVariants.{Serial, Snapshot}
use Rattle.iv_types.specs.Syntax.{StatementTree, insert, update, delete, select, commit, rollback, savepoint}
use Rattle.iv_meaning.specs.Database.{Database}
use Rattle.iv_meaning.specs.Binding.{bind}
use Rattle.iv_meaning.specs.Statement.{BoundTree, Kept, Meaning, Refused, Accepted, bound_meaning, keep_all}

-- what a statement means on a database
abbrev pub bound_or_refused : Result BoundTree Refusal → Database → Meaning
bound_or_refused (Ok statement) db = bound_meaning statement db
bound_or_refused (Err refusal) db = Refused refusal

abbrev pub means : StatementTree → Database → Meaning
means statement db = bound_or_refused (bind db.schema statement) db

-- ---- a transaction as it runs

-- a live savepoint: the database and the kept changes at its time
pub record Saved : Type 0 where
  pub name : List ℕ
  pub db : Database
  pub kept : List Kept

pub record Running : Type 0 where
  pub db : Database
  -- the kept changes, of which the first was made first
  pub kept : List Kept
  -- the live savepoints, the latest first
  pub saved : List Saved

abbrev pub begun : Database → Running
begun db = record { db = db; kept = []; saved = [] }

-- what a statement is told, and how the transaction stands then
pub record Response : Type 0 where
  pub replies : List Reply
  pub after : Running

abbrev pub refused_with : Refusal → Running → Response
refused_with refusal t = record { replies = reply.Error refusal ∷ []; after = t }

-- a refused statement leaves the transaction as it was
abbrev pub told : Meaning → Running → Response
told (Refused refusal) t = refused_with refusal t
told (Accepted listed count kept) t = record {
  replies = map reply.Row listed ++ reply.Done count ∷ [];
  after = record t { db = keep_all kept t.db; kept = t.kept ++ kept };
}

-- ---- savepoints

abbrev pub most_savepoints : ℕ
most_savepoints = MOST_SAVEPOINTS

abbrev pub done : Running → Response
done t = record { replies = reply.Done 0 ∷ []; after = t }

-- the savepoints from the latest one of this name on
abbrev pub from_named : List ℕ → List Saved → List Saved
from_named name [] = []
from_named name (s ∷ ss) = if bytes_eq name s.name then s ∷ ss else from_named name ss

-- back to the first of some savepoints, which stays; later ones go
abbrev pub back_to : List Saved → Running → Running
back_to [] t = t
back_to (s ∷ ss) t = record { db = s.db; kept = s.kept; saved = s ∷ ss }

-- ---- what is refused before a statement is bound

-- outside a transaction
abbrev pub refused_outside : StatementTree → Option Refusal
refused_outside commit = Some NoTransaction
refused_outside (rollback to) = Some NoTransaction
refused_outside (savepoint name) = Some NoTransaction
refused_outside _ = None

-- a snapshot keeps no change
abbrev pub refused_change : Mode → Option Refusal
refused_change Serial = None
refused_change Snapshot = Some ReadOnly

-- no live savepoint has the name
abbrev pub refused_return : List ℕ → List Saved → Option Refusal
refused_return name [] = Some (UnknownSavepoint name)
refused_return name (s ∷ ss) = None

-- inside a transaction of this mode, with these live savepoints
abbrev pub refused_inside : Mode → List Saved → StatementTree → Option Refusal
refused_inside mode saved (select query order) = None
refused_inside mode saved (insert table tuples) = refused_change mode
refused_inside mode saved (update table ss condition) = refused_change mode
refused_inside mode saved (delete table condition) = refused_change mode
refused_inside mode saved (savepoint name) = if nat_le most_savepoints (length saved) then Some (Limit Savepoints) else None
refused_inside mode saved (rollback (Some name)) = refused_return name (from_named name saved)
refused_inside mode saved (rollback None) = None
refused_inside mode saved commit = None
refused_inside mode saved _ = Some InTransaction

-- ---- statements inside a transaction

-- one that is not refused so
abbrev pub accepted : StatementTree → Running → Response
accepted (savepoint name) t = done (record t { saved = record { name = name; db = t.db; kept = t.kept } ∷ t.saved })
accepted (rollback (Some name)) t = done (back_to (from_named name t.saved) t)
accepted (rollback None) t = done t
accepted commit t = done t
accepted statement t = told (means statement t.db) t

-- a statement other than the COMMIT or ROLLBACK that ends the transaction
abbrev pub inside : Mode → StatementTree → Running → Response
inside mode statement t = elim (refused_inside mode t.saved statement) [
  | Some refusal ↦ refused_with refusal t
  | None ↦ accepted statement t
]

-- what each of some statements is told, and how the transaction stands then
abbrev pub alone_from : Mode → List StatementTree → Running → List (List Reply) × Running
alone_from mode [] t = ([], t)
alone_from mode (statement ∷ statements) t =
    let one : Response = inside mode statement t in
    let rest : List (List Reply) × Running = alone_from mode statements one.after in
    (one.replies ∷ rest.0, rest.1)

abbrev pub alone : Mode → List StatementTree → Database → List (List Reply) × Running
alone mode statements db = alone_from mode statements (begun db)

-- ---- the end of a transaction

-- a transaction that keeps a change takes the next number, and any other shows the greatest one
abbrev pub next_number : List Kept → ℕ → ℕ
next_number [] number = number
next_number (k ∷ ks) number = number + 1

abbrev pub committed : Running → Database
committed t = record t.db { number = next_number t.kept t.db.number }

-- a statement outside a transaction is one of its own: its replies, the changes that it keeps, and the database that it leaves
pub record Transaction : Type 0 where
  pub replies : List Reply
  pub kept : List Kept
  pub leaves : Database

abbrev pub ended_by : Meaning → Database → Transaction
ended_by (Refused refusal) db = record { replies = reply.Error refusal ∷ []; kept = []; leaves = db }
ended_by (Accepted listed count kept) db =
    let after : Database = committed (record { db = keep_all kept db; kept = kept; saved = [] }) in
    record { replies = map reply.Row listed ++ (reply.Done count ∷ reply.Commit after.number ∷ []); kept = kept; leaves = after }

-- BEGIN opens a transaction on the database of this number
abbrev pub begin_reply : Mode → ℕ → Reply
begin_reply Serial number = reply.Done 0
begin_reply Snapshot number = reply.Snapshot number

-- any statement but BEGIN
abbrev pub outside : StatementTree → Database → Transaction
outside statement db = elim (refused_outside statement) [
  | Some refusal ↦ ended_by (Refused refusal) db
  | None ↦ ended_by (means statement db) db
]
