-- No clause of `run` rests on this module: it serves contracts between crates.
--
-- What a crash recovers of a database on which lines were run: all that was committed up to some number, and at the end all of it.
use Rattle.std.specs.Prelude.{◌≡◌, ◌≢◌, ◌⊎◌, ℕ, ◌+◌, ◌≤◌, List, [], ◌∷◌, ◌++◌, Option, Some}
use Rattle.std.specs.List.{AllZip}
use Rattle.iv_meaning.specs.Lines.{lines_of}
use Rattle.iv_meaning.specs.Database.{Database}
use Rattle.iv_meaning.specs.History.{Entry, fold, state_at}
use Rattle.iv_meaning.specs.Said.{Said, Says}
use Rattle.iv_meaning.specs.Serial.{World, opened_with, Answers}
use Rattle.txn_machine.specs.Log.{Opening}
use Rattle.txn_machine.specs.Alone.{Story}
use Rattle.script_run.specs.declared.status.Status.{Status}
use Rattle.script_run.specs.declared.status.Status.TheVariants.{WriteFault, NoMemory}

-- the lines are answered so, each on the world that the line before it left, and the last of them leaves this one
abbrev pub LeaveWorld : World → List Said → List ℕ → World → Type 0
LeaveWorld w [] out last = (out ≡ []) × (last ≡ w)
LeaveWorld w (said ∷ more) out last =
    (piece : List ℕ) × (after : World) × (rest : List ℕ) × Answers said w piece after × (out ≡ piece ++ rest) × LeaveWorld after more rest last

-- the entries have the numbers that follow this one
abbrev pub AreNext : ℕ → List Entry → Type 0
AreNext number [] = Unit {0}
AreNext number (e ∷ es) = (e.number ≡ number + 1) × AreNext (number + 1) es

-- behind all of these entries, one more
pub record HasEntryMore (origin : Database) (history : List Entry) (db : Database) : Type 0 where
  pub entry : Entry
  pub number : entry.number ≡ (fold history origin).number + 1
  pub is : db ≡ fold (history ++ entry ∷ []) origin

-- all of these entries, or with one more
abbrev pub IsAllOf : Database → List Entry → Database → Type 0
IsAllOf origin history db = (db ≡ fold history origin) ⊎ HasEntryMore origin history db

-- those up to some number, or all with one more
abbrev pub IsFrontOf : Database → List Entry → Database → Type 0
IsFrontOf origin history db = ((number : ℕ) × (number ≤ (fold history origin).number) × (db ≡ state_at origin history number)) ⊎ HasEntryMore origin history db

-- Only a line that lacked memory for its answer commits without being told, and what was told may not have been written then.
abbrev pub MayBeUntold : Status → List Entry → Type 0
MayBeUntold NoMemory untold = Unit {0}
MayBeUntold WriteFault untold = Unit {0}
MayBeUntold status untold = untold ≡ []

-- Some first lines of the input were answered, by which a world was left, and their answers were written, of which some front where the
-- sink failed.
pub record Committed (db : Database) (status : Status) (input before : List ℕ) (written : Option (List ℕ)) : Type 0 where
  pub first : List (List ℕ)
  pub others : List (List ℕ)
  pub split : lines_of input ≡ first ++ others
  pub said : List Said
  pub says : AllZip Says first said
  pub answers : List ℕ
  pub world : World
  pub left : LeaveWorld (opened_with db) said answers world
  pub out : List ℕ
  pub rest : List ℕ
  pub front : answers ≡ out ++ rest
  pub all : status ≢ WriteFault → rest ≡ []
  pub wrote : written ≡ Some (before ++ out)
  pub untold : List Entry
  pub may : MayBeUntold status untold
  pub next : AreNext (fold world.history world.origin).number untold

-- what that world had committed, and what was not told
abbrev pub history_of : {db : Database} {status : Status} {input before : List ℕ} {written : Option (List ℕ)} → Committed db status input before written → List Entry
history_of c = c.world.history ++ c.untold

-- the engine has committed that since this opening
pub record Ends (db : Database) (opening : Opening) (status : Status) (input before : List ℕ) (written : Option (List ℕ)) (s : Story) : Type 0 where
  pub committed : Committed db status input before written
  pub origin : s.state.store.origin ≡ committed.world.origin
  pub history : s.state.store.history ≡ history_of committed
  pub opening_is : s.state.opening ≡ opening

-- A crash at some moment since recovers that up to some number, and one now all of it.
pub record Survives (db : Database) (status : Status) (input before : List ℕ) (written : Option (List ℕ)) (Since Now : Database → Type 0) : Type 0 where
  pub committed : Committed db status input before written
  pub since : (recovered : Database) → Since recovered → IsFrontOf committed.world.origin (history_of committed) recovered
  pub now : (recovered : Database) → Now recovered → IsAllOf committed.world.origin (history_of committed) recovered
