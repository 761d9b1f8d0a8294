-- When the output of a script of many sessions is serial. Each committed transaction was told what it is told alone on the
-- database that the commit before it left, a snapshot on the database of its number, and any other transaction on the
-- database that was last committed before it ended, or before the input did.
use Rattle.std.specs.Prelude.{◌≡◌, ◌⊎◌, ℕ, ◌+◌, ◌==◌, Bool, true, false, IsTrue, List, [], ◌∷◌, ◌++◌, map, codes, decimal, Option, Some, None, Result, Ok, Err, if◌then◌else◌}
use Rattle.std.specs.Option.{unwrap_or}
use Rattle.iv_types.specs.declared.session.Sessions.{Sessions}
use Rattle.iv_types.specs.declared.refusal.Refusal.{Refusal}
use Rattle.iv_types.specs.declared.refusal.Refusal.TheVariants as refusal
use Rattle.iv_types.specs.declared.reply.Reply.{Reply}
use Rattle.iv_types.specs.declared.reply.Reply.TheVariants as reply
use Rattle.iv_types.specs.declared.statement.Mode.{Mode}
use Rattle.iv_types.specs.declared.statement.Mode.TheVariants.{Serial, Snapshot}
use Rattle.iv_types.specs.Syntax.{StatementTree, begin, commit, rollback}
use Rattle.iv_meaning.specs.Reply.{reply_lines}
use Rattle.iv_meaning.specs.Database.{Database}
use Rattle.iv_meaning.specs.Statement.{Kept}
use Rattle.iv_meaning.specs.Transaction.{Running, alone, committed, outside, begin_reply, refused_outside, refused_inside}
use Rattle.iv_meaning.specs.History.{Entry, fold, state_at}
use Rattle.iv_meaning.specs.Said.{Said, nothing, too_long, bad, runs, loads, unread, steps, cleans, checkpoints}

-- ---- what is known after some lines

-- a statement whose session has not been told how it ended
pub data Unfinished : Type 0 where
  none : Unfinished
  -- its line `N: ..` printed WAIT; the greatest number printed before that line
  waits : (statement : StatementTree) (number : ℕ) → Unfinished
  -- its line `N/ ..` printed STEP; the greatest number printed before the line of its first step, if there was one
  loaded : (statement : StatementTree) (number : Option ℕ) → Unfinished

-- an open transaction: what its statements were told, the first of them first
pub record Unended : Type 0 where
  pub mode : Mode
  -- of a snapshot, the number of its database
  pub number : ℕ
  pub told : List (StatementTree × List Reply)

pub record World : Type 0 where
  -- the database that was opened, and what was committed since
  pub origin : Database
  pub history : List Entry
  -- of each session: its open transaction, and what it was not told the end of
  pub running : ℕ → Option Unended
  pub unfinished : ℕ → Unfinished

abbrev pub opened_with : Database → World
opened_with db = record { origin = db; history = []; running = λ s. None; unfinished = λ s. none }

-- the database of the greatest printed number
abbrev pub latest : World → Database
latest w = fold w.history w.origin

abbrev pub set_open : World → ℕ → Option Unended → World
set_open w session o = record w { running = λ s. if s == session then o else w.running s }

abbrev pub set_unfinished : World → ℕ → Unfinished → World
set_unfinished w session u = record w { unfinished = λ s. if s == session then u else w.unfinished s }

-- the changes that a transaction kept, if there are some, are an entry of the next number
abbrev pub commits : World → ℕ → List Kept → World
commits w session [] = w
commits w session kept = record w { history = w.history ++ record { number = (latest w).number + 1; session = session; kept = kept } ∷ [] }

-- ---- transactions

-- the database that a transaction ran on alone
abbrev pub base_of : World → Unended → Database
base_of w o = elim o.mode [
  | Serial ↦ latest w
  | Snapshot ↦ state_at w.origin w.history o.number
]

abbrev pub ran : World → Unended → List (List Reply) × Running
ran w o = alone o.mode (map (λ p. p.0) o.told) (base_of w o)

-- its statements were told what they are told alone
abbrev pub WasAlone : World → Unended → Type 0
WasAlone w o = (ran w o).0 ≡ map (λ p. p.1) o.told

-- refused by the engine, with one of the codes 20 to 29
abbrev pub is_engines : Refusal → Bool
is_engines (refusal.Deadlock cycle) = true
is_engines (refusal.EscrowRange view group column inf sup) = true
is_engines (refusal.LogFull used reserved need) = true
is_engines (refusal.DataFull used need) = true
is_engines (refusal.TxnFull kept need) = true
is_engines (refusal.HistoryFull kept need) = true
is_engines (refusal.SchemaBusy session) = true
is_engines refusal.DiskFault = true
is_engines (refusal.Stopped step) = true
is_engines refusal.NoMemory = true
is_engines _ = false

abbrev pub is_deadlock : Refusal → Bool
is_deadlock (refusal.Deadlock cycle) = true
is_deadlock _ = false

-- the statement was passed over; a deadlock ends the transaction
pub record PassesOver (w : World) (session : ℕ) (replies : List Reply) (after : World) : Type 0 where
  pub why : Refusal
  pub engines : IsTrue (is_engines why)
  pub told : replies ≡ reply.Error why ∷ []
  pub ended : (o : Unended) → w.running session ≡ Some o → IsTrue (is_deadlock why) → WasAlone w o
  pub left : after ≡ (if is_deadlock why then set_open w session None else w)

-- outside a transaction; number is the greatest that was printed before the statement's first step
abbrev pub EndsOutside : World → ℕ → StatementTree → ℕ → List Reply → World → Type 0
EndsOutside w session (begin mode) number replies after =
    (replies ≡ begin_reply mode number ∷ []) × (after ≡ set_open w session (Some (record { mode = mode; number = number; told = [] })))
EndsOutside w session statement number replies after =
    (replies ≡ (outside statement (latest w)).replies) × (after ≡ commits w session (outside statement (latest w)).kept)

-- inside one: COMMIT and ROLLBACK end it, and any other statement goes on with it
abbrev pub EndsInside : World → ℕ → Unended → StatementTree → List Reply → World → Type 0
EndsInside w session o commit replies after =
    WasAlone w o × (replies ≡ reply.Commit (committed (ran w o).1).number ∷ []) × (after ≡ set_open (commits w session (ran w o).1.kept) session None)
EndsInside w session o (rollback None) replies after = WasAlone w o × (replies ≡ reply.Done 0 ∷ []) × (after ≡ set_open w session None)
EndsInside w session o statement replies after = after ≡ set_open w session (Some (record o { told = o.told ++ (statement, replies) ∷ [] }))

abbrev pub EndsBy : World → ℕ → Option Unended → StatementTree → ℕ → List Reply → World → Type 0
EndsBy w session None statement number replies after = EndsOutside w session statement number replies after
EndsBy w session (Some o) statement number replies after = EndsInside w session o statement replies after

-- a session's statement ended with these replies
abbrev pub Ends : World → ℕ → StatementTree → ℕ → List Reply → World → Type 0
Ends w session statement number replies after =
    let before : World = set_unfinished w session none in
    PassesOver before session replies after ⊎ EndsBy before session (before.running session) statement number replies after

-- ---- what a line prints itself

-- its own reply, which changes nothing
pub record OnlyReplies (w : World) (session : ℕ) (r : Reply) (piece : List ℕ) (after : World) : Type 0 where
  pub told : piece ≡ reply_lines session (r ∷ [])
  pub left : after ≡ w

-- the statement ended with the line
pub record EndsNow (w : World) (session : ℕ) (statement : StatementTree) (number : ℕ) (piece : List ℕ) (after : World) : Type 0 where
  pub replies : List Reply
  pub told : piece ≡ reply_lines session replies
  pub ends : Ends w session statement number replies after

-- it ended with this refusal
pub record IsRefused (w : World) (session : ℕ) (statement : StatementTree) (why : Refusal) (piece : List ℕ) (after : World) : Type 0 where
  pub told : piece ≡ reply_lines session (reply.Error why ∷ [])
  pub ends : EndsBy w session (w.running session) statement (latest w).number (reply.Error why ∷ []) after

-- it has not ended, and this is left of it
pub record StaysUnfinished (w : World) (session : ℕ) (r : Reply) (left : Unfinished) (piece : List ℕ) (after : World) : Type 0 where
  pub told : piece ≡ reply_lines session (r ∷ [])
  pub left_is : after ≡ set_unfinished w session left

pub record PrintsWait (w : World) (session : ℕ) (left : Unfinished) (piece : List ℕ) (after : World) : Type 0 where
  pub for : Sessions
  pub goes_on : StaysUnfinished w session (reply.Wait for) left piece after

-- the refusal of codes 12 to 15 or of limit 16 that a statement gets by its session's mode and savepoints
abbrev pub refused_by_mode : World → Option Unended → StatementTree → Option Refusal
refused_by_mode w None statement = refused_outside statement
refused_by_mode w (Some o) statement = refused_inside o.mode (ran w o).1.saved statement

-- A text is given to a session. One with an unfinished statement takes none; then the grammar may refuse the text, and the
-- mode the statement; else the statement goes as this says.
abbrev pub Takes : World → ℕ → Unfinished → Result StatementTree Refusal → (StatementTree → List ℕ → World → Type 0) → List ℕ → World → Type 0
Takes w session none (Err why) Goes = OnlyReplies w session (reply.Error why)
Takes w session none (Ok statement) Goes = elim (refused_by_mode w (w.running session) statement) [
  | Some why ↦ IsRefused w session statement why
  | None ↦ Goes statement
]
Takes w session _ read Goes = OnlyReplies w session (reply.Error refusal.SessionWaiting)

-- `N: ..` goes to the end of the statement, or to WAIT
abbrev pub Runs : World → ℕ → StatementTree → List ℕ → World → Type 0
Runs w session statement piece after =
    EndsNow w session statement (latest w).number piece after ⊎ PrintsWait w session (waits statement (latest w).number) piece after

-- `N/ ..` does nothing of it yet
abbrev pub Loads : World → ℕ → StatementTree → List ℕ → World → Type 0
Loads w session statement = StaysUnfinished w session reply.Step (loaded statement None)

-- `N+` does a step of the loaded statement
abbrev pub Steps : World → ℕ → Unfinished → List ℕ → World → Type 0
Steps w session (loaded statement first) piece after =
    let number : ℕ = unwrap_or first (latest w).number in
    EndsNow w session statement number piece after
    ⊎ StaysUnfinished w session reply.Step (loaded statement (Some number)) piece after
    ⊎ PrintsWait w session (loaded statement (Some number)) piece after
Steps w session _ piece after = OnlyReplies w 0 (reply.Error refusal.BadLine) piece after

-- a line of the engine's own prints a word and a number, or its refusal
pub record PrintsCount (w : World) (word : List ℕ) (Right : ℕ → Type 0) (piece : List ℕ) (after : World) : Type 0 where
  pub count : ℕ
  pub told : piece ≡ word ++ (codes " " ++ (decimal count ++ codes "\n"))
  pub right : Right count
  pub left : after ≡ w

pub record IsPassedOver (w : World) (piece : List ℕ) (after : World) : Type 0 where
  pub why : Refusal
  pub engines : IsTrue (is_engines why)
  pub tells : OnlyReplies w 0 (reply.Error why) piece after

abbrev pub OwnPiece : Said → World → List ℕ → World → Type 0
OwnPiece nothing w piece after = (piece ≡ []) × (after ≡ w)
OwnPiece too_long w piece after = OnlyReplies w 0 (reply.Error refusal.LineTooLong) piece after
OwnPiece bad w piece after = OnlyReplies w 0 (reply.Error refusal.BadLine) piece after
OwnPiece (runs session read) w piece after = Takes w session (w.unfinished session) read (Runs w session) piece after
OwnPiece (loads session read) w piece after = Takes w session (w.unfinished session) read (Loads w session) piece after
OwnPiece (unread session) w piece after = OnlyReplies w session (reply.Error refusal.NoMemory) piece after
OwnPiece (steps session) w piece after = Steps w session (w.unfinished session) piece after
OwnPiece cleans w piece after = PrintsCount w (codes "CLEAN") (λ k. Unit {0}) piece after ⊎ IsPassedOver w piece after
OwnPiece checkpoints w piece after = PrintsCount w (codes "CHECKPOINT") (λ n. n ≡ (latest w).number) piece after ⊎ IsPassedOver w piece after

-- ---- what is printed behind it

-- a session that waited with a line `N: ..` was tried again, and its statement ended
pub record EndsLater (w : World) (session : ℕ) (piece : List ℕ) (after : World) : Type 0 where
  pub statement : StatementTree
  pub number : ℕ
  pub waited : w.unfinished session ≡ waits statement number
  pub ends : EndsNow w session statement number piece after

abbrev pub LaterPieces : List (ℕ × List ℕ) → World → List ℕ → World → Type 0
LaterPieces [] w piece after = (piece ≡ []) × (after ≡ w)
LaterPieces (p ∷ ps) w piece after = (between : World) × (more : List ℕ) × EndsLater w p.0 p.1 between × (piece ≡ p.1 ++ more) × LaterPieces ps between more after

-- ---- transcripts

-- a line is answered so, where it says this
pub record Answers (said : Said) (w : World) (piece : List ℕ) (after : World) : Type 0 where
  pub own : List ℕ
  pub between : World
  pub first : OwnPiece said w own between
  pub retried : List (ℕ × List ℕ)
  pub more : List ℕ
  pub later : LaterPieces retried between more after
  pub whole : piece ≡ own ++ more

-- at the end of the input the transactions that are still open were told what they are told alone
abbrev pub IsEnd : World → Type 0
IsEnd w = (session : ℕ) (o : Unended) → w.running session ≡ Some o → WasAlone w o

-- The output has one piece for each line, each on the world that the piece before it left, where the lines say this and the
-- input ends with the last of them.
abbrev pub IsSerialFrom : World → List Said → List ℕ → Type 0
IsSerialFrom w [] out = (out ≡ []) × IsEnd w
IsSerialFrom w (said ∷ more) out =
    (piece : List ℕ) × (after : World) × (rest : List ℕ) × Answers said w piece after × (out ≡ piece ++ rest) × IsSerialFrom after more rest
