-- No clause of `run` rests on this module: it serves contracts between crates.
--
-- What the task of any statement has still to do, and what a turn tells of it.
use Rattle.std.specs.Prelude.{◌≡◌, ◌⊎◌, Result, Ok, Err}
use Rattle.iv_types.specs.declared.statement.Mode.{Mode}
use Rattle.iv_types.specs.declared.statement.Mode.TheVariants.{Serial, Snapshot}
use Rattle.iv_types.specs.declared.refusal.Refusal.{Refusal}
use Rattle.iv_types.specs.declared.refusal.Refusal.TheVariants as refusal
use Rattle.iv_meaning.specs.Statement.{BoundTree, insert, update, delete, select}
use Rattle.script_law.specs.Works.{Work, refuses, fetches}
use Rattle.statement_law.specs.Selecting.{reads}
use Rattle.task_parts.specs.declared.turn.Told.{Told}
use Rattle.task_parts.specs.declared.turn.Turn.{Turn}
use Rattle.task_parts.specs.declared.turn.Turn.TheVariants.{Peek, NoMemory}
use Rattle.query_exec.specs.Tasks as reading
use Rattle.dml_exec.specs.Tasks as changing
use Rattle.dml_exec.specs.Tasks.{after, IsTurn, GoesOn}
use Rattle.statement_tasks.specs.declared.task.Task.{Task}
use Rattle.statement_tasks.specs.declared.task.Task.TheVariants as task

-- a statement may be one of a transaction of this mode
abbrev pub IsFor : Mode → BoundTree → Type 0
IsFor mode (select query) = Unit {0}
IsFor mode (insert number tuples) = mode ≡ Serial
IsFor mode (update number sets condition) = mode ≡ Serial
IsFor mode (delete number condition) = mode ≡ Serial
IsFor mode _ = ⊥

-- what is left of it
abbrev pub left : Task → Work
left (task.Read t) = reads (reading.left t)
left (task.Change t) = changing.left t

-- the mode of its transaction; what changes is of a serial one
abbrev pub mode_of : Task → Mode
mode_of (task.Read t) = reading.mode_of t
mode_of (task.Change t) = Serial

abbrev pub left_when : Told → Task → Work
left_when told t = after told (left t)

-- a statement of this work is begun, or refused before its first step
abbrev pub IsBegun : Mode → Work → Result Task Refusal → Type 0
IsBegun mode w (Ok t) = (left t ≡ w) × (mode_of t ≡ mode)
IsBegun mode w (Err why) = (why ≡ refusal.NoMemory) ⊎ (w ≡ refuses why)

-- the turn that a work comes to: what a serial transaction locks, a snapshot reads as of its number
abbrev pub IsTurnIn : Mode → Work → Turn → Type 0
IsTurnIn Serial w turn = IsTurn w turn
IsTurnIn Snapshot (fetches index interval lock f) NoMemory = Unit {0}
IsTurnIn Snapshot (fetches index interval lock f) (Peek i r) = (i ≡ index) × (r ≡ interval)
IsTurnIn Snapshot (fetches index interval lock f) _ = ⊥
IsTurnIn Snapshot w turn = IsTurn w turn

-- a turn is the head of a work, and the task goes on behind it
pub record Moves (mode : Mode) (w : Work) (turn : Turn) (new : Task) : Type 0 where
  pub is_turn : IsTurnIn mode w turn
  pub goes_on : GoesOn w turn (λ told. left_when told new)
  pub mode_is : mode_of new ≡ mode
