-- No clause of `run` rests on this module: it serves contracts between crates.
--
-- How a statement that reads or changes rows is begun.
use Rattle.std.specs.Prelude.{◌≡◌, ◌⊎◌, Bool, true, false, Result, Ok, Err}
use Rattle.iv_types.specs.declared.statement.Mode.{Mode}
use Rattle.iv_types.specs.declared.refusal.Refusal.{Refusal}
use Rattle.iv_types.specs.declared.refusal.Refusal.TheVariants as refusal
use Rattle.iv_types.specs.Syntax.{StatementTree, create_table, create_index, create_view, insert, update, delete, select, begin, commit, rollback, savepoint}
use Rattle.script_law.specs.Works.{Work, refuses}
use Rattle.task_parts.specs.declared.turn.Turn.TheVariants as turn
use Rattle.statement_tasks.specs.Tasks.{Moves}
use Rattle.txn_sessions.specs.declared.starting.First.{First}
use Rattle.txn_sessions.specs.declared.starting.Sort.{Sort}
use Rattle.txn_sessions.specs.declared.starting.Sort.TheVariants as sort

-- what a statement is to its session
abbrev pub sort_of : StatementTree → Sort
sort_of (create_table name columns primary) = sort.Create
sort_of (create_index name of columns) = sort.Create
sort_of (create_view name query) = sort.Create
sort_of (insert table tuples) = sort.Work
sort_of (update table sets condition) = sort.Work
sort_of (delete table condition) = sort.Work
sort_of (select query order) = sort.Work
sort_of (begin mode) = sort.Begin mode
sort_of commit = sort.Commit
sort_of (rollback to) = sort.Rollback
sort_of (savepoint name) = sort.Savepoint

abbrev pub is_select : StatementTree → Bool
is_select (select query order) = true
is_select _ = false

-- a work's first turn, for which there was memory
pub record IsFirst (mode : Mode) (w : Work) (first : First) : Type 0 where
  pub moves : Moves mode w first.turn first.task
  pub memory : first.turn ≡ turn.NoMemory → ⊥

-- or it is refused before, also for want of memory
abbrev pub IsFirstOr : Mode → Work → Result First Refusal → Type 0
IsFirstOr mode w (Ok first) = IsFirst mode w first
IsFirstOr mode w (Err why) = (why ≡ refusal.NoMemory) ⊎ (w ≡ refuses why)
