-- No clause of `run` rests on this module: it serves contracts between crates.
--
-- The works of SELECT, INSERT, UPDATE and DELETE.
use Rattle.std.specs.Prelude.{[], Option, Some, Result, Ok, Err}
use Rattle.iv_types.specs.declared.statement.Mode.{Mode}
use Rattle.iv_types.specs.declared.catalog.TableDef.{TableDef}
use Rattle.iv_types.specs.declared.refusal.Refusal.{Refusal}
use Rattle.iv_types.specs.Syntax.{StatementTree}
use Rattle.iv_meaning.specs.Schema.{Schema, Object, table, numbered}
use Rattle.iv_meaning.specs.Binding.{bind}
use Rattle.iv_meaning.specs.Statement.{BoundTree, insert, update, delete, select, tuple_rows}
use Rattle.script_law.specs.Works.{Work, done, refuses, Works}
use Rattle.statement_law.specs.Selecting.{select_work}
use Rattle.statement_law.specs.Inserting.{insert_work}
use Rattle.statement_law.specs.Changing.{by_plan, chosen_by, update_rows, delete_rows}
use Rattle.statement_law.specs.Telling.{tell}

-- of a statement on a table; a bound one names a table
abbrev pub work_on : (TableDef → Work) → Option Object → Work
work_on f (Some (table t)) = f t
work_on f _ = done [] 0

abbrev pub bound_work : Mode → Schema → BoundTree → Work
bound_work mode objects (select query) = select_work mode objects query
bound_work mode objects (insert number tuples) = work_on (λ t. insert_work t (tuple_rows t tuples)) (numbered objects number)
bound_work mode objects (update number ss condition) =
    work_on (λ t. by_plan mode objects (update number ss condition) (λ rows. update_rows t ss (chosen_by condition rows))) (numbered objects number)
bound_work mode objects (delete number condition) =
    work_on (λ t. by_plan mode objects (delete number condition) (λ rows. delete_rows t (chosen_by condition rows))) (numbered objects number)
bound_work mode objects _ = done [] 0

-- a statement that can't be bound is refused before its first step
abbrev pub work_if_bound : Mode → Schema → Result BoundTree Refusal → Work
work_if_bound mode objects (Ok statement) = bound_work mode objects statement
work_if_bound mode objects (Err why) = refuses why

abbrev pub statement_work : Mode → Schema → StatementTree → Work
statement_work mode objects statement = work_if_bound mode objects (bind objects statement)

abbrev pub the_works : Works
the_works = record { work = statement_work; tell = tell }
