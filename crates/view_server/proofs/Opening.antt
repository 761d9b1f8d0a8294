-- An engine that was opened on an empty database.
use Rattle.std.specs.FinMap.{empty}
use Rattle.iv_meaning.specs.Database.{created}
use Rattle.std.specs.Prelude.{None, Some}
use Rattle.core_state.specs.Stands.{limited}
use Rattle.view_server.specs.declared.script.TheConstants.{DATA_LIMIT}
use Rattle.txn_machine.specs.State.{State, opened_state}
use Rattle.txn_machine.specs.Store.{opened}
use Rattle.txn_machine.specs.Laws.{EmptyLaw}
use Rattle.script_run.specs.Lines.{WasOpened}

abbrev pub on_nothing : (Stands : State → Type 0) → EmptyLaw → Stands (opened_state (limited None (Some DATA_LIMIT)) (opened created empty)) → WasOpened Stands
on_nothing Stands law stands = record { db = created; stored = empty; opening = limited None (Some DATA_LIMIT); is_opened = law 0; stands = stands }
