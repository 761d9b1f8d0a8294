-- No clause of `run` rests on this module: it serves contracts between crates.
--
-- What the program knows of its core.
use Rattle.iv_types.specs.Trees.{statement_tree}
use Rattle.txn_machine.specs.May.{IsWritten}
use Rattle.txn_machine.specs.State.{State}
use Rattle.txn_book.specs.declared.step.Act.{Act}
use Rattle.txn_book.specs.declared.step.Act.TheVariants as act
use Rattle.ordered_index.specs.Tree.{Tree, map_of, spare_of, limit_of}
use Rattle.core_state.specs.Stands.{Stands}
use Rattle.core_state.specs.declared.state.CoreState.{CoreState}
use Rattle.core_journal.specs.declared.none.NoJournal.{NoJournal}
use Rattle.engine_core.specs.Standing.{IsInMemory}
use Rattle.engine_core.specs.declared.engine.Core.{Core}

-- what a core holds is that of this state
abbrev pub IsAt : CoreState Tree → State → Type 0
IsAt core s = Stands map_of spare_of limit_of core s

-- the core stands in a state
abbrev pub IsStanding : Core Tree NoJournal → Type 0
IsStanding core = (s : State) × IsInMemory core s

-- the statement of an act was read from a text
abbrev pub IsSpelt : Act → Type 0
IsSpelt (act.Schema statement) = IsWritten (statement_tree statement)
IsSpelt _ = Unit {0}
