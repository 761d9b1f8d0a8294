-- What is known of an engine that stands in a state of a story.
use Rattle.txn_machine.specs.State.{State}
use Rattle.txn_machine.specs.Alone.{Story}
use Rattle.session_table.specs.Going.{StandsIn}

pub then : {Stands Stands' : State → Type 0} {P Q : Story → Type 0} → StandsIn Stands P → ((s : Story) → Stands s.state → P s → StandsIn Stands' Q) → StandsIn Stands' Q
then h g = g h.story h.stands h.holds

pub so : {Stands : State → Type 0} {P Q : Story → Type 0} → StandsIn Stands P → ((s : Story) → P s → Q s) → StandsIn Stands Q
so h g = record { story = h.story; stands = h.stands; holds = g h.story h.holds }
