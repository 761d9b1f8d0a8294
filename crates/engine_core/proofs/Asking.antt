-- Who may ask.
use Rattle.std.specs.Prelude.{ℕ, ◌≤◌}
use Rattle.txn_machine.specs.Acts as act
use Rattle.txn_machine.specs.Acts.{Act}
use Rattle.txn_machine.specs.May.{MayAsk}

-- there are 64 sessions
pub few_ask : (i : ℕ) (a : Act) → MayAsk i a → i ≤ 64
few_ask i (act.Begin mode) h = h
few_ask i act.Defs h = h.1
few_ask i (act.Fetch number interval mode) h = h
few_ask i (act.Peek number interval) h = h
few_ask i (act.Put number key new) h = h
few_ask i act.Pay h = h
few_ask i act.Ghost h = h
few_ask i act.UndoOne h = h
few_ask i act.End h = h
few_ask i act.Commit h = h
few_ask i (act.Schema statement) h = h.1
few_ask i act.Clean h = h
few_ask i act.Prune h = h
few_ask i act.Checkpoint h = h
few_ask i act.Cancel h = h.1
