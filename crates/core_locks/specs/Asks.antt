-- No clause of `run` rests on this module: it serves contracts between crates.
--
-- An act that asks for locks.
use Rattle.std.specs.Prelude.{◌≡◌, ℕ, List, []}
use Rattle.iv_types.specs.declared.lock.Want.{Want}
use Rattle.txn_machine.specs.Acts.{Act}
use Rattle.txn_machine.specs.Locks.{Locks, with_one}
use Rattle.txn_machine.specs.State.{State}
use Rattle.txn_machine.specs.Steps.{MayWait, asked}

-- an act of a session asks for these locks
abbrev pub Asks : State → ℕ → Act → List Want → Type 0
Asks s session a wants = MayWait a × (asked s.store session a ≡ wants)

-- what sessions wait for, where one waits for nothing any more
abbrev pub others_wait : Locks → ℕ → Locks
others_wait waiting session = with_one waiting session []
