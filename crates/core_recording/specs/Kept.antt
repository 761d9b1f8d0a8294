-- No clause of `run` rests on this module: it serves contracts between crates.
--
-- Which acts keep a step that can be taken back, which answers say so, and when a Ghost has made its row.
use Rattle.std.specs.Prelude.{Bool, true, false}
use Rattle.txn_machine.specs.Acts as act
use Rattle.txn_machine.specs.Acts.{Act}
use Rattle.txn_machine.specs.Answers.{Answer, Changed, Paid, Ghosted}

abbrev pub MayKeep : Act → Type 0
MayKeep (act.Put number key new) = Unit {0}
MayKeep act.Pay = Unit {0}
MayKeep _ = ⊥

abbrev pub is_kept : Answer → Bool
is_kept (Changed before owed) = true
is_kept (Paid left) = true
is_kept _ = false

-- a Ghost makes its row where that was absent
abbrev pub is_made : Bool → Answer → Bool
is_made false Ghosted = true
is_made _ _ = false
