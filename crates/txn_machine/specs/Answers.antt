-- No clause of `run` rests on this module: it serves contracts between crates.
--
-- What a step is answered.
use Rattle.std.specs.Prelude.{ℕ, List, Option}
use Rattle.iv_types.specs.declared.lock.GroupDelta.{GroupDelta}
use Rattle.iv_types.specs.declared.session.Sessions.{Sessions}
use Rattle.iv_types.specs.declared.refusal.Refusal.{Refusal}
use Rattle.iv_types.specs.declared.refusal.EngineRefusal.{EngineRefusal}
use Rattle.iv_meaning.specs.Schema.{Schema}
use Rattle.iv_meaning.specs.Database.{Row}

pub data Answer : Type 0 where
  -- the greatest commit number, and the number of definitions
  Begun : (number defs : ℕ) → Answer
  Defs : Schema → Answer
  Rows : List Row → Answer
  -- the row that was there, and the deltas that the change owes
  Changed : (before : Option Row) (owed : List GroupDelta) → Answer
  -- how many deltas are still owed
  Paid : (left : ℕ) → Answer
  NeedsGhost : Answer
  Ghosted : Answer
  -- how many kept steps are left
  Undone : (left : ℕ) → Answer
  Ended : Answer
  Committed : (number : ℕ) → Answer
  Cleaned : (count : ℕ) → Answer
  Pruned : Answer
  -- with the greatest commit number
  Saved : (number : ℕ) → Answer
  Cancelled : Answer
  -- it waits for these sessions
  Blocked : Sessions → Answer
  Refused : EngineRefusal → Answer
  -- what the statement means is a refusal
  Denied : Refusal → Answer
