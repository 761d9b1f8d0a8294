-- How many steps a session counts, where the engine counts more.
use Rattle.std.specs.Prelude.{◌≤◌, ◌+◌, ◌^◌, ◌-◌, ℕ, List, [], ◌∷◌}
use Rattle.std.specs.List.{AllByRecursion}
use Rattle.std.proofs.Common.{arith}
use Rattle.txn_machine.specs.State.{most_steps}
use Rattle.txn_machine.specs.Alone.{Story}
use Rattle.txn_machine.specs.Laws.{IsReachedStory}
use Rattle.txn_machine.proofs.Lengths.{length_law}
use Rattle.script_law.proofs.OverMachine.{reached_of}
use Rattle.txn_sessions.specs.declared.standing.Savepoint.{Savepoint}
use Rattle.txn_sessions.specs.declared.line.After.{After}
use Rattle.txn_sessions.specs.declared.line.After.TheVariants as after
use Rattle.txn_sessions.specs.declared.line.Stage.{Stage}
use Rattle.txn_sessions.specs.declared.line.Stage.TheVariants as stage
use Rattle.txn_sessions.specs.declared.progress.Line.{Line}
use Rattle.txn_sessions.specs.declared.progress.Line.TheVariants as line
use Rattle.txn_sessions.specs.declared.session.Session.{Session}
use Rattle.txn_sessions.specs.Kept.{IsKeptBy}
use Rattle.txn_sessions.specs.Within.{AfterWithin, StageWithin, LineWithin, IsWithin}

module _ (n m : ℕ) (le : n ≤ m) where
  saved_more : (saved : List Savepoint) → AllByRecursion (IsKeptBy n) saved → AllByRecursion (IsKeptBy m) saved
  saved_more [] h = h
  saved_more (s ∷ saved) h =
      let first : s.kept ≤ n = h.0 in
      let one : s.kept ≤ m = omega (arith, first, le) in
      (one, saved_more saved h.1)

  after_more : (last : After) → AfterWithin n last → AfterWithin m last
  after_more (after.Says reply) h = tt
  after_more (after.Ends reply) h = tt
  after_more (after.Returns later kept) h = let k : kept ≤ n = h in let more : kept ≤ m = omega (arith, k, le) in more

  below : (k : ℕ) → k ≤ n → k ≤ m
  below k h = omega (arith, h, le)

  stage_more : (kept : ℕ) (s : Stage) → StageWithin n kept s → StageWithin m kept s
  stage_more kept (stage.Fetching task made) h = below (made + kept) h
  stage_more kept (stage.Changing task made) h = below (made + kept) h
  stage_more kept (stage.Paying o) h = below (o.made + kept) h
  stage_more kept (stage.Lacking o) h = below (o.made + kept) h
  stage_more kept (stage.Undoing left last) h = after_more last h
  stage_more kept _ h = tt

  line_more : (kept : ℕ) (l : Line) → LineWithin n kept l → LineWithin m kept l
  line_more kept (line.Under a) h = stage_more kept a.stage h
  line_more kept _ h = tt

  pub within_more : (x : Session) → IsWithin n x → IsWithin m x
  within_more x h = record {
    stands = record { kept = below x.standing.kept h.stands.kept; saved = saved_more x.standing.saved.items h.stands.saved };
    line = line_more x.standing.kept x.line h.line;
  }

-- an engine counts no more than it may
pub steps_most : (s : Story) → IsReachedStory s → s.state.steps ≤ most_steps
steps_most s r = (length_law s.state (reached_of s r)).1

pub within_most : (s : Story) (x : Session) → IsReachedStory s → IsWithin s.state.steps x → IsWithin most_steps x
within_most s x r h = within_more s.state.steps most_steps (steps_most s r) x h

pub has_room : (x : Session) → IsWithin most_steps x → IsWithin (2 ^ 64 - 2) x
has_room x h = within_more most_steps (2 ^ 64 - 2) (omega arith) x h
