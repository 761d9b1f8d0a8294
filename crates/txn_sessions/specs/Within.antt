-- No clause of `run` rests on this module: it serves contracts between crates.
--
-- How many steps a session counts.
use Rattle.std.specs.Prelude.{ℕ, ◌+◌, ◌≤◌}
use Rattle.txn_sessions.specs.declared.line.After.{After}
use Rattle.txn_sessions.specs.declared.line.After.TheVariants as after
use Rattle.txn_sessions.specs.declared.line.Stage.{Stage}
use Rattle.txn_sessions.specs.declared.line.Stage.TheVariants as stage
use Rattle.txn_sessions.specs.declared.progress.Line.{Line}
use Rattle.txn_sessions.specs.declared.progress.Line.TheVariants as line
use Rattle.txn_sessions.specs.declared.session.Session.{Session}
pub use Rattle.txn_sessions.specs.Kept.{StandsWithin}

-- it goes back to no more than n kept steps
abbrev pub AfterWithin : ℕ → After → Type 0
AfterWithin n (after.Returns later kept) = kept ≤ n
AfterWithin n _ = Unit {0}

-- with so many kept before, it counts no more than n
abbrev pub StageWithin : ℕ → ℕ → Stage → Type 0
StageWithin n kept (stage.Fetching task made) = made + kept ≤ n
StageWithin n kept (stage.Changing task made) = made + kept ≤ n
StageWithin n kept (stage.Paying o) = o.made + kept ≤ n
StageWithin n kept (stage.Lacking o) = o.made + kept ≤ n
StageWithin n kept (stage.Undoing left last) = AfterWithin n last
StageWithin n kept _ = Unit {0}

abbrev pub LineWithin : ℕ → ℕ → Line → Type 0
LineWithin n kept (line.Under a) = StageWithin n kept a.stage
LineWithin n kept _ = Unit {0}

-- a session counts no more than n steps
pub record IsWithin (n : ℕ) (s : Session) : Type 0 where
  pub stands : StandsWithin n s.standing
  pub line : LineWithin n s.standing.kept s.line
