-- No clause of `run` rests on this module: it serves contracts between crates.
--
-- Whose step a session asks for.
use Rattle.std.specs.Prelude.{ℕ, ◌==◌, Bool, true}
use Rattle.txn_sessions.specs.declared.progress.Line.{Line}
use Rattle.txn_sessions.specs.declared.progress.Line.TheVariants as line

-- a step that is asked for is this session's
abbrev pub is_numbered : ℕ → Line → Bool
is_numbered number (line.Under a) = a.step.session == number
is_numbered number l = true
