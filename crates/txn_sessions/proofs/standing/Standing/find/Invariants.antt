use Rattle.std.proofs.Common.{◌≡◌, drop}
use Rattle.script_law.specs.Sessions.{from_marked}
use Rattle.txn_sessions.specs.Standings.{marks_of}
use Rattle.txn_sessions.proofs.standing.Standing.find.Given as goal

abbrev pub invariant-loop-place : goal.invariant-loop-place
invariant-loop-place l = from_marked l.name (marks_of l.self.saved.items) ≡ from_marked l.name (drop l.place (marks_of l.self.saved.items))
