use Rattle.std.proofs.Common.{◌≡◌, ◌++◌, take, map}
use Rattle.std.specs.Prelude.{string_bytes}
use Rattle.made_script.specs.Made.{begin_line}
use Rattle.made_script.proofs.lines.push_begins.Given as goal

abbrev pub invariant-loop-session : goal.invariant-loop-session
invariant-loop-session l = map string_bytes l.lines.items ≡ map string_bytes l.fn.lines.items ++ map begin_line (take l.session-index l.sessions)
