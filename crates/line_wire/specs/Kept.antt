-- No clause of `run` rests on this module: it serves contracts between crates.
--
-- The fields of a buffer of lines.
use Rattle.std.specs.Prelude.{◌≡◌, ◌≤◌, ◌^◌, length}
use Rattle.std.specs.Vec.{vec_capacity}
use Rattle.line_wire.specs.declared.line.LineBuffer.TheInside.{Inside}

pub record IsKept (b : Inside) : Type 0 where
  pub behind : b.at ≤ b.end
  pub within : b.end ≤ length b.chunk.items
  pub chunk : length b.chunk.items ≡ 65536
  pub taken : b.taken ≤ 2 ^ 40
  pub text : length b.text.items ≤ 65537
  pub room : 65537 ≤ vec_capacity b.text
