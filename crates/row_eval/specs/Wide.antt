-- No clause of `run` rests on this module: it serves contracts between crates.
--
-- Numbers that may leave 128 bits.
use Rattle.std.specs.Prelude.{ℤ, pos, ◌+ℤ◌, ◌*ℤ◌, ◌^◌}
use Rattle.row_eval.specs.declared.wide.Wide.{Wide}

abbrev pub wide : Wide → ℤ
wide w = w.low +ℤ w.wraps *ℤ pos (2 ^ 128)
