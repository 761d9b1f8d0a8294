use mathlib.Core.Path.{◌∙◌}
use Rattle.std.proofs.Common.{arith}
use Rattle.lock_cases.proofs.pays.others_pay.Goals as goal

pub other_pays-requires : goal.other_pays-requires
other_pays-requires c = record { kept = let left = c.loop-other.invariant.kept c.requires.kept.0 c.requires.kept.1 in (left.0, left.1) }

pub loop-other-preserved-in-Continue-1 : goal.loop-other-preserved-in-Continue-1
loop-other-preserved-in-Continue-1 c = record {
  kept = λ pays kept.
      let left = c.loop-other.invariant.kept pays kept in
      let next = c.in_ok-other_pays.ensures.kept left.0 left.1 in
      (next.0, next.1, next.2 ∙ left.2);
  room = omega (arith, c.loop-other.invariant.room, c.in_ok-other_pays.ensures.room);
}
