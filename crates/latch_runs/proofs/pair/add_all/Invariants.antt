use Rattle.std.proofs.Common.{◌≡◌, ◌++◌, take}
use Rattle.turn_latch.specs.Words.{seat_latch, knows}
use Rattle.turn_latch.specs.Views.{seen_of}
use Rattle.turn_latch.specs.Histories.{of}
use Rattle.latch_runs.specs.Books.{by, history, entries_of}
use Rattle.latch_runs.proofs.pair.add_all.Given as goal

abbrev pub invariant-loop-amount : goal.invariant-loop-amount
invariant-loop-amount g l = record {
  latch : seat_latch l.seat ≡ seat_latch l.initial.seat;
  number : (knows l.seat).number ≡ (knows l.initial.seat).number;
  added : let n = (knows l.initial.seat).number in of by n (seen_of history (knows l.seat).seen) ≡ of by n (seen_of history (knows l.initial.seat).seen) ++ entries_of n (take l.amount-index l.amounts);
}
