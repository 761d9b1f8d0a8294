use Rattle.std.proofs.Common.{map, Contains, sym, subst}
use Rattle.turn_latch.specs.Words.{knows}
use Rattle.latch_runs.proofs.crew.every_seat.Goals as goal

pub close-requires-clause-each : goal.close-requires-clause-each
close-requires-clause-each c = λ n pos le. subst (λ l. Contains (map (λ s. (knows s).number) l) n) (sym c.from_vec.ensures) (c.loop.invariant.crew.1 n pos le)
