use Rattle.std.proofs.Common.{subst, List, IsSome}
use Rattle.ghost_rows.specs.declared.shares.Share.{Share}
use Rattle.ghost_rows.specs.Shares.{sum_at}
use Rattle.ghost_rows.specs.Kept.{no_pays}
use Rattle.ghost_rows.proofs.SeatLemmas.{no_room}
use Rattle.ghost_rows.proofs.opening.opened.Goals as goal

pub returns-clause-stands : goal.returns-clause-stands
returns-clause-stands c = c.reserve.ensures.keeps.stands c.args.numbers.now no_pays c.in_ok-row.ensures.stands

pub returns-clause-only : goal.returns-clause-only
returns-clause-only c = λ other n has. no_room other (subst (λ (l : List Share). IsSome (sum_at l other)) c.in_ok-row.ensures.shares (c.reserve.ensures.keeps.only other n has))
