use Rattle.std.proofs.Common.{arith, ap, ◌∙◌}
use Rattle.turn_latch.proofs.Seats.{splits, looks}
use Rattle.turn_latch.proofs.seat.Latch.split.Goals as goal

pub load-requires : goal.load-requires
load-requires g c = (c.requires.latch, let one = c.args.self.now.one.0 in omega arith, looks g.T.Parted.history g.T.Parted.by g.T.Parted.part _ _ _)

pub split_seat-pass-requires : goal.split_seat-pass-requires
split_seat-pass-requires g c = let same = c.load.ensures.2.0 in (
  c.load.ensures.0 ∙ c.requires.latch,
  (let one = c.args.self.now.one.0 in omega arith),
  splits g.T.Parted.history g.T.Parted.by g.T.Parted.part _ c.load.new.seat.me.0 (ap (λ m. m.0.numbered) same ∙ c.args.first.now.free.0) (ap (λ m. m.0.number) same ∙ c.requires.first),
)
