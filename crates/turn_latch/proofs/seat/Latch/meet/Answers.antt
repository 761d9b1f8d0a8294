use Rattle.std.proofs.Common.{rules, arith, ap}
use Rattle.turn_latch.proofs.Seats.{notes, meets, compares}
use Rattle.turn_latch.proofs.seat.Latch.meet.Goals as goal

pub split_seat-note-requires : goal.split_seat-note-requires
split_seat-note-requires g c = (search rules, let one = c.args.self.now.one.0 in omega arith, notes g.T.Parted.history g.T.Parted.by g.T.Parted.part _ _)

pub join_seat-requires : goal.join_seat-requires
join_seat-requires g c = let n = c.split_seat-note.ensures in (
  (search rules),
  (search rules),
  ap (λ m. m.1) n.4,
  (let one = c.args.self.now.one.0 in omega arith),
  meets g.T.Parted.history g.T.Parted.by g.T.Parted.part _ _ _ _ (ap (λ m. m.0.held) n.4),
)

pub load-requires : goal.load-requires
load-requires g c = (
  (search rules),
  (let one = c.args.self.now.one.0 in omega arith),
  compares g.T.Parted.history g.T.Parted.by g.T.Parted.part _ _ _,
)
