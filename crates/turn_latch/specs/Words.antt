-- No clause of `run` rests on this module: it serves contracts between crates.
--
-- What callers read of a latch and of a seat.
use Rattle.std.specs.Prelude.{List}
use Rattle.atomic_table.specs.Seated.{TableId}
use Rattle.turn_latch.specs.declared.seat.Seat.{Seat}
use Rattle.turn_latch.specs.declared.seat.Latch.{Latch}
use Rattle.turn_latch.specs.declared.seat.SeatList.{SeatList}
use Rattle.turn_latch.specs.declared.turn.Parted.{Ghosts}
use Rattle.turn_latch.specs.declared.view.View.{View}

-- which latch it is
abbrev pub latch_of : {T : Type 0} → Latch T → TableId
latch_of l = l.table.shared.table_id

module _ {T : Type 0} {p : Ghosts T} where
  -- the latch of a seat
  abbrev pub seat_latch : Seat T p → TableId
  seat_latch s = s.pass.table_id

  -- what a seat knows
  abbrev pub knows : Seat T p → View T
  knows s = s.pass.me.0

  -- the seats of a list
  abbrev pub seats_of : SeatList T p → List (Seat T p)
  seats_of l = l.seats.items
