-- No clause of `run` rests on this module: it serves contracts between crates.
--
-- Seats that were split off.
use Rattle.std.specs.Prelude.{◌≡◌, ℕ, ◌<◌, ◌≤◌, List, map, All, Contains}
use Rattle.atomic_table.specs.Seated.{TableId}
use Rattle.turn_latch.specs.declared.seat.Seat.{Seat}
use Rattle.turn_latch.specs.declared.turn.Parted.{Ghosts}
use Rattle.turn_latch.specs.Words.{seat_latch, knows}

module _ {T : Type 0} {p : Ghosts T} where
  -- seats of one latch, which have each number from 1 to the last
  abbrev pub IsCrew : TableId → ℕ → List (Seat T p) → Type 0
  IsCrew z last seats = All (λ s. seat_latch s ≡ z) seats × ((n : ℕ) → 0 < n → n ≤ last → Contains (map (λ s. (knows s).number) seats) n)
