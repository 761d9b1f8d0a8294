-- No clause of `run` rests on this module: it serves contracts between crates.
--
-- The bytes of data that are kept beside the entries: those that open transactions may still need.
use Rattle.std.specs.Prelude.{◌≡◌, ◌≢◌, ℕ, ◌+◌, ◌-◌, Bool, true, false, List, map, get_or, Option, None, Some}
use Rattle.std.specs.List.{sum}
use Rattle.iv_types.specs.declared.lock.GroupDelta.{GroupDelta}
use Rattle.iv_meaning.specs.Escrow.{IsSession}
use Rattle.iv_meaning.specs.Schema.{Schema}
use Rattle.txn_machine.specs.Counts.{sum_over}
use Rattle.txn_machine.specs.Keeping.{Open}
use Rattle.txn_machine.specs.Log.{Logged, delta_entry, room_kept, definition_entries}
use Rattle.data_room.specs.declared.room.DataRoom.{DataRoom}

-- this holds, where there is a limit
abbrev pub Where : Option ℕ → Type 0 → Type 0
Where None P = Unit {0}
Where (Some most) P = P

-- session k's share stands at place k
abbrev pub share_at : List ℕ → ℕ → ℕ
share_at shares session = get_or shares session 0

-- what a session's transaction keeps: by how much taking its changes back enlarges the entries, and the rows of what it still owes
abbrev pub kept_for : Schema → (ℕ → Option Open) → (ℕ → Logged) → ℕ → ℕ
kept_for objects open_of logged session = room_kept objects (open_of session) (logged session).ghosted

-- what it keeps for the first delta that it owes, which is nothing where that had its Ghost
abbrev pub first_bytes : Bool → GroupDelta → ℕ
first_bytes true d = 0
first_bytes false d = delta_entry d

-- each session's share is what its transaction keeps, and the total is all of that
pub record AreReserved (room : DataRoom) (objects : Schema) (open_of : ℕ → Option Open) (logged : ℕ → Logged) : Type 0 where
  pub each : (session : ℕ) → IsSession session → share_at room.shares session ≡ kept_for objects open_of logged session
  pub total : room.total ≡ sum_over 64 (kept_for objects open_of logged)

-- so it is where there is a limit
abbrev pub IsReserved : DataRoom → Schema → (ℕ → Option Open) → (ℕ → Logged) → Type 0
IsReserved room objects open_of logged = Where room.limit (AreReserved room objects open_of logged)

-- a session's share becomes this one, and the total moves with it
pub record Moves (old new : DataRoom) (session share : ℕ) : Type 0 where
  pub own : share_at new.shares session ≡ share
  pub others : (other : ℕ) → other ≢ session → share_at new.shares other ≡ share_at old.shares other
  pub total : new.total ≡ old.total + share - share_at old.shares session
