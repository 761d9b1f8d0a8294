-- No clause of `run` rests on this module: it serves contracts between crates.
--
-- What the entries count of a store that has some contents.
use Rattle.std.specs.Prelude.{◌≡◌, ℕ, ◌+◌}
use Rattle.iv_types.specs.Definitions.{Definitions}
use Rattle.iv_types.specs.Maps.{Map, map_size, used}
use Rattle.query_laws.specs.Limited.{IsLimited}
use Rattle.txn_machine.specs.Log.{view_entries}
use Rattle.txn_machine.specs.Stored.{AreStored}
use Rattle.txn_machine.specs.ViewLaws.{AreSound}
use Rattle.txn_log.specs.Room.{rows_bytes}
use Rattle.ghost_rows.specs.State.{State}
use Rattle.data_store.specs.Contents.{Contents}
use Rattle.data_store.specs.Held.{IsHeld}

-- all entries of the maps count what the entries of all rows do, those of the stored view rows, and those of index 0
abbrev pub UsedLaw : Type 0
UsedLaw = (definitions : Definitions) (maps : ℕ → Map) (state : State) (c : Contents) → IsHeld definitions maps state c → AreSound c.objects c.rows → AreStored c.objects c.view → IsLimited c.objects
    → used maps ≡ rows_bytes c.objects c.rows + view_entries c.view + map_size (maps 0)
