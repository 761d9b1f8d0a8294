-- No clause of `run` rests on this module: it serves contracts between crates.
--
-- A store while no transaction is open, and the rows of views in it.
use Rattle.std.specs.Prelude.{◌≡◌, ℕ, pos, [], IsSome}
use Rattle.std.specs.FinMap.{get}
use Rattle.iv_types.specs.Maps.{Map}
use Rattle.iv_types.specs.Definitions.{Definitions}
use Rattle.table_laws.specs.Place.{Place}
use Rattle.txn_machine.specs.Stored.{ViewRows, stored_number}
use Rattle.ghost_rows.specs.Rows.{no_rows}
use Rattle.ghost_rows.specs.State.{State}
use Rattle.data_store.specs.Contents.{Contents}
use Rattle.data_store.specs.Held.{IsHeld}

-- the store has these contents, no row of a view is open in memory, and no session keeps anything
pub record IsClosed (definitions : Definitions) (maps : ℕ → Map) (state : State) (c : Contents) : Type 0 where
  pub held : IsHeld definitions maps state c
  pub closed : state.rows ≡ no_rows
  pub unkept : (session : ℕ) → c.kept session ≡ []

-- the same but for the rows of views
abbrev pub with_view : Contents → ViewRows → Contents
with_view c view = record c { view = view }

-- a row stands at the place, and each of its numbers is 0
abbrev pub HasZeros : ViewRows → Place → Type 0
HasZeros view place = IsSome (get view place) × ((column : ℕ) → stored_number view place column ≡ pos 0)
