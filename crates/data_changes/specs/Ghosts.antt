-- No clause of `run` rests on this module: it serves contracts between crates.
--
-- What is asked where a ghost is made or removed.
use Rattle.std.specs.Prelude.{◌≡◌, ℕ, suc, [], length, Some, None}
use Rattle.std.specs.FinMap.{get}
use Rattle.iv_types.specs.Maps.{Map}
use Rattle.iv_types.specs.Definitions.{Definitions}
use Rattle.table_laws.specs.Place.{Place}
use Rattle.iv_meaning.specs.Schema.{view, ViewTree, numbered}
use Rattle.txn_machine.specs.Stored.{zeros}
use Rattle.ghost_rows.specs.State.{State}
use Rattle.data_store.specs.Contents.{Contents, pays_on}
use Rattle.data_store.specs.Held.{IsHeld}

-- the store has these contents, and no row at a place of a view with so many sums
pub record HasAbsent (definitions : Definitions) (maps : ℕ → Map) (state : State) (place : Place) (sums : ℕ) (c : Contents) : Type 0 where
  pub held : IsHeld definitions maps state c
  pub of : ViewTree
  pub is : numbered c.objects place.0 ≡ Some (view of)
  pub many : length of.sums ≡ sums
  pub absent : get c.view place ≡ None

-- the store has these contents, and a row of zeros at a place of a view, on which no pay is kept
pub record HasGhost (definitions : Definitions) (maps : ℕ → Map) (state : State) (place : Place) (c : Contents) : Type 0 where
  pub held : IsHeld definitions maps state c
  pub of : ViewTree
  pub is : numbered c.objects place.0 ≡ Some (view of)
  pub zero : get c.view place ≡ Some (zeros (suc (length of.sums)))
  pub unpaid : (session : ℕ) → pays_on place (c.kept session) ≡ []
