-- No clause of `run` rests on this module: it serves contracts between crates.
--
-- What is asked of a pay, and how it is refused.
use Rattle.std.specs.Prelude.{◌≡◌, ℕ, ◌<◌, ℤ, length, Some}
use Rattle.iv_types.specs.Maps.{Map}
use Rattle.iv_types.specs.Definitions.{Definitions}
use Rattle.iv_types.specs.declared.lock.GroupDelta.{GroupDelta}
use Rattle.iv_meaning.specs.Schema.{Schema, view, ViewTree, numbered}
use Rattle.iv_meaning.specs.Escrow.{value}
use Rattle.txn_machine.specs.Deltas.{place_of}
use Rattle.txn_machine.specs.Stored.{stored_number}
use Rattle.ghost_rows.specs.State.{State}
use Rattle.ghost_rows.specs.Kept.{account, width, IsRefusedAt}
use Rattle.ghost_rows.specs.declared.view_rows.PayRefusal.{PayRefusal}
use Rattle.ghost_rows.specs.declared.view_rows.PayRefusal.TheVariants.{Absent, Escrow}
use Rattle.data_store.specs.Contents.{Contents, pays_on}
use Rattle.data_store.specs.Held.{IsHeld}

-- the delta is for a view of the schema, with a number for each of its sums
pub record IsOfView (objects : Schema) (d : GroupDelta) : Type 0 where
  pub of : ViewTree
  pub is : numbered objects d.view ≡ Some (view of)
  pub sums : length d.sums ≡ length of.sums

-- the store has these contents, and a delta for one of its views
pub record HasFor (definitions : Definitions) (maps : ℕ → Map) (state : State) (d : GroupDelta) (c : Contents) : Type 0 where
  pub held : IsHeld definitions maps state c
  pub of_view : IsOfView c.objects d

-- the numbers that are committed in the row of a delta: each with the kept pays is the stored one
abbrev pub AreCommittedAt : Contents → GroupDelta → (ℕ → ℤ) → Type 0
AreCommittedAt c d committed =
    (at : ℕ) → at < width d → value (account (committed at) at (λ session. pays_on (place_of d) (c.kept session))) ≡ stored_number c.view (place_of d) at

-- the delta is refused, with the first column that does and its bounds
abbrev pub IsRefusedWith : Contents → ℕ → GroupDelta → (ℕ → ℤ) → PayRefusal → Type 0
IsRefusedWith c session d committed Absent = Unit {0}
IsRefusedWith c session d committed (Escrow column low high) = IsRefusedAt committed (λ s. pays_on (place_of d) (c.kept s)) session d column low high
