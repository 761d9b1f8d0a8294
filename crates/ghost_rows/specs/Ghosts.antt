-- No clause of `run` rests on this module: it serves contracts between crates.
--
-- What is committed of stored rows, and which of them are ghosts.
use Rattle.std.specs.Prelude.{◌≡◌, ℕ, suc, ◌<◌, ℤ, pos, List, length, get_or, Option, IsSome}
use Rattle.iv_types.specs.Maps.{Map}
use Rattle.iv_meaning.specs.Escrow.{value}
use Rattle.table_laws.specs.Place.{Place}
use Rattle.ghost_rows.specs.Rows.{OpenRow, row_at}
use Rattle.ghost_rows.specs.Candidates.{IsAmong}
use Rattle.ghost_rows.specs.Kept.{Pays, account, StandsFor}
use Rattle.ghost_rows.specs.State.{State, stored_at, AreKept}

-- the committed numbers of a row: each of them with the kept pays is the stored one
abbrev pub AreCommitted : State → (ℕ → Map) → Place → List ℤ → Type 0
AreCommitted state maps place numbers =
    (many : ℕ) (pays : Pays) (kept : AreKept state maps place (suc many) pays)
    → (length numbers ≡ suc many) × ((at : ℕ) → at < suc many → value (account (get_or numbers at (pos 0)) at pays) ≡ get_or kept.numbers at (pos 0))

-- the row is stored, and without its kept pays its count is 0
pub record IsGhostRow (open_row : Option OpenRow) (stored : Option (List ℕ)) : Type 0 where
  pub many : ℕ
  pub pays : Pays
  pub kept : StandsFor open_row stored (suc many) pays
  pub there : IsSome stored
  pub count : value (account (pos 0) 0 pays) ≡ get_or kept.numbers 0 (pos 0)

abbrev pub IsGhost : State → (ℕ → Map) → Place → Type 0
IsGhost state maps place = IsGhostRow (row_at state.rows place) (stored_at maps place)

abbrev pub IsCandidate : State → Place → Type 0
IsCandidate state place = IsAmong state.candidates place

-- a place is a candidate where its row is a ghost
abbrev pub IsListed : State → (ℕ → Map) → Place → Type 0
IsListed state maps place = IsGhost state maps place → IsCandidate state place

-- each ghost is a candidate
abbrev pub AreListed : State → (ℕ → Map) → Type 0
AreListed state maps = (place : Place) → IsListed state maps place

-- each place that was listed is so still
abbrev pub StayListed : State → (ℕ → Map) → State → (ℕ → Map) → Type 0
StayListed old before new after = (place : Place) → IsListed old before place → IsListed new after place
