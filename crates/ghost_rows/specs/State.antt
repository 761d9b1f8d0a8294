-- No clause of `run` rests on this module: it serves contracts between crates.
--
-- What is kept of the open transactions' pays, beside the stored rows.
use Rattle.std.specs.Prelude.{◌≡◌, ◌≢◌, ℕ, ◌+◌, ◌*◌, ◌≤◌, ℤ, List, length, get_or, Option, Some, IsSome, IfSome, refl}
use Rattle.std.specs.Coded.{Coded, coded_ℕ, coded×, coded_list, code_by}
use Rattle.std.specs.FinMap.{get, insert}
use Rattle.iv_types.specs.declared.lock.GroupDelta.{GroupDelta}
use Rattle.iv_types.specs.Maps.{Map, CanHold, IsWithin, used, with_map}
use Rattle.table_laws.specs.Place.{Place}
use Rattle.txn_machine.specs.Deltas.{place_of}
use Rattle.ghost_rows.specs.Shares.{sum_at}
use Rattle.ghost_rows.specs.Numbers.{numbers_bytes, Fits128}
use Rattle.ghost_rows.specs.Rows.{OpenRow, OpenRows, row_at, coded_rows}
use Rattle.ghost_rows.specs.Candidates.{Places, coded_places}
use Rattle.ghost_rows.specs.Kept.{Pays, width, StandsFor, IsRefusedAt, committed_at}
use Rattle.ghost_rows.specs.declared.view_rows.PayRefusal.{PayRefusal}
use Rattle.ghost_rows.specs.declared.view_rows.PayRefusal.TheVariants.{Absent, Escrow}

-- The rows that open transactions pay to, for how many values of stored rows each session has buffers, and where ghosts are
-- looked for.
pub record State : Type 0 where
  pub rows : OpenRows
  pub rooms : List ℕ
  pub candidates : Places

abbrev pub coded_state : Coded State
coded_state = code_by _ (coded× coded_rows (coded× (coded_list coded_ℕ) coded_places)) (λ s. (s.rows, (s.rooms, s.candidates))) (λ p. record { rows = p.0; rooms = p.1.0; candidates = p.1.1 }) (λ _. refl)

abbrev pub room_of : State → ℕ → ℕ
room_of state session = get_or state.rooms session 0

-- what is stored of the row of a place
abbrev pub stored_at : (ℕ → Map) → Place → Option (List ℕ)
stored_at maps place = get (maps place.0) place.1

-- These pays are kept on the row of a place: the stored row is what is committed and all of them. A row has so many
-- numbers.
abbrev pub AreKept : State → (ℕ → Map) → Place → ℕ → Pays → Type 0
AreKept state maps place width pays = StandsFor (row_at state.rows place) (stored_at maps place) width pays

-- the session has room in the row of a place
abbrev pub HasSeat : State → Place → ℕ → Type 0
HasSeat state place session = IfSome (row_at state.rows place) (λ row. IsSome (sum_at row.shares session)) × IsSome (row_at state.rows place)

-- all that a pay of the session on the row and its taking back need is there
pub record IsReady (state : State) (place : Place) (session : ℕ) : Type 0 where
  pub seat : HasSeat state place session
  pub room : 1 ≤ room_of state session

-- a value of the row's size can be put at the place
abbrev pub CanStore : (ℕ → Map) → Option ℕ → Place → ℕ → Type 0
CanStore maps limit place width =
    (value : List ℕ) → length value ≡ 16 * width → CanHold place.0 place.1 value × IsWithin limit (used (with_map maps place.0 (insert (maps place.0) place.1 value)))

-- the row of a place is stored, and has these numbers
pub record Stores (maps : ℕ → Map) (place : Place) (numbers : List ℤ) : Type 0 where
  pub bytes : stored_at maps place ≡ Some (numbers_bytes numbers)
  pub fit : Fits128 numbers

-- the rows of all other places, and the seats of all sessions in them, are as before
abbrev pub OnlyAt : Place → State → State → Type 0
OnlyAt place old new = (q : Place) → q ≢ place → row_at new.rows q ≡ row_at old.rows q

-- the stored rows of all other places are as before
abbrev pub StoresOnlyAt : Place → (ℕ → Map) → (ℕ → Map) → Type 0
StoresOnlyAt place old new = (q : Place) → q ≢ place → stored_at new q ≡ stored_at old q

-- the session has used up a buffer
pub record MovesRoom (session : ℕ) (old new : State) : Type 0 where
  pub used : room_of new session + 1 ≡ room_of old session
  pub others : (s : ℕ) → s ≢ session → room_of new s ≡ room_of old s

-- where a row is stored, a refused pay names the first column that refuses the delta, and its bounds before it
abbrev pub IsRefusal : State → (ℕ → Map) → ℕ → GroupDelta → PayRefusal → Type 0
IsRefusal state maps session d Absent = Unit {0}
IsRefusal state maps session d (Escrow column low high) =
    (pays : Pays) (row : OpenRow) → AreKept state maps (place_of d) (width d) pays → row_at state.rows (place_of d) ≡ Some row → IsRefusedAt (committed_at row) pays session d column low high
