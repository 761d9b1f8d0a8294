-- No clause of `run` rests on this module: it serves contracts between crates.
--
-- The rows that open transactions pay to, as they are kept in memory.
use Rattle.std.specs.Prelude.{◌≡◌, ◌≢◌, ℕ, ◌<◌, ◌==◌, ℤ, pos, Bool, true, false, List, [], ◌∷◌, map, filter, not, slice_get, get_or, Option, Some, None, IsSome, ◌⊎◌, refl, if◌then◌else◌}
use Rattle.std.specs.Int.{w128, int_wrapping_add}
use Rattle.std.specs.Option.{option_map}
use Rattle.std.specs.List.{Contains}
use Rattle.std.specs.Coded.{Coded, coded_ℤ, coded_ℕ, coded×, coded_list, code_by}
use Rattle.std.specs.FinMap as finite
use Rattle.iv_types.specs.declared.lock.GroupDelta.{GroupDelta}
use Rattle.iv_types.specs.contracts.lock.Prefix as prefix
use Rattle.table_laws.specs.Place.{Place, place_cmp}
use Rattle.txn_machine.specs.Deltas.{worth}
use Rattle.escrow_bounds.specs.Column as column
use Rattle.escrow_bounds.specs.Column.{Column, IsReserved, part, with_part, added, least, greatest}
use Rattle.escrow_bounds.specs.declared.escrow.Range.{Range}
use Rattle.ghost_rows.specs.declared.shares.Share.{Share}
use Rattle.ghost_rows.specs.Shares.{sum_at}
use Rattle.ghost_rows.specs.Candidates.{Places, IsAmong}

-- a row that open transactions pay to, or may: its columns, its committed count, and what each session has added to it
pub record OpenRow : Type 0 where
  pub columns : List Column
  pub committed : ℤ
  pub shares : List Share

abbrev pub coded_column : Coded Column
coded_column = code_by _ (coded× coded_ℤ (finite.code coded_ℕ prefix.the_row.coded)) (λ c. (c.committed, c.parts)) (λ p. record { committed = p.0; parts = p.1 }) (λ _. refl)

abbrev pub coded_share : Coded Share
coded_share = code_by (ℕ × ℤ) (coded× coded_ℕ coded_ℤ) (λ s. (s.session, s.sum)) (λ p. record { session = p.0; sum = p.1 }) (λ _. refl)

abbrev pub coded_row : Coded OpenRow
coded_row = code_by _ (coded× (coded_list coded_column) (coded× coded_ℤ (coded_list coded_share))) (λ r. (r.columns, (r.committed, r.shares))) (λ p. record { columns = p.0; committed = p.1.0; shares = p.1.1 }) (λ _. refl)

-- the rows at their places
abbrev pub OpenRows : Type 0
OpenRows = finite.FinMap place_cmp OpenRow

abbrev pub no_rows : OpenRows
no_rows = finite.empty

abbrev pub coded_rows : Coded OpenRows
coded_rows = finite.code (coded× coded_ℕ (coded_list coded_ℕ)) coded_row

abbrev pub row_at : OpenRows → Place → Option OpenRow
row_at rows place = finite.get rows place

-- the session has room in the row
abbrev pub HasRoom : ℕ → OpenRow → Type 0
HasRoom session row = IsSome (sum_at row.shares session)

-- ---- what calls do to the columns, one by one

abbrev pub EachMoved : (ℕ → Column → Column) → List Column → List Column → Type 0
EachMoved F old new = (i : ℕ) → slice_get new i ≡ option_map (F i) (slice_get old i)

-- at each column
abbrev pub EachColumn : (ℕ → Column → Type 0) → List Column → Type 0
EachColumn P columns = (i : ℕ) (c : Column) → slice_get columns i ≡ Some c → P i c

abbrev pub AreReserved : ℕ → List Column → Type 0
AreReserved session columns = EachColumn (λ i c. IsReserved c session) columns

-- a delta is allowed in each column
abbrev pub AreAllowed : ℕ → GroupDelta → List Column → Type 0
AreAllowed session d columns = EachColumn (λ i c. column.IsAllowed c session (worth i d)) columns

-- the first column that refuses a delta, and its bounds
pub record IsFirstRefused (session : ℕ) (d : GroupDelta) (columns : List Column) (at : ℕ) (range : Range) : Type 0 where
  pub here : Column
  pub is_here : slice_get columns at ≡ Some here
  pub refused : column.IsAllowed here session (worth at d) → ⊥
  pub range_is : range ≡ record { inf = least here; sup = greatest here }
  pub earlier : EachColumn (λ i c. i < at → column.IsAllowed c session (worth i d)) columns

-- the same but for room
pub record Widens (old new : Column) : Type 0 where
  pub committed : new.committed ≡ old.committed
  pub parts : (s : ℕ) → part new s ≡ part old s
  pub room : (s : ℕ) → IsReserved old s → IsReserved new s

-- ---- the end of a session

-- its sums become committed, and its room goes
abbrev pub settled_row : ℕ → OpenRow → OpenRow
settled_row session row = elim (sum_at row.shares session) [
  | None ↦ row
  | Some sum ↦ record {
    columns = map (λ c. column.settled c session) row.columns;
    committed = int_wrapping_add w128 row.committed sum;
    shares = filter (λ s. not (s.session == session)) row.shares;
  }
]

-- a session has room in the row
abbrev pub is_open : OpenRow → Bool
is_open row = elim row.shares [ [] ↦ false | s ∷ shares ↦ true ]

abbrev pub left_open : Option OpenRow → Option OpenRow
left_open None = None
left_open (Some row) = if is_open row then Some row else None

-- the row that becomes of one that was there, if it stays
abbrev pub settled_at : ℕ → Option OpenRow → Option OpenRow
settled_at session row = left_open (option_map (settled_row session) row)

-- ---- one row

-- this row stands at the place, and all else stays
pub record ChangesRow (place : Place) (row : OpenRow) (old new : OpenRows) : Type 0 where
  pub here : row_at new place ≡ Some row
  pub others : (q : Place) → q ≢ place → row_at new q ≡ row_at old q

-- ---- seats

-- a session has room in each row
abbrev pub AreOpen : OpenRows → Type 0
AreOpen rows = (place : Place) (row : OpenRow) → row_at rows place ≡ Some row → is_open row ≡ true

-- the session has room in the row of a place
abbrev pub IsSeated : OpenRows → Place → ℕ → Type 0
IsSeated rows place session = (row : OpenRow) × (row_at rows place ≡ Some row) × HasRoom session row

-- each session's list has each place at which it has room
abbrev pub AreSeated : OpenRows → List (List Place) → Type 0
AreSeated rows seats = (session : ℕ) (place : Place) → IsSeated rows place session → Contains (get_or seats session []) place

-- at one place, this session alone may have got room
pub record GivesRoom (session : ℕ) (place : Place) (old new : OpenRows) : Type 0 where
  pub others : (q : Place) → q ≢ place → row_at new q ≡ row_at old q
  pub room : (s : ℕ) → IsSeated old place s → IsSeated new place s
  pub only : (s : ℕ) → s ≢ session → IsSeated new place s → IsSeated old place s
  pub still : AreOpen old → AreOpen new

-- the session has settled the row of a place, which is among the candidates if its committed count is 0 then
pub record IsSettledAt (session : ℕ) (place : Place) (old new : OpenRows) (before after : Places) : Type 0 where
  pub row : row_at new place ≡ settled_at session (row_at old place)
  pub ghost : (row : OpenRow) → row_at old place ≡ Some row → (settled_row session row).committed ≡ pos 0 → IsAmong after place
  pub other : row_at old place ≡ None → finite.get after place ≡ finite.get before place

-- the row of a place is as it was, and so is the place among the candidates
pub record IsLeftAt (place : Place) (old new : OpenRows) (before after : Places) : Type 0 where
  pub row : row_at new place ≡ row_at old place
  pub candidate : finite.get after place ≡ finite.get before place

-- the session has settled the rows of these places, and all else stays
abbrev pub AreSettled : ℕ → List Place → OpenRows → OpenRows → Places → Places → Type 0
AreSettled session places old new before after =
    (q : Place) → IsSettledAt session q old new before after ⊎ IsLeftAt q old new before after × (Contains places q → ⊥)
