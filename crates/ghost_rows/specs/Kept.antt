-- No clause of `run` rests on this module: it serves contracts between crates.
--
-- For which kept pays the rows in memory and the stored rows stand.
use Rattle.std.specs.Prelude.{◌≡◌, ◌≢◌, ℕ, suc, ◌<◌, ◌≤◌, ◌==◌, ℤ, pos, true, false, List, [], ◌∷◌, map, length, get_or, slice_get, Option, Some, None, IsSome, IfSome, if◌then◌else◌}
use Rattle.std.specs.List.{AllByRecursion}
use Rattle.std.specs.Option.{option_map_or}
use Rattle.std.specs.Int.{w128}
use Rattle.std.specs.Prelude.{FitsSigned}
use Rattle.iv_types.specs.declared.lock.GroupDelta.{GroupDelta}
use Rattle.iv_types.specs.declared.lock.Prefix.{Prefix}
use Rattle.iv_types.specs.Encoding.{IsHuge}
use Rattle.txn_machine.specs.Deltas.{worth}
use Rattle.iv_meaning.specs.Escrow.{Account, IsSession, IsAllowed, inf, sup, value, paid, prefix_of}
use Rattle.escrow_bounds.specs.Column.{Column, Stands, IsReserved}
use Rattle.ghost_rows.specs.Numbers.{numbers_bytes, moved}
use Rattle.ghost_rows.specs.Rows.{OpenRow, EachColumn}
use Rattle.ghost_rows.specs.Shares.{sum_at}

-- the kept pays on a row, of each session the latest first
abbrev pub Pays : Type 0
Pays = ℕ → List GroupDelta

abbrev pub no_pays : Pays
no_pays s = []

-- those of one session set
abbrev pub with_pays : Pays → ℕ → List GroupDelta → Pays
with_pays pays session ds s = if s == session then ds else pays s

-- each of them adds to the row's count or takes from it
abbrev pub AllCount : Pays → Type 0
AllCount pays = (session : ℕ) → IsSession session → AllByRecursion (λ d. d.count ≢ pos 0) (pays session)

-- there are none
abbrev pub IsUnpaid : Pays → Type 0
IsUnpaid pays = (session : ℕ) → IsSession session → pays session ≡ []

-- what they add to a column
abbrev pub increments : ℕ → List GroupDelta → List ℤ
increments column ds = map (worth column) ds

-- the column's account: what is committed, and the kept increments
abbrev pub account : ℤ → ℕ → Pays → Account
account committed column pays = record { committed = committed; kept = λ s. increments column (pays s) }

-- a delta of a view with so many numbers in its rows
pub record IsDelta (d : GroupDelta) : Type 0 where
  pub sums : AllByRecursion IsHuge d.sums
  pub few : length d.sums ≤ 8

-- a row of the delta's view has a count, and as many sums as the delta
abbrev pub width : GroupDelta → ℕ
width d = suc (length d.sums)

-- The column stands for its account, whose value is the number that is stored: what is committed and all kept pays. Its
-- bounds lie in the HUGE range.
pub record ColumnStands (c : Column) (at : ℕ) (number : ℤ) (pays : Pays) : Type 0 where
  pub stands : Stands c (account c.committed at pays)
  pub value_is : value (account c.committed at pays) ≡ number
  pub inf_huge : IsHuge (inf (account c.committed at pays))
  pub sup_huge : IsHuge (sup (account c.committed at pays))

-- so does each column of the row, and a session without room in it has no kept pays on it
pub record RowStands (row : OpenRow) (numbers : List ℤ) (pays : Pays) : Type 0 where
  pub many : length row.columns ≡ length numbers
  pub columns : EachColumn (λ at c. ColumnStands c at (get_or numbers at (pos 0)) pays) row.columns
  pub committed : (c : Column) → slice_get row.columns 0 ≡ Some c → row.committed ≡ c.committed
  pub reserved : (session : ℕ) → IsSome (sum_at row.shares session) → EachColumn (λ at c. IsReserved c session) row.columns
  pub sums : (session : ℕ) (sum : ℤ) → sum_at row.shares session ≡ Some sum → sum ≡ paid (increments 0 (pays session))
  pub fits : (session : ℕ) (sum : ℤ) → sum_at row.shares session ≡ Some sum → FitsSigned w128 sum
  pub unpaid : (session : ℕ) → sum_at row.shares session ≡ None → pays session ≡ []

-- the first columns allow a delta of a session
abbrev pub IsAllowedIn : (ℕ → ℤ) → Pays → ℕ → GroupDelta → ℕ → Type 0
IsAllowedIn committed pays session d many = (at : ℕ) → at < many → IsAllowed (account (committed at) at pays) session (worth at d)

-- a column refuses a delta of a session, and no column before it does
pub record IsRefusedAt (committed : ℕ → ℤ) (pays : Pays) (session : ℕ) (d : GroupDelta) (at : ℕ) (low high : ℤ) : Type 0 where
  pub within : at < width d
  pub refused : IsAllowed (account (committed at) at pays) session (worth at d) → ⊥
  pub earlier : (i : ℕ) → i < at → IsAllowed (account (committed i) i pays) session (worth i d)
  pub inf_is : low ≡ inf (account (committed at) at pays)
  pub sup_is : high ≡ sup (account (committed at) at pays)

-- The stored row has these numbers: zeros where it is absent.
pub record HasNumbers (stored : Option (List ℕ)) (width : ℕ) (numbers : List ℤ) : Type 0 where
  pub many : length numbers ≡ width
  pub huge : AllByRecursion IsHuge numbers
  pub bytes : IfSome stored (λ bytes. bytes ≡ numbers_bytes numbers)
  pub zeros : stored ≡ None → AllByRecursion (λ n. n ≡ pos 0) numbers

-- The row in memory, if there is one, and the stored row stand for these kept pays. They are none where either is absent.
pub record StandsFor (open_row : Option OpenRow) (stored : Option (List ℕ)) (width : ℕ) (pays : Pays) : Type 0 where
  pub numbers : List ℤ
  pub has : HasNumbers stored width numbers
  pub row : IfSome open_row (λ r. RowStands r numbers pays)
  pub closed : open_row ≡ None → (session : ℕ) → pays session ≡ []
  pub absent : stored ≡ None → (session : ℕ) → pays session ≡ []

-- the committed value of a column
abbrev pub committed_at : OpenRow → ℕ → ℤ
committed_at row at = option_map_or (λ c. c.committed) (slice_get row.columns at) (pos 0)

-- the prefixes of some deltas in the first columns
abbrev pub ArePrefixes : List Prefix → ℕ → List GroupDelta → Type 0
ArePrefixes before many ds = (at : ℕ) → at < many → slice_get before at ≡ Some (prefix_of (increments at ds))

-- a session's latest kept pay was of this delta, and answered these prefixes
pub record IsPaidLast (pays : Pays) (session : ℕ) (d : GroupDelta) (before : List Prefix) : Type 0 where
  pub earlier : List GroupDelta
  pub latest : pays session ≡ d ∷ earlier
  pub prefixes : ArePrefixes before (width d) earlier

-- ---- a row in memory

-- the session has room in the row, and the row stands for some kept pays on a row as wide as the delta
pub record CanPay (session : ℕ) (d : GroupDelta) (row : OpenRow) : Type 0 where
  pub room : IsSome (sum_at row.shares session)
  pub numbers : List ℤ
  pub pays : Pays
  pub many : length numbers ≡ width d
  pub stands : RowStands row numbers pays

-- the same sessions have room in it, and the same count is committed
pub record IsAsBefore (old new : OpenRow) : Type 0 where
  pub room : (other : ℕ) → IsSome (sum_at old.shares other) → IsSome (sum_at new.shares other)
  pub only : (other : ℕ) → IsSome (sum_at new.shares other) → IsSome (sum_at old.shares other)
  pub committed : new.committed ≡ old.committed

-- one more pay is kept; the prefixes before it are answered
pub record IsPaid (session : ℕ) (d : GroupDelta) (before : List Prefix) (old new : OpenRow) : Type 0 where
  pub stands : (numbers : List ℤ) (pays : Pays) → RowStands old numbers pays → RowStands new (moved false 0 numbers d) (with_pays pays session (d ∷ pays session))
  pub allowed : (numbers : List ℤ) (pays : Pays) → RowStands old numbers pays → IsAllowedIn (committed_at old) pays session d (length numbers)
  pub before_is : (numbers : List ℤ) (pays : Pays) → RowStands old numbers pays → ArePrefixes before (length numbers) (pays session)
  pub same : IsAsBefore old new

-- the delta is refused, with the first column that does and its bounds
abbrev pub Refuses : ℕ → GroupDelta → OpenRow → ℕ → ℤ → ℤ → Type 0
Refuses session d row at low high = (numbers : List ℤ) (pays : Pays) → length numbers ≡ width d → RowStands row numbers pays → IsRefusedAt (committed_at row) pays session d at low high

-- the row stands for some kept pays, of which the session's latest was of this delta and answered these prefixes
pub record CanTakeBack (session : ℕ) (d : GroupDelta) (before : List Prefix) (row : OpenRow) : Type 0 where
  pub numbers : List ℤ
  pub pays : Pays
  pub many : length numbers ≡ width d
  pub stands : RowStands row numbers pays
  pub last : IsPaidLast pays session d before

-- the session's latest pay is no longer kept
pub record IsTaken (session : ℕ) (d : GroupDelta) (before : List Prefix) (old new : OpenRow) : Type 0 where
  pub stands : (numbers : List ℤ) (pays : Pays) (earlier : List GroupDelta) → RowStands old numbers pays → pays session ≡ d ∷ earlier
      → ArePrefixes before (length numbers) earlier → RowStands new (moved true 0 numbers d) (with_pays pays session earlier)
  pub same : IsAsBefore old new

-- it stands for what it stood for, and of all sessions this one alone may have got room
pub record Keeps (session : ℕ) (old new : OpenRow) : Type 0 where
  pub stands : (numbers : List ℤ) (pays : Pays) → RowStands old numbers pays → RowStands new numbers pays
  pub room : (other : ℕ) → IsSome (sum_at old.shares other) → IsSome (sum_at new.shares other)
  pub only : (other : ℕ) → other ≢ session → IsSome (sum_at new.shares other) → IsSome (sum_at old.shares other)
  pub committed : new.committed ≡ old.committed
