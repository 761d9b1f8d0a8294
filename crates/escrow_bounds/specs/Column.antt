-- No clause of `run` rests on this module: it serves contracts between crates.
--
-- A column as its bounds are kept: of each session's kept increments their prefix alone.
use Rattle.std.specs.Prelude.{◌≡◌, ◌≢◌, ℕ, ℤ, ◌+ℤ◌, ◌≤ℤ◌, List, [], ◌∷◌, IsSome, unwrap_or}
use Rattle.std.specs.Int.{int_min, int_max}
use Rattle.std.specs.Ordering.{nat_cmp}
use Rattle.std.specs.FinMap.{FinMap, empty, get, insert, remove}
use Rattle.iv_types.specs.declared.lock.Prefix.{Prefix}
use Rattle.iv_types.specs.Encoding.{IsHuge}
use Rattle.iv_meaning.specs.Escrow.{Account, prefix_of, over_sessions}

-- the committed value, and the prefix of each session that has room for one
pub record Column : Type 0 where
  pub committed : ℤ
  pub parts : FinMap nat_cmp Prefix

abbrev pub IsReserved : Column → ℕ → Type 0
IsReserved c session = IsSome (get c.parts session)

-- of no increments
abbrev pub none : Prefix
none = prefix_of []

-- the prefix of a session
abbrev pub part : Column → ℕ → Prefix
part c session = unwrap_or (get c.parts session) none

-- the least and the greatest that may become of it
abbrev pub least : Column → ℤ
least c = c.committed +ℤ over_sessions (λ s. (part c s).lo)

abbrev pub greatest : Column → ℤ
greatest c = c.committed +ℤ over_sessions (λ s. (part c s).hi)

-- ---- the calls

abbrev pub untouched : ℤ → Column
untouched committed = record { committed = committed; parts = empty }

abbrev pub with_part : Column → ℕ → Prefix → Column
with_part c session p = record { committed = c.committed; parts = insert c.parts session p }

abbrev pub without : Column → ℕ → Column
without c session = record { committed = c.committed; parts = remove c.parts session }

-- a prefix with one more increment
abbrev pub after : Prefix → ℤ → Prefix
after p d = record { sum = p.sum +ℤ d; lo = int_min p.lo (p.sum +ℤ d); hi = int_max p.hi (p.sum +ℤ d) }

abbrev pub added : Column → ℕ → ℤ → Column
added c session d = with_part c session (after (part c session) d)

-- the new bounds and the session's new sum lie in the column's range
pub record IsAllowed (c : Column) (session : ℕ) (d : ℤ) : Type 0 where
  pub inf : IsHuge (least (added c session d))
  pub sup : IsHuge (greatest (added c session d))
  pub sum : IsHuge (after (part c session) d).sum

-- there are increments of which the first prefix is the one before the latest, and the second the one after it
pub record IsBeforeLatest (p now : Prefix) : Type 0 where
  pub latest : ℤ
  pub earlier : List ℤ
  pub before : p ≡ prefix_of earlier
  pub after : now ≡ prefix_of (latest ∷ earlier)

-- the session's sum goes into the committed value
abbrev pub settled : Column → ℕ → Column
settled c session = record { committed = c.committed +ℤ (part c session).sum; parts = remove c.parts session }

-- ---- what it means

-- each session's prefix is that of its kept increments
pub record Stands (c : Column) (a : Account) : Type 0 where
  pub committed : c.committed ≡ a.committed
  pub parts : (session : ℕ) → part c session ≡ prefix_of (a.kept session)

-- the new column stands for the changed account, where the old one stood for the account
abbrev pub Follows : Column → Column → (Account → Account) → Type 0
Follows old new change = (a : Account) → Stands old a → Stands new (change a)

-- the bounds are no wider
abbrev pub Narrows : Column → Column → Type 0
Narrows old new = (least old ≤ℤ least new) × (greatest new ≤ℤ greatest old)

-- each session that had room has it still
abbrev pub KeepsRoom : Column → Column → Type 0
KeepsRoom old new = (s : ℕ) → IsReserved old s → IsReserved new s

-- each but one
abbrev pub KeepsOtherRoom : ℕ → Column → Column → Type 0
KeepsOtherRoom session old new = (s : ℕ) → s ≢ session → IsReserved old s → IsReserved new s
