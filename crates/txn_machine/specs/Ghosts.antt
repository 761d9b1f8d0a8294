-- No clause of `run` rests on this module: it serves contracts between crates.
--
-- Stored view rows that stand for no group, and when one may be removed.
use Rattle.std.specs.Prelude.{◌≡◌, ◌≢◌, ◌⊎◌, ℕ, pos, true, List, [], IsSome}
use Rattle.std.specs.List.{Contains}
use Rattle.std.specs.FinMap.{get}
use Rattle.std.specs.declared.cmp.Ordering.TheVariants.{Greater}
use Rattle.iv_types.specs.declared.lock.GroupDelta.{GroupDelta}
use Rattle.iv_types.specs.declared.lock.LockMode.{LockMode}
use Rattle.iv_types.specs.declared.lock.LockMode.TheVariants.{Share, Exclusive, Increment}
use Rattle.iv_types.specs.declared.lock.Want.{Want}
use Rattle.iv_types.specs.declared.value.Interval.{Interval}
use Rattle.iv_types.specs.Intervals.{LiesIn}
use Rattle.table_laws.specs.Place.{Place, place_cmp}
use Rattle.iv_meaning.specs.Escrow.{IsSession, Account}
use Rattle.txn_machine.specs.Deltas.{owed, is_for}
use Rattle.txn_machine.specs.Keeping.{increments}
use Rattle.txn_machine.specs.Fresh.{fresh, made_of}
use Rattle.txn_machine.specs.Store.{Store, Views, committed, schema_of, now, locks_of, account, deltas_above}

-- a held lock of this mode covers the key
pub record Holds (locks : List Want) (mode : LockMode) (index : ℕ) (key : List ℕ) : Type 0 where
  pub lock : Want
  pub held : Contains locks lock
  pub mode_is : lock.mode ≡ mode
  pub index_is : lock.index ≡ index
  pub covers : LiesIn key lock.interval

-- a held lock by which the key may be read
abbrev pub MayRead : List Want → ℕ → List ℕ → Type 0
MayRead locks index key = Holds locks Share index key ⊎ Holds locks Exclusive index key

-- and every key of an interval
abbrev pub MayReadIn : List Want → ℕ → Interval → Type 0
MayReadIn locks index interval = (key : List ℕ) → LiesIn key interval → MayRead locks index key

-- the views as they are defined
abbrev pub the_views : Views
the_views = record { owed = owed; made_of = made_of }

-- the account of a column: its committed value is that of the view evaluated afresh
abbrev pub account_of : Store → Place → ℕ → Account
account_of s place column = account s (fresh (schema_of s) (committed s).rows) place column

-- the deltas of entries above the mark: those of which versions are kept
abbrev pub versions : Store → List GroupDelta
versions s = deltas_above the_views s.mark s.origin s.history

-- a stored row whose committed count is 0
pub record IsGhost (s : Store) (place : Place) : Type 0 where
  pub stored : IsSome (get s.view place)
  pub count : fresh (schema_of s) (committed s).rows place 0 ≡ pos 0

-- nothing is pending on it, no version of it is kept, and no Increment lock is held on it
pub record IsCleanable (s : Store) (place : Place) : Type 0 where
  pub ghost : IsGhost s place
  pub no_pays : (session : ℕ) → IsSession session → increments place 0 (now s session).kept ≡ []
  pub no_versions : (d : GroupDelta) → Contains (versions s) d → is_for place d ≡ true → ⊥
  pub not_locked : (session : ℕ) → IsSession session → Holds (locks_of s session) Increment place.0 place.1 → ⊥

-- the first by the view's number and the group's bytes
pub record IsFirstCleanable (s : Store) (place : Place) : Type 0 where
  pub is : IsCleanable s place
  pub first : (other : Place) → IsCleanable s other → place_cmp place other ≢ Greater
