-- No clause of `run` rests on this module: it serves contracts between crates.
--
-- Which sessions may hold a lock that is in the way of a want. Locks are marked by their modes and the digests of their keys, so that
-- a session without such a mark is passed over.
use Rattle.std.specs.Prelude.{◌≡◌, ◌≢◌, ◌⊎◌, ◌↔◌, ℕ, ◌+◌, ◌%◌, ◌<◌, List, [], ◌∷◌, length, get_or}
use Rattle.std.specs.List.{Contains}
use Rattle.iv_types.specs.declared.limit.TheConstants.{SEATS}
use Rattle.iv_types.specs.declared.lock.LockMode.{LockMode}
use Rattle.iv_types.specs.declared.lock.LockMode.TheVariants.{Share, Exclusive, Increment}
use Rattle.iv_types.specs.declared.lock.Want.{Want}
use Rattle.iv_types.specs.declared.session.Sessions.{Sessions}
use Rattle.iv_types.specs.SessionSets.{Has}
use Rattle.iv_meaning.specs.Escrow.{IsSession}
use Rattle.iv_meaning.specs.Waits.{nobody}
use Rattle.txn_machine.specs.Locks.{Locks, Agree, Conflict}
use Rattle.lock_manager.specs.declared.suspects.Holders.{Holders}
use Rattle.lock_manager.specs.declared.suspects.TheConstants.{RANGES, ALL, SLOTS}
use Rattle.lock_manager.specs.declared.table.LockTable.TheInside.{Inside}
use Rattle.lock_manager.specs.Order.{IsPoint}
use Rattle.lock_manager.specs.Table.{Table, HasSome, locks_of}

-- ---- holders

-- the sessions that hold a lock in this mode
abbrev pub in_mode : Holders → LockMode → Sessions
in_mode holders Share = holders.share
in_mode holders Exclusive = holders.exclusive
in_mode holders Increment = holders.increment

abbrev pub no_holders : Holders
no_holders = record { share = nobody; exclusive = nobody; increment = nobody }

-- the session holds a lock in a mode that may not be held beside this one
abbrev pub IsApart : Holders → LockMode → ℕ → Type 0
IsApart holders mode session = (held : LockMode) × Has (in_mode holders held) session × (Agree held mode → ⊥)

-- one more, in this mode
abbrev pub HasAdded : Holders → LockMode → ℕ → Holders → Type 0
HasAdded old mode session new = (m : LockMode) (s : ℕ) → Has (in_mode new m) s ↔ (Has (in_mode old m) s ⊎ ((m ≡ mode) × (s ≡ session)))

-- all but this one, in each mode
abbrev pub HasRemoved : Holders → ℕ → Holders → Type 0
HasRemoved old session new = (m : LockMode) (s : ℕ) → Has (in_mode new m) s ↔ (Has (in_mode old m) s × (s ≢ session))

-- ---- digests

-- the sum of the bytes, begun with this one, of which the lowest 8 bits count
abbrev pub digest_from : ℕ → List ℕ → ℕ
digest_from sum [] = sum
digest_from sum (b ∷ bytes) = digest_from ((sum + b) % 256) bytes

abbrev pub digest : ℕ → List ℕ → ℕ
digest index key = digest_from (index % 256) key

-- ---- marks

-- the holders at a place: of keys with a digest from 0 to 255, of true ranges, or of all locks
abbrev pub holders_at : List Holders → ℕ → Holders
holders_at slots place = get_or slots place no_holders

-- the session's lock is marked, at its key's digest or among the ranges, and among all
pub record IsMarked (slots : List Holders) (session : ℕ) (lock : Want) : Type 0 where
  pub by_key :
      Has (in_mode (holders_at slots RANGES) lock.mode) session
      ⊎ (IsPoint lock.interval × Has (in_mode (holders_at slots (digest lock.index lock.interval.low)) lock.mode) session)
  pub among_all : Has (in_mode (holders_at slots ALL) lock.mode) session

-- each lock is marked
pub record AreMarked (slots : List Holders) (table : Table) : Type 0 where
  pub size : length slots ≡ SLOTS
  pub marked : (session : ℕ) (lock : Want) → Contains (locks_of table session) lock → IsMarked slots session lock

-- what is marked stays so
abbrev pub KeepsMarks : List Holders → List Holders → Type 0
KeepsMarks old new = (session : ℕ) (lock : Want) → IsMarked old session lock → IsMarked new session lock

-- at this place the session is one of the holders in the mode too, and nothing else is changed
abbrev pub IsMarkedAt : List Holders → ℕ → LockMode → ℕ → List Holders → Type 0
IsMarkedAt old place mode session new =
    (k : ℕ) (m : LockMode) (s : ℕ) → Has (in_mode (holders_at new k) m) s ↔ (Has (in_mode (holders_at old k) m) s ⊎ ((k ≡ place) × (m ≡ mode) × (s ≡ session)))

-- at places before this one the session is nowhere any more, and nothing else is changed
abbrev pub IsUnmarkedBefore : List Holders → ℕ → ℕ → List Holders → Type 0
IsUnmarkedBefore old place session new =
    (k : ℕ) (m : LockMode) (s : ℕ) → Has (in_mode (holders_at new k) m) s ↔ (Has (in_mode (holders_at old k) m) s × (k < place → s ≢ session))

-- each session with a lock that conflicts with the want is among these
abbrev pub AreSuspects : List Holders → Want → Sessions → Type 0
AreSuspects slots want sessions = (session : ℕ) (lock : Want) → IsMarked slots session lock → Conflict lock want → Has sessions session

-- the set and those of this kind
abbrev pub IsWith : Sessions → (ℕ → Type 0) → Sessions → Type 0
IsWith found P all = (session : ℕ) → Has all session ↔ (Has found session ⊎ P session)

-- the other session holds a lock that conflicts with the want
pub record IsMet (locks : Locks) (session : ℕ) (want : Want) (other : ℕ) : Type 0 where
  pub of_session : IsSession other
  pub not_itself : other ≢ session
  pub lock : HasSome (λ held. Conflict held want) (locks other)

-- and is a suspect
abbrev pub IsFound : Sessions → Locks → ℕ → Want → ℕ → Type 0
IsFound suspects locks session want other = Has suspects other × IsMet locks session want other

-- each session has its part, and each lock is marked
pub record IsSound (t : Inside) : Type 0 where
  pub parts : length t.parts.items ≡ SEATS
  pub marks : AreMarked t.slots.items t.parts.items
