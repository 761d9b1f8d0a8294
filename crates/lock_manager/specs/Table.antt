-- No clause of `run` rests on this module: it serves contracts between crates.
--
-- The locks of each session, what each waits for, and the room that is left for each.
use Rattle.std.specs.Prelude.{◌≡◌, ◌≢◌, ℕ, ◌+◌, ◌≤◌, max, ◌↔◌, ◌⊎◌, List, [], length, slice_index_or, refl}
use Rattle.std.specs.List.{Contains}
use Rattle.std.specs.Coded.{Coded, coded_ℕ, coded_list, coded×, code_by}
use Rattle.iv_types.specs.declared.lock.LockMode.{LockMode}
use Rattle.iv_types.specs.declared.lock.Want.{Want}
use Rattle.iv_types.specs.Intervals.{LiesIn}
use Rattle.iv_types.specs.declared.session.Sessions.{Sessions}
use Rattle.iv_types.specs.contracts.lock.Want as want
use Rattle.txn_machine.specs.Locks.{Locks, IsInTheWay}
use Rattle.lock_manager.specs.declared.answer.LockAnswer.{LockAnswer}
use Rattle.lock_manager.specs.declared.answer.LockAnswer.TheVariants.{Granted, Blocked}

-- what a session holds and what it waits for, and how many locks more it may be granted
pub record SessionLocks : Type 0 where
  pub locks : List Want
  pub waiting : List Want
  pub room : ℕ

abbrev pub nothing : SessionLocks
nothing = record { locks = []; waiting = []; room = 0 }

abbrev pub coded_session_locks : Coded SessionLocks
coded_session_locks = code_by (List Want × (List Want × ℕ)) (coded× (coded_list want.the_row.coded) (coded× (coded_list want.the_row.coded) coded_ℕ)) (λ s. (s.locks, (s.waiting, s.room))) (λ p. record { locks = p.0; waiting = p.1.0; room = p.1.1 }) (λ _. refl)

-- session k's at place k
abbrev pub Table : Type 0
Table = List SessionLocks

abbrev pub of_session : Table → ℕ → SessionLocks
of_session table session = slice_index_or table session nothing

abbrev pub locks_of : Table → Locks
locks_of table session = let it = of_session table session in it.locks

-- nothing where the session waits for nothing
abbrev pub waiting_of : Table → Locks
waiting_of table session = let it = of_session table session in it.waiting

abbrev pub room_of : Table → ℕ → ℕ
room_of table session = let it = of_session table session in it.room

abbrev pub IsNew : Table → Type 0
IsNew table = (session : ℕ) → of_session table session ≡ nothing

-- ---- what calls change

-- all other sessions have what they had
abbrev pub KeepsOthers : Table → Table → ℕ → Type 0
KeepsOthers old new session = (other : ℕ) → other ≢ session → of_session new other ≡ of_session old other

-- this session has this now, and all others what they had
pub record ChangesOnly (old new : Table) (session : ℕ) (after : SessionLocks) : Type 0 where
  pub changed : of_session new session ≡ after
  pub others : KeepsOthers old new session

-- the session has room for so many locks
abbrev pub IsReserved : Table → Table → ℕ → ℕ → Type 0
IsReserved old new session more = ChangesOnly old new session (record (of_session old session) { room = max (room_of old session) more })

-- these locks are those and the wants
abbrev pub HasGained : List Want → List Want → List Want → Type 0
HasGained old wants new = (w : Want) → Contains new w ↔ (Contains old w ⊎ Contains wants w)

-- at most so many of these wants are new: each other one is among the locks
pub record AddAtMost (n : ℕ) (locks wants : List Want) : Type 0 where
  pub new : List Want
  pub few : length new ≤ n
  pub others : (w : Want) → Contains wants w → Contains locks w ⊎ Contains new w

-- so many of these wants are new, and no fewer
pub record AreNew (n : ℕ) (locks wants : List Want) : Type 0 where
  pub enough : AddAtMost n locks wants
  pub least : (m : ℕ) → AddAtMost m locks wants → n ≤ m

-- of so much room as much is used as wants are new
abbrev pub IsUsed : List Want → List Want → ℕ → ℕ → Type 0
IsUsed locks wants before after = (used : ℕ) × AreNew used locks wants × (after + used ≡ before)

-- the wants are locks of the session, which has used room for those that it did not hold, and waits for nothing
pub record IsGranted (old new : Table) (session : ℕ) (wants : List Want) : Type 0 where
  pub locks : HasGained (locks_of old session) wants (locks_of new session)
  pub waiting : waiting_of new session ≡ []
  pub used : IsUsed (locks_of old session) wants (room_of old session) (room_of new session)
  pub room : room_of old session ≤ room_of new session + length wants
  pub others : KeepsOthers old new session

-- the session waits for these wants, and for nothing else
abbrev pub IsRecorded : Table → Table → ℕ → List Want → Type 0
IsRecorded old new session wants = ChangesOnly old new session (record (of_session old session) { waiting = wants })

abbrev pub IsCancelled : Table → Table → ℕ → Type 0
IsCancelled old new session = IsRecorded old new session []

abbrev pub IsReleased : Table → Table → ℕ → Type 0
IsReleased old new session = ChangesOnly old new session nothing

-- ---- answers

abbrev pub OnGranted : LockAnswer → Type 0 → Type 0
OnGranted Granted P = P
OnGranted (Blocked sessions) P = Unit {0}

abbrev pub IfBlocked : LockAnswer → (Sessions → Type 0) → Type 0
IfBlocked Granted P = Unit {0}
IfBlocked (Blocked sessions) P = P sessions

-- nobody is in the way of these wants
abbrev pub IsFree : Locks → ℕ → List Want → Type 0
IsFree locks session wants = (other : ℕ) → ¬ IsInTheWay locks session wants other

-- a lock of this mode on this index whose interval has the key
pub record Covers (index : ℕ) (key : List ℕ) (mode : LockMode) (lock : Want) : Type 0 where
  pub on_index : lock.index ≡ index
  pub has_key : LiesIn key lock.interval
  pub has_mode : lock.mode ≡ mode

-- one of these locks is such a one
abbrev pub HasSome : (Want → Type 0) → List Want → Type 0
HasSome P locks = (lock : Want) × Contains locks lock × P lock
