-- No clause of `run` rests on this module: it serves contracts between crates.
--
-- Escrow bounds of one column of a view row (O'Neil, The escrow transactional method, ACM TODS 11(4), 1986): between
-- them lies whatever becomes of the column, whichever of the open transactions commit.
use Rattle.std.specs.Prelude.{◌≡◌, ℕ, ◌≤◌, ◌==◌, ℤ, pos, ◌+ℤ◌, List, [], ◌∷◌, ◌++◌, if◌then◌else◌}
use Rattle.std.specs.Int.{int_min, int_max}
use Rattle.table_laws.specs.Sums.{sum_to}
use Rattle.iv_types.specs.declared.limit.TheConstants.{MOST_SESSIONS}
use Rattle.iv_types.specs.declared.lock.Prefix.{Prefix}
use Rattle.iv_types.specs.Encoding.{IsHuge}

-- ---- the kept increments of one transaction, the latest first

abbrev pub paid : List ℤ → ℤ
paid [] = pos 0
paid (d ∷ ds) = paid ds +ℤ d

-- the least of the sums on the way, 0 included
abbrev pub lo : List ℤ → ℤ
lo [] = pos 0
lo (d ∷ ds) = int_min (lo ds) (paid ds +ℤ d)

-- the greatest of them
abbrev pub hi : List ℤ → ℤ
hi [] = pos 0
hi (d ∷ ds) = int_max (hi ds) (paid ds +ℤ d)

abbrev pub prefix_of : List ℤ → Prefix
prefix_of ds = record { sum = paid ds; lo = lo ds; hi = hi ds }

-- ---- the column

-- its committed value, and the kept increments of each session's open transaction
pub record Account : Type 0 where
  pub committed : ℤ
  pub kept : ℕ → List ℤ

-- the sessions that there are
abbrev pub IsSession : ℕ → Type 0
IsSession s = (1 ≤ s) × (s ≤ MOST_SESSIONS)

-- with no open transaction
abbrev pub untouched : ℤ → Account
untouched committed = record { committed = committed; kept = λ s. [] }

-- over all sessions
unfoldable pub over_sessions : (ℕ → ℤ) → ℤ
over_sessions f = sum_to MOST_SESSIONS f

abbrev pub inf : Account → ℤ
inf a = a.committed +ℤ over_sessions (λ s. lo (a.kept s))

abbrev pub sup : Account → ℤ
sup a = a.committed +ℤ over_sessions (λ s. hi (a.kept s))

-- this session's kept increments are these, the others' as before
abbrev pub with_kept : Account → ℕ → List ℤ → Account
with_kept a session ds = record { committed = a.committed; kept = λ s. if s == session then ds else a.kept s }

-- one more increment of a session
abbrev pub with_increment : Account → ℕ → ℤ → Account
with_increment a session d = with_kept a session (d ∷ a.kept session)

-- the increment is allowed: the new bounds and the transaction's new sum lie in the column's range
pub record IsAllowed (a : Account) (session : ℕ) (d : ℤ) : Type 0 where
  pub inf : IsHuge (inf (with_increment a session d))
  pub sup : IsHuge (sup (with_increment a session d))
  pub sum : IsHuge (paid (d ∷ a.kept session))

-- the session commits
abbrev pub settled : Account → ℕ → Account
settled a session = record { committed = a.committed +ℤ paid (a.kept session); kept = (with_kept a session []).kept }

-- ---- what may become of a column

-- the value that is stored: all that is kept, committed or not
abbrev pub value : Account → ℤ
value a = a.committed +ℤ over_sessions (λ s. paid (a.kept s))

-- what is left of a where, of each transaction, any number of the latest increments are taken back
pub record IsLeftOf (a left : Account) : Type 0 where
  pub committed : left.committed ≡ a.committed
  pub undone : ℕ → List ℤ
  pub kept : (s : ℕ) → a.kept s ≡ undone s ++ left.kept s

-- one step by which an open transaction ends: it takes its latest increment back, or commits
pub data Ending : Type 0 where
  Undo : ℕ → Ending
  Commit : ℕ → Ending

-- by a session that there is
abbrev pub IsBySession : Ending → Type 0
IsBySession (Undo session) = IsSession session
IsBySession (Commit session) = IsSession session

abbrev pub earlier : List ℤ → List ℤ
earlier [] = []
earlier (d ∷ ds) = ds

abbrev pub ended : Account → Ending → Account
ended a (Undo session) = with_kept a session (earlier (a.kept session))
ended a (Commit session) = settled a session

-- one step after the other
abbrev pub ended_by : List Ending → Account → Account
ended_by [] a = a
ended_by (e ∷ es) a = ended_by es (ended a e)
