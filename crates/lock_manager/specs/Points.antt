-- No clause of `run` rests on this module: it serves contracts between crates.
--
-- Locks of one key, kept by their keys.
use Rattle.std.specs.Prelude.{◌||◌, Bool, true, false, IsTrue, List, [], ◌∷◌, Option, Some, None, if◌then◌else◌}
use Rattle.iv_types.specs.declared.lock.LockMode.{LockMode}
use Rattle.iv_types.specs.declared.lock.LockMode.TheVariants.{Share, Exclusive, Increment}
use Rattle.iv_types.specs.declared.lock.Want.{Want}
use Rattle.iv_types.specs.Intervals.{point}
use Rattle.table_laws.specs.Place.{Place}
use Rattle.txn_machine.specs.Locks.{Conflict}
use Rattle.lock_manager.specs.declared.modes.Modes.{Modes}

-- ---- modes

abbrev pub no_modes : Modes
no_modes = record { share = false; exclusive = false; increment = false }

abbrev pub has_mode : Modes → LockMode → Bool
has_mode modes Share = modes.share
has_mode modes Exclusive = modes.exclusive
has_mode modes Increment = modes.increment

abbrev pub with_mode : Modes → LockMode → Modes
with_mode modes Share = record modes { share = true }
with_mode modes Exclusive = record modes { exclusive = true }
with_mode modes Increment = record modes { increment = true }

-- one of these modes may not be held beside this one of another session
abbrev pub is_apart : Modes → LockMode → Bool
is_apart modes Share = modes.exclusive || modes.increment
is_apart modes Exclusive = modes.share || (modes.exclusive || modes.increment)
is_apart modes Increment = modes.share || modes.exclusive

-- what is held under a place has the mode
abbrev pub HasAt : Option Modes → LockMode → Type 0
HasAt None mode = ⊥
HasAt (Some modes) mode = IsTrue (has_mode modes mode)

-- ---- locks

-- the lock of one key
abbrev pub lock_at : Place → LockMode → Want
lock_at place mode = record { index = place.0; interval = point place.1; mode = mode }

abbrev pub with_lock : Bool → Want → List Want → List Want
with_lock held lock locks = if held then lock ∷ locks else locks

-- the locks of all modes in which keys are held
abbrev pub points_of : List (Place × Modes) → List Want
points_of [] = []
points_of (e ∷ es) =
    let modes = e.1 in
    with_lock modes.share (lock_at e.0 Share) (with_lock modes.exclusive (lock_at e.0 Exclusive) (with_lock modes.increment (lock_at e.0 Increment) (points_of es)))

-- a lock of what is held under a place conflicts with this one of another session
abbrev pub MeetsAt : Option Modes → Place → Want → Type 0
MeetsAt held place want = (mode : LockMode) × HasAt held mode × Conflict (lock_at place mode) want
