-- No clause of `run` rests on this module: it serves contracts between crates.
--
-- Which rows no session has locked for a pay.
use Rattle.std.specs.Prelude.{ℕ}
use Rattle.iv_types.specs.declared.lock.LockMode.TheVariants.{Increment}
use Rattle.table_laws.specs.Place.{Place}
use Rattle.iv_meaning.specs.Escrow.{IsSession}
use Rattle.lock_manager.specs.Table.{Table, Covers, HasSome, locks_of}

-- no session holds an Increment lock on the row of a place
abbrev pub IsUnlocked : Table → Place → Type 0
IsUnlocked t place = (session : ℕ) → IsSession session → HasSome (Covers place.0 place.1 Increment) (locks_of t session) → ⊥
