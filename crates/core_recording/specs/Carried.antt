-- No clause of `run` rests on this module: it serves contracts between crates.
--
-- The records that a checkpoint carries, in their order.
use Rattle.std.specs.Prelude.{◌≡◌, ◌≢◌, ℕ, ◌+◌, List, [], ◌∷◌, slice_get, Option, Some, None}
use Rattle.iv_types.specs.declared.lock.KeptStep.{KeptStep}
use Rattle.iv_meaning.specs.Escrow.{IsSession}
use Rattle.iv_meaning.specs.Schema.{Schema}
use Rattle.txn_book.specs.Opens.{open_at}
use Rattle.txn_book.specs.declared.open_table.Open.{Open}
use Rattle.log_records.specs.Area.{Entry}
use Rattle.core_recording.specs.Carrying.{steps_at, id_of, entry_of}
use Rattle.core_recording.specs.Earliest.{IsEarliest}

-- These are the records of so many steps of each session's transaction: those of one stand in their order, and of all the one with
-- the least number comes next. The latest stands first.
pub data AreCarried (objects : Schema) (opens : List (Option Open)) : (ℕ → ℕ) → List Entry → Type 0 where
  none : (done : ℕ → ℕ) → ((session : ℕ) → done session ≡ 0) → AreCarried objects opens done []
  more : (done after : ℕ → ℕ) (es : List Entry) (session : ℕ) (k : KeptStep) → AreCarried objects opens done es → IsEarliest opens done session → slice_get (steps_at opens session) (done session) ≡ Some k
      → after session ≡ done session + 1 → ((other : ℕ) → other ≢ session → after other ≡ done other) → AreCarried objects opens after (entry_of objects (id_of (open_at opens session)) k ∷ es)

-- of all steps
pub record CarriesAll (objects : Schema) (opens : List (Option Open)) (es : List Entry) : Type 0 where
  pub done : ℕ → ℕ
  pub carried : AreCarried objects opens done es
  pub all : (session : ℕ) → IsSession session → slice_get (steps_at opens session) (done session) ≡ None
