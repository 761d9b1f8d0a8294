-- No clause of `run` rests on this module: it serves contracts between crates.
--
-- What stands ready so that open transactions can pay what they owe, be taken back and end without memory.
use Rattle.std.specs.Prelude.{◌≡◌, ◌⊎◌, ℕ, ◌+◌, ◌*◌, ◌≤◌, List, [], ◌∷◌, ◌++◌, map, drop, length, sum_by, Option, None, Some, if◌then◌else◌}
use Rattle.std.specs.List.{Contains}
use Rattle.iv_types.specs.Definitions.{Definitions}
use Rattle.iv_types.specs.declared.lock.GroupDelta.{GroupDelta}
use Rattle.iv_types.specs.declared.lock.Want.{Want}
use Rattle.iv_types.specs.declared.lock.KeptStep.{KeptStep}
use Rattle.iv_types.specs.declared.lock.KeptStep.TheVariants.{Put, Pay}
use Rattle.table_laws.specs.Place.{Place}
use Rattle.iv_meaning.specs.Objects as defined
use Rattle.iv_meaning.specs.Escrow.{IsSession}
use Rattle.query_laws.specs.Limited.{IsLimited}
use Rattle.table_store.specs.Stored.{IsTableAnd}
use Rattle.table_store.specs.Changes.{IsKept, how_many}
use Rattle.ghost_rows.specs.Kept.{ArePrefixes, width}
use Rattle.ghost_rows.specs.State.{State, HasSeat, room_of}
use Rattle.lock_manager.specs.Table as table
use Rattle.lock_manager.specs.Table.{Table}
use Rattle.lock_desk.specs.PayWants.{wants_at}
use Rattle.txn_machine.specs.Counts.{most_of_transaction}
use Rattle.txn_machine.specs.Deltas.{place_of, is_for}
use Rattle.txn_machine.specs.Steps.{group_want}
use Rattle.txn_book.specs.Opens.{open_at}
use Rattle.txn_book.specs.Txns.{Txn, txn_of}
use Rattle.txn_book.specs.declared.open_table.Open.{Open}

-- ---- the locks of pays

-- The wants of a delta are there, or its lock is held, or the session waits for it. There is room for that lock, and for those of so
-- many other deltas.
abbrev pub IsWanted : ℕ → List Want → List Want → List Want → GroupDelta → ℕ → Type 0
IsWanted room locks waiting wants d others =
    ((wants ≡ group_want d ∷ []) × (others + 1 ≤ room))
    ⊎ ((wants ≡ []) × (waiting ≡ []) × Contains locks (group_want d) × (others ≤ room))
    ⊎ ((wants ≡ []) × (waiting ≡ group_want d ∷ []) × (others + 1 ≤ room))

-- so it is of the first of some deltas, and the wants of the others are there
abbrev pub AreWanted : ℕ → List Want → List Want → List (List Want) → List GroupDelta → Type 0
AreWanted room locks waiting wants [] = Unit {0}
AreWanted room locks waiting [] (d ∷ ds) = ⊥
AreWanted room locks waiting (w ∷ ws) (d ∷ ds) = IsWanted room locks waiting w d (length ds) × (ws ≡ map (λ d. group_want d ∷ []) ds)

-- ---- kept steps, of which the latest stands first

-- the pays among them
abbrev pub paid : List KeptStep → List GroupDelta
paid [] = []
paid (Put k txn_bytes history_bytes number ∷ ks) = paid ks
paid (Pay d before number ∷ ks) = d ∷ paid ks

-- those on the row of a place
abbrev pub paid_on : Place → List KeptStep → List GroupDelta
paid_on place [] = []
paid_on place (Put k txn_bytes history_bytes number ∷ ks) = paid_on place ks
paid_on place (Pay d before number ∷ ks) = if is_for place d then d ∷ paid_on place ks else paid_on place ks

-- each pay has the prefixes of those before it on its row, and each change the entries that it took away and made; before it the
-- transaction counted no more than it may
abbrev pub CanBeTakenBack : Definitions → List KeptStep → Type 0
CanBeTakenBack definitions [] = Unit {0}
CanBeTakenBack definitions (Put k txn_bytes history_bytes number ∷ ks) =
    IsTableAnd definitions k.change.table (IsKept definitions k.change k) × (txn_bytes ≤ most_of_transaction) × CanBeTakenBack definitions ks
CanBeTakenBack definitions (Pay d before number ∷ ks) = ArePrefixes before (width d) (paid_on (place_of d) ks) × CanBeTakenBack definitions ks

-- how many entries of an index go back in where they are taken back
abbrev pub gone_of : ℕ → List KeptStep → ℕ
gone_of index [] = 0
gone_of index (Put k txn_bytes history_bytes number ∷ ks) = how_many index k.gone + gone_of index ks
gone_of index (Pay d before number ∷ ks) = gone_of index ks

-- ---- a transaction

-- what it owes, without what is coming back
abbrev pub still_owed : Txn → List GroupDelta
still_owed t = drop t.back t.owed

-- A session's transaction can pay what it owes and be taken back: the wants of its pays are there, with room for their locks and in
-- their rows, and buffers for each pay and for taking it back.
pub record IsCovered (definitions : Definitions) (views : State) (locks : Table) (wants : List (List Want)) (session : ℕ) (t : Txn) : Type 0 where
  pub wanted : AreWanted (table.room_of locks session) (table.locks_of locks session) (table.waiting_of locks session) wants (still_owed t)
  pub buffers : 2 * length (still_owed t) + length (paid t.kept) ≤ room_of views session
  pub seats : (d : GroupDelta) → Contains (still_owed t ++ paid t.kept) d → HasSeat views (place_of d) session
  pub kept : CanBeTakenBack definitions t.kept
  -- it counts no more than it may
  pub small : t.txn_bytes ≤ most_of_transaction

-- ---- all

abbrev pub gone_if : ℕ → Option Open → ℕ
gone_if index None = 0
gone_if index (Some o) = let t : Txn = txn_of o in gone_of index t.kept

-- how many entries of an index go back in where all open transactions are taken back
abbrev pub all_gone : ℕ → List (Option Open) → ℕ
all_gone index opens = sum_by (gone_if index) opens

pub record HasRooms (spare : ℕ → ℕ) (definitions : Definitions) (views : State) (opens : List (Option Open)) (locks : Table) (wants : List (List (List Want))) : Type 0 where
  -- all entries that may come can be held
  pub limited : IsLimited (defined.schema_of definitions)
  -- each index has room for the entries that go back in
  pub undo : (index : ℕ) → all_gone index opens ≤ spare index
  pub each : (session : ℕ) → IsSession session → (o : Open) → open_at opens session ≡ Some o → IsCovered definitions views locks (wants_at wants session) session (txn_of o)
