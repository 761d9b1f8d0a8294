-- No clause of `run` rests on this module: it serves contracts between crates.
--
-- The book of an opening: its open and its committed transactions.
use Rattle.std.specs.Prelude.{◌≡◌, ℕ, zero, suc, ◌+◌, ◌≤◌, ◌<◌, ◌^◌, nat_le, List, [], ◌∷◌, ◌++◌, reverse, length, slice_set, sum_by, count_by, is_some, Option, None, Some, IsSome, refl, if◌then◌else◌}
use Rattle.std.specs.Coded.{Coded, coded_ℕ, coded×, coded_list, coded_option, code_by}
use Rattle.iv_types.specs.declared.limit.TheConstants.{MOST_SESSIONS, SEATS}
use Rattle.iv_types.specs.declared.statement.Mode.TheVariants.{Serial, Snapshot}
use Rattle.iv_types.specs.declared.lock.Change.{Change}
use Rattle.txn_book.specs.declared.open_table.Open.{Open}
use Rattle.txn_book.specs.contracts.open_table.Open as transaction
use Rattle.txn_book.specs.declared.book.Entry.{Entry}
use Rattle.txn_book.specs.contracts.book.Entry as entry
use Rattle.txn_book.specs.Opens.{open_at}
use Rattle.txn_book.specs.Txns.{Txn, txn_of, changes_in, IsRoomy, HasRoomFor}

pub record Books : Type 0 where
  -- the commit number before the first entry
  pub opened : ℕ
  -- session k's at place k
  pub opens : List (Option Open)
  -- the first first
  pub history : List Entry
  -- what the entries count
  pub entry_bytes : ℕ
  -- for so many more entries there is room
  pub room : ℕ
  -- and for so many more open transactions
  pub seats : ℕ

abbrev pub coded_books : Coded Books
coded_books = code_by (ℕ × (List (Option Open) × (List Entry × (ℕ × (ℕ × ℕ)))))
    (coded× coded_ℕ (coded× (coded_list (coded_option transaction.the_row.coded)) (coded× (coded_list entry.the_row.coded) (coded× coded_ℕ (coded× coded_ℕ coded_ℕ)))))
    (λ b. (b.opened, (b.opens, (b.history, (b.entry_bytes, (b.room, b.seats))))))
    (λ p. record { opened = p.0; opens = p.1.0; history = p.1.1.0; entry_bytes = p.1.1.1.0; room = p.1.1.1.1.0; seats = p.1.1.1.1.1 })
    (λ _. refl)

-- the greatest commit number
abbrev pub number_of : Books → ℕ
number_of b = b.opened + length b.history

-- ---- what is counted

abbrev pub bytes_of : Option Open → ℕ
bytes_of None = 0
bytes_of (Some o) = o.history_bytes

abbrev pub open_bytes : List (Option Open) → ℕ
open_bytes opens = sum_by bytes_of opens

abbrev pub total_bytes : Books → ℕ
total_bytes b = b.entry_bytes + open_bytes b.opens

-- how many changes are kept
abbrev pub puts_of : Option Open → ℕ
puts_of None = 0
puts_of (Some o) = let t : Txn = txn_of o in length (changes_in t.kept)

abbrev pub open_changes : List (Option Open) → ℕ
open_changes opens = sum_by puts_of opens

abbrev pub how_many_open : List (Option Open) → ℕ
how_many_open opens = count_by is_some opens

-- ---- what always holds

pub record IsBook (b : Books) : Type 0 where
  pub opened : b.opened < 2 ^ 63
  pub places : length b.opens ≡ SEATS
  pub roomy : (session : ℕ) (o : Open) → open_at b.opens session ≡ Some o → IsRoomy o
  pub fits : total_bytes b < 2 ^ 64
  -- each open transaction can become an entry
  pub room : how_many_open b.opens ≤ b.room

-- ---- changes

-- nothing changed but room
pub record IsSame (old new : Books) : Type 0 where
  pub opens : new.opens ≡ old.opens
  pub opened : new.opened ≡ old.opened
  pub history : new.history ≡ old.history
  pub entry_bytes : new.entry_bytes ≡ old.entry_bytes

-- the session has this transaction, and nothing else changed but room
pub record Seats (old new : Books) (session : ℕ) (o : Option Open) : Type 0 where
  pub opens : new.opens ≡ slice_set old.opens session o
  pub opened : new.opened ≡ old.opened
  pub history : new.history ≡ old.history
  pub entry_bytes : new.entry_bytes ≡ old.entry_bytes

-- the session's transaction is this one, and nothing else changed but room
pub record Changes (old new : Books) (session : ℕ) (t : Txn) : Type 0 where
  pub after : Open
  pub is : txn_of after ≡ t
  pub seats : Seats old new session (Some after)

-- an entry of the next number
abbrev pub entry_of : Books → ℕ → List Change → Entry
entry_of b session changes = record { number = number_of b + 1; session = session; changes = changes }

-- the session has no transaction any more, and its changes are an entry
pub record Committed (old new : Books) (session : ℕ) (t : Txn) : Type 0 where
  pub opens : new.opens ≡ slice_set old.opens session None
  pub opened : new.opened ≡ old.opened
  pub history : new.history ≡ old.history ++ entry_of old session (reverse (changes_in t.kept)) ∷ []
  pub entry_bytes : new.entry_bytes ≡ old.entry_bytes + t.history_bytes

-- these changes are an entry that counts so many bytes
pub record Defined (old new : Books) (session : ℕ) (changes : List Change) (bytes : ℕ) : Type 0 where
  pub opens : new.opens ≡ old.opens
  pub opened : new.opened ≡ old.opened
  pub history : new.history ≡ old.history ++ entry_of old session changes ∷ []
  pub entry_bytes : new.entry_bytes ≡ old.entry_bytes + bytes

-- the session has a transaction of which this holds
abbrev pub IsOpenAnd : Books → ℕ → (Open → Type 0) → Type 0
IsOpenAnd b session P = (o : Open) × (open_at b.opens session ≡ Some o) × P o

-- it holds of the session's transaction
abbrev pub OfOpen : Books → ℕ → (Open → Type 0) → Type 0
OfOpen b session P = (o : Open) → open_at b.opens session ≡ Some o → P o

-- a change that owes so many deltas and counts so many bytes can be kept
pub record CanKeep (b : Books) (deltas more more_history : ℕ) (o : Open) : Type 0 where
  pub room : HasRoomFor deltas o
  pub paid : o.owed.items ≡ []
  pub fits : o.txn_bytes + more < 2 ^ 64
  pub fits_history : total_bytes b + more_history < 2 ^ 64

-- ---- the open sessions

-- the least session from 1 to 64 that has a transaction
abbrev pub IsLeastOpen : List (Option Open) → Option ℕ → Type 0
IsLeastOpen opens None = (session : ℕ) → 1 ≤ session → session ≤ MOST_SESSIONS → open_at opens session ≡ None
IsLeastOpen opens (Some session) =
    (1 ≤ session) × (session ≤ MOST_SESSIONS) × IsSome (open_at opens session)
    × ((other : ℕ) → 1 ≤ other → other < session → open_at opens other ≡ None)

-- the least number of the snapshots of the sessions 1 to n, or this one
abbrev pub least_snapshot : List (Option Open) → ℕ → ℕ → ℕ
least_snapshot opens zero number = number
least_snapshot opens (suc n) number = elim (open_at opens (suc n)) [
  | None ↦ least_snapshot opens n number
  | Some o ↦ elim o.mode [
    | Serial ↦ least_snapshot opens n number
    | Snapshot ↦ if nat_le o.number number then least_snapshot opens n o.number else least_snapshot opens n number
  ]
]
