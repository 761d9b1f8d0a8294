-- No clause of `run` rests on this module: it serves contracts between crates.
--
-- When a book has the transactions of a state of the machine.
use Rattle.std.specs.Prelude.{◌≡◌, ℕ, ◌+◌, List, [], ◌∷◌, map, length, Option, None, Some}
use Rattle.std.specs.List.{sum, AllZip}
use Rattle.iv_types.specs.declared.lock.Change.{Change}
use Rattle.iv_types.specs.declared.lock.KeptStep.{KeptStep}
use Rattle.iv_types.specs.declared.lock.KeptStep.TheVariants as kept
use Rattle.iv_meaning.specs.Schema.{Schema}
use Rattle.iv_meaning.specs.History.{Entry}
use Rattle.iv_meaning.specs.Statement.{Kept, sets, defines}
use Rattle.iv_meaning.specs.Escrow.{IsSession}
use Rattle.txn_machine.specs.RowChanges.{row_change}
use Rattle.txn_machine.specs.Keeping as machine
use Rattle.txn_machine.specs.Keeping.{Note, changes_of}
use Rattle.txn_machine.specs.Store.{notes_before}
use Rattle.txn_machine.specs.Counts.{note_size, kept_size, kept_change_size, size_of_entry}
use Rattle.txn_machine.specs.Log.{Logged}
use Rattle.txn_book.specs.Opens.{open_at}
use Rattle.txn_book.specs.Txns.{Txn, txn_of, entry_size}
use Rattle.txn_book.specs.Books.{Books, number_of}
use Rattle.txn_book.specs.declared.open_table.Open.{Open}
use Rattle.txn_book.specs.declared.book.Entry.{Entry as BookEntry}

-- ---- a transaction

-- The kept steps are the same, and the log has their records' numbers. What deltas a change owed stands in the machine alone.
abbrev pub AreKept : List KeptStep → List machine.KeptStep → List ℕ → Type 0
AreKept [] [] [] = Unit {0}
AreKept (kept.Put k txn_bytes history_bytes number ∷ bs) (machine.Put c owed ∷ ks) (n ∷ ns) = (row_change k.change ≡ c) × (number ≡ n) × AreKept bs ks ns
AreKept (kept.Pay d before number ∷ bs) (machine.Pay e ∷ ks) (n ∷ ns) = (d ≡ e) × (number ≡ n) × AreKept bs ks ns
AreKept _ _ _ = ⊥

-- what these notes and kept steps count in their transaction, and these kept steps in the history
abbrev pub txn_size : Schema → List Note → List machine.KeptStep → ℕ
txn_size objects notes ks = sum (map (note_size objects) notes) + sum (map (kept_size objects) ks)

abbrev pub changes_size : Schema → List machine.KeptStep → ℕ
changes_size objects ks = sum (map (kept_change_size objects) (changes_of ks))

-- each change has what was counted before it
abbrev pub AreCounted : Schema → ℕ → List Note → List KeptStep → List machine.KeptStep → Type 0
AreCounted objects entry notes [] ks = Unit {0}
AreCounted objects entry notes (kept.Put k txn_bytes history_bytes number ∷ bs) (machine.Put c owed ∷ ks) =
    (txn_bytes ≡ txn_size objects (notes_before (length ks) notes) ks) × (history_bytes ≡ entry + changes_size objects ks)
    × AreCounted objects entry (notes_before (length ks) notes) bs ks
AreCounted objects entry notes (kept.Pay d before number ∷ bs) (machine.Pay e ∷ ks) = AreCounted objects entry notes bs ks
AreCounted objects entry notes _ _ = ⊥

pub record IsTxn (objects : Schema) (t : Txn) (o : machine.Open) (l : Logged) : Type 0 where
  pub mode : t.mode ≡ o.mode
  pub number : t.number ≡ o.number
  pub id : t.id ≡ l.transaction
  pub kept : AreKept t.kept o.kept l.kept
  pub owed : t.owed ≡ o.owed
  pub back : t.back ≡ o.back
  pub ghosted : t.is_ghosted ≡ l.ghosted
  pub lost : t.is_lost ≡ o.is_lost
  pub wrote : t.has_written ≡ l.wrote
  pub txn_bytes : t.txn_bytes ≡ txn_size objects o.notes o.kept
  pub history_bytes : t.history_bytes ≡ entry_size o.mode + changes_size objects o.kept
  pub counted : AreCounted objects (entry_size o.mode) o.notes t.kept o.kept

-- a session has the same transaction, or none in both
abbrev pub IsSame : Schema → Option Open → Option machine.Open → Logged → Type 0
IsSame objects None None l = Unit {0}
IsSame objects (Some t) (Some o) l = IsTxn objects (txn_of t) o l
IsSame objects _ _ l = ⊥

-- ---- the book

abbrev pub IsKept : Change → Kept → Type 0
IsKept c (sets r) = row_change c ≡ r
IsKept c (defines object) = (c.table ≡ 0)

-- an entry: of a definition the table alone is told
pub record IsEntry (e : BookEntry) (m : Entry) : Type 0 where
  pub number : e.number ≡ m.number
  pub session : e.session ≡ m.session
  pub changes : AllZip IsKept e.changes m.kept

-- the open transactions and the entries of the sessions, where the definitions in the history count so many bytes
pub record Holds (b : Books) (objects : Schema) (open_of : ℕ → Option machine.Open) (logged : ℕ → Logged) (history : List Entry) (greatest definitions : ℕ) : Type 0 where
  pub number : number_of b ≡ greatest
  pub nobody : open_at b.opens 0 ≡ None
  pub txns : (session : ℕ) → IsSession session → IsSame objects (open_at b.opens session) (open_of session) (logged session)
  pub entries : AllZip IsEntry b.history history
  pub bytes : b.entry_bytes ≡ sum (map (size_of_entry objects) history) + definitions
