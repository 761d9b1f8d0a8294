-- What an engine remembers of its log, with the contents of the records, and what each effect makes of it.
use Rattle.std.specs.Prelude.{◌≡◌, ℕ, ◌+◌, ◌≤◌, Bool, true, false, List, [], ◌∷◌, ◌++◌}
use Rattle.iv_types.specs.declared.statement.Mode.{Mode}
use Rattle.iv_types.specs.declared.statement.Mode.TheVariants.{Serial, Snapshot}
use Rattle.iv_types.specs.declared.lock.GroupDelta.{GroupDelta}
use Rattle.iv_meaning.specs.History.{state_at}
use Rattle.txn_machine.specs.Locks.{with_one}
use Rattle.txn_machine.specs.Store.{Store, committed, now, change_at, Effect, Opens, Writes, Pays, Ghosts, Undoes, Ends, Commits, Defines, Cleans}
use Rattle.txn_machine.specs.Laws.{IsOpened}
use Rattle.txn_log.specs.Replay.{What, Wrote, Added, Deed, Event, Kept, Ghost, Clean, Undo, Commit, Abort, Defined, Pages, Reading, recovered}
use Rattle.txn_log.specs.Fitting.{IsFit}
use Rattle.txn_log.specs.Moments.{Txn}

abbrev pub no_txn : Txn
no_txn = record { id = 0; kept = []; wrote = false }

pub record Memory : Type 0 where
  pub txn_of : ℕ → Txn
  -- how many serial transactions began in this opening
  pub begun : ℕ
  -- the number of the next record
  pub next : ℕ
  pub pages : Pages
  pub carried : List Deed
  pub flushed : List Event
  pub waiting : List Event
  pub acknowledged : ℕ

abbrev pub reading_of : Memory → List Event → Reading
reading_of l waiting = record { pages = l.pages; carried = l.carried; after = waiting ++ l.flushed }

-- ---- the events of effects

abbrev pub with_event : Memory → Event → Memory
with_event l r = record l { next = l.next + 1; waiting = r ∷ l.waiting }

abbrev pub set_txn : Memory → ℕ → Txn → Memory
set_txn l session t = record l { txn_of = with_one l.txn_of session t }

abbrev pub deed_now : Memory → ℕ → What → Deed
deed_now l session w = record { number = l.next; transaction = (l.txn_of session).id; what = w }

abbrev pub keeps : Memory → ℕ → What → Memory
keeps l session w =
    let x : Deed = deed_now l session w in
    with_event (set_txn l session (record { id = (l.txn_of session).id; kept = x ∷ (l.txn_of session).kept; wrote = true })) (Kept x)

abbrev pub pays : Memory → ℕ → List GroupDelta → Memory
pays l session [] = l
pays l session (d ∷ ds) = keeps l session (Added d)

abbrev pub undoes : Memory → ℕ → List Deed → Memory
undoes l session [] = l
undoes l session (x ∷ kept) =
    with_event (set_txn l session (record { id = (l.txn_of session).id; kept = kept; wrote = (l.txn_of session).wrote })) (Undo l.next (l.txn_of session).id x.number)

-- an Abort exactly where the transaction has appended a record
abbrev pub aborts : Memory → ℕ → Bool → Memory
aborts l id true = with_event l (Abort l.next id)
aborts l id false = l

abbrev pub begins : Memory → ℕ → Mode → Memory
begins l session Serial = record (set_txn l session (record { id = l.begun + 1; kept = []; wrote = false })) { begun = l.begun + 1 }
begins l session Snapshot = set_txn l session no_txn

-- after an effect of a session on this store
abbrev pub remembers : Store → ℕ → Effect → Memory → Memory
remembers s session (Opens mode) l = begins l session mode
remembers s session (Writes place new) l = keeps l session (Wrote (change_at s place new))
remembers s session Pays l = pays l session (now s session).owed
remembers s session (Ghosts place columns) l = with_event l (Ghost l.next place columns)
remembers s session Undoes l = undoes l session (l.txn_of session).kept
remembers s session Ends l = set_txn (aborts l (l.txn_of session).id (l.txn_of session).wrote) session no_txn
remembers s session Commits l = set_txn (with_event l (Commit l.next (l.txn_of session).id ((committed s).number + 1))) session no_txn
remembers s session (Defines object) l = with_event l (Defined l.next ((committed s).number + 1) object)
remembers s session (Cleans place) l = with_event l (Clean l.next place)
remembers s session _ l = l

-- A serial transaction alone changes, pays and commits as an entry, and a session without one has number 0. What has appended a
-- record has a number.
abbrev pub HasNumber : Effect → Txn → Type 0
HasNumber (Opens mode) t = t.id ≡ 0
HasNumber (Writes place new) t = 1 ≤ t.id
HasNumber Pays t = 1 ≤ t.id
HasNumber Commits t = 1 ≤ t.id
HasNumber Ends t = t.wrote ≡ true → 1 ≤ t.id
HasNumber _ t = Unit {0}

-- what is recovered of a reading is right
pub record Recovers (s : Store) (i : Reading) (acknowledged : ℕ) : Type 0 where
  pub fits : IsFit i
  pub db : (recovered i).db ≡ state_at s.origin s.history (recovered i).db.number
  pub has_all : acknowledged ≤ (recovered i).db.number
  pub not_more : (recovered i).db.number ≤ (committed s).number
  pub opens : IsOpened (recovered i).db (recovered i).view
