-- No clause of `run` rests on this module: it serves contracts between crates.
--
-- The machine with its log and the pages of its last checkpoint, moment by moment, and what a crash may leave.
use Rattle.std.specs.Prelude.{◌≡◌, ℕ, ◌≤◌, Bool, false, List, [], ◌∷◌, ◌++◌, map, filter, nat_le, drop, Option, Some, None}
use Rattle.iv_types.specs.Syntax.{StatementTree}
use Rattle.iv_types.specs.declared.refusal.EngineRefusal.TheVariants as refusal
use Rattle.iv_meaning.specs.History.{Entry, state_at}
use Rattle.iv_meaning.specs.Escrow.{IsSession}
use Rattle.txn_machine.specs.Acts as act
use Rattle.txn_machine.specs.Acts.{Act}
use Rattle.txn_machine.specs.Answers as answer
use Rattle.txn_machine.specs.Answers.{Answer}
use Rattle.txn_machine.specs.Keeping.{KeptStep, Put, Pay}
use Rattle.txn_machine.specs.Store.{Store, committed, now, opened, Effect, Commits, Defines, does}
use Rattle.txn_machine.specs.Ghosts.{the_views}
use Rattle.txn_machine.specs.Records.{Record}
use Rattle.txn_machine.specs.Log.{Log, Logged, Opening, logs, record_of}
use Rattle.txn_machine.specs.State.{State, opened_state, is_fault}
use Rattle.txn_machine.specs.May.{May}
use Rattle.txn_machine.specs.Steps.{stored, Does, IsTold}
use Rattle.txn_machine.specs.Laws.{IsOpened}
use Rattle.txn_log.specs.Replay.{What, Wrote, Added, Deed, Pages, Reading, own, recovered}
use Rattle.txn_log.specs.Fitting.{DoNumbersFall, IsFit}
use Rattle.txn_log.specs.Appended.{Numbered, written, Image, IsRead}

-- ---- what open transactions keep, in memory

-- a transaction with what it keeps, the latest first; number 0 is none
pub record Txn : Type 0 where
  pub id : ℕ
  pub kept : List Deed
  -- it appended a record since its Begin
  pub wrote : Bool

abbrev pub what_of : KeptStep → What
what_of (Put c owed) = Wrote c
what_of (Pay d) = Added d

-- kept steps with the numbers of their records
abbrev pub kept_deeds : ℕ → List ℕ → List KeptStep → List Deed
kept_deeds id [] ks = []
kept_deeds id (n ∷ ns) [] = []
kept_deeds id (n ∷ ns) (k ∷ ks) = record { number = n; transaction = id; what = what_of k } ∷ kept_deeds id ns ks

abbrev pub txn_in : Logged → List KeptStep → Txn
txn_in t ks = record { id = t.transaction; kept = kept_deeds t.transaction t.kept ks; wrote = t.wrote }

abbrev pub txn_at : Store → Log → ℕ → Txn
txn_at s l session = txn_in (l.logged session) (now s session).kept

-- the Writes and Deltas of open transactions that are not taken back, those of each transaction in order, and no others
pub record AreCarried (txn_of : ℕ → Txn) (xs : List Deed) : Type 0 where
  pub each : (s : ℕ) → IsSession s → own (txn_of s).id xs ≡ (txn_of s).kept
  pub of_none : own 0 xs ≡ []
  pub others : (t : ℕ) → ((s : ℕ) → IsSession s → (txn_of s).id ≡ t → ⊥) → own t xs ≡ []

-- ---- the log on the disk and in memory

pub record Disk : Type 0 where
  -- the pages of the last checkpoint, and the Writes and Deltas that it carried
  pub pages : Pages
  pub carried : List Deed
  -- the records after the redo place, of which the latest stands first: those that were flushed, and those that wait in memory
  pub flushed : List Numbered
  pub waiting : List Numbered
  -- the greatest commit number that was acknowledged, or the opened one
  pub acknowledged : ℕ

abbrev pub image_of : Disk → List Numbered → Image
image_of d waiting = record { pages = d.pages; carried = map written d.carried; after = waiting ++ d.flushed }

abbrev pub opened_disk : Pages → Disk
opened_disk p = record { pages = p; carried = []; flushed = []; waiting = []; acknowledged = p.db.number }

abbrev pub with_record : Option Record → ℕ → Disk → Disk
with_record None number d = d
with_record (Some r) number d = record d { waiting = record { number = number; of = r } ∷ d.waiting }

-- what waits is on the disk
abbrev pub flushed_all : Disk → Disk
flushed_all d = record d { flushed = d.waiting ++ d.flushed; waiting = [] }

-- the pages of a store
abbrev pub pages_now : Store → Pages
pages_now s = record { db = stored s; view = s.view }

-- a checkpoint published these pages, and carries these records
abbrev pub published : Pages → List Deed → Disk → Disk
published p carried d = record d { pages = p; carried = carried; flushed = []; waiting = [] }

-- ---- moments

pub data World : Type 0 where
  -- between two steps
  At : State → Disk → World
  -- in a step of a session that will leave this state: what it stores and has logged so far, and what effects are to come
  Amid : (after : State) (session : ℕ) → Act → Store → Log → List Effect → Disk → World
  -- a fault of the disk stopped the machine: its records belong to this store, as the step would have left it
  Halted : State → Store → Disk → World

abbrev pub store_of : World → Store
store_of (At s d) = s.store
store_of (Amid after session a s l es d) = s
store_of (Halted s next d) = next

abbrev pub disk_of : World → Disk
disk_of (At s d) = d
disk_of (Amid after session a s l es d) = d
disk_of (Halted s next d) = d

abbrev pub with_disk : World → Disk → World
with_disk (At s d) e = At s e
with_disk (Amid after session a s l es d) e = Amid after session a s l es e
with_disk (Halted s next d) e = Halted s next e

-- what open transactions keep; a machine that a fault of the disk stopped writes nothing
abbrev pub Keeps : World → List Deed → Type 0
Keeps (At s d) xs = AreCarried (txn_at s.store s.log) xs
Keeps (Amid after session a s l es d) xs = AreCarried (txn_at s l) xs
Keeps (Halted s next d) xs = ⊥

abbrev pub Writes : World → Type 0
Writes (Halted s next d) = ⊥
Writes _ = Unit {0}

-- what is committed is acknowledged, and a Checkpoint has published what is stored
pub record IsDone (a : Act) (s : Store) (d : Disk) : Type 0 where
  pub acknowledged : d.acknowledged ≡ (committed s).number
  pub published : a ≡ act.Checkpoint → (d.pages ≡ pages_now s) × (d.flushed ≡ []) × (d.waiting ≡ [])

pub data Happens : World → World → Type 0 where
  -- a step begins that is not answered by a fault, does its effects one after another, and ends once its answer is so on the disk
  begins : (s : State) (disk : Disk) (session : ℕ) (a : Act) (said : Answer) (after : State) → May s session a → (d : Does s session a said after) → is_fault said ≡ false
      → Happens (At s disk) (Amid after session a s.store s.log d.effects disk)
  acts : (after : State) (session : ℕ) (a : Act) (s : Store) (l : Log) (e : Effect) (es : List Effect) (disk : Disk)
      → Happens (Amid after session a s l (e ∷ es) disk)
      (Amid after session a (does the_views s session e) (logs s session a e l) es (with_record (record_of s session a l e) l.next disk))
  ends : (after : State) (session : ℕ) (a : Act) (s : Store) (l : Log) (disk : Disk) → IsDone a s disk → Happens (Amid after session a s l [] disk) (At after disk)
  -- what waits is flushed
  flushes : (w : World) → Writes w → Happens w (with_disk w (flushed_all (disk_of w)))
  -- what is on the disk is acknowledged
  acknowledges : (w : World) → (disk_of w).waiting ≡ [] → Writes w → Happens w (with_disk w (record (disk_of w) { acknowledged = (committed (store_of w)).number }))
  -- a checkpoint publishes the pages of now
  publishes : (w : World) (carried : List Deed) → Keeps w carried → DoNumbersFall carried → Happens w (with_disk w (published (pages_now (store_of w)) carried (disk_of w)))
  -- the disk fails to flush a commit or a definition, whose record waits
  fails_commit : (s : State) (disk : Disk) (session : ℕ) (stopped : State) → May s session act.Commit → Does s session act.Commit (answer.Refused refusal.DiskFault) stopped
      → Happens (At s disk) (Halted stopped (does the_views s.store session Commits) (with_record (record_of s.store session act.Commit s.log Commits) s.log.next disk))
  fails_define : (s : State) (disk : Disk) (session : ℕ) (statement : StatementTree) (stopped : State) → May s session (act.Schema statement)
      → (d : Does s session (act.Schema statement) (answer.Refused refusal.DiskFault) stopped)
      → (e : Effect) → e ≡ Defines d.says.3.object
      → Happens (At s disk) (Halted stopped (does the_views s.store session e) (with_record (record_of s.store session (act.Schema statement) s.log e) s.log.next disk))
  -- a checkpoint that fails leaves the old image or the new one
  fails_before : (s : State) (disk : Disk) (session : ℕ) (stopped : State) → May s session act.Checkpoint → Does s session act.Checkpoint (answer.Refused refusal.DiskFault) stopped
      → Happens (At s disk) (Halted stopped s.store disk)
  fails_after : (s : State) (disk : Disk) (session : ℕ) (stopped : State) → May s session act.Checkpoint → Does s session act.Checkpoint (answer.Refused refusal.DiskFault) stopped
      → (carried : List Deed) → AreCarried (txn_at s.store s.log) carried → DoNumbersFall carried
      → Happens (At s disk) (Halted stopped s.store (published (pages_now s.store) carried disk))
  -- a machine that is stopped says so
  told : (s : State) (disk : Disk) (session : ℕ) (said : Answer) (after : State) → IsTold s session said after → Happens (At s disk) (At after disk)
  told_halted : (s : State) (next : Store) (disk : Disk) (session : ℕ) (said : Answer) (after : State) → IsTold s session said after → Happens (Halted s next disk) (Halted after next disk)

pub data Run : World → World → Type 0 where
  here : (w : World) → Run w w
  then_move : (u v w : World) → Run u v → Happens v w → Run u w

-- an engine as an opening gives it, with the image that its closing checkpoint published
abbrev pub opened_world : Opening → Pages → World
opened_world opening p = At (opened_state opening (opened p.db p.view)) (opened_disk p)

-- what a crash leaves, without the latest k of the waiting records
abbrev pub left_by : World → ℕ → Image
left_by w k = image_of (disk_of w) (drop k (disk_of w).waiting)

-- The image can be read and its records fit, and what it recovers to is the database at a commit number, which is at least that of
-- each acknowledged commit, with its views' rows as they are evaluated afresh: one that an engine can be opened on.
pub record IsRight (s : Store) (i : Image) (acknowledged : ℕ) : Type 0 where
  pub reading : Reading
  pub is_read : IsRead i reading
  pub fits : IsFit reading
  pub db : (recovered reading).db ≡ state_at s.origin s.history (recovered reading).db.number
  pub has_all : acknowledged ≤ (recovered reading).db.number
  pub not_more : (recovered reading).db.number ≤ (committed s).number
  pub opens : IsOpened (recovered reading).db (recovered reading).view

-- ---- lives

-- the entries up to a number
abbrev pub entries_to : ℕ → List Entry → List Entry
entries_to n es = filter (λ e. nat_le e.number n) es

-- What openings find one after another, each stopped by a crash at some moment, and the commits that it has. A crash in an opening
-- leaves the image that it found or the one that it publishes, which recovers to the same.
pub data Life (first : Pages) : Pages → List Entry → Type 0 where
  formatted : Life first first []
  crashed : (p : Pages) (es : List Entry) → Life first p es → (opening : Opening) (w : World) → Run (opened_world opening p) w → (k : ℕ)
      → (r : Reading) → IsRead (left_by w k) r
      → Life first (recovered r) (es ++ entries_to (recovered r).db.number (store_of w).history)
