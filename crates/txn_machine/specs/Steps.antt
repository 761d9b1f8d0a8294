-- No clause of `run` rests on this module: it serves contracts between crates.
--
-- Which answers a step can have, and what it leaves: the step relation. A step says an answer and a short list of effects
-- of its session; the effects change what is stored, and every answer is counted alike. Each answer of an act stands here
-- with all that would come before it excluded, so that the order of answers can be read off.
--
-- The log and the limits are a layer over this: they are functions of the act, of its effects and of what was before, and where an
-- opening has no limits no step is refused for them.
use Rattle.std.specs.Prelude.{◌≡◌, ◌≢◌, ◌⊎◌, ℕ, ◌+◌, ◌<◌, ◌≤◌, ℤ, true, List, [], ◌∷◌, ◌++◌, length, Option, Some, None, IsSome, Result, Ok, Err}
use Rattle.std.specs.FinMap.{get}
use Rattle.iv_types.specs.declared.statement.Mode.{Mode}
use Rattle.iv_types.specs.declared.statement.Mode.TheVariants.{Serial, Snapshot}
use Rattle.iv_types.specs.declared.lock.GroupDelta.{GroupDelta}
use Rattle.iv_types.specs.declared.lock.Want.{Want}
use Rattle.iv_types.specs.declared.lock.LockMode.TheVariants.{Increment}
use Rattle.iv_types.specs.declared.session.Sessions.{Sessions}
use Rattle.iv_types.specs.declared.value.Interval.{Interval}
use Rattle.iv_types.specs.declared.refusal.Refusal.{Refusal}
use Rattle.iv_types.specs.declared.refusal.EngineRefusal.TheVariants as refusal
use Rattle.iv_types.specs.Replies.{members}
use Rattle.iv_types.specs.Intervals.{point}
use Rattle.iv_types.specs.Syntax.{StatementTree}
use Rattle.iv_types.specs.Printing.{statement_text}
use Rattle.table_laws.specs.Place.{Place}
use Rattle.iv_meaning.specs.Schema.{Schema, Object, table, view, numbered}
use Rattle.iv_meaning.specs.Database.{Row, Database}
use Rattle.iv_meaning.specs.View.{read}
use Rattle.iv_meaning.specs.Statement.{BoundTree, Kept, create, Refused, Accepted, bound_meaning}
use Rattle.iv_meaning.specs.Binding.{bind}
use Rattle.iv_meaning.specs.History.{state_at}
use Rattle.iv_meaning.specs.Escrow.{IsSession, IsAllowed, inf, sup}
use Rattle.iv_meaning.specs.Waits.{sessions_of}
use Rattle.txn_machine.specs.Acts as act
use Rattle.txn_machine.specs.Acts.{Act}
use Rattle.txn_machine.specs.Answers as answer
use Rattle.txn_machine.specs.Answers.{Answer}
use Rattle.txn_machine.specs.Locks.{with_one, IsInTheWay, AreInTheWay, IsDeadlock}
use Rattle.txn_machine.specs.Waiting.{WaitsOn, IsRing}
use Rattle.txn_machine.specs.Deltas.{RowChange, owed, columns_of, worth, place_of, wants_of}
use Rattle.txn_machine.specs.Keeping.{KeptStep, Note, Open}
use Rattle.txn_machine.specs.Stored.{ViewRows, Lists}
use Rattle.txn_machine.specs.Store.{Store, committed, schema_of, now, changes_by, locks_of, change_at, Effect, Opens, Takes, Notes, Writes, Pays, Ghosts, Undoes, Loses, Ends, Commits, Defines, Cleans, Prunes, run}
use Rattle.txn_machine.specs.Counts.{fetch_size, put_size, transaction_size, most_of_transaction, entry_size, kept_change_size, definition_size, definition_sizes, history_size, most_of_history, told_need}
use Rattle.txn_machine.specs.Ghosts.{the_views, account_of, IsCleanable, IsFirstCleanable}
use Rattle.txn_machine.specs.Records.{Definition, group_bytes}
use Rattle.txn_machine.specs.Log.{Log, Within, Above, appended, with_logged, log_all, record_of, end_bytes, block_bytes, reserved, carried, write_need, definition_need, data_bytes, change_need, object_need}
use Rattle.txn_machine.specs.State.{State, Stop, counted, told_of_stop}
use Rattle.txn_machine.specs.May.{May}

-- ---- what a step locks

abbrev pub group_want : GroupDelta → Want
group_want d = record { index = d.view; interval = point d.group; mode = Increment }

abbrev pub put_wants : Schema → Option Object → RowChange → List Want
put_wants objects (Some (table t)) c = wants_of objects t c
put_wants objects _ c = []

abbrev pub first_want : List GroupDelta → List Want
first_want [] = []
first_want (d ∷ ds) = group_want d ∷ []

-- the locks that the step asks for, all or none
abbrev pub asked : Store → ℕ → Act → List Want
asked s session (act.Fetch number interval mode) = record { index = number; interval = interval; mode = mode } ∷ []
asked s session (act.Put number key new) = put_wants (schema_of s) (numbered (schema_of s) number) (change_at s (number, key) new)
asked s session act.Pay = first_want (now s session).owed
asked s session _ = []

-- no other session is in the way
abbrev pub IsFree : Store → ℕ → List Want → Type 0
IsFree s session wants = (other : ℕ) → IsInTheWay (locks_of s) session wants other → ⊥

-- exactly these are in the way, and to wait for them closes no cycle
pub record IsBlocked (s : State) (session : ℕ) (wants : List Want) (sessions : Sessions) : Type 0 where
  pub in_the_way : AreInTheWay (locks_of s.store) session wants sessions
  pub not_empty : members sessions ≢ []
  pub no_cycle : (others : List ℕ) → IsRing (WaitsOn (locks_of s.store) (with_one s.waiting session wants)) session others → ⊥

-- ---- what there is room for

abbrev pub FitsTransaction : Store → ℕ → ℕ → Type 0
FitsTransaction s session need = transaction_size (schema_of s) (now s session) + need ≤ most_of_transaction

pub record IsTxnFull (s : Store) (session need kept : ℕ) : Type 0 where
  pub kept_is : kept ≡ transaction_size (schema_of s) (now s session)
  pub full : most_of_transaction < kept + need

abbrev pub history_bytes : State → ℕ
history_bytes s = history_size (schema_of s.store) s.store.history (definition_sizes s.definitions) s.store.open_of

abbrev pub FitsHistory : State → ℕ → Type 0
FitsHistory s need = history_bytes s + need ≤ most_of_history

pub record IsHistoryFull (s : State) (need kept : ℕ) : Type 0 where
  pub kept_is : kept ≡ history_bytes s
  pub full : most_of_history < kept + need

-- in the log, beside what is used and what is reserved
abbrev pub FitsLog : State → ℕ → Type 0
FitsLog s need = Within s.opening.log_limit (s.log.used + reserved s.store s.log + need)

pub record IsLogFull (s : State) (need used reserved_bytes : ℕ) : Type 0 where
  pub used_is : used ≡ s.log.used
  pub reserved_is : reserved_bytes ≡ reserved s.store s.log
  pub full : Above s.opening.log_limit (used + reserved_bytes + need)

-- the texts of all definitions
abbrev pub texts_of : State → List (List ℕ)
texts_of s = s.opening.definitions ++ s.definitions

abbrev pub used_data : State → ℕ
used_data s = data_bytes s.store s.log (texts_of s)

-- in the data
abbrev pub FitsData : State → ℕ → Type 0
FitsData s need = Within s.opening.data_limit (used_data s + need)

pub record IsDataFull (s : State) (need used : ℕ) : Type 0 where
  pub used_is : used ≡ used_data s
  pub full : Above s.opening.data_limit (used + need)

-- a snapshot takes none
abbrev pub MayBegin : State → Mode → Type 0
MayBegin s Serial = FitsLog s end_bytes × FitsHistory s entry_size
MayBegin s Snapshot = Unit {0}

-- ---- what is read

-- the rows of the tables as they are stored
abbrev pub stored : Store → Database
stored s = record (committed s) { rows = s.rows }

-- The rows of an interval in the order of the index, with the session's own changes: a view's are those stored rows that
-- stand for a group.
abbrev pub FindsIn : Database → ViewRows → Option Object → ℕ → Interval → List Row → Type 0
FindsIn db view_rows (Some (view v)) number interval rows = Lists db.schema v interval view_rows rows
FindsIn db view_rows _ number interval rows = read db number interval ≡ rows

abbrev pub Finds : Store → ℕ → Interval → List Row → Type 0
Finds s number interval rows = FindsIn (stored s) s.view (numbered (schema_of s) number) number interval rows

-- ---- escrow

abbrev pub IsAllowedIn : Store → ℕ → GroupDelta → ℕ → Type 0
IsAllowedIn s session d column = IsAllowed (account_of s (place_of d) column) session (worth column d)

-- each column allows the delta
abbrev pub AllAllow : Store → ℕ → GroupDelta → Type 0
AllAllow s session d = (column : ℕ) → column < length (columns_of d) → IsAllowedIn s session d column

-- this column is the first that does not, and these are its bounds before the delta
pub record IsRefusedBy (s : Store) (session : ℕ) (d : GroupDelta) (column : ℕ) (low high : ℤ) : Type 0 where
  pub is_column : column < length (columns_of d)
  pub refuses : IsAllowedIn s session d column → ⊥
  pub first : (earlier : ℕ) → earlier < column → IsAllowedIn s session d earlier
  pub low_is : low ≡ inf (account_of s (place_of d) column)
  pub high_is : high ≡ sup (account_of s (place_of d) column)

-- ---- the answers of each act, with their effects

pub record Begins (s : State) (mode : Mode) (number defs : ℕ) (es : List Effect) : Type 0 where
  pub room : MayBegin s mode
  pub number_is : number ≡ (committed s.store).number
  pub defs_are : defs ≡ length (schema_of s.store)
  pub effects : es ≡ Opens mode ∷ []

abbrev pub note_of : Store → ℕ → ℕ → Interval → List Row → Note
note_of s session number interval rows = record { index = number; interval = interval; rows = rows; kept = length (now s session).kept }

pub record Fetches (s : State) (session number : ℕ) (interval : Interval) (wants : List Want) (rows : List Row) (es : List Effect) : Type 0 where
  pub free : IsFree s.store session wants
  pub found : Finds s.store number interval rows
  pub room : FitsTransaction s.store session (fetch_size (schema_of s.store) number interval rows)
  pub effects : es ≡ Takes wants ∷ Notes (note_of s.store session number interval rows) ∷ []

-- the rows that would be answered are too many
pub record IsFetchFull (s : State) (session number : ℕ) (interval : Interval) (wants : List Want) (kept need : ℕ) : Type 0 where
  pub free : IsFree s.store session wants
  pub rows : List Row
  pub found : Finds s.store number interval rows
  pub need_is : need ≡ told_need (fetch_size (schema_of s.store) number interval rows)
  pub full : IsTxnFull s.store session (fetch_size (schema_of s.store) number interval rows) kept

-- what the change owes
abbrev pub put_owed : Store → RowChange → List GroupDelta
put_owed s c = owed (schema_of s) s.rows c

abbrev pub put_need : Store → RowChange → ℕ
put_need s c = put_size (schema_of s) c (put_owed s c)

-- its record, and what it and its deltas reserve
abbrev pub log_need : Store → RowChange → ℕ
log_need s c = write_need (schema_of s) c (put_owed s c)

-- what it enlarges, and the view rows of its deltas
abbrev pub data_need : Store → RowChange → ℕ
data_need s c = change_need (schema_of s) c (put_owed s c)

pub record Puts (s : State) (session : ℕ) (c : RowChange) (wants : List Want) (before : Option Row) (deltas : List GroupDelta) (es : List Effect) : Type 0 where
  pub free : IsFree s.store session wants
  pub room : FitsTransaction s.store session (put_need s.store c)
  pub log_room : FitsLog s (log_need s.store c)
  pub data_room : FitsData s (data_need s.store c)
  pub history_room : FitsHistory s (kept_change_size (schema_of s.store) c)
  pub before_is : before ≡ c.before
  pub owed_is : deltas ≡ put_owed s.store c
  pub effects : es ≡ Takes wants ∷ Writes c.key c.after ∷ []

pub record IsPutFull (s : State) (session : ℕ) (c : RowChange) (wants : List Want) (kept need : ℕ) : Type 0 where
  pub free : IsFree s.store session wants
  pub need_is : need ≡ told_need (put_need s.store c)
  pub full : IsTxnFull s.store session (put_need s.store c) kept

pub record IsPutLogFull (s : State) (session : ℕ) (c : RowChange) (wants : List Want) (used reserved_bytes need : ℕ) : Type 0 where
  pub free : IsFree s.store session wants
  pub room : FitsTransaction s.store session (put_need s.store c)
  pub need_is : need ≡ told_need (log_need s.store c)
  pub full : IsLogFull s (log_need s.store c) used reserved_bytes

pub record IsPutDataFull (s : State) (session : ℕ) (c : RowChange) (wants : List Want) (used need : ℕ) : Type 0 where
  pub free : IsFree s.store session wants
  pub room : FitsTransaction s.store session (put_need s.store c)
  pub log_room : FitsLog s (log_need s.store c)
  pub need_is : need ≡ told_need (data_need s.store c)
  pub full : IsDataFull s (data_need s.store c) used

pub record IsPutHistoryFull (s : State) (session : ℕ) (c : RowChange) (wants : List Want) (kept need : ℕ) : Type 0 where
  pub free : IsFree s.store session wants
  pub room : FitsTransaction s.store session (put_need s.store c)
  pub log_room : FitsLog s (log_need s.store c)
  pub data_room : FitsData s (data_need s.store c)
  pub need_is : need ≡ told_need (kept_change_size (schema_of s.store) c)
  pub full : IsHistoryFull s (kept_change_size (schema_of s.store) c) kept

-- the first owed delta is this one, before these
pub record PaysFirst (s : Store) (session : ℕ) (wants : List Want) : Type 0 where
  pub free : IsFree s session wants
  pub first : GroupDelta
  pub others : List GroupDelta
  pub owed_is : (now s session).owed ≡ first ∷ others

pub record PaysOne (s : Store) (session : ℕ) (wants : List Want) (left : ℕ) (es : List Effect) : Type 0 where
  pub pays : PaysFirst s session wants
  pub there : IsSome (get s.view (place_of pays.first))
  pub allowed : AllAllow s session pays.first
  pub left_is : left ≡ length pays.others
  pub effects : es ≡ Takes wants ∷ Pays ∷ []

-- the row is absent; the lock is held from now on
pub record LacksRow (s : Store) (session : ℕ) (wants : List Want) (es : List Effect) : Type 0 where
  pub pays : PaysFirst s session wants
  pub absent : get s.view (place_of pays.first) ≡ None
  pub effects : es ≡ Takes wants ∷ []

-- the delta is still owed; the lock is held from now on
pub record IsOutOfRange (s : Store) (session : ℕ) (wants : List Want) (column : ℕ) (low high : ℤ) (es : List Effect) : Type 0 where
  pub pays : PaysFirst s session wants
  pub there : IsSome (get s.view (place_of pays.first))
  pub refused : IsRefusedBy s session pays.first column low high
  pub effects : es ≡ Takes wants ∷ []

-- the row of the first owed delta's group is made where it is absent
pub record MakesGhost (s : Store) (session : ℕ) (es : List Effect) : Type 0 where
  pub first : GroupDelta
  pub others : List GroupDelta
  pub owed_is : (now s session).owed ≡ first ∷ others
  pub effects : ((get s.view (place_of first) ≡ None) × (es ≡ Ghosts (place_of first) (length (columns_of first)) ∷ []))
      ⊎ (IsSome (get s.view (place_of first)) × (es ≡ []))

pub record TakesBack (s : Store) (session left : ℕ) (es : List Effect) : Type 0 where
  pub latest : KeptStep
  pub earlier : List KeptStep
  pub kept_is : (now s session).kept ≡ latest ∷ earlier
  pub left_is : left ≡ length earlier
  pub effects : es ≡ Undoes ∷ []

-- the number of a transaction that changed nothing: the greatest, or a snapshot's own
abbrev pub number_unchanged : Store → Open → ℕ
number_unchanged s t = elim t.mode [ Serial ↦ (committed s).number | Snapshot ↦ t.number ]

-- a transaction that keeps a change takes the next number
abbrev pub CommitsAs : Store → ℕ → List RowChange → ℕ → List Effect → Type 0
CommitsAs s session [] number es = (number ≡ number_unchanged s (now s session)) × (es ≡ Ends ∷ [])
CommitsAs s session (c ∷ cs) number es = (number ≡ (committed s).number + 1) × (es ≡ Commits ∷ [])

-- ---- CREATE statements

-- no session has an open transaction
abbrev pub NoneIsOpen : Store → Type 0
NoneIsOpen s = (session : ℕ) → IsSession session → s.open_of session ≡ None

-- the least session that has one
pub record IsBusy (s : Store) (session : ℕ) : Type 0 where
  pub of_session : IsSession session
  pub is_open : IsSome (s.open_of session)
  pub least : (other : ℕ) → IsSession other → other < session → s.open_of other ≡ None

-- a statement as it is bound to what is defined
abbrev pub bound_by : Schema → StatementTree → Result BoundTree Refusal
bound_by objects statement = bind objects statement

-- it makes this object
pub record Makes (s : Store) (statement : StatementTree) (object : Object) : Type 0 where
  pub bound : bound_by (schema_of s) statement ≡ Ok (create object)

-- the entries that it makes
abbrev pub made_need : Store → StatementTree → Object → ℕ
made_need s statement object = object_need (schema_of s) (committed s).rows statement object

pub record DefinesIt (s : State) (statement : StatementTree) (number : ℕ) (es : List Effect) : Type 0 where
  pub object : Object
  pub makes : Makes s.store statement object
  pub none_open : NoneIsOpen s.store
  pub accepted : (count : ℕ) × (kept : List Kept) × (bound_meaning (create object) (committed s.store) ≡ Accepted [] count kept)
  pub log_room : FitsLog s (definition_need statement)
  pub data_room : FitsData s (made_need s.store statement object)
  pub room : FitsHistory s (entry_size + definition_size statement)
  pub number_is : number ≡ (committed s.store).number + 1
  pub effects : es ≡ Defines object ∷ []

-- what can be told of it without rows is told first; what needs them, once no transaction is open
pub data IsDenied (s : Store) (statement : StatementTree) (why : Refusal) : Type 0 where
  unbound : bound_by (schema_of s) statement ≡ Err why → IsDenied s statement why
  refused : (object : Object) → Makes s statement object → NoneIsOpen s → bound_meaning (create object) (committed s) ≡ Refused why → IsDenied s statement why

pub record IsSchemaBusy (s : Store) (statement : StatementTree) (busy : ℕ) : Type 0 where
  pub object : Object
  pub makes : Makes s statement object
  pub least : IsBusy s busy

pub record IsSchemaLogFull (s : State) (statement : StatementTree) (used reserved_bytes need : ℕ) : Type 0 where
  pub object : Object
  pub makes : Makes s.store statement object
  pub none_open : NoneIsOpen s.store
  pub accepted : (count : ℕ) × (kept : List Kept) × (bound_meaning (create object) (committed s.store) ≡ Accepted [] count kept)
  pub need_is : need ≡ told_need (definition_need statement)
  pub full : IsLogFull s (definition_need statement) used reserved_bytes

pub record IsSchemaDataFull (s : State) (statement : StatementTree) (used need : ℕ) : Type 0 where
  pub object : Object
  pub makes : Makes s.store statement object
  pub none_open : NoneIsOpen s.store
  pub accepted : (count : ℕ) × (kept : List Kept) × (bound_meaning (create object) (committed s.store) ≡ Accepted [] count kept)
  pub log_room : FitsLog s (definition_need statement)
  pub need_is : need ≡ told_need (made_need s.store statement object)
  pub full : IsDataFull s (made_need s.store statement object) used

pub record IsSchemaFull (s : State) (statement : StatementTree) (kept need : ℕ) : Type 0 where
  pub object : Object
  pub makes : Makes s.store statement object
  pub none_open : NoneIsOpen s.store
  pub accepted : (count : ℕ) × (kept : List Kept) × (bound_meaning (create object) (committed s.store) ≡ Accepted [] count kept)
  pub log_room : FitsLog s (definition_need statement)
  pub data_room : FitsData s (made_need s.store statement object)
  pub need_is : need ≡ told_need (entry_size + definition_size statement)
  pub full : IsHistoryFull s (entry_size + definition_size statement) kept

-- ---- snapshots

-- the rows at the number of the session's snapshot
abbrev pub Peeks : Store → ℕ → ℕ → Interval → List Row → Type 0
Peeks s session number interval rows = read (state_at s.origin s.history (now s session).number) number interval ≡ rows

-- ---- all answers

-- the acts that take memory
abbrev pub TakesMemory : Act → Type 0
TakesMemory (act.Begin mode) = Unit {0}
TakesMemory act.Defs = Unit {0}
TakesMemory (act.Fetch number interval mode) = Unit {0}
TakesMemory (act.Peek number interval) = Unit {0}
TakesMemory (act.Put number key new) = Unit {0}
TakesMemory act.Ghost = Unit {0}
TakesMemory (act.Schema statement) = Unit {0}
TakesMemory _ = ⊥

-- the acts that lock
abbrev pub MayWait : Act → Type 0
MayWait (act.Fetch number interval mode) = Unit {0}
MayWait (act.Put number key new) = Unit {0}
MayWait act.Pay = Unit {0}
MayWait _ = ⊥

-- the effects of a step that is answered so
abbrev pub Says : State → ℕ → Act → Answer → List Effect → Type 0
Says s session a (answer.Blocked sessions) es = MayWait a × IsBlocked s session (asked s.store session a) sessions × (es ≡ [])
Says s session a (answer.Refused (refusal.Deadlock cycle)) es =
    MayWait a × IsDeadlock (locks_of s.store) s.waiting session (asked s.store session a) (sessions_of cycle) × (es ≡ Loses ∷ [])
Says s session a (answer.Refused refusal.NoMemory) es = TakesMemory a × (es ≡ [])
Says s session (act.Begin mode) (answer.Begun number defs) es = Begins s mode number defs es
Says s session (act.Begin mode) (answer.Refused (refusal.LogFull used reserved_bytes need)) es = (es ≡ []) × (mode ≡ Serial) × (need ≡ end_bytes) × IsLogFull s need used reserved_bytes
Says s session (act.Begin mode) (answer.Refused (refusal.HistoryFull kept need)) es =
    (mode ≡ Serial) × (need ≡ entry_size) × IsHistoryFull s need kept × (es ≡ []) × FitsLog s end_bytes
Says s session act.Defs (answer.Defs objects) es = (objects ≡ schema_of s.store) × (es ≡ [])
Says s session (act.Fetch number interval mode) (answer.Rows rows) es = Fetches s session number interval (asked s.store session (act.Fetch number interval mode)) rows es
Says s session (act.Fetch number interval mode) (answer.Refused (refusal.TxnFull kept need)) es =
    IsFetchFull s session number interval (asked s.store session (act.Fetch number interval mode)) kept need × (es ≡ [])
Says s session (act.Peek number interval) (answer.Rows rows) es = Peeks s.store session number interval rows × (es ≡ [])
Says s session (act.Put number key new) (answer.Changed before deltas) es =
    Puts s session (change_at s.store (number, key) new) (asked s.store session (act.Put number key new)) before deltas es
Says s session (act.Put number key new) (answer.Refused (refusal.TxnFull kept need)) es =
    IsPutFull s session (change_at s.store (number, key) new) (asked s.store session (act.Put number key new)) kept need × (es ≡ [])
Says s session (act.Put number key new) (answer.Refused (refusal.LogFull used reserved_bytes need)) es =
    IsPutLogFull s session (change_at s.store (number, key) new) (asked s.store session (act.Put number key new)) used reserved_bytes need × (es ≡ [])
Says s session (act.Put number key new) (answer.Refused (refusal.DataFull used need)) es =
    IsPutDataFull s session (change_at s.store (number, key) new) (asked s.store session (act.Put number key new)) used need × (es ≡ [])
Says s session (act.Put number key new) (answer.Refused (refusal.HistoryFull kept need)) es =
    IsPutHistoryFull s session (change_at s.store (number, key) new) (asked s.store session (act.Put number key new)) kept need × (es ≡ [])
Says s session act.Pay (answer.Paid left) es = PaysOne s.store session (asked s.store session act.Pay) left es
Says s session act.Pay answer.NeedsGhost es = LacksRow s.store session (asked s.store session act.Pay) es
Says s session act.Pay (answer.Refused (refusal.Escrow column low high)) es = IsOutOfRange s.store session (asked s.store session act.Pay) column low high es
Says s session act.Ghost answer.Ghosted es = MakesGhost s.store session es
Says s session act.UndoOne (answer.Undone left) es = TakesBack s.store session left es
Says s session act.End answer.Ended es = es ≡ Ends ∷ []
Says s session act.Commit (answer.Committed number) es = CommitsAs s.store session (changes_by s.store session) number es
-- a commit of changes is flushed, which the disk may fail to do
Says s session act.Commit (answer.Refused refusal.DiskFault) es = (es ≡ []) × (changes_by s.store session ≢ [])
Says s session (act.Schema statement) (answer.Committed number) es = DefinesIt s statement number es
Says s session (act.Schema statement) (answer.Denied why) es = IsDenied s.store statement why × (es ≡ [])
Says s session (act.Schema statement) (answer.Refused (refusal.SchemaBusy busy)) es = IsSchemaBusy s.store statement busy × (es ≡ [])
Says s session (act.Schema statement) (answer.Refused (refusal.LogFull used reserved_bytes need)) es = IsSchemaLogFull s statement used reserved_bytes need × (es ≡ [])
Says s session (act.Schema statement) (answer.Refused (refusal.DataFull used need)) es = IsSchemaDataFull s statement used need × (es ≡ [])
Says s session (act.Schema statement) (answer.Refused (refusal.HistoryFull kept need)) es = IsSchemaFull s statement kept need × (es ≡ [])
Says s session (act.Schema statement) (answer.Refused refusal.DiskFault) es = (es ≡ []) × (number : ℕ) × (would : List Effect) × DefinesIt s statement number would
Says s session act.Clean (answer.Cleaned ℕ.zero) es = ((place : Place) → IsCleanable s.store place → ⊥) × (es ≡ [])
Says s session act.Clean (answer.Cleaned (ℕ.suc ℕ.zero)) es = (place : Place) × IsFirstCleanable s.store place × (es ≡ Cleans place ∷ []) × FitsLog s (group_bytes place)
Says s session act.Clean (answer.Refused (refusal.LogFull used reserved_bytes need)) es =
    (es ≡ []) × (place : Place) × IsFirstCleanable s.store place × (need ≡ group_bytes place) × IsLogFull s need used reserved_bytes
Says s session act.Prune answer.Pruned es = es ≡ Prunes ∷ []
Says s session act.Checkpoint (answer.Saved number) es = (es ≡ []) × (number ≡ (committed s.store).number)
Says s session act.Checkpoint (answer.Refused refusal.DiskFault) es = es ≡ []
Says s session act.Cancel answer.Cancelled es = es ≡ []
Says s session _ _ es = ⊥

-- a session waits for what its blocked step asked for, and for nothing after any other step
abbrev pub waits_after : Store → ℕ → Act → Answer → List Want
waits_after s session a (answer.Blocked sessions) = asked s session a
waits_after s session a _ = []

-- the texts of the definitions in the history
abbrev pub definitions_after : List (List ℕ) → Act → Answer → List (List ℕ)
definitions_after texts (act.Schema statement) (answer.Committed number) = texts ++ statement_text statement ∷ []
definitions_after texts _ _ = texts

-- the first owed delta had its Ghost
abbrev pub with_ghost : Log → ℕ → Log
with_ghost l session = with_logged l session (record (l.logged session) { ghosted = true })

-- The log after a step. A Ghost counts also where the row is there. A checkpoint leaves an empty log but for what it carries. Where
-- the disk failed to flush a commit or a definition, its record waits.
abbrev pub log_after : State → ℕ → Act → Answer → List Effect → Log
log_after s session act.Ghost answer.Ghosted es = with_ghost (log_all s.store session act.Ghost es s.log) session
log_after s session act.Checkpoint (answer.Saved number) es = record s.log { used = block_bytes + 1 + carried s.store }
log_after s session act.Commit (answer.Refused refusal.DiskFault) es = appended (schema_of s.store) (record_of s.store session act.Commit s.log Commits) s.log
log_after s session (act.Schema statement) (answer.Refused refusal.DiskFault) es =
    appended (schema_of s.store) (Some (Definition ((committed s.store).number + 1) session (statement_text statement))) s.log
log_after s session a said es = log_all s.store session a es s.log

-- the step of an engine that is not stopped
pub record Does (s : State) (session : ℕ) (a : Act) (said : Answer) (after : State) : Type 0 where
  pub runs : s.stop ≡ None
  pub effects : List Effect
  pub says : Says s session a said effects
  pub left : after ≡ counted s session a said (run the_views s.store session effects) (waits_after s.store session a said) (definitions_after s.definitions a said)
      (log_after s session a said effects)

-- the step of an engine that is
pub record IsTold (s : State) (session : ℕ) (said : Answer) (after : State) : Type 0 where
  pub stop : Stop
  pub stopped : s.stop ≡ Some stop
  pub says : said ≡ answer.Refused (refusal.Stopped stop.step)
  pub left : after ≡ told_of_stop s session

-- a step that may be asked for is answered so, and leaves this state
pub record Step (s : State) (session : ℕ) (a : Act) (said : Answer) (after : State) : Type 0 where
  pub may : May s session a
  pub does : Does s session a said after ⊎ IsTold s session said after

-- ---- runs

pub record Did : Type 0 where
  pub session : ℕ
  pub act : Act
  pub said : Answer

-- these steps one after another
abbrev pub Run : State → List Did → State → Type 0
Run s [] after = after ≡ s
Run s (d ∷ ds) after = (middle : State) × Step s d.session d.act d.said middle × Run middle ds after
