-- No clause of `run` rests on this module: it serves contracts between crates.
--
-- Statements as programs of steps, and when a session's programs are right: what they tell is what the lone transaction is told
-- on every database in which all that they were told is so.
use Rattle.std.specs.Prelude.{◌≡◌, ℕ, Bool, true, false, IsTrue, ◌⊎◌, ◌||◌, List, [], ◌∷◌, ◌++◌, ◌-◌, map, length, drop, Option, Some, None}
use Rattle.iv_types.specs.declared.refusal.Refusal.{Refusal}
use Rattle.iv_types.specs.declared.reply.Reply.{Reply}
use Rattle.iv_types.specs.declared.reply.Reply.TheVariants as reply
use Rattle.iv_types.specs.declared.statement.Mode.{Mode}
use Rattle.iv_types.specs.declared.statement.Mode.TheVariants.{Serial, Snapshot}
use Rattle.iv_types.specs.Syntax.{StatementTree, begin, commit, rollback}
use Rattle.iv_meaning.specs.Schema.{Schema}
use Rattle.iv_meaning.specs.Database.{Database}
use Rattle.iv_meaning.specs.Statement.{Kept, keep_all}
use Rattle.iv_meaning.specs.Transaction.{Saved, Running, alone, outside, next_number, begin_reply, refused_outside, refused_inside}
use Rattle.iv_meaning.specs.Serial.{Unended, is_engines, is_deadlock}
use Rattle.txn_machine.specs.Acts as act
use Rattle.txn_machine.specs.Acts.{Act}
use Rattle.txn_machine.specs.Answers.{Answer}
use Rattle.txn_machine.specs.Deltas.{RowChange}
use Rattle.script_law.specs.Seen.{Event, Waits, LacksRow, Begins, Learns, Ends, Commits, Creates, Denies, event, is_stop, CanCome, Txn, IsTruthful, kept_of, changes, in_order, txn_after, new_txn, IsReadyIn, MayWant}

-- ---- programs

-- how a session stands between two statements
pub record Standing : Type 0 where
  -- of its open transaction
  pub mode : Option Mode
  -- its live savepoints, the latest first: the name, and how many steps were kept then
  pub saved : List (List ℕ × ℕ)
  -- how many steps it keeps
  pub kept : ℕ
  -- its copy of the definitions
  pub copy : Schema

-- no transaction is open
abbrev pub outside_with : Schema → Standing
outside_with copy = record { mode = None; saved = []; kept = 0; copy = copy }

-- what a statement has still to do
pub data Todo : Type 0 where
  -- it has ended with these replies, and its session stands so
  says : List Reply → Standing → Todo
  -- it asks for a step, and goes on by its answer, and by whether its session has memory for that
  asks : Act → (Answer → Bool → Todo) → Todo
  -- it makes the row of the first owed delta's group, and then pays, which goes on so
  ghosts : (Answer → Bool → Todo) → Todo

-- ---- what is known of a transaction between two statements

-- the statements of a transaction run alone
abbrev pub lone : Unended → Database → List (List Reply) × Running
lone o db = alone o.mode (map (λ p. p.0) o.told) db

-- they are told there what they were told
abbrev pub IsToldAlone : Unended → Database → Type 0
IsToldAlone o db = (lone o db).0 ≡ map (λ p. p.1) o.told

-- of kept steps, of which the latest stands first, so many of the oldest
abbrev pub oldest : ℕ → List (Option RowChange) → List (Option RowChange)
oldest many kept = drop (length kept - many) kept

-- the oldest of some kept steps is a change
abbrev pub EndsInChange : List (Option RowChange) → Type 0
EndsInChange [] = ⊥
EndsInChange (k ∷ []) = (c : RowChange) × (k ≡ Some c)
EndsInChange (k ∷ l ∷ ks) = EndsInChange (l ∷ ks)

-- there is none of them, or they are changes with their pays
abbrev pub AreWhole : List (Option RowChange) → Type 0
AreWhole ks = (ks ≡ []) ⊎ EndsInChange ks

-- savepoints are marked by how many steps were kept, the latest first
abbrev pub AreMarks : List (Option RowChange) → List (List ℕ × ℕ) → Type 0
AreMarks kept [] = Unit {0}
AreMarks kept (mark ∷ marks) =
    (later : List (Option RowChange)) × (earlier : List (Option RowChange)) × (kept ≡ later ++ earlier) × (length earlier ≡ mark.1) × AreWhole later × AreMarks earlier marks

-- a lone transaction's savepoints are these: before each it kept so many of the oldest of these steps
abbrev pub AreSaved : Database → List (Option RowChange) → List Saved → List (List ℕ × ℕ) → Type 0
AreSaved db kept [] [] = Unit {0}
AreSaved db kept (s ∷ ss) (mark ∷ marks) =
    (s.kept ≡ in_order (changes (oldest mark.1 kept))) × (s.db ≡ keep_all s.kept db) × AreSaved db (oldest mark.1 kept) ss marks
AreSaved db kept _ _ = ⊥

-- a lone transaction keeps what this one keeps
pub record Fits (t : Txn) (standing : Standing) (db : Database) (r : Running) : Type 0 where
  pub db_is : r.db ≡ keep_all (kept_of t) db
  pub kept_is : r.kept ≡ kept_of t
  pub saved : AreSaved db t.kept r.saved standing.saved

-- the engine's transaction is that of the session's lines
pub record IsOf (o : Unended) (t : Txn) : Type 0 where
  pub mode_is : t.mode ≡ o.mode
  pub number_is : t.number ≡ o.number
  -- wherever all that it was told is so, its statements were told what they are told alone
  pub told : (db : Database) → IsTruthful db t → IsToldAlone o db

abbrev pub names_of : List Saved → List (List ℕ)
names_of saved = map (λ (s : Saved). s.name) saved

abbrev pub marked_names : List (List ℕ × ℕ) → List (List ℕ)
marked_names saved = map (λ (p : List ℕ × ℕ). p.0) saved

-- and it saved what the lone one does, and unless the engine is known to be stopped it keeps what that one does
pub record IsAt (stopped : Bool) (o : Unended) (t : Txn) (standing : Standing) : Type 0 where
  pub is : IsOf o t
  pub mode_is : standing.mode ≡ Some o.mode
  pub copy_is : standing.copy ≡ t.objects
  pub names : (db : Database) → IsTruthful db t → names_of (lone o db).1.saved ≡ marked_names standing.saved
  pub fits : IsTrue stopped ⊎ ((db : Database) → IsTruthful db t → Fits t standing db (lone o db).1)
  pub counts : IsTrue stopped ⊎ (length t.kept ≡ standing.kept)
  pub marks : IsTrue stopped ⊎ AreMarks t.kept standing.saved
  pub ready : IsTrue stopped ⊎ IsReadyIn o.mode t
  -- a snapshot keeps nothing
  pub snapshot : IsTrue stopped ⊎ (o.mode ≡ Snapshot → t.kept ≡ [])

-- no transaction is open, unless the engine is known to be stopped
abbrev pub IsOut : Bool → Option Txn → Type 0
IsOut stopped t = (t ≡ None) ⊎ IsTrue stopped

-- definitions are only added
abbrev pub Grows : Schema → Schema → Type 0
Grows one other = (more : Schema) × (other ≡ one ++ more)

-- ---- when a program is right

-- a statement of a session, the session's transaction as it came, the greatest number that was printed before its first step, and
-- the session's copy of the definitions
pub record Job : Type 0 where
  pub statement : StatementTree
  pub before : Option Unended
  pub number : ℕ
  pub copy : Schema

-- the definitions that are known to be the engine's
abbrev pub objects_of : Job → Option Txn → Schema
objects_of j None = j.copy
objects_of j (Some t) = t.objects

-- any statement but COMMIT and ROLLBACK
abbrev pub stays_inside : StatementTree → Bool
stays_inside commit = false
stays_inside (rollback None) = false
stays_inside _ = true

abbrev pub is_begin : StatementTree → Bool
is_begin (begin mode) = true
is_begin _ = false

abbrev pub with_told : Unended → StatementTree → List Reply → Unended
with_told o statement replies = record o { told = o.told ++ (statement, replies) ∷ [] }

abbrev pub new_open : Mode → ℕ → Unended
new_open mode number = record { mode = mode; number = number; told = [] }

-- a statement may end so, while its session has this transaction
pub data IsDone (stopped : Bool) (j : Job) : Option Txn → List Reply → Standing → Type 0 where
  -- the engine refused it, which leaves no trace in the transaction
  passed_inside : (o : Unended) (t : Txn) (standing : Standing) (why : Refusal) → j.before ≡ Some o → IsTrue (is_engines why) → is_deadlock why ≡ false
      → IsAt stopped o t standing → IsDone stopped j (Some t) (reply.Error why ∷ []) standing
  -- the engine refused the transaction that it needs
  passed_outside : (t : Option Txn) (why : Refusal) (copy : Schema) → j.before ≡ None → IsTrue (is_engines why) → IsOut stopped t → Grows copy (objects_of j t)
      → IsDone stopped j t (reply.Error why ∷ []) (outside_with copy)
  told : (o : Unended) (t : Txn) (replies : List Reply) (standing : Standing) → j.before ≡ Some o → stays_inside j.statement ≡ true
      → IsAt stopped (with_told o j.statement replies) t standing → IsDone stopped j (Some t) replies standing
  began : (mode : Mode) (t : Txn) (standing : Standing) → j.before ≡ None → j.statement ≡ begin mode
      → IsAt stopped (new_open mode j.number) t standing → IsDone stopped j (Some t) (begin_reply mode j.number ∷ []) standing

-- a statement outside a transaction is told this and keeps these changes, wherever all that it was told is so
abbrev pub IsLone : StatementTree → Txn → List Reply → List Kept → Database → Type 0
IsLone statement t replies kept db = IsTruthful db t → (replies ≡ (outside statement db).replies) × (kept ≡ (outside statement db).kept)

-- a statement may end so by a step that ends this transaction; one that ends without a commit keeps nothing any more
pub data IsClosed (j : Job) (t : Txn) : Event → Todo → Type 0 where
  commits : (o : Unended) (number : ℕ) (standing : Standing) (copy : Schema) → j.before ≡ Some o → j.statement ≡ commit → IsAt false o t standing → Grows copy t.objects
      → IsClosed j t (Commits number) (says (reply.Commit number ∷ []) (outside_with copy))
  rolls_back : (o : Unended) (copy : Schema) → j.before ≡ Some o → j.statement ≡ rollback None → IsOf o t → t.kept ≡ [] → Grows copy t.objects
      → IsClosed j t Ends (says (reply.Done 0 ∷ []) (outside_with copy))
  loses : (o : Unended) (why : Refusal) (copy : Schema) → j.before ≡ Some o → IsTrue (is_engines why) → IsTrue (is_deadlock why) → IsOf o t → t.kept ≡ [] → Grows copy t.objects
      → IsClosed j t Ends (says (reply.Error why ∷ []) (outside_with copy))
  -- a statement outside a transaction
  is_alone : (number : ℕ) (replies : List Reply) (copy : Schema) → j.before ≡ None → is_begin j.statement ≡ false → t.mode ≡ Serial
      → ((db : Database) → number ≡ next_number (kept_of t) db.number → IsLone j.statement t replies (kept_of t) db) → Grows copy t.objects
      → IsClosed j t (Commits number) (says replies (outside_with copy))
  is_refused : (replies : List Reply) (copy : Schema) → j.before ≡ None → is_begin j.statement ≡ false → t.mode ≡ Serial
      → ((db : Database) → IsLone j.statement t replies [] db) → t.kept ≡ [] → Grows copy t.objects
      → IsClosed j t Ends (says replies (outside_with copy))
  is_passed : (why : Refusal) (copy : Schema) → j.before ≡ None → IsTrue (is_engines why) → t.kept ≡ [] → Grows copy t.objects
      → IsClosed j t Ends (says (reply.Error why ∷ []) (outside_with copy))

-- a CREATE statement, which needs no transaction
pub data IsCreated (j : Job) : Event → Todo → Type 0 where
  creates : (number : ℕ) → j.before ≡ None → is_begin j.statement ≡ false
      → IsCreated j (Creates j.statement number) (says (reply.Done 0 ∷ reply.Commit number ∷ []) (outside_with j.copy))
  denies : (why : Refusal) → j.before ≡ None → is_begin j.statement ≡ false
      → IsCreated j (Denies j.statement why) (says (reply.Error why ∷ []) (outside_with j.copy))

abbrev pub Closes : Job → Option Txn → Event → Todo → Type 0
Closes j None e next = IsCreated j e next
Closes j (Some t) e next = IsClosed j t e next

abbrev pub next_txn : Option Txn → Event → Option Txn
next_txn None e = None
next_txn (Some t) e = txn_after t e

-- What has to be so after a step: the program ends by it, or stands so and goes on. A blocked step is done again, and a pay once
-- there is the row.
abbrev pub Proceeds : Job → Option Txn → Event → Todo → Type 0 → Type 0
Proceeds j t (Waits sessions) next more = Unit {0}
Proceeds j t LacksRow next more = Unit {0}
Proceeds j t (Commits number) next more = Closes j t (Commits number) next
Proceeds j t Ends next more = Closes j t Ends next
Proceeds j t (Creates statement number) next more = Closes j t (Creates statement number) next
Proceeds j t (Denies statement why) next more = Closes j t (Denies statement why) next
Proceeds j t (Begins mode number defs) next more = ⊥
Proceeds j t e next more = more

-- What may come of an act: a stopped engine only says so, Defs tells the definitions, and taking back tells how many steps are left.
abbrev pub IsKnown : Option Txn → Event → Type 0
IsKnown None e = Unit {0}
IsKnown (Some t) (Learns objects) = objects ≡ t.objects
IsKnown (Some t) e = Unit {0}

pub record MayCome (stopped : Bool) (t : Option Txn) (a : Act) (said : Answer) : Type 0 where
  pub can : CanCome a (event a said)
  pub stop : IsTrue stopped → IsTrue (is_stop (event a said))
  pub known : IsKnown t (event a said)

-- the program of a statement that has begun, where the engine may be known to be stopped
abbrev pub Serves : Bool → Job → Option Txn → Todo → Type 0
Serves stopped j t (says replies standing) = IsDone stopped j t replies standing
Serves stopped j t (asks a f) =
    (IsTrue stopped ⊎ MayWant t a)
    × ((said : Answer) (memory : Bool) → MayCome stopped t a said
    → Proceeds j t (event a said) (f said memory) (Serves (stopped || is_stop (event a said)) j (next_txn t (event a said)) (f said memory)))
Serves stopped j t (ghosts f) =
    (IsTrue stopped ⊎ MayWant t act.Pay)
    × ((said : Answer) (memory : Bool) → MayCome stopped t act.Pay said
    → Proceeds j t (event act.Pay said) (f said memory) (Serves (stopped || is_stop (event act.Pay said)) j (next_txn t (event act.Pay said)) (f said memory)))

-- a transaction begins with the definitions, of which the session had a copy
abbrev pub BeginsSo : Job → Event → Bool → Option Txn → (Bool → Option Txn → Type 0) → Type 0
BeginsSo j (Begins mode number defs) stopped (Some t) More = ⊥
BeginsSo j (Begins mode number defs) stopped None More =
    number ≡ j.number → (objects : Schema) → Grows j.copy objects → defs ≡ length objects → More stopped (Some (new_txn mode number objects))
BeginsSo j e stopped t More = More (stopped || is_stop e) t

-- its first step opens a transaction
abbrev pub OpensFirst : Bool → Job → Option Txn → Todo → Type 0
OpensFirst stopped j t (asks (act.Begin mode) f) =
    (IsTrue stopped ⊎ MayWant t (act.Begin mode))
    × ((said : Answer) (memory : Bool) → MayCome stopped t (act.Begin mode) said
    → BeginsSo j (event (act.Begin mode) said) stopped t (λ stopped' t'. Serves stopped' j t' (f said memory)))
OpensFirst stopped j t todo = ⊥

-- the program of a statement that has not begun
abbrev pub Starts : Bool → Job → Option Txn → Todo → Type 0
Starts stopped j t todo = Serves stopped j t todo ⊎ OpensFirst stopped j t todo

-- ---- the programs of all statements

-- how a statement of a session that stands so is refused by mode and savepoints, or its program
pub record Programs : Type 0 where
  pub refuses : Standing → StatementTree → Option Refusal
  pub start : Standing → StatementTree → Todo

pub record ProgramLaws (programs : Programs) : Type 0 where
  pub refuses_outside : (copy : Schema) (statement : StatementTree) → programs.refuses (outside_with copy) statement ≡ refused_outside statement
  pub refuses_inside : (standing : Standing) (mode : Mode) (saved : List Saved) (statement : StatementTree) → standing.mode ≡ Some mode
      → names_of saved ≡ marked_names standing.saved → programs.refuses standing statement ≡ refused_inside mode saved statement
  pub starts_outside : (stopped : Bool) (t : Option Txn) (copy : Schema) (statement : StatementTree) (number : ℕ) → IsOut stopped t → Grows copy (objects_of (record { statement = statement; before = None; number = number; copy = copy }) t)
      → refused_outside statement ≡ None
      → Starts stopped (record { statement = statement; before = None; number = number; copy = copy }) t (programs.start (outside_with copy) statement)
  pub starts_inside : (stopped : Bool) (o : Unended) (t : Txn) (standing : Standing) (statement : StatementTree) (number : ℕ) → IsAt stopped o t standing
      → programs.refuses standing statement ≡ None
      → Starts stopped (record { statement = statement; before = Some o; number = number; copy = standing.copy }) (Some t) (programs.start standing statement)
