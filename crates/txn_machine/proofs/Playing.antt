-- Moves of sessions on a plain state, and tests of whether a move may come: all of it computes.
use Rattle.std.specs.Prelude.{ℕ, suc, ◌+◌, ◌==◌, nat_le, nat_lt, if◌then◌else◌, Bool, true, false, not, ◌&&◌, ◌||◌, List, [], ◌∷◌, ◌++◌, length, replicate, Option, Some, None, is_some, Result, Ok, Err}
use Rattle.std.specs.FinMap.{find, is_sorted}
use Rattle.std.specs.Ordering.{eq_by_cmp}
use Rattle.iv_types.specs.declared.statement.Mode.{Mode}
use Rattle.iv_types.specs.declared.statement.Mode.TheVariants.{Serial, Snapshot}
use Rattle.iv_types.specs.declared.lock.LockMode.{LockMode}
use Rattle.iv_types.specs.declared.lock.LockMode.TheVariants.{Share, Exclusive}
use Rattle.iv_types.specs.declared.lock.GroupDelta.{GroupDelta}
use Rattle.iv_types.specs.declared.lock.Want.{Want}
use Rattle.iv_types.specs.declared.session.Sessions.{Sessions}
use Rattle.iv_types.specs.declared.session.Cycle.{Cycle}
use Rattle.iv_types.specs.declared.value.Interval.{Interval}
use Rattle.iv_types.specs.declared.refusal.Refusal.{Refusal}
use Rattle.iv_types.specs.declared.refusal.EngineRefusal.TheVariants as refusal
use Rattle.iv_types.specs.Replies.{members}
use Rattle.iv_types.specs.Intervals.{point}
use Rattle.iv_types.specs.Printing.{statement_text}
use Rattle.iv_types.specs.Syntax.{StatementTree, create_table, create_index, create_view}
use Rattle.table_laws.specs.Place.{Place, place_cmp}
use Rattle.iv_meaning.specs.Schema.{Object, table, index, view, numbered, group_kinds}
use Rattle.iv_meaning.specs.Database.{Row}
use Rattle.iv_meaning.specs.Statement.{BoundTree, create, Kept, defines}
use Rattle.iv_meaning.specs.History.{Entry}
use Rattle.iv_meaning.specs.Waits.{nobody}
use Rattle.txn_machine.specs.Acts as act
use Rattle.txn_machine.specs.Acts.{Act}
use Rattle.txn_machine.specs.Answers as answer
use Rattle.txn_machine.specs.Answers.{Answer}
use Rattle.txn_machine.specs.Locks.{with_one}
use Rattle.txn_machine.specs.Deltas.{RowChange, columns_of, place_of, negated}
use Rattle.txn_machine.specs.Keeping.{KeptStep, Put, Pay, changes_of, Open, begun}
use Rattle.txn_machine.specs.Stored.{zeros}
use Rattle.txn_machine.specs.Store.{Store, with_txn, least_snapshot, now, locks_of, entry_changes, does, run, notes_before, Effect, Takes, Notes, Loses, Ends, Ghosts, Pays, Writes, Undoes, Opens, Commits, Defines, Cleans, Prunes}
use Rattle.txn_machine.specs.Ghosts.{the_views}
use Rattle.txn_machine.specs.Counts.{fetch_size, put_size, entry_size, kept_change_size, definition_size}
use Rattle.txn_machine.specs.May.{IsWritten}
use Rattle.txn_machine.specs.State.{State, counted}
use Rattle.txn_machine.specs.Steps.{bound_by, Did, group_want, first_want, put_wants, log_after}
use Rattle.txn_machine.specs.Example.{did}
use Rattle.txn_machine.proofs.PlainStates.{Plain, state_of, set_in, schema, base, rows_after, objects_after, number_of, txn, found_in, seen, shown_in, are_shown, owed_in, add_in, adds_in, made_in, is_made, is_session, each_to, each_of, some_of, all_below, is_serial, is_nil, in_way, is_free, goes_on, is_ready, fits_txn, fits_history, fits_under, differ, account_in, inf_in, sup_in, allows, holds_in, history_by, is_cleanable}

-- ---- moves

-- what a session does, and how it is answered
pub data Move : Type 0 where
  begins : Mode → Move
  -- gets a copy of the definitions
  learns : Move
  -- reads an interval of a table or of an index
  scans : (number : ℕ) → Interval → LockMode → Move
  -- reads a view, in which there are these groups
  views : (number : ℕ) → Interval → List Row → Move
  puts : (number : ℕ) → List ℕ → Option Row → Move
  -- its pay needs a row
  lacks : Move
  makes : Move
  pays : Move
  undoes : Move
  ends : Move
  -- with changes
  commits : Move
  -- without
  leaves : Move
  -- this column of the delta's group does not allow it
  refuses : ℕ → Move
  -- it waits for these
  blocks : Sessions → Move
  -- its wait, for the first of these, would close a cycle with this session, which waits for the second
  deadlocks : ℕ → Sessions → Sessions → Move
  -- a read of an index waits for these, or a change does
  reads_later : ℕ → Interval → LockMode → Sessions → Move
  puts_later : ℕ → List ℕ → Option Row → Sessions → Move
  -- forgets what it waits for
  cancels : Move
  -- reads a table or a view as of its number
  peeks : ℕ → Interval → Move
  -- a CREATE statement makes its object
  creates : (statement : StatementTree) → IsWritten statement → Move
  -- it is refused by what is defined
  denies : (statement : StatementTree) → IsWritten statement → Move
  -- or since this session has a transaction
  finds_busy : (statement : StatementTree) → IsWritten statement → ℕ → Move
  -- there is nothing to clean
  cleans_none : Move
  cleans : Place → Move
  prunes : Move
  -- saves what is stored
  saves : Move

-- reads a row of a table to change it
abbrev pub fetches : ℕ → List ℕ → Move
fetches number key = scans number (point key) Exclusive

abbrev pub act_of : Move → Act
act_of (begins mode) = act.Begin mode
act_of learns = act.Defs
act_of (scans number interval lock) = act.Fetch number interval lock
act_of (views number interval groups) = act.Fetch number interval Share
act_of (puts number key new) = act.Put number key new
act_of lacks = act.Pay
act_of makes = act.Ghost
act_of pays = act.Pay
act_of undoes = act.UndoOne
act_of ends = act.End
act_of commits = act.Commit
act_of leaves = act.Commit
act_of (refuses column) = act.Pay
act_of (blocks sessions) = act.Pay
act_of (deadlocks other mine theirs) = act.Pay
act_of (reads_later number interval lock sessions) = act.Fetch number interval lock
act_of (puts_later number key new sessions) = act.Put number key new
act_of cancels = act.Cancel
act_of (peeks number interval) = act.Peek number interval
act_of (creates statement written) = act.Schema statement
act_of (denies statement written) = act.Schema statement
act_of (finds_busy statement written busy) = act.Schema statement
act_of cleans_none = act.Clean
act_of (cleans place) = act.Clean
act_of prunes = act.Prune
act_of saves = act.Checkpoint

-- ---- how moves are answered

abbrev pub read_want : ℕ → Interval → LockMode → List Want
read_want number interval lock = record { index = number; interval = interval; mode = lock } ∷ []

abbrev pub change_in : Plain → ℕ → List ℕ → Option Row → RowChange
change_in p number key new = record { key = (number, key); before = find place_cmp (number, key) p.rows; after = new }

abbrev pub put_wants_in : Plain → ℕ → List ℕ → Option Row → List Want
put_wants_in p number key new = put_wants (schema p) (numbered (schema p) number) (change_in p number key new)

abbrev pub put_owed_in : Plain → ℕ → List ℕ → Option Row → List GroupDelta
put_owed_in p number key new = owed_in (schema p) p.rows (number, key) new

-- how many numbers a row of a view has: its count and its sums
abbrev pub width_of : Option Object → ℕ
width_of (Some (view v)) = suc (length v.sums)
width_of _ = 0

abbrev pub view_rows_of : Plain → ℕ → Interval → List Row → List Row
view_rows_of p number interval groups = shown_in (width_of (numbered (schema p) number)) (seen p number interval) groups

abbrev pub rest : {X : Type 0} → List X → List X
rest [] = []
rest (x ∷ xs) = xs

-- the number of a transaction without changes
abbrev pub number_left : Plain → ℕ → ℕ
number_left p i = elim (txn p i).mode [ Serial ↦ number_of p | Snapshot ↦ (txn p i).number ]

-- the bounds of a column of the first owed delta's group
abbrev pub bounds_in : Plain → List GroupDelta → ℕ → Answer
bounds_in p [] column = answer.Ended
bounds_in p (d ∷ ds) column = answer.Refused (refusal.Escrow column (inf_in (account_in p (place_of d) column)) (sup_in (account_in p (place_of d) column)))

-- two sessions that wait for each other
abbrev pub ring_of : ℕ → ℕ → Cycle
ring_of i other = record { length = 2; members = i ∷ other ∷ replicate 62 0 }

-- what was there as the session's snapshot began
abbrev pub peeked : Plain → ℕ → ℕ → Interval → List Row
peeked p n number interval = found_in (objects_after (history_by p n) p.objects) (rows_after (history_by p n) []) number interval

-- a CREATE statement as it is bound
abbrev pub bound_in : Plain → StatementTree → Result BoundTree Refusal
bound_in p statement = bound_by (schema p) statement

abbrev pub denied_by : Result BoundTree Refusal → Answer
denied_by (Err why) = answer.Denied why
denied_by (Ok bound) = answer.Ended

abbrev pub said_of : Plain → ℕ → Move → Answer
said_of p i (begins mode) = answer.Begun (number_of p) (length (schema p))
said_of p i learns = answer.Defs (schema p)
said_of p i (scans number interval lock) = answer.Rows (found_in (schema p) p.rows number interval)
said_of p i (views number interval groups) = answer.Rows (view_rows_of p number interval groups)
said_of p i (puts number key new) = answer.Changed (find place_cmp (number, key) p.rows) (put_owed_in p number key new)
said_of p i lacks = answer.NeedsGhost
said_of p i makes = answer.Ghosted
said_of p i pays = answer.Paid (length (rest (txn p i).owed))
said_of p i undoes = answer.Undone (length (rest (txn p i).kept))
said_of p i ends = answer.Ended
said_of p i commits = answer.Committed (number_of p + 1)
said_of p i leaves = answer.Committed (number_left p i)
said_of p i (refuses column) = bounds_in p (txn p i).owed column
said_of p i (blocks sessions) = answer.Blocked sessions
said_of p i (deadlocks other mine theirs) = answer.Refused (refusal.Deadlock (ring_of i other))
said_of p i (reads_later number interval lock sessions) = answer.Blocked sessions
said_of p i (puts_later number key new sessions) = answer.Blocked sessions
said_of p i cancels = answer.Cancelled
said_of p i (peeks number interval) = answer.Rows (peeked p (txn p i).number number interval)
said_of p i (creates statement written) = answer.Committed (number_of p + 1)
said_of p i (denies statement written) = denied_by (bound_in p statement)
said_of p i (finds_busy statement written busy) = answer.Refused (refusal.SchemaBusy busy)
said_of p i cleans_none = answer.Cleaned 0
said_of p i (cleans place) = answer.Cleaned 1
said_of p i prunes = answer.Pruned
said_of p i saves = answer.Saved (number_of p)

-- ---- tests of moves

-- it owes, and nothing that is coming back
abbrev pub owes : Plain → ℕ → Bool
owes p i = goes_on p i && (is_serial (txn p i).mode && ((txn p i).back == 0))

abbrev pub lacks_first : Plain → ℕ → List GroupDelta → Bool
lacks_first p i [] = false
lacks_first p i (d ∷ ds) = is_free p i (group_want d ∷ []) && not (is_some (find place_cmp (place_of d) p.view))

abbrev pub pays_first : Plain → ℕ → List GroupDelta → Bool
pays_first p i [] = false
pays_first p i (d ∷ ds) = is_free p i (group_want d ∷ []) && (is_some (find place_cmp (place_of d) p.view) && all_below (length (columns_of d)) (allows p i d))

abbrev pub makes_first : Plain → ℕ → List GroupDelta → Bool
makes_first p i [] = false
makes_first p i (d ∷ ds) = not (is_some (find place_cmp (place_of d) p.view)) && holds_in (txn p i).locks (place_of d)

abbrev pub refuses_first : Plain → ℕ → List GroupDelta → ℕ → Bool
refuses_first p i [] column = false
refuses_first p i (d ∷ ds) column =
    is_free p i (group_want d ∷ []) && (is_some (find place_cmp (place_of d) p.view) && (nat_lt column (length (columns_of d)) && (not (allows p i d column) && all_below column (allows p i d))))

-- exactly these are in the way
abbrev pub are_exact : (ℕ → List Want) → ℕ → List Want → Sessions → Bool
are_exact locks i wants sessions =
    each_of (λ j. is_session j && in_way locks i wants j) (members sessions) && each_to 64 (λ j. not (in_way locks i wants j) || some_of (λ m. m == j) (members sessions))

-- exactly these are in the way, and none of them waits
abbrev pub waits_for : Plain → ℕ → List Want → Sessions → Bool
waits_for p i wants sessions =
    are_exact (locks_of p.of.store) i wants sessions && (not (is_nil (members sessions)) && each_of (λ j. is_nil (p.of.waiting j)) (members sessions))

-- what each session would wait for
abbrev pub waits_with : Plain → ℕ → List Want → ℕ → List Want
waits_with p i wants = with_one p.of.waiting i wants

-- whom the sessions of the cycle wait for; no other session waits
abbrev pub waits_of : ℕ → ℕ → Sessions → Sessions → ℕ → Sessions
waits_of i other mine theirs s = if s == i then mine else if s == other then theirs else nobody

-- they wait in a ring of two, and each waits for nobody else
abbrev pub are_rung : Plain → ℕ → List Want → ℕ → Sessions → Sessions → Bool
are_rung p i wants other mine theirs =
    each_to 64 (λ s. are_exact (locks_of p.of.store) s (waits_with p i wants s) (waits_of i other mine theirs s))
    && (not (other == i) && (each_of (λ m. m == other) (members (waits_of i other mine theirs i))
    && (some_of (λ m. m == other) (members (waits_of i other mine theirs i)) && some_of (λ m. m == i) (members (waits_of i other mine theirs other)))))

-- a table or an index may be read by either lock, and a view in Share
abbrev pub may_lock : LockMode → Option Object → Bool
may_lock Share o = is_some o
may_lock Exclusive (Some (table t)) = true
may_lock Exclusive (Some (index i)) = true
may_lock _ _ = false

abbrev pub may_read : Plain → ℕ → LockMode → Bool
may_read p number lock = may_lock lock (numbered (schema p) number)

-- it is no view
abbrev pub is_scanned : Option Object → Bool
is_scanned (Some (view v)) = false
is_scanned o = true

-- the stored rows that are read of it are those of these groups
abbrev pub lists_in : Plain → ℕ → Interval → List Row → Option Object → Bool
lists_in p number interval groups (Some (view v)) = (number == v.number) && are_shown (group_kinds (schema p) v) (seen p number interval) groups
lists_in p number interval groups o = false

abbrev pub may_put_in : Plain → ℕ → List ℕ → Option Row → Option Object → Bool
may_put_in p number key new (Some (table t)) = fits_under t key new && differ (find place_cmp (number, key) p.rows) new
may_put_in p number key new o = false

abbrev pub may_put : Plain → ℕ → List ℕ → Option Row → Bool
may_put p number key new = may_put_in p number key new (numbered (schema p) number)

abbrev pub may_peek : Option Object → Bool
may_peek (Some (table t)) = true
may_peek (Some (view v)) = true
may_peek _ = false

abbrev pub is_create : StatementTree → Bool
is_create (create_table name columns primary) = true
is_create (create_index name of columns) = true
is_create (create_view name query) = true
is_create _ = false

-- a session without a transaction may give it
abbrev pub may_create : Plain → ℕ → StatementTree → Bool
may_create p i statement = is_session i && (not (is_some (p.of.store.open_of i)) && is_create statement)

abbrev pub none_open : Plain → Bool
none_open p = each_to 64 (λ j. not (is_some (p.of.store.open_of j)))

-- it is the first that has one
abbrev pub is_busy : Plain → ℕ → Bool
is_busy p j = is_session j && (is_some (p.of.store.open_of j) && all_below j (λ k. not (is_session k) || not (is_some (p.of.store.open_of k))))

abbrev pub makes_it : Plain → Result BoundTree Refusal → Bool
makes_it p (Ok (create o)) = is_made (schema p) (base p) o
makes_it p _ = false

abbrev pub is_refused : Result BoundTree Refusal → Bool
is_refused (Err why) = true
is_refused (Ok bound) = false

abbrev pub is_creation : Result BoundTree Refusal → Bool
is_creation (Ok (create o)) = true
is_creation _ = false

abbrev pub test : Plain → ℕ → Move → Bool
test p i (begins Serial) = is_session i && (not (is_some (p.of.store.open_of i)) && fits_history p entry_size)
test p i (begins Snapshot) = is_session i && not (is_some (p.of.store.open_of i))
test p i learns = is_session i
test p i (scans number interval lock) =
    is_ready p i && (may_read p number lock && (is_scanned (numbered (schema p) number)
    && (is_free p i (read_want number interval lock) && fits_txn p i (fetch_size (schema p) number interval (found_in (schema p) p.rows number interval)))))
test p i (views number interval groups) =
    is_ready p i && (may_read p number Share && (is_free p i (read_want number interval Share)
    && (lists_in p number interval groups (numbered (schema p) number) && fits_txn p i (fetch_size (schema p) number interval (view_rows_of p number interval groups)))))
test p i (puts number key new) =
    is_ready p i && (is_free p i (put_wants_in p number key new) && (may_put p number key new
    && (fits_txn p i (put_size (schema p) (change_in p number key new) (put_owed_in p number key new)) && fits_history p (kept_change_size (schema p) (change_in p number key new)))))
test p i lacks = owes p i && lacks_first p i (txn p i).owed
test p i makes = owes p i && makes_first p i (txn p i).owed
test p i pays = owes p i && pays_first p i (txn p i).owed
test p i undoes = is_session i && (is_some (p.of.store.open_of i) && not (is_nil (txn p i).kept))
test p i ends = is_session i && (is_some (p.of.store.open_of i) && is_nil (txn p i).kept)
test p i commits = is_ready p i && not (is_nil (changes_of (txn p i).kept))
test p i leaves = goes_on p i && (is_nil (txn p i).owed && is_nil (changes_of (txn p i).kept))
test p i (refuses column) = owes p i && refuses_first p i (txn p i).owed column
test p i (blocks sessions) = owes p i && (not (is_nil (txn p i).owed) && waits_for p i (first_want (txn p i).owed) sessions)
test p i (reads_later number interval lock sessions) = is_ready p i && (may_read p number lock && waits_for p i (read_want number interval lock) sessions)
test p i (puts_later number key new sessions) = is_ready p i && (may_put p number key new && waits_for p i (put_wants_in p number key new) sessions)
test p i cancels = is_session i
test p i (deadlocks other mine theirs) = owes p i && (not (is_nil (txn p i).owed) && are_rung p i (first_want (txn p i).owed) other mine theirs)
test p i (peeks number interval) = goes_on p i && (not (is_serial (txn p i).mode) && may_peek (numbered (schema p) number))
test p i (creates statement written) = may_create p i statement && (none_open p && (makes_it p (bound_in p statement) && fits_history p (entry_size + definition_size statement)))
test p i (denies statement written) = may_create p i statement && is_refused (bound_in p statement)
test p i (finds_busy statement written busy) = may_create p i statement && (is_creation (bound_in p statement) && is_busy p busy)
test p i cleans_none = (i == 0) && each_of (λ e. not (is_cleanable p e.0)) p.view
test p i (cleans place) =
    (i == 0) && (is_some (find place_cmp place p.view) && (is_cleanable p place && each_of (λ e. not (is_cleanable p e.0) || eq_by_cmp place_cmp place e.0) p.view))
test p i prunes = i == 0
test p i saves = i == 0

-- ---- what moves leave

abbrev pub left_as : Plain → ℕ → Act → Answer → Store → List Want → List Effect → State
left_as p i a said store waits es = counted p.of i a said store waits p.of.definitions (log_after (state_of p) i a said es)

-- effects that leave the tables
abbrev pub left_by : Plain → ℕ → Act → Answer → List Effect → Plain
left_by p i a said es = record p { of = left_as p i a said (run the_views p.of.store i es) [] es }

-- it waits
abbrev pub left_waiting : Plain → ℕ → Act → Sessions → List Want → Plain
left_waiting p i a sessions wants = record p { of = left_as p i a (answer.Blocked sessions) p.of.store wants [] }

abbrev pub after_lacks : Plain → ℕ → List GroupDelta → Plain
after_lacks p i owed = left_by p i act.Pay answer.NeedsGhost (Takes (first_want owed) ∷ [])

abbrev pub after_makes : Plain → ℕ → List GroupDelta → Plain
after_makes p i [] = p
after_makes p i (d ∷ ds) = record p { view = set_in (place_of d) (Some (zeros (length (columns_of d)))) p.view; of = left_as p i act.Ghost answer.Ghosted p.of.store [] (Ghosts (place_of d) (length (columns_of d)) ∷ []) }

-- with these locks
abbrev pub locked : Store → ℕ → List Want → Store
locked s i wants = does the_views s i (Takes wants)

abbrev pub paid_txn : Open → GroupDelta → List GroupDelta → Open
paid_txn t d ds = record t { kept = Pay d ∷ t.kept; owed = ds }

abbrev pub after_pays : Plain → ℕ → List GroupDelta → Plain
after_pays p i [] = p
after_pays p i (d ∷ ds) =
    let s : Store = locked p.of.store i (group_want d ∷ []) in
    record p { view = add_in d p.view; of = left_as p i act.Pay (answer.Paid (length ds)) (with_txn s i (Some (paid_txn (now s i) d ds))) [] (Takes (first_want (txn p i).owed) ∷ Pays ∷ []) }

abbrev pub after_puts : Plain → ℕ → ℕ → List ℕ → Option Row → List Want → List GroupDelta → Plain
after_puts p i number key new wants ds =
    let s : Store = locked p.of.store i wants in
    let c : RowChange = change_in p number key new in
    record p {
      rows = set_in (number, key) new p.rows;
      of = left_as p i (act.Put number key new) (answer.Changed c.before ds) (with_txn s i (Some (record (now s i) { kept = Put c ds ∷ (now s i).kept; owed = ds; back = 0 }))) [] (Takes wants ∷ Writes (number, key) new ∷ []);
    }

abbrev pub after_undoes : Plain → ℕ → List KeptStep → Plain
after_undoes p i [] = p
after_undoes p i (Put c ds ∷ ks) = record p {
  rows = set_in c.key c.before p.rows;
  of = left_as p i act.UndoOne (answer.Undone (length ks)) (with_txn p.of.store i (Some (record (txn p i) { kept = ks; owed = []; back = 0; notes = notes_before (length ks) (txn p i).notes }))) [] (Undoes ∷ []);
}
after_undoes p i (Pay d ∷ ks) = record p {
  view = add_in (negated d) p.view;
  of = left_as p i act.UndoOne (answer.Undone (length ks)) (with_txn p.of.store i (Some (record (txn p i) { kept = ks; owed = d ∷ (txn p i).owed; back = (txn p i).back + 1 }))) [] (Undoes ∷ []);
}

-- the rows that were read are noted
abbrev pub after_reads : Plain → ℕ → ℕ → Interval → LockMode → List Row → Plain
after_reads p i number interval lock rows =
    left_by p i (act.Fetch number interval lock) (answer.Rows rows) (Takes (read_want number interval lock) ∷ Notes (record { index = number; interval = interval; rows = rows; kept = length (txn p i).kept }) ∷ [])

abbrev pub next_entry : Plain → ℕ → List Kept → Entry
next_entry p i kept = record { number = number_of p + 1; session = i; kept = kept }

abbrev pub after_creates : Plain → ℕ → StatementTree → Result BoundTree Refusal → Plain
after_creates p i statement (Ok (create o)) = record p {
  history = p.history ++ next_entry p i (defines o ∷ []) ∷ [];
  view = adds_in (made_in (schema p ++ o ∷ []) p.rows o) p.view;
  of = counted p.of i (act.Schema statement) (answer.Committed (number_of p + 1)) p.of.store [] (p.of.definitions ++ statement_text statement ∷ [])
      (log_after (state_of p) i (act.Schema statement) (answer.Committed (number_of p + 1)) (Defines o ∷ []));
}
after_creates p i statement bound = p

abbrev pub after : Plain → ℕ → Move → Plain
after p i (begins mode) = record p { of = left_as p i (act.Begin mode) (said_of p i (begins mode)) (with_txn p.of.store i (Some (begun mode (number_of p)))) [] (Opens mode ∷ []) }
after p i learns = left_by p i act.Defs (answer.Defs (schema p)) []
after p i (scans number interval lock) = after_reads p i number interval lock (found_in (schema p) p.rows number interval)
after p i (views number interval groups) = after_reads p i number interval Share (view_rows_of p number interval groups)
after p i (puts number key new) = after_puts p i number key new (put_wants_in p number key new) (put_owed_in p number key new)
after p i lacks = after_lacks p i (txn p i).owed
after p i makes = after_makes p i (txn p i).owed
after p i pays = after_pays p i (txn p i).owed
after p i undoes = after_undoes p i (txn p i).kept
after p i ends = left_by p i act.End answer.Ended (Ends ∷ [])
after p i commits = record p {
  history = p.history ++ next_entry p i (entry_changes (txn p i).kept) ∷ [];
  of = left_as p i act.Commit (answer.Committed (number_of p + 1)) (with_txn p.of.store i None) [] (Commits ∷ []);
}
after p i leaves = left_by p i act.Commit (answer.Committed (number_left p i)) (Ends ∷ [])
after p i (refuses column) = left_by p i act.Pay (bounds_in p (txn p i).owed column) (Takes (first_want (txn p i).owed) ∷ [])
after p i (blocks sessions) = left_waiting p i act.Pay sessions (first_want (txn p i).owed)
after p i (reads_later number interval lock sessions) = left_waiting p i (act.Fetch number interval lock) sessions (read_want number interval lock)
after p i (puts_later number key new sessions) = left_waiting p i (act.Put number key new) sessions (put_wants_in p number key new)
after p i cancels = left_by p i act.Cancel answer.Cancelled []
after p i (deadlocks other mine theirs) = left_by p i act.Pay (answer.Refused (refusal.Deadlock (ring_of i other))) (Loses ∷ [])
after p i (peeks number interval) = left_by p i (act.Peek number interval) (said_of p i (peeks number interval)) []
after p i (creates statement written) = after_creates p i statement (bound_in p statement)
after p i (denies statement written) = left_by p i (act.Schema statement) (denied_by (bound_in p statement)) []
after p i (finds_busy statement written busy) = left_by p i (act.Schema statement) (answer.Refused (refusal.SchemaBusy busy)) []
after p i cleans_none = left_by p i act.Clean (answer.Cleaned 0) []
after p i (cleans place) = record p { view = set_in place None p.view; of = left_as p i act.Clean (answer.Cleaned 1) p.of.store [] (Cleans place ∷ []) }
after p i prunes = record p { of = left_as p i act.Prune answer.Pruned (record p.of.store { mark = least_snapshot p.of.store.open_of 64 (number_of p) }) [] (Prunes ∷ []) }
after p i saves = record p { of = counted (state_of p) i act.Checkpoint (answer.Saved (number_of p)) (state_of p).store [] p.of.definitions (log_after (state_of p) i act.Checkpoint (answer.Saved (number_of p)) []) }

-- ---- moves one after the other

-- its tables are in order, and it is neither stopped nor limited
abbrev pub is_in_order : Plain → Bool
is_in_order p = is_sorted place_cmp p.rows && (is_sorted place_cmp p.view && (not (is_some p.of.stop) && (not (is_some p.of.opening.log_limit) && not (is_some p.of.opening.data_limit))))

-- the session and its move
pub record Turn : Type 0 where
  pub session : ℕ
  pub move : Move

abbrev pub fine : Plain → List Turn → Bool
fine p [] = true
fine p (t ∷ ts) = is_in_order p && (nat_le t.session 64 && (test p t.session t.move && fine (after p t.session t.move) ts))

abbrev pub told : Plain → List Turn → List Did
told p [] = []
told p (t ∷ ts) = did t.session (act_of t.move) (said_of p t.session t.move) ∷ told (after p t.session t.move) ts

abbrev pub played : Plain → List Turn → Plain
played p [] = p
played p (t ∷ ts) = played (after p t.session t.move) ts
