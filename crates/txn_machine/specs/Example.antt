-- No clause of `run` rests on this module: it serves contracts between crates.
--
-- Runs that the step relation allows, and answers that it refuses, of a shop's sales and a view of them.
use Rattle.std.specs.Prelude.{ℕ, zero, suc, ◌+◌, ◌-◌, ◌^◌, pos, List, [], ◌∷◌, replicate, Some, None}
use Rattle.std.specs.FinMap.{empty}
use Rattle.iv_types.specs.declared.statement.Mode.TheVariants.{Serial, Snapshot}
use Rattle.iv_types.specs.declared.lock.LockMode.TheVariants.{Share, Exclusive}
use Rattle.iv_types.specs.declared.lock.GroupDelta.{GroupDelta}
use Rattle.iv_types.specs.declared.session.Cycle.{Cycle}
use Rattle.iv_types.specs.declared.session.Sessions.{Sessions}
use Rattle.iv_types.specs.declared.value.Value.TheVariants.{Number}
use Rattle.iv_types.specs.declared.value.Interval.{Interval}
use Rattle.iv_types.specs.Encoding.{key_bytes}
use Rattle.iv_types.specs.Intervals.{point}
use Rattle.iv_meaning.specs.Schema.{group_kinds}
use Rattle.iv_meaning.specs.Database.{Row, key_of}
use Rattle.iv_meaning.specs.Waits.{nobody}
pub use Rattle.iv_meaning.specs.SerialExample.{sale, by_shop, shop_database}
use Rattle.iv_types.specs.declared.refusal.EngineRefusal.TheVariants as refusal
use Rattle.txn_machine.specs.Acts as act
use Rattle.txn_machine.specs.Acts.{Act}
use Rattle.txn_machine.specs.Answers as answer
use Rattle.txn_machine.specs.Answers.{Answer}
use Rattle.txn_machine.specs.Deltas.{contribution, negated}
use Rattle.txn_machine.specs.Store.{opened}
use Rattle.txn_machine.specs.Log.{unlimited, Opening}
use Rattle.txn_machine.specs.State.{State, opened_state}
use Rattle.txn_machine.specs.Steps.{Did, Run, Step}
use Rattle.txn_machine.specs.Laws.{IsOpened}

-- it is one to begin from
abbrev pub ShopOpened : Type 0
ShopOpened = IsOpened shop_database empty

-- these steps may come one after another, from the shop as it is opened
abbrev pub MayRun : List Did → Type 0
MayRun steps = (after : State) × Run (opened_state unlimited (opened shop_database empty)) steps after

-- ---- what sessions do

abbrev pub did : ℕ → Act → Answer → Did
did session act said = record { session = session; act = act; said = said }

-- a sale by its number, its shop and its amount
abbrev pub sale_row : ℕ → ℕ → ℕ → Row
sale_row id shop amount = Number (pos id) ∷ Number (pos shop) ∷ Number (pos amount) ∷ []

-- what it adds to the group of its shop
abbrev pub delta_of : Row → GroupDelta
delta_of row = contribution shop_database.schema by_shop (row ∷ [])

-- a row of the view: a shop, its count and its sum
abbrev pub shop_row : ℕ → ℕ → ℕ → Row
shop_row shop count total = Number (pos shop) ∷ Number (pos count) ∷ Number (pos total) ∷ []

-- the key of a shop in the view
abbrev pub shop_point : ℕ → Interval
shop_point shop = point (key_bytes (group_kinds shop_database.schema by_shop) (Number (pos shop) ∷ []))

-- a session begins at this number
abbrev pub starts : ℕ → ℕ → List Did → List Did
starts session number more = did session (act.Begin Serial) (answer.Begun number 2) ∷ more

abbrev pub commits : ℕ → ℕ → List Did → List Did
commits session number more = did session act.Commit (answer.Committed number) ∷ more

-- it puts a sale that was not there
abbrev pub puts : ℕ → Row → List Did → List Did
puts session row more =
    did session (act.Fetch 1 (point (key_of sale row)) Exclusive) (answer.Rows [])
    ∷ did session (act.Put 1 (key_of sale row) (Some row)) (answer.Changed None (delta_of row ∷ []))
    ∷ more

-- and pays, to a row of the view that is stored
abbrev pub inserts : ℕ → Row → List Did → List Did
inserts session row more = puts session row (did session act.Pay (answer.Paid 0) ∷ more)

-- or to one that it makes
abbrev pub makes_and_pays : ℕ → List Did → List Did
makes_and_pays session more = did session act.Pay answer.NeedsGhost ∷ did session act.Ghost answer.Ghosted ∷ did session act.Pay (answer.Paid 0) ∷ more

abbrev pub inserts_first : ℕ → Row → List Did → List Did
inserts_first session row more = puts session row (makes_and_pays session more)

-- it deletes a sale, and pays what that owes
abbrev pub deletes : ℕ → Row → List Did → List Did
deletes session row more =
    did session (act.Fetch 1 (point (key_of sale row)) Exclusive) (answer.Rows (row ∷ []))
    ∷ did session (act.Put 1 (key_of sale row) None) (answer.Changed (Some row) (negated (delta_of row) ∷ []))
    ∷ did session act.Pay (answer.Paid 0)
    ∷ more

abbrev pub all_keys : Interval
all_keys = record { low = []; high = None }

-- it reads these rows of the view
abbrev pub reads : ℕ → Interval → List Row → List Did → List Did
reads session interval rows more = did session (act.Fetch 2 interval Share) (answer.Rows rows) ∷ more

-- it takes back all of so many kept steps, and ends
abbrev pub takes_back : ℕ → ℕ → List Did → List Did
takes_back session zero more = did session act.End answer.Ended ∷ more
takes_back session (suc n) more = did session act.UndoOne (answer.Undone n) ∷ takes_back session n more

-- ---- an insert

-- the sale 1 of shop 7, of 10
abbrev pub one_sale : Row
one_sale = sale_row 1 7 10

-- it makes a new group of the view
abbrev pub InsertRuns : Type 0
InsertRuns = MayRun (starts 1 2 (inserts_first 1 one_sale (commits 1 3 [])))

-- ---- two open inserts into one group

-- the sale 2 of shop 7, of 5
abbrev pub other_sale : Row
other_sale = sale_row 2 7 5

-- two sessions begin, and the first puts the sale 1
abbrev pub one_puts : List Did → List Did
one_puts more = starts 1 2 (starts 2 2 (puts 1 one_sale more))

-- and pays what it owes
abbrev pub one_pays : List Did → List Did
one_pays more = one_puts (makes_and_pays 1 more)

-- the second inserts the sale 2 beside it
abbrev pub both_pay : List Did → List Did
both_pay more = one_pays (inserts 2 other_sale more)

-- and commits
abbrev pub both_insert : List Did → List Did
both_insert more = both_pay (commits 2 3 more)

-- the third session reads the view at this number: the group of shop 7 alone, with this count and sum
abbrev pub shows : ℕ → ℕ → ℕ → List Did
shows number count total = starts 3 number (reads 3 all_keys (shop_row 7 count total ∷ []) (commits 3 number []))

-- the first commits too
abbrev pub BothCommit : Type 0
BothCommit = MayRun (both_insert (commits 1 4 (shows 4 2 15)))

-- or it takes back what it did
abbrev pub one_undoes : List Did → List Did
one_undoes more = both_insert (takes_back 1 2 more)

-- and the other's sale stays
abbrev pub OneRollsBack : Type 0
OneRollsBack = MayRun (one_undoes (shows 3 1 5))

-- ---- a deleted row comes back

-- the only sale of a shop is deleted
abbrev pub one_deletes : List Did → List Did
one_deletes more = starts 1 2 (inserts_first 1 one_sale (commits 1 3 (starts 1 3 (deletes 1 one_sale more))))

-- Its group is not cleaned before that is committed, and it is read again once it is taken back.
abbrev pub DeletedComesBack : Type 0
DeletedComesBack = MayRun (one_deletes (
    did 0 act.Clean (answer.Cleaned 0) ∷ reads 1 all_keys [] (takes_back 1 2 (
    starts 2 3 (reads 2 all_keys (shop_row 7 1 10 ∷ []) (commits 2 3 []))))))

-- ---- bounds cover what undo passes through

-- the greatest number of a sum
abbrev pub most : ℕ
most = 2 ^ 127 - 1

abbrev pub small_sale : Row
small_sale = sale_row 2 7 8

abbrev pub refused_sale : Row
refused_sale = sale_row 3 7 5

-- the first session inserts 8 and deletes it again, and the second puts 5
abbrev pub other_is_near : List Did → List Did
other_is_near more = starts 1 2 (inserts_first 1 (sale_row 1 7 (most - 10)) (commits 1 3 (
    starts 1 3 (inserts 1 small_sale (deletes 1 small_sale (
    starts 2 3 (puts 2 refused_sale more)))))))

-- The first may still take the deletion back, so that the second may not pay before it commits.
abbrev pub UndoIsCovered : Type 0
UndoIsCovered = MayRun (other_is_near (did 2 act.Pay (answer.Refused (refusal.Escrow 1 (pos (most - 10)) (pos (most - 2)))) ∷
    commits 1 4 (takes_back 2 1 (starts 2 4 (inserts 2 refused_sale (commits 2 5 []))))))

-- ---- two readers that insert for each other

-- the second session waits for the first, which waits for the second
abbrev pub two_one : Cycle
two_one = record { length = 2; members = 2 ∷ 1 ∷ replicate 62 0 }

-- two shops of one sale each
abbrev pub two_shops : List Did → List Did
two_shops more = starts 1 2 (inserts_first 1 (sale_row 1 1 10) (inserts_first 1 (sale_row 2 2 20) (commits 1 3 more)))

-- it reads the row of shop 1
abbrev pub reads_first : ℕ → List Did → List Did
reads_first session more = reads session (shop_point 1) (shop_row 1 1 10 ∷ []) more

-- or of shop 2
abbrev pub reads_second : ℕ → List Did → List Did
reads_second session more = reads session (shop_point 2) (shop_row 2 1 20 ∷ []) more

-- each reads a shop's row, and the first puts a sale into the other's
abbrev pub one_crosses : List Did → List Did
one_crosses more = two_shops (starts 1 3 (starts 2 3 (reads_first 1 (reads_second 2 (puts 1 (sale_row 3 2 5) more)))))

-- It waits, and the second, which would insert into the first's, is refused. Once that one took back all, the first goes on.
abbrev pub RingIsRefused : Type 0
RingIsRefused = MayRun (one_crosses (did 1 act.Pay (answer.Blocked (record { bits = 2 })) ∷
    puts 2 (sale_row 4 1 5) (did 2 act.Pay (answer.Refused (refusal.Deadlock two_one)) ∷
    takes_back 2 1 (did 1 act.Pay (answer.Paid 0) ∷ commits 1 4 []))))

-- a third session reads shop 1 too and waits for the first, which waits for the second, and that one puts a sale into shop 1
abbrev pub three_cross : List Did → List Did
three_cross more = two_shops (starts 1 3 (starts 2 3 (starts 3 3 (reads_first 1 (reads_second 2 (reads_first 3 (
    puts 3 (sale_row 5 1 5) (did 3 act.Pay (answer.Blocked (record { bits = 1 })) ∷
    puts 1 (sale_row 3 2 5) (did 1 act.Pay (answer.Blocked (record { bits = 2 })) ∷
    puts 2 (sale_row 4 1 5) more)))))))))

-- the second waits for the third, which waits for the first, which waits for the second
abbrev pub two_three_one : Cycle
two_three_one = record { length = 3; members = 2 ∷ 3 ∷ 1 ∷ replicate 61 0 }

-- ---- a snapshot reads what was committed as it began

abbrev pub ninth_sale : Row
ninth_sale = sale_row 2 9 4

-- two shops, of which a snapshot knows, and what is committed after it began
abbrev pub around_snapshot : List Did → List Did
around_snapshot more = starts 1 2 (inserts_first 1 one_sale (inserts_first 1 ninth_sale (commits 1 3 (
    did 2 (act.Begin Snapshot) (answer.Begun 3 2) ∷
    starts 1 3 (inserts 1 (sale_row 3 7 1) (commits 1 4 (
    starts 1 4 (deletes 1 ninth_sale (commits 1 5 more)))))))))

-- While the snapshot is open the group of the deleted sale is kept for it; then it is cleaned. A third session's sale, which is
-- not committed, is neither seen nor in the way.
abbrev pub SnapshotIsKept : Type 0
SnapshotIsKept = MayRun (around_snapshot (starts 3 5 (inserts 3 (sale_row 4 7 100) (
    did 0 act.Prune answer.Pruned ∷ did 0 act.Clean (answer.Cleaned 0) ∷
    did 2 (act.Peek 2 all_keys) (answer.Rows (shop_row 7 1 10 ∷ shop_row 9 1 4 ∷ [])) ∷ commits 2 3 (
    did 0 act.Prune answer.Pruned ∷ did 0 act.Clean (answer.Cleaned 1) ∷ takes_back 3 2 [])))))

-- ---- a log that fills up

-- a log area with room for one transaction
abbrev pub small : Opening
small = record unlimited { log_limit = Some 50 }

abbrev pub small_state : State
small_state = opened_state small (opened shop_database empty)

-- The first begins, and the second is told what is used, what the first reserved, and what it would need; once the first has ended
-- the second begins. A checkpoint leaves the log as it was opened.
abbrev pub LogFillsUp : Type 0
LogFillsUp = (after : State) × Run small_state (
    did 1 (act.Begin Serial) (answer.Begun 2 2) ∷ did 2 (act.Begin Serial) (answer.Refused (refusal.LogFull 6 40 40)) ∷
    did 1 act.End answer.Ended ∷ did 0 act.Checkpoint (answer.Saved 2) ∷ did 2 (act.Begin Serial) (answer.Begun 2 2) ∷ []) after

-- A disk that fails a checkpoint stops the engine, which says so from then on.
abbrev pub DiskFails : Type 0
DiskFails = (after : State) × Run small_state (
    did 0 act.Checkpoint (answer.Refused refusal.DiskFault) ∷ did 1 act.Defs (answer.Refused (refusal.Stopped 1)) ∷ did 0 act.Clean (answer.Refused (refusal.Stopped 1)) ∷ []) after

-- ---- near misses

abbrev pub Refuses : State → ℕ → Act → Answer → Type 0
Refuses s session a said = (after : State) → Step s session a said after → ⊥

-- At the opened state: Begin tells the number and the definitions as they are, and finds room; nobody commits who did not
-- begin; the catalog is told whole; there is nothing to clean;
-- the engine is not stopped; its log is never full; and a checkpoint tells the number.
pub record NearMisses (s : State) : Type 0 where
  pub wrong_number : Refuses s 1 (act.Begin Serial) (answer.Begun 3 2)
  pub wrong_definitions : Refuses s 1 (act.Begin Serial) (answer.Begun 2 1)
  pub full_history : (kept need : ℕ) → Refuses s 1 (act.Begin Serial) (answer.Refused (refusal.HistoryFull kept need))
  pub never_began : (said : Answer) → Refuses s 1 act.Commit said
  pub no_catalog : Refuses s 1 act.Defs (answer.Defs [])
  pub no_ghost : Refuses s 0 act.Clean (answer.Cleaned 1)
  pub never_stopped : (step : ℕ) → Refuses s 1 act.Defs (answer.Refused (refusal.Stopped step))
  pub full_log : (used reserved need : ℕ) → Refuses s 1 (act.Begin Serial) (answer.Refused (refusal.LogFull used reserved need))
  pub wrong_save : Refuses s 0 act.Checkpoint (answer.Saved 3)

abbrev pub MissesAtFirst : Type 0
MissesAtFirst = NearMisses (opened_state unlimited (opened shop_database empty))

-- While one transaction is open there, a second one does not begin, nor is it told other numbers; and the disk can't fail where
-- nothing is written.
pub record MissesFull (s : State) : Type 0 where
  pub no_room : (number defs : ℕ) → Refuses s 2 (act.Begin Serial) (answer.Begun number defs)
  pub more_used : Refuses s 2 (act.Begin Serial) (answer.Refused (refusal.LogFull 7 40 40))
  pub less_reserved : Refuses s 2 (act.Begin Serial) (answer.Refused (refusal.LogFull 6 0 40))
  pub not_for_snapshots : (used reserved need : ℕ) → Refuses s 2 (act.Begin Snapshot) (answer.Refused (refusal.LogFull used reserved need))
  pub nothing_written : Refuses s 1 act.Commit (answer.Refused refusal.DiskFault)

abbrev pub FullMisses : Type 0
FullMisses = (after : State) × Step small_state 1 (act.Begin Serial) (answer.Begun 2 2) after × MissesFull after

-- steps lead to a state of which this holds
abbrev pub Lead : List Did → (State → Type 0) → Type 0
Lead steps P = (after : State) × Run (opened_state unlimited (opened shop_database empty)) steps after × P after

-- The first session owes a delta: it can't commit, nor add the delta to a row that is not stored, nor does the second see
-- its sale.
pub record MissesOwing (s : State) : Type 0 where
  pub never_commits : (said : Answer) → Refuses s 1 act.Commit said
  pub no_row : (left : ℕ) → Refuses s 1 act.Pay (answer.Paid left)
  pub same_row : (rows : List Row) → Refuses s 2 (act.Fetch 1 (point (key_of sale one_sale)) Exclusive) (answer.Rows rows)

-- It paid: the second can't read the view before it ends, and its row is not cleaned.
pub record MissesPaid (s : State) : Type 0 where
  pub not_read : (rows : List Row) → Refuses s 2 (act.Fetch 2 all_keys Share) (answer.Rows rows)
  pub not_cleaned : Refuses s 0 act.Clean (answer.Cleaned 1)

-- The second paid too: it owes nothing more, and commits as the next number.
pub record MissesBothPaid (s : State) : Type 0 where
  pub nothing_owed : (said : Answer) → Refuses s 2 act.Pay said
  pub wrong_number : Refuses s 2 act.Commit (answer.Committed 4)

-- The first took a pay back: it can't pay again, nor end before it took back all.
pub record MissesUndone (s : State) : Type 0 where
  pub not_again : (said : Answer) → Refuses s 1 act.Pay said
  pub not_all : (said : Answer) → Refuses s 1 act.End said

-- It took back all: the second's sale is not lost by it, and the third reads it.
pub record MissesEnded (s : State) : Type 0 where
  pub not_lost : Refuses s 3 (act.Fetch 2 all_keys Share) (answer.Rows [])

-- The first deleted the only sale: its group is a ghost, which is not listed.
pub record MissesDeleted (s : State) : Type 0 where
  pub not_listed : Refuses s 1 (act.Fetch 2 all_keys Share) (answer.Rows (shop_row 7 0 0 ∷ []))

-- The second can't pay, and is told the bounds as they are before its delta.
pub record MissesNear (s : State) : Type 0 where
  pub not_paid : (left : ℕ) → Refuses s 2 act.Pay (answer.Paid left)
  pub not_after : Refuses s 2 act.Pay (answer.Refused (refusal.Escrow 1 (pos (most - 5)) (pos (most + 3))))

-- The first waits for the second, and for no other.
pub record MissesCrossing (s : State) : Type 0 where
  pub one_too_many : Refuses s 1 act.Pay (answer.Blocked (record { bits = 6 }))
  pub nobody_is : Refuses s 1 act.Pay (answer.Blocked nobody)

-- The second's wait would close two cycles: it is not left waiting, nor is it told the longer one.
pub record MissesRing (s : State) : Type 0 where
  pub not_waiting : (sessions : Sessions) → Refuses s 2 act.Pay (answer.Blocked sessions)
  pub not_longer : Refuses s 2 act.Pay (answer.Refused (refusal.Deadlock two_three_one))

pub record LaterMisses : Type 0 where
  pub owing : Lead (one_puts []) MissesOwing
  pub paid : Lead (one_pays []) MissesPaid
  pub both_paid : Lead (both_pay []) MissesBothPaid
  pub undone : Lead (both_insert (did 1 act.UndoOne (answer.Undone 1) ∷ [])) MissesUndone
  pub ended : Lead (one_undoes (did 3 (act.Begin Serial) (answer.Begun 3 2) ∷ [])) MissesEnded
  pub deleted : Lead (one_deletes []) MissesDeleted
  pub near : Lead (other_is_near []) MissesNear
  pub crossing : Lead (one_crosses []) MissesCrossing
  pub ring : Lead (three_cross []) MissesRing
