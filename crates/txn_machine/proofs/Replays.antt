-- The example's runs, played move by move.
use Rattle.std.specs.Prelude.{ℕ, zero, suc, ◌-◌, pos, List, [], ◌∷◌, Some, None}
use Rattle.iv_types.specs.declared.statement.Mode.TheVariants.{Serial, Snapshot}
use Rattle.iv_types.specs.declared.value.Value.TheVariants.{Number}
use Rattle.iv_meaning.specs.Database.{Row, key_of}
use Rattle.txn_machine.specs.Deltas.{place_of}
use Rattle.txn_machine.specs.Example.{sale, one_sale, other_sale, all_keys, sale_row, delta_of, shop_point, most, small_sale, refused_sale, ninth_sale, InsertRuns, BothCommit, OneRollsBack, DeletedComesBack, UndoIsCovered, RingIsRefused, SnapshotIsKept}
use Rattle.txn_machine.proofs.Playing.{Move, Turn, begins, fetches, views, puts, lacks, makes, pays, undoes, ends, commits, leaves, refuses, blocks, deadlocks, peeks, cleans_none, cleans, prunes}
use Rattle.txn_machine.proofs.Played.{run_of}

abbrev pub turn : ℕ → Move → Turn
turn session move = record { session = session; move = move }

-- a shop's group in the view
abbrev pub shop : ℕ → Row
shop n = Number (pos n) ∷ []

abbrev pub putting : ℕ → Row → List Turn → List Turn
putting i row more = turn i (fetches 1 (key_of sale row)) ∷ turn i (puts 1 (key_of sale row) (Some row)) ∷ more

abbrev pub inserting : ℕ → Row → List Turn → List Turn
inserting i row more = putting i row (turn i pays ∷ more)

abbrev inserting_first : ℕ → Row → List Turn → List Turn
inserting_first i row more = putting i row (turn i lacks ∷ turn i makes ∷ turn i pays ∷ more)

abbrev deleting : ℕ → Row → List Turn → List Turn
deleting i row more = turn i (fetches 1 (key_of sale row)) ∷ turn i (puts 1 (key_of sale row) None) ∷ turn i pays ∷ more

abbrev pub taking_back : ℕ → ℕ → List Turn → List Turn
taking_back i zero more = turn i ends ∷ more
taking_back i (suc n) more = turn i undoes ∷ taking_back i n more

pub insert_runs : InsertRuns
insert_runs = run_of (turn 1 (begins Serial) ∷ inserting_first 1 one_sale (turn 1 commits ∷ [])) tt

-- ---- two open inserts into one group

-- two sessions begin, and the first puts the sale 1
abbrev pub one_putting : List Turn → List Turn
one_putting more = turn 1 (begins Serial) ∷ turn 2 (begins Serial) ∷ putting 1 one_sale more

-- and pays what it owes
abbrev pub one_paying : List Turn → List Turn
one_paying more = one_putting (turn 1 lacks ∷ turn 1 makes ∷ turn 1 pays ∷ more)

-- the second inserts the sale 2 beside it
abbrev pub both_paying : List Turn → List Turn
both_paying more = one_paying (inserting 2 other_sale more)

-- and commits
abbrev pub both_inserting : List Turn → List Turn
both_inserting more = both_paying (turn 2 commits ∷ more)

-- the first takes back what it did
abbrev pub one_undoing : List Turn → List Turn
one_undoing more = both_inserting (taking_back 1 2 more)

-- the third reads the view
abbrev showing : List Turn
showing = turn 3 (begins Serial) ∷ turn 3 (views 2 all_keys (shop 7 ∷ [])) ∷ turn 3 leaves ∷ []

pub both_commit : BothCommit
both_commit = run_of (both_inserting (turn 1 commits ∷ showing)) tt

pub one_rolls_back : OneRollsBack
one_rolls_back = run_of (one_undoing showing) tt

-- ---- longer runs

-- the only sale of a shop is deleted
abbrev pub one_deleting : List Turn → List Turn
one_deleting more = turn 1 (begins Serial) ∷ inserting_first 1 one_sale (turn 1 commits ∷ turn 1 (begins Serial) ∷ deleting 1 one_sale more)

pub deleted_comes_back : DeletedComesBack
deleted_comes_back = run_of (one_deleting (
    turn 0 cleans_none ∷ turn 1 (views 2 all_keys []) ∷ taking_back 1 2 (
    turn 2 (begins Serial) ∷ turn 2 (views 2 all_keys (shop 7 ∷ [])) ∷ turn 2 leaves ∷ []))) tt

-- the second session's pay is too near to the end of the range
abbrev pub other_near : List Turn → List Turn
other_near more =
    turn 1 (begins Serial) ∷ inserting_first 1 (sale_row 1 7 (most - 10)) (turn 1 commits ∷
    turn 1 (begins Serial) ∷ inserting 1 small_sale (deleting 1 small_sale (
    turn 2 (begins Serial) ∷ putting 2 refused_sale more)))

pub undo_is_covered : UndoIsCovered
undo_is_covered = run_of (other_near (turn 2 (refuses 1) ∷
    turn 1 commits ∷ taking_back 2 1 (turn 2 (begins Serial) ∷ inserting 2 refused_sale (turn 2 commits ∷ [])))) tt

abbrev two_selling : List Turn → List Turn
two_selling more = turn 1 (begins Serial) ∷ inserting_first 1 (sale_row 1 1 10) (inserting_first 1 (sale_row 2 2 20) (turn 1 commits ∷ more))

-- reads the row of a shop
abbrev viewing : ℕ → ℕ → Turn
viewing i n = turn i (views 2 (shop_point n) (shop n ∷ []))

abbrev pub one_crossing : List Turn → List Turn
one_crossing more = two_selling (turn 1 (begins Serial) ∷ turn 2 (begins Serial) ∷ viewing 1 1 ∷ viewing 2 2 ∷ putting 1 (sale_row 3 2 5) more)

pub ring_is_refused : RingIsRefused
ring_is_refused = run_of (one_crossing (turn 1 (blocks (record { bits = 2 })) ∷
    putting 2 (sale_row 4 1 5) (turn 2 (deadlocks 1 (record { bits = 1 }) (record { bits = 2 })) ∷
    taking_back 2 1 (turn 1 pays ∷ turn 1 commits ∷ [])))) tt

abbrev pub three_crossing : List Turn → List Turn
three_crossing more = two_selling (
    turn 1 (begins Serial) ∷ turn 2 (begins Serial) ∷ turn 3 (begins Serial) ∷ viewing 1 1 ∷ viewing 2 2 ∷ viewing 3 1 ∷
    putting 3 (sale_row 5 1 5) (turn 3 (blocks (record { bits = 1 })) ∷
    putting 1 (sale_row 3 2 5) (turn 1 (blocks (record { bits = 2 })) ∷
    putting 2 (sale_row 4 1 5) more)))

pub snapshot_is_kept : SnapshotIsKept
snapshot_is_kept = run_of (
    turn 1 (begins Serial) ∷ inserting_first 1 one_sale (inserting_first 1 ninth_sale (turn 1 commits ∷
    turn 2 (begins Snapshot) ∷
    turn 1 (begins Serial) ∷ inserting 1 (sale_row 3 7 1) (turn 1 commits ∷
    turn 1 (begins Serial) ∷ deleting 1 ninth_sale (turn 1 commits ∷
    turn 3 (begins Serial) ∷ inserting 3 (sale_row 4 7 100) (
    turn 0 prunes ∷ turn 0 cleans_none ∷ turn 2 (peeks 2 all_keys) ∷ turn 2 leaves ∷
    turn 0 prunes ∷ turn 0 (cleans (place_of (delta_of ninth_sale))) ∷ taking_back 3 2 [])))))) tt
