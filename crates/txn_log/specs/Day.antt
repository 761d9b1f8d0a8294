-- No clause of `run` rests on this module: it serves contracts between crates.
--
-- A shop's day with a checkpoint, and what is recovered after it.
use Rattle.std.specs.Prelude.{ℕ, zero, suc, ◌+◌, List, [], ◌∷◌, ◌++◌, Some}
use Rattle.iv_types.specs.declared.statement.Mode.TheVariants.{Snapshot}
use Rattle.iv_types.specs.declared.lock.LockMode.TheVariants.{Exclusive}
use Rattle.iv_types.specs.Intervals.{point}
use Rattle.iv_meaning.specs.Database.{Row, key_of}
use Rattle.txn_machine.specs.Acts as act
use Rattle.txn_machine.specs.Answers as answer
use Rattle.txn_machine.specs.Deltas.{negated}
use Rattle.txn_machine.specs.State.{State}
use Rattle.txn_machine.specs.Steps as machine
use Rattle.txn_machine.specs.Steps.{Did}
use Rattle.txn_machine.specs.Example.{sale, did, starts, commits, inserts, inserts_first, takes_back, sale_row, delta_of}
use Rattle.txn_log.specs.Moments.{Disk, At, Run}
use Rattle.txn_log.specs.Worked.{opened_shop, Leads, Total, Shows}

-- an odd sale is of shop 1, and an even one of shop 2
abbrev pub is_odd : ℕ → ℕ
is_odd zero = 2
is_odd (suc zero) = 1
is_odd (suc (suc n)) = is_odd n

-- so many sales from this number on, with their numbers as amounts
abbrev pub both_shops : ℕ → ℕ → List Row
both_shops zero id = []
both_shops (suc n) id = sale_row id (is_odd id) id ∷ both_shops n (id + 1)

abbrev pub of_shop : ℕ → ℕ → ℕ → List Row
of_shop shop zero id = []
of_shop shop (suc n) id = sale_row id shop id ∷ of_shop shop n (id + 1)

-- inserted into groups that are there
abbrev pub sells : ℕ → List Row → List Did → List Did
sells session [] more = more
sells session (row ∷ rows) more = inserts session row (sells session rows more)

-- the amount of sale 1 changes
abbrev pub old_sale : Row
old_sale = sale_row 1 1 1

abbrev pub new_sale : Row
new_sale = sale_row 1 1 101

abbrev pub updates : List Did → List Did
updates more =
    did 1 (act.Fetch 1 (point (key_of sale old_sale)) Exclusive) (answer.Rows (old_sale ∷ []))
    ∷ did 1 (act.Put 1 (key_of sale old_sale) (Some new_sale)) (answer.Changed (Some old_sale) (negated (delta_of old_sale) ∷ delta_of new_sale ∷ []))
    ∷ did 1 act.Pay (answer.Paid 1)
    ∷ did 1 act.Pay (answer.Paid 0)
    ∷ more

-- Sessions 1 to 3 insert ten sales each; session 4 inserts ten and commits; session 2 commits; session 4 begins a snapshot; session
-- 1 changes a sale; session 3 takes all back; session 1 commits.
abbrev pub day_steps : List Did
day_steps =
    starts 1 2 (starts 2 2 (starts 3 2 (
    inserts_first 1 old_sale (inserts_first 1 (sale_row 2 2 2) (sells 1 (both_shops 8 3) (
    sells 2 (both_shops 10 11) (
    inserts_first 3 (sale_row 21 3 21) (sells 3 (of_shop 3 9 22) (
    starts 4 2 (sells 4 (of_shop 2 10 31) (commits 4 3 (
    commits 2 4 (
    did 4 (act.Begin Snapshot) (answer.Begun 4 2) ∷
    updates (
    takes_back 3 20 (
    commits 1 5 [])))))))))))))))

abbrev pub day_rows : List Row
day_rows = new_sale ∷ both_shops 19 2 ++ of_shop 2 10 31

abbrev pub day_totals : List Total
day_totals =
    record { shop = 1; count = 10; total = 200 } ∷ record { shop = 2; count = 20; total = 465 } ∷ record { shop = 3; count = 0; total = 0 } ∷ []

-- after these steps and a flush, and after the checkpoint that follows, whatever a crash leaves shows these sales and totals
pub record StopAfter (steps : List Did) (number : ℕ) (rows : List Row) (totals : List Total) : Type 0 where
  pub ended : State
  pub leads : Leads steps ended
  pub flushed : Disk
  pub run : Run opened_shop (At ended flushed)
  pub shows : (k : ℕ) → Shows (At ended flushed) k number rows totals
  pub saved : State
  pub saves : machine.Run ended (did 0 act.Checkpoint (answer.Saved number) ∷ []) saved
  pub published : Disk
  pub checkpoint : Run (At ended flushed) (At saved published)
  pub shows_published : (k : ℕ) → Shows (At saved published) k number rows totals

abbrev pub StopAfterDay : Type 0
StopAfterDay = StopAfter day_steps 5 day_rows day_totals
