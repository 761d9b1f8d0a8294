-- No clause of `run` rests on this module: it serves contracts between crates.
--
-- Worked runs of a shop, and what is recovered of each image that a crash may leave on the way.
use Rattle.std.specs.Prelude.{◌≡◌, ◌⊎◌, ℕ, pos, List, [], ◌∷◌, map, length, Some}
use Rattle.std.specs.FinMap.{get, empty, from_sorted}
use Rattle.iv_types.specs.declared.value.Value.TheVariants.{Number}
use Rattle.iv_types.specs.Encoding.{key_bytes}
use Rattle.table_laws.specs.Place.{Place}
use Rattle.iv_meaning.specs.Schema.{group_kinds}
use Rattle.iv_meaning.specs.Database.{Row, Database, key_of}
use Rattle.txn_machine.specs.Acts as act
use Rattle.txn_machine.specs.Answers as answer
use Rattle.txn_machine.specs.Stored.{ViewRows, stored_number}
use Rattle.txn_machine.specs.Store.{Store, opened}
use Rattle.txn_machine.specs.Log.{Log, unlimited}
use Rattle.txn_machine.specs.State.{State, opened_state}
use Rattle.txn_machine.specs.Steps as machine
use Rattle.txn_machine.specs.Steps.{Did}
use Rattle.txn_machine.specs.Example.{sale, by_shop, shop_database, one_sale, other_sale, starts, inserts_first, inserts, commits}
use Rattle.txn_log.specs.Replay.{Pages, Reading, recovered}
use Rattle.txn_log.specs.Appended.{IsRead}
use Rattle.txn_log.specs.Moments.{Disk, World, At, Amid, Halted, Run, opened_world, left_by}

abbrev pub shop : Pages
shop = record { db = shop_database; view = empty }

abbrev pub opened_shop : World
opened_shop = opened_world unlimited shop

-- the steps of an engine that is opened on the shop
abbrev pub Leads : List Did → State → Type 0
Leads steps s = machine.Run (opened_state unlimited (opened shop_database empty)) steps s

-- the shop with these sales, in the order of their keys
abbrev pub shop_with : ℕ → List Row → Database
shop_with number rows = record { number = number; schema = shop_database.schema; rows = from_sorted (map (λ row. ((1, key_of sale row), row)) rows) }

-- the row of a shop in the view
pub record Total : Type 0 where
  pub shop : ℕ
  pub count : ℕ
  pub total : ℕ

abbrev pub total_place : ℕ → Place
total_place shop = (2, key_bytes (group_kinds shop_database.schema by_shop) (Number (pos shop) ∷ []))

abbrev pub HasTotals : ViewRows → List Total → Type 0
HasTotals stored [] = Unit {0}
HasTotals stored (t ∷ ts) =
    (stored_number stored (total_place t.shop) 0 ≡ pos t.count) × (stored_number stored (total_place t.shop) 1 ≡ pos t.total) × HasTotals stored ts

-- without the latest k of the records that wait, this is recovered
pub record Shows (w : World) (k number : ℕ) (rows : List Row) (totals : List Total) : Type 0 where
  pub reading : Reading
  pub is_read : IsRead (left_by w k) reading
  pub db : (recovered reading).db ≡ shop_with number rows
  pub view : HasTotals (recovered reading).view totals

-- ---- a stop in a commit

abbrev pub inserting_steps : List Did
inserting_steps = starts 1 2 (inserts_first 1 one_sale [])

abbrev pub inserted_steps : List Did
inserted_steps = starts 1 2 (inserts_first 1 one_sale (commits 1 3 []))

abbrev pub one_total : List Total
one_total = record { shop = 7; count = 1; total = 10 } ∷ []

-- While the records of its block wait, the image without them has no sale; as the commit is answered, each has it.
pub record StopInCommit : Type 0 where
  pub committed : State
  pub leads : Leads inserted_steps committed
  -- in its step, done in memory
  pub store : Store
  pub log : Log
  pub waiting : Disk
  pub before : Run opened_shop (Amid committed 1 act.Commit store log [] waiting)
  pub shows_before : Shows (Amid committed 1 act.Commit store log [] waiting) (length waiting.waiting) 2 [] []
  pub flushed : Disk
  pub after : Run (Amid committed 1 act.Commit store log [] waiting) (At committed flushed)
  pub shows_after : (k : ℕ) → Shows (At committed flushed) k 3 (one_sale ∷ []) one_total

-- and where the disk fails to open it, an image has the sale or has not
pub record FaultInCommit : Type 0 where
  pub inserted : State
  pub leads : Leads inserting_steps inserted
  pub stopped : State
  pub next : Store
  pub disk : Disk
  pub run : Run opened_shop (Halted stopped next disk)
  pub shows : (k : ℕ) → Shows (Halted stopped next disk) k 2 [] [] ⊎ Shows (Halted stopped next disk) k 3 (one_sale ∷ []) one_total

-- ---- a stop after a checkpoint that carried an open insert

abbrev pub other_steps : List Did
other_steps = starts 2 2 (inserts 2 other_sale (commits 2 3 []))

abbrev pub other_total : List Total
other_total = record { shop = 7; count = 1; total = 5 } ∷ []

-- The pages have the sale of a transaction that never commits, and its delta. Neither is recovered, before the other commit or after it.
pub record StopAfterCheckpoint : Type 0 where
  pub inserted : State
  pub leads : Leads inserting_steps inserted
  pub waiting : Disk
  pub inserts : Run opened_shop (At inserted waiting)
  pub shows_inserted : (k : ℕ) → Shows (At inserted waiting) k 2 [] []
  -- the checkpoint
  pub saved : State
  pub saves : machine.Run inserted (record { session = 0; act = act.Checkpoint; said = answer.Saved 2 } ∷ []) saved
  pub published : Disk
  pub checkpoint : Run (At inserted waiting) (At saved published)
  pub has_sale : get published.pages.db.rows (1, key_of sale one_sale) ≡ Some one_sale
  pub shows_published : (k : ℕ) → Shows (At saved published) k 2 [] []
  -- the other commit: while its records wait, and as it is answered
  pub committed : State
  pub more : machine.Run saved other_steps committed
  pub store : Store
  pub log : Log
  pub unflushed : Disk
  pub commits : Run (At saved published) (Amid committed 2 act.Commit store log [] unflushed)
  pub shows_before : Shows (Amid committed 2 act.Commit store log [] unflushed) (length unflushed.waiting) 2 [] []
  pub flushed : Disk
  pub after : Run (Amid committed 2 act.Commit store log [] unflushed) (At committed flushed)
  pub shows_after : (k : ℕ) → Shows (At committed flushed) k 3 (other_sale ∷ []) other_total
