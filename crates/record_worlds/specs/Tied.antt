-- No clause of `run` rests on this module: it serves contracts between crates.
--
-- When a journal has the records of the machine's log, and what a crash of the one is of the other. Which pages hold what a checkpoint
-- saved is for `Holds` to say.
use Rattle.std.specs.Prelude.{◌≡◌, ◌⊎◌, ℕ, List, [], ◌++◌, map, length}
use Rattle.iv_meaning.specs.Database.{Database}
use Rattle.txn_machine.specs.Acts as act
use Rattle.txn_machine.specs.Acts.{Act}
use Rattle.txn_machine.specs.Answers as answer
use Rattle.txn_machine.specs.Answers.{Answer}
use Rattle.txn_machine.specs.Ghosts.{the_views}
use Rattle.txn_machine.specs.Log.{Opening}
use Rattle.txn_machine.specs.State.{State}
use Rattle.txn_machine.specs.Steps.{Says}
use Rattle.txn_machine.specs.Store.{Effect, committed, schema_of, run}
use Rattle.txn_log.specs.Replay.{Deed, Pages, Reading, recovered}
use Rattle.txn_log.specs.Fitting.{DoNumbersFall}
use Rattle.txn_log.specs.Appended.{Image, IsRead, written}
use Rattle.txn_log.specs.Moments.{AreCarried, txn_at, Disk, World, At, Run, image_of, left_by, opened_world, pages_now}
use Rattle.log_disk.specs.Spelled.{spelled, AreSpellable, AreSpelled}
use Rattle.core_journal.specs.Records.{Saved, Records, with_saved}
use Rattle.core_journal.specs.Cuts.{Cut, cut_of}

module _ (Holds : Saved → Pages → Type 0) where
  -- what a crash leaves of a journal is this image of the machine's log
  pub record IsCutOf (x : Cut) (i : Image) : Type 0 where
    pub pages : Holds x.saved i.pages
    pub carried : x.saved.carried ≡ map (spelled i.pages.db.schema) i.carried
    pub fit : AreSpellable i.pages.db.schema i.carried
    pub after : AreSpelled i.pages.db.schema i.after x.records

  -- a journal has the records of the machine's disk, and as many wait
  pub record AreOf (rs : Records) (d : Disk) : Type 0 where
    pub cut : IsCutOf (cut_of rs) (image_of d [])
    pub long : length rs.waiting ≡ length d.waiting
    pub spelled_all : AreSpelled d.pages.db.schema (d.waiting ++ d.flushed) (rs.waiting ++ rs.flushed)

  -- Steps lead to this state from the opening of these pages, a journal with these records has those of the log, and what is committed is
  -- acknowledged.
  pub record IsTied (p : Pages) (opening : Opening) (s : State) (rs : Records) : Type 0 where
    pub disk : Disk
    pub run : Run (opened_world opening p) (At s disk)
    pub records : AreOf rs disk
    pub acknowledged : disk.acknowledged ≡ (committed s.store).number

  -- a checkpoint in this state saves the pages of now, and carries what open transactions keep
  pub record SavesAll (s : State) (saved : Saved) : Type 0 where
    pub pages : Holds saved (pages_now s.store)
    pub carried : List Deed
    pub are : AreCarried (txn_at s.store s.log) carried
    pub fall : DoNumbersFall carried
    pub spelled_so : saved.carried ≡ map (λ d. spelled (schema_of s.store) (written d)) carried
    pub fit : AreSpellable (schema_of s.store) (map written carried)

  -- what a step ties: after a checkpoint its records are those beside what it saved
  abbrev pub TiesTo : (Records → Type 0) → (Saved → Type 0) → Act → Answer → Records → Type 0
  TiesTo Ties Saves act.Checkpoint (answer.Saved number) rs = (saved : Saved) → Saves saved → Ties (with_saved saved rs)
  TiesTo Ties Saves a said rs = Ties rs

  -- a crash that leaves this leaves an image of the machine at some moment of a run from that opening, which recovers to this
  pub record Recovers (p : Pages) (opening : Opening) (x : Cut) (db : Database) : Type 0 where
    pub world : World
    pub without : ℕ
    pub run : Run (opened_world opening p) world
    pub is : IsCutOf x (left_by world without)
    pub reading : Reading
    pub is_read : IsRead (left_by world without) reading
    pub database : (recovered reading).db ≡ db

  -- What an act that the disk fails may have left committed: what was committed before it, or what it would have left by some answer.
  pub record MayCommit (s : State) (session : ℕ) (a : Act) (db : Database) : Type 0 where
    pub said : Answer
    pub effects : List Effect
    pub says : Says s session a said effects
    pub is : (db ≡ committed s.store) ⊎ (db ≡ committed (run the_views s.store session effects))
