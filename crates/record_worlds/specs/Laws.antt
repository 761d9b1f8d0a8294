-- No clause of `run` rests on this module: it serves contracts between crates.
--
-- How steps keep the records of a journal tied to the machine's log, and what a crash recovers.
use Rattle.std.specs.Prelude.{◌≡◌, ℕ, false, []}
use Rattle.iv_meaning.specs.Database.{Database}
use Rattle.iv_types.specs.declared.refusal.EngineRefusal.TheVariants.{DiskFault}
use Rattle.txn_machine.specs.Acts.{Act}
use Rattle.txn_machine.specs.Answers.{Answer, Refused}
use Rattle.txn_machine.specs.Laws.{IsOpened}
use Rattle.txn_machine.specs.Log.{Opening}
use Rattle.txn_machine.specs.May.{May}
use Rattle.txn_machine.specs.State.{State, opened_state, is_fault}
use Rattle.txn_machine.specs.Steps.{Does}
use Rattle.txn_machine.specs.Store.{committed, opened}
use Rattle.txn_log.specs.Replay.{Pages}
use Rattle.core_journal.specs.Records.{Saved, Records, records_after}
use Rattle.core_journal.specs.Cuts.{Cut, cut_of, MayHave}
use Rattle.record_worlds.specs.Tied.{IsTied, SavesAll, TiesTo, Recovers, MayCommit}

module _ (Holds : Saved → Pages → Type 0) where
  -- behind the checkpoint of an opening
  abbrev pub OpenedLaw : Type 0
  OpenedLaw = (p : Pages) → IsOpened p.db p.view → (opening : Opening) (rs : Records) → Holds rs.saved p → rs.saved.carried ≡ [] → rs.flushed ≡ [] → rs.waiting ≡ []
      → IsTied Holds p opening (opened_state opening (opened p.db p.view)) rs

  -- and behind each step that no fault of the disk answers
  abbrev pub StepLaw : Type 0
  StepLaw = (p : Pages) → IsOpened p.db p.view → (opening : Opening) (s : State) (rs : Records) → IsTied Holds p opening s rs
      → (session : ℕ) (a : Act) (said : Answer) (after : State) → May s session a → (does : Does s session a said after) → is_fault said ≡ false
      → TiesTo Holds (IsTied Holds p opening after) (SavesAll Holds s) a said (records_after s session a said does.effects rs)

  -- what was flushed recovers to what is committed
  abbrev pub CutLaw : Type 0
  CutLaw = (p : Pages) → IsOpened p.db p.view → (opening : Opening) (s : State) (rs : Records) → IsTied Holds p opening s rs → Recovers Holds p opening (cut_of rs) (committed s.store)

  -- and what a step was to write at which the disk failed recovers to what the step may have left committed
  abbrev pub FaultLaw : Type 0
  FaultLaw = (p : Pages) → IsOpened p.db p.view → (opening : Opening) (s : State) (rs : Records) → IsTied Holds p opening s rs
      → (session : ℕ) (a : Act) (stopped : State) → May s session a → Does s session a (Refused DiskFault) stopped
      → (x : Cut) → MayHave (λ y. x ≡ y) (SavesAll Holds s) a (records_after s session a (Refused DiskFault) [] rs)
      → (db : Database) × MayCommit Holds s session a db × Recovers Holds p opening x db
