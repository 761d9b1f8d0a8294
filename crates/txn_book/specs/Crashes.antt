-- No clause of `run` rests on this module: it serves contracts between crates.
--
-- What a crash may recover: during a step, and since an engine was opened.
use Rattle.std.specs.Prelude.{◌≡◌, ◌⊎◌, ℕ, ◌+◌, ◌≤◌, false, List, [], ◌∷◌, ◌++◌, None, IsSome}
use Rattle.iv_meaning.specs.Database.{Database}
use Rattle.iv_meaning.specs.History.{Entry, fold, state_at}
use Rattle.txn_machine.specs.Answers.{Answer}
use Rattle.txn_machine.specs.Store.{Effect, committed, run}
use Rattle.txn_machine.specs.Ghosts.{the_views}
use Rattle.txn_machine.specs.State.{State, is_fault}
use Rattle.txn_machine.specs.Steps.{Says}
use Rattle.txn_book.specs.declared.step.Step.{Step}
use Rattle.txn_book.specs.declared.step.Answer.{Answer as BookAnswer}
use Rattle.txn_book.specs.Acts.{act_of, answer_of}

-- What a step of an engine that is not stopped may leave committed: what was committed before it, what it was told, or, where
-- the disk fails a Commit or a CREATE, its entry all the same.
pub record MayCommit (s : State) (step : Step) (told : BookAnswer) (db : Database) : Type 0 where
  pub runs : s.stop ≡ None
  pub said : Answer
  pub of_answer : is_fault (answer_of told) ≡ false → said ≡ answer_of told
  pub effects : List Effect
  pub says : Says s step.session (act_of step.act) said effects
  pub is : db ≡ committed s.store ⊎ db ≡ committed (run the_views s.store step.session effects)

-- Time goes on: a crash since t might have recovered what it might have recovered before, or a database of which this holds.
pub record Elapses (May : Database → Type 0) (before now : ℕ) (past since : ℕ → Database → Type 0) : Type 0 where
  pub later : before ≤ now
  pub nothing_else : (t : ℕ) (db : Database) → t ≤ before → since t db → past t db ⊎ May db

-- behind all that was committed, the entry that a step was committing at which the disk failed, which stopped the engine
pub record HasOneMore (s : State) (db : Database) : Type 0 where
  pub stopped : IsSome s.stop
  pub entry : Entry
  pub number : entry.number ≡ (committed s.store).number + 1
  pub is : db ≡ fold (s.store.history ++ entry ∷ []) s.store.origin

-- all that was committed, or with that entry
abbrev pub IsWhole : State → Database → Type 0
IsWhole s db = (db ≡ committed s.store) ⊎ HasOneMore s db

-- what was committed up to some number, or all of it with that entry
pub data IsPrefix (s : State) (db : Database) : Type 0 where
  committed_to : (number : ℕ) → number ≤ (committed s.store).number → db ≡ state_at s.store.origin s.store.history number → IsPrefix s db
  with_one_more : HasOneMore s db → IsPrefix s db
