-- No clause of `run` rests on this module: it serves contracts between crates.
--
-- What a crash within one step recovers.
use Rattle.std.specs.Prelude.{◌≡◌, ◌⊎◌, ℕ, false, List, ◌++◌}
use Rattle.txn_machine.specs.Acts.{Act}
use Rattle.txn_machine.specs.Answers.{Answer}
use Rattle.txn_machine.specs.Store.{Store, committed, Effect, run}
use Rattle.txn_machine.specs.Ghosts.{the_views}
use Rattle.txn_machine.specs.Log.{Log, Opening}
use Rattle.txn_machine.specs.State.{State, is_fault}
use Rattle.txn_machine.specs.May.{May}
use Rattle.txn_machine.specs.Steps.{Does}
use Rattle.txn_machine.specs.Laws.{IsOpened}
use Rattle.txn_log.specs.Replay.{Pages, Reading, recovered}
use Rattle.txn_log.specs.Appended.{IsRead}
use Rattle.txn_log.specs.Moments.{Disk, World, At, Amid, Halted, Happens, Run, opened_world, left_by}

-- a world of a step from this store, after some of its effects
pub record IsOfStep (s : Store) (session : ℕ) (a : Act) (after : State) (es : List Effect) (w : World) : Type 0 where
  pub done : List Effect
  pub others : List Effect
  pub split : es ≡ done ++ others
  pub log : Log
  pub disk : Disk
  pub is : w ≡ Amid after session a (run the_views s session done) log others disk

-- within a step that no fault answers a crash leaves what recovers to what was committed before it, or to what it leaves committed
abbrev pub StepCrashLaw : Type 0
StepCrashLaw = (p : Pages) → IsOpened p.db p.view → (opening : Opening) (s : State) (d : Disk) → Run (opened_world opening p) (At s d)
    → (session : ℕ) (a : Act) (said : Answer) (after : State) → May s session a → (does : Does s session a said after) → is_fault said ≡ false
    → (w : World) → Run (Amid after session a s.store s.log does.effects d) w → IsOfStep s.store session a after does.effects w
    → (k : ℕ) (r : Reading) → IsRead (left_by w k) r
    → ((recovered r).db ≡ committed s.store) ⊎ ((recovered r).db ≡ committed (run the_views s.store session does.effects))

-- and where a fault stopped the machine, to what was committed before, or to what the step would have left committed
abbrev pub FaultCrashLaw : Type 0
FaultCrashLaw = (p : Pages) → IsOpened p.db p.view → (opening : Opening) (s : State) (d : Disk) → Run (opened_world opening p) (At s d)
    → (stopped : State) (next : Store) (e : Disk) → Happens (At s d) (Halted stopped next e)
    → (k : ℕ) (r : Reading) → IsRead (left_by (Halted stopped next e) k) r → ((recovered r).db ≡ committed s.store) ⊎ ((recovered r).db ≡ committed next)
