-- No clause of `run` rests on this module: it serves contracts between crates.
--
-- What no run of some lines prints.
use Rattle.std.specs.Prelude.{[], ◌∷◌, codes, Ok, Some, None}
use Rattle.iv_types.specs.declared.expression.Op.TheVariants.{Equal}
use Rattle.iv_types.specs.declared.statement.Mode.TheVariants.{Serial}
use Rattle.iv_types.specs.Syntax.{begin, rollback, savepoint}
use Rattle.iv_meaning.specs.Said.{runs, loads, steps, cleans}
use Rattle.iv_meaning.specs.SerialExample.{shows}
use Rattle.script_runs.specs.Scripts.{Script, IsMiss, IsMissBehind, sale_tuple, inserts, sold_to, shows_shops}

-- a session has no statement of which a step is left
abbrev pub StepOfNone : Type 0
StepOfNone = IsMiss (record { lines = steps 1 ∷ []; out = codes "1 STEP\n" })

-- a BEGIN waits for nobody, so that no deadlock meets it
abbrev pub DeadlockOfBegin : Type 0
DeadlockOfBegin = IsMiss (record { lines = runs 1 (Ok (begin Serial)) ∷ []; out = codes "1 ERR 20 Deadlock 1 2\n" })

-- a log without limits is not full
abbrev pub RefusedByNone : Type 0
RefusedByNone = IsMiss (record { lines = runs 1 (Ok (begin Serial)) ∷ []; out = codes "1 ERR 22 LogFull 0 0 40\n" })

-- nothing is stored that could be removed
abbrev pub CleanedOfNone : Type 0
CleanedOfNone = IsMiss (record { lines = cleans ∷ []; out = codes "CLEAN 99\n" })

-- a BEGIN of a session that knows no definitions takes two steps
abbrev pub loaded : Script
loaded = record { lines = loads 1 (Ok (begin Serial)) ∷ []; out = codes "1 STEP\n" }

abbrev pub TwoStepsAtOnce : Type 0
TwoStepsAtOnce = IsMissBehind loaded (steps 1) (codes "1 OK 0\n")

-- nobody is in the way of a reader
abbrev pub begun : Script
begun = record { lines = runs 1 (Ok (begin Serial)) ∷ []; out = codes "1 OK 0\n" }

abbrev pub WaitsForNobody : Type 0
WaitsForNobody = IsMissBehind begun (runs 1 (Ok shows)) (codes "1 WAIT 2\n")

-- a ghost is removed once
abbrev pub taken_back : Script
taken_back = record { lines = runs 1 (Ok (begin Serial)) ∷ runs 1 (Ok (sold_to 1 9 4)) ∷ runs 1 (Ok (rollback None)) ∷ []; out = codes "1 OK 0\n1 OK 1\n1 OK 0\n" }

abbrev pub CleanedTwice : Type 0
CleanedTwice = IsMissBehind taken_back cleans (codes "CLEAN 2\n")

-- a statement outside a transaction is told its count with its commit alone
abbrev pub ToldUncommitted : Type 0
ToldUncommitted = IsMiss (record { lines = runs 1 (Ok (sold_to 1 7 10)) ∷ []; out = codes "1 OK 1\n" })

-- A session that waits is in a ring with one that inserts for it. That one is told of the deadlock, and not the session that waited.
abbrev pub crossed : Script
crossed = record {
  lines = runs 1 (Ok (inserts (sale_tuple 1 1 10 ∷ sale_tuple 2 2 20 ∷ []))) ∷ runs 1 (Ok (begin Serial)) ∷ runs 2 (Ok (begin Serial)) ∷ runs 1 (Ok (shows_shops Equal 1))
      ∷ runs 2 (Ok (shows_shops Equal 2)) ∷ runs 1 (Ok (sold_to 3 2 5)) ∷ [];
  out = codes "1 OK 2\n1 COMMIT 3\n1 OK 0\n2 OK 0\n1 ROW 1 1 10\n1 OK 1\n2 ROW 2 1 20\n2 OK 1\n1 WAIT 2\n";
}

abbrev pub WrongSessionTold : Type 0
WrongSessionTold = IsMissBehind crossed (runs 2 (Ok (sold_to 4 1 5))) (codes "1 ERR 20 Deadlock 1 2\n2 OK 1\n")

-- Two readers wait for a session that keeps nothing any more but its locks. Once it ends, the first of them goes on first.
abbrev pub both_wait : Script
both_wait = record {
  lines = runs 3 (Ok (begin Serial)) ∷ runs 3 (Ok (savepoint (codes "s"))) ∷ runs 3 (Ok (sold_to 1 7 10)) ∷ runs 3 (Ok (rollback (Some (codes "s")))) ∷ runs 1 (Ok (begin Serial)) ∷ runs 2 (Ok (begin Serial))
      ∷ runs 2 (Ok (shows_shops Equal 7)) ∷ runs 1 (Ok (shows_shops Equal 7)) ∷ [];
  out = codes "3 OK 0\n3 OK 0\n3 OK 1\n3 OK 0\n1 OK 0\n2 OK 0\n2 WAIT 3\n1 WAIT 3\n";
}

abbrev pub TriedInFallingOrder : Type 0
TriedInFallingOrder = IsMissBehind both_wait (runs 3 (Ok (rollback None))) (codes "3 OK 0\n2 OK 0\n1 OK 0\n")

-- and they do go on
abbrev pub NotTriedAgain : Type 0
NotTriedAgain = IsMissBehind both_wait (runs 3 (Ok (rollback None))) (codes "3 OK 0\n")
