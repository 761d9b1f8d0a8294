-- No clause of `run` rests on this module: it serves contracts between crates.
--
-- Snapshots.
use Rattle.std.specs.Prelude.{[], ◌∷◌, codes, Ok, None}
use Rattle.iv_types.specs.declared.statement.Mode.TheVariants.{Serial, Snapshot}
use Rattle.iv_types.specs.Syntax.{begin, commit, rollback, savepoint}
use Rattle.iv_meaning.specs.Said.{runs, loads, steps, cleans}
use Rattle.iv_meaning.specs.SerialExample.{shows}
use Rattle.script_runs.specs.Scripts.{Script, IsPrinted, sale_tuple, inserts, sold_to, deletes_where}

-- a snapshot reads what was committed as it began, and the group of a deleted sale is kept for it until it ends
abbrev pub snapshot_is_kept : Script
snapshot_is_kept = record {
  lines = runs 1 (Ok (inserts (sale_tuple 1 7 10 ∷ sale_tuple 2 9 4 ∷ []))) ∷ runs 2 (Ok (begin Snapshot)) ∷ runs 1 (Ok (sold_to 3 7 1)) ∷ runs 1 (Ok (deletes_where (codes "shop") 9))
      ∷ runs 3 (Ok (begin Serial)) ∷ runs 3 (Ok (sold_to 4 7 100)) ∷ cleans ∷ runs 2 (Ok shows) ∷ runs 2 (Ok commit) ∷ cleans ∷ runs 3 (Ok (rollback None)) ∷ [];
  out = codes "1 OK 2\n1 COMMIT 3\n2 SNAPSHOT 3\n1 OK 1\n1 COMMIT 4\n1 OK 1\n1 COMMIT 5\n3 OK 0\n3 OK 1\nCLEAN 0\n2 ROW 7 1 10\n2 ROW 9 1 4\n2 OK 2\n2 COMMIT 3\nCLEAN 1\n3 OK 0\n";
}

abbrev pub SnapshotIsKept : Type 0
SnapshotIsKept = IsPrinted snapshot_is_kept

-- one that is begun by step lines does not see what was committed between its steps
abbrev pub snapshot_by_steps : Script
snapshot_by_steps = record {
  lines = loads 2 (Ok (begin Snapshot)) ∷ steps 2 ∷ runs 1 (Ok (sold_to 1 7 10)) ∷ steps 2 ∷ runs 2 (Ok shows) ∷ loads 2 (Ok (savepoint (codes "s"))) ∷ steps 2 ∷ runs 2 (Ok commit) ∷ [];
  out = codes "2 STEP\n2 STEP\n1 OK 1\n1 COMMIT 3\n2 SNAPSHOT 2\n2 OK 0\n2 STEP\n2 OK 0\n2 COMMIT 2\n";
}

abbrev pub SnapshotBySteps : Type 0
SnapshotBySteps = IsPrinted snapshot_by_steps
