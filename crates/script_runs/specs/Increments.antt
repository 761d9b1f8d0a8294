-- No clause of `run` rests on this module: it serves contracts between crates.
--
-- Open increments of one group, and groups that are taken back.
use Rattle.std.specs.Prelude.{List, [], ◌∷◌, codes, Ok, None}
use Rattle.iv_types.specs.declared.statement.Mode.TheVariants.{Serial}
use Rattle.iv_types.specs.Syntax.{begin, commit, rollback}
use Rattle.iv_meaning.specs.Said.{Said, runs, cleans}
use Rattle.iv_meaning.specs.SerialExample.{shows}
use Rattle.script_runs.specs.Scripts.{Script, IsPrinted, sold_to, deletes_where}

-- two sessions insert into one group, and the second commits
abbrev pub both_insert : List Said → List Said
both_insert more =
    runs 1 (Ok (begin Serial)) ∷ runs 2 (Ok (begin Serial)) ∷ runs 1 (Ok (sold_to 1 7 10)) ∷ runs 2 (Ok (sold_to 2 7 5)) ∷ runs 2 (Ok commit) ∷ more

-- the first commits too, and the group has both
abbrev pub both_commit : Script
both_commit = record {
  lines = both_insert (runs 1 (Ok commit) ∷ runs 3 (Ok shows) ∷ []);
  out = codes "1 OK 0\n2 OK 0\n1 OK 1\n2 OK 1\n2 COMMIT 3\n1 COMMIT 4\n3 ROW 7 2 15\n3 OK 1\n3 COMMIT 4\n";
}

abbrev pub BothCommit : Type 0
BothCommit = IsPrinted both_commit

-- or it takes its insert back, and that of the second is not lost
abbrev pub one_rolls_back : Script
one_rolls_back = record {
  lines = both_insert (runs 1 (Ok (rollback None)) ∷ runs 3 (Ok shows) ∷ []);
  out = codes "1 OK 0\n2 OK 0\n1 OK 1\n2 OK 1\n2 COMMIT 3\n1 OK 0\n3 ROW 7 1 5\n3 OK 1\n3 COMMIT 3\n";
}

abbrev pub OneRollsBack : Type 0
OneRollsBack = IsPrinted one_rolls_back

-- a group that is made and taken back is cleaned once
abbrev pub ghost_is_cleaned : Script
ghost_is_cleaned = record {
  lines = runs 1 (Ok (begin Serial)) ∷ runs 1 (Ok (sold_to 1 9 4)) ∷ runs 1 (Ok (rollback None)) ∷ runs 1 (Ok shows) ∷ cleans ∷ cleans ∷ [];
  out = codes "1 OK 0\n1 OK 1\n1 OK 0\n1 OK 0\n1 COMMIT 2\nCLEAN 1\nCLEAN 0\n";
}

abbrev pub GhostIsCleaned : Type 0
GhostIsCleaned = IsPrinted ghost_is_cleaned

-- the only sale of a group is deleted, so that it may come back: then the group is not cleaned
abbrev pub deleted_comes_back : Script
deleted_comes_back = record {
  lines = runs 1 (Ok (sold_to 1 7 10)) ∷ runs 1 (Ok (begin Serial)) ∷ runs 1 (Ok (deletes_where (codes "id") 1)) ∷ cleans ∷ runs 1 (Ok (rollback None)) ∷ runs 2 (Ok shows) ∷ [];
  out = codes "1 OK 1\n1 COMMIT 3\n1 OK 0\n1 OK 1\nCLEAN 0\n1 OK 0\n2 ROW 7 1 10\n2 OK 1\n2 COMMIT 3\n";
}

abbrev pub DeletedComesBack : Type 0
DeletedComesBack = IsPrinted deleted_comes_back
