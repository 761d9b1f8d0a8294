-- No clause of `run` rests on this module: it serves contracts between crates.
--
-- Statements of an open transaction: refused ones, savepoints, and step lines.
use Rattle.std.specs.Prelude.{[], ◌∷◌, codes, Ok, Err, Some, None, pos}
use Rattle.iv_types.specs.declared.statement.Mode.TheVariants.{Serial, Snapshot}
use Rattle.iv_types.specs.declared.refusal.Refusal.TheVariants as refusal
use Rattle.iv_types.specs.declared.limit.Limit.TheVariants.{NumberValue}
use Rattle.iv_types.specs.Syntax.{number, word, update, delete, begin, commit, rollback, savepoint}
use Rattle.iv_meaning.specs.Said.{too_long, runs, loads, steps}
use Rattle.iv_meaning.specs.SerialExample.{shows}
use Rattle.script_runs.specs.Scripts.{Script, IsPrinted, sale_tuple, inserts, sold_to, selects}

-- an insert of which a later row is refused leaves no trace
abbrev pub refused_insert : Script
refused_insert = record {
  lines = runs 1 (Ok (begin Serial)) ∷ runs 1 (Ok (sold_to 1 7 10)) ∷ runs 1 (Ok (inserts (sale_tuple 2 7 5 ∷ sale_tuple 1 9 4 ∷ []))) ∷ runs 1 (Ok shows) ∷ runs 1 (Ok commit) ∷ [];
  out = codes "1 OK 0\n1 OK 1\n1 ERR 10 DuplicateKey\n1 ROW 7 1 10\n1 OK 1\n1 COMMIT 3\n";
}

abbrev pub RefusedInsert : Type 0
RefusedInsert = IsPrinted refused_insert

-- what is done behind a savepoint is taken back
abbrev pub savepoint_returns : Script
savepoint_returns = record {
  lines = runs 1 (Ok (begin Serial)) ∷ runs 1 (Ok (sold_to 1 7 10)) ∷ runs 1 (Ok (savepoint (codes "s"))) ∷ runs 1 (Ok (sold_to 2 7 5)) ∷ runs 1 (Ok (rollback (Some (codes "s")))) ∷ runs 1 (Ok shows) ∷ runs 1 (Ok commit) ∷ [];
  out = codes "1 OK 0\n1 OK 1\n1 OK 0\n1 OK 1\n1 OK 0\n1 ROW 7 1 10\n1 OK 1\n1 COMMIT 3\n";
}

abbrev pub SavepointReturns : Type 0
SavepointReturns = IsPrinted savepoint_returns

-- an insert goes on step by step, around that of another session; lines that have no form or session are refused
abbrev pub insert_by_steps : Script
insert_by_steps = record {
  lines = runs 1 (Ok (begin Serial)) ∷ loads 1 (Ok (sold_to 1 7 10)) ∷ steps 1 ∷ steps 1 ∷ runs 2 (Ok (sold_to 2 7 5)) ∷ runs 1 (Ok commit) ∷ steps 1 ∷ runs 1 (Ok commit) ∷ steps 4 ∷ too_long ∷ runs 3 (Ok shows) ∷ [];
  out = codes "1 OK 0\n1 STEP\n1 STEP\n1 STEP\n2 OK 1\n2 COMMIT 3\n1 ERR 40 SessionWaiting\n1 OK 1\n1 COMMIT 4\n0 ERR 41 BadLine\n0 ERR 42 LineTooLong\n3 ROW 7 2 15\n3 OK 1\n3 COMMIT 4\n";
}

abbrev pub InsertBySteps : Type 0
InsertBySteps = IsPrinted insert_by_steps

-- what is refused for its text, its names, its types, its shape or its numbers, by mode or by savepoints
abbrev pub statements_are_refused : Script
statements_are_refused = record {
  lines = runs 1 (Err (refusal.Syntax 0)) ∷ runs 1 (Ok (selects (codes "nothing") None)) ∷ runs 1 (Ok (inserts ((number (pos 1) ∷ word (codes "x") ∷ number (pos 2) ∷ []) ∷ [])))
      ∷ runs 1 (Ok (update (codes "sale") (record { name = codes "id"; value = number (pos 2) } ∷ []) None)) ∷ runs 1 (Err (refusal.Limit NumberValue))
      ∷ runs 1 (Ok (sold_to 1 9223372036854775808 0)) ∷ runs 1 (Ok (begin Serial)) ∷ runs 1 (Ok (begin Serial)) ∷ runs 1 (Ok (rollback (Some (codes "s"))))
      ∷ runs 3 (Ok (begin Snapshot)) ∷ runs 3 (Ok (delete (codes "sale") None)) ∷ [];
  out = codes "1 ERR 1 Syntax 0\n1 ERR 2 UnknownName nothing\n1 ERR 4 WrongType\n1 ERR 5 WrongShape 3\n1 ERR 6 Limit 2 170141183460469231731687303715884105727\n1 ERR 11 NumberRange\n1 OK 0\n1 ERR 13 InTransaction\n1 ERR 15 UnknownSavepoint s\n3 SNAPSHOT 2\n3 ERR 14 ReadOnly\n";
}

abbrev pub StatementsAreRefused : Type 0
StatementsAreRefused = IsPrinted statements_are_refused
