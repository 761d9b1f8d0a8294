-- No clause of `run` rests on this module: it serves contracts between crates.
--
-- Sessions that wait for each other.
use Rattle.std.specs.Prelude.{[], ◌∷◌, codes, Ok}
use Rattle.iv_types.specs.declared.expression.Op.TheVariants.{Equal, AtLeast}
use Rattle.iv_types.specs.declared.statement.Mode.TheVariants.{Serial}
use Rattle.iv_types.specs.Syntax.{begin, commit}
use Rattle.iv_meaning.specs.Said.{runs}
use Rattle.script_runs.specs.Scripts.{Script, IsPrinted, sale_tuple, inserts, sold_to, shows_shops}

-- a reader waits for an insert into the group that it reads
abbrev pub reader_waits : Script
reader_waits = record {
  lines = runs 1 (Ok (begin Serial)) ∷ runs 1 (Ok (sold_to 1 7 10)) ∷ runs 2 (Ok (shows_shops Equal 7)) ∷ runs 1 (Ok commit) ∷ [];
  out = codes "1 OK 0\n1 OK 1\n2 WAIT 1\n1 COMMIT 3\n2 ROW 7 1 10\n2 OK 1\n2 COMMIT 3\n";
}

abbrev pub ReaderWaits : Type 0
ReaderWaits = IsPrinted reader_waits

-- Two readers insert for each other: one waits, the other is refused, and all that it did is taken back, so that the first goes on.
abbrev pub ring_is_refused : Script
ring_is_refused = record {
  lines = runs 1 (Ok (inserts (sale_tuple 1 1 10 ∷ sale_tuple 2 2 20 ∷ []))) ∷ runs 1 (Ok (begin Serial)) ∷ runs 2 (Ok (begin Serial)) ∷ runs 1 (Ok (shows_shops Equal 1))
      ∷ runs 2 (Ok (shows_shops Equal 2)) ∷ runs 1 (Ok (sold_to 3 2 5)) ∷ runs 2 (Ok (sold_to 4 1 5)) ∷ runs 1 (Ok commit) ∷ runs 2 (Ok commit) ∷ [];
  out = codes "1 OK 2\n1 COMMIT 3\n1 OK 0\n2 OK 0\n1 ROW 1 1 10\n1 OK 1\n2 ROW 2 1 20\n2 OK 1\n1 WAIT 2\n2 ERR 20 Deadlock 2 1\n1 OK 1\n1 COMMIT 4\n2 ERR 12 NoTransaction\n";
}

abbrev pub RingIsRefused : Type 0
RingIsRefused = IsPrinted ring_is_refused

-- an insert into a range that was read waits, also where no row was there
abbrev pub insert_waits : Script
insert_waits = record {
  lines = runs 1 (Ok (begin Serial)) ∷ runs 1 (Ok (shows_shops AtLeast 5)) ∷ runs 2 (Ok (sold_to 1 7 10)) ∷ runs 1 (Ok (shows_shops AtLeast 5)) ∷ runs 1 (Ok commit) ∷ [];
  out = codes "1 OK 0\n1 OK 0\n2 WAIT 1\n1 OK 0\n1 COMMIT 2\n2 OK 1\n2 COMMIT 3\n";
}

abbrev pub InsertWaits : Type 0
InsertWaits = IsPrinted insert_waits

-- two that wait for one session go on in the order of their numbers
abbrev pub both_are_tried : Script
both_are_tried = record {
  lines = runs 3 (Ok (begin Serial)) ∷ runs 3 (Ok (shows_shops Equal 7)) ∷ runs 2 (Ok (sold_to 2 7 5)) ∷ runs 1 (Ok (sold_to 1 7 10)) ∷ runs 3 (Ok commit) ∷ [];
  out = codes "3 OK 0\n3 OK 0\n2 WAIT 3\n1 WAIT 3\n3 COMMIT 2\n1 OK 1\n1 COMMIT 3\n2 OK 1\n2 COMMIT 4\n";
}

abbrev pub BothAreTried : Type 0
BothAreTried = IsPrinted both_are_tried
