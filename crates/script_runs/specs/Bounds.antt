-- No clause of `run` rests on this module: it serves contracts between crates.
--
-- Inserts that the escrow of a sum refuses.
use Rattle.std.specs.Prelude.{[], ◌∷◌, codes, Ok, Some, None, ◌-◌}
use Rattle.iv_types.specs.declared.expression.Op.TheVariants.{Equal}
use Rattle.iv_types.specs.declared.statement.Mode.TheVariants.{Serial}
use Rattle.iv_types.specs.Syntax.{StatementTree, begin, commit, rollback, savepoint}
use Rattle.iv_meaning.specs.Said.{runs}
use Rattle.txn_machine.specs.Example.{most}
use Rattle.script_runs.specs.Scripts.{Script, IsPrinted, IsTranscript, sold_to, shows_shops, deletes_where}

-- a sale that leaves room for 10 more
abbrev pub large_sale : StatementTree
large_sale = sold_to 1 7 (most - 10)

-- one insert is refused while another is open, and goes once that is taken back
abbrev pub sum_is_refused : Script
sum_is_refused = record {
  lines = runs 1 (Ok large_sale) ∷ runs 1 (Ok (begin Serial)) ∷ runs 1 (Ok (sold_to 2 7 6)) ∷ runs 2 (Ok (sold_to 3 7 6)) ∷ runs 1 (Ok (rollback None)) ∷ runs 2 (Ok (sold_to 3 7 6)) ∷ [];
  out = codes "1 OK 1\n1 COMMIT 3\n1 OK 0\n1 OK 1\n2 ERR 21 EscrowRange by_shop 7 total 170141183460469231731687303715884105717 170141183460469231731687303715884105723\n1 OK 0\n2 OK 1\n2 COMMIT 4\n";
}

abbrev pub SumIsRefused : Type 0
SumIsRefused = IsPrinted sum_is_refused

-- a deletion may still be taken back
abbrev pub undo_is_covered : Script
undo_is_covered = record {
  lines = runs 1 (Ok large_sale) ∷ runs 1 (Ok (begin Serial)) ∷ runs 1 (Ok (sold_to 2 7 8)) ∷ runs 1 (Ok (deletes_where (codes "id") 2)) ∷ runs 2 (Ok (sold_to 3 7 5)) ∷ runs 1 (Ok commit) ∷ runs 2 (Ok (sold_to 3 7 5)) ∷ [];
  out = codes "1 OK 1\n1 COMMIT 3\n1 OK 0\n1 OK 1\n1 OK 1\n2 ERR 21 EscrowRange by_shop 7 total 170141183460469231731687303715884105717 170141183460469231731687303715884105725\n1 COMMIT 4\n2 OK 1\n2 COMMIT 5\n";
}

abbrev pub UndoIsCovered : Type 0
UndoIsCovered = IsPrinted undo_is_covered

-- While a group is read, another one has a sum that would leave no room for what is committed later: the transaction still comes to the same alone, behind that.
abbrev pub room_is_freed : Script
room_is_freed = record {
  lines = runs 1 (Ok (begin Serial)) ∷ runs 1 (Ok (savepoint (codes "s"))) ∷ runs 1 (Ok (sold_to 1 9 most)) ∷ runs 1 (Ok (shows_shops Equal 7)) ∷ runs 1 (Ok (rollback (Some (codes "s")))) ∷ runs 2 (Ok (sold_to 2 9 most)) ∷ runs 1 (Ok commit) ∷ [];
  out = codes "1 OK 0\n1 OK 0\n1 OK 1\n1 OK 0\n1 OK 0\n2 OK 1\n2 COMMIT 3\n1 COMMIT 3\n";
}

abbrev pub RoomIsFreed : Type 0
RoomIsFreed = IsPrinted room_is_freed

abbrev pub FreedRoomIsSerial : Type 0
FreedRoomIsSerial = IsTranscript room_is_freed
