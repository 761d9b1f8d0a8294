use Rattle.txn_machine.proofs.Apart.{roll_back_law}
use Rattle.txn_machine.proofs.Fetching.{fetch_law}
use Rattle.txn_machine.proofs.Marks.{snapshot_law}
use Rattle.txn_machine.proofs.Moving.{any_subset_law, frame_law}
use Rattle.txn_machine.proofs.Parting.{part_law}
use Rattle.txn_machine.proofs.Peeking.{peek_law}
use Rattle.txn_machine.proofs.Reached.{absent_law, bounds_law, committed_law, share_law, stored_law}
use Rattle.txn_machine.proofs.Standing.{notes_law}
use Rattle.engine_core.proofs.standing_laws.Goals as goal

pub returns : goal.returns
returns g c = record {
  reached = λ core s is_in. is_in.stands.reached;
  committed = committed_law;
  view_rows = stored_law;
  absent_rows = absent_law;
  shares = share_law;
  bounds = bounds_law;
  readings = fetch_law;
  frame = frame_law;
  parts = part_law;
  notes = notes_law;
  any_subset = any_subset_law;
  snapshots = snapshot_law;
  peeks = peek_law;
  undo = roll_back_law;
}
