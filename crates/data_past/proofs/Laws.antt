-- The laws of effects.
use Rattle.std.specs.Prelude.{◌+◌}
use mathlib.Core.Path.{refl}
use Rattle.txn_machine.specs.Store.{committed, schema_of, now, entry_changes, Opens, Takes, Notes, Writes, Pays, Ghosts, Undoes, Loses, Ends, Commits, Defines, Cleans, Prunes}
use Rattle.txn_machine.proofs.Reached.{reached}
use Rattle.version_chain.specs.States.{commits_in}
use Rattle.data_store.specs.Machine.{version_by, delta_by}
use Rattle.data_past.specs.Moves.{pays_of}
use Rattle.data_past.specs.Laws.{OpenedLaw, LeavesLaw, PutLaw, UndoLaw, CommitLaw, PruneLaw}
use Rattle.data_past.proofs.Effects.{past_opened, past_opens, past_takes, past_notes, past_loses, past_ends, past_pays, past_unpaid, past_ghosts, past_cleans, past_prunes, past_writes, past_unput, past_commits, past_defines}

pub opened_law : OpenedLaw
opened_law db view = past_opened db view

pub leaves_law : LeavesLaw
leaves_law s r rows deltas pending past i (Opens mode) h = past_opens rows deltas pending s.store past i mode h.0 h.1
leaves_law s r rows deltas pending past i (Takes wants) h = past_takes rows deltas pending s.store past i wants h
leaves_law s r rows deltas pending past i (Notes note) h = past_notes rows deltas pending s.store past i note h
leaves_law s r rows deltas pending past i Pays h = past_pays rows deltas pending s.store past i h
leaves_law s r rows deltas pending past i Undoes h = past_unpaid rows deltas pending s.store past i h.0 h.1 h.2 h.3
leaves_law s r rows deltas pending past i Loses h = past_loses rows deltas pending s.store past i h
leaves_law s r rows deltas pending past i Ends h = past_ends rows deltas pending s.store past i h.0 h.1
leaves_law s r rows deltas pending past i (Ghosts place columns) h = past_ghosts rows deltas pending s.store past i place columns
leaves_law s r rows deltas pending past i (Cleans place) h = past_cleans rows deltas pending s.store past i place h.no_versions
leaves_law s r rows deltas pending past i (Defines object) h = past_defines rows deltas pending s.store past i (reached s r) h object
leaves_law s r rows deltas pending past i (Writes place new) h = absurd h
leaves_law s r rows deltas pending past i Commits h = absurd h
leaves_law s r rows deltas pending past i Prunes h = absurd h

pub put_law : PutLaw
put_law s r rows deltas pending past i is place new after changes = past_writes rows deltas pending s.store past i is place after new _ refl changes

pub undo_law : UndoLaw
undo_law s r rows deltas pending past i is c owed ks kept after changes = past_unput rows deltas pending s.store past i is after c owed ks kept changes

pub commit_law : CommitLaw
commit_law s r rows deltas pending past i is none new_rows new_deltas after rows_are deltas_are pending_are =
    past_commits rows deltas pending s.store past i is (reached s r) none (version_by (schema_of s.store)) (commits_in ((committed s.store).number + 1) (entry_changes (now s.store i).kept))
    (delta_by ((committed s.store).number + 1)) (pays_of (now s.store i).kept) new_rows new_deltas after refl refl rows_are deltas_are pending_are

pub prune_law : PruneLaw
prune_law s r rows deltas pending past i le = past_prunes rows deltas pending s.store past i le
