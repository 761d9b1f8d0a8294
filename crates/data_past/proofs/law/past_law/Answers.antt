use Rattle.data_past.proofs.Laws.{opened_law, leaves_law, put_law, undo_law, commit_law, prune_law}
use Rattle.data_past.proofs.law.past_law.Goals as goal

pub returns : goal.returns
returns c = record { opened = opened_law; leaves = leaves_law; put = put_law; undo = undo_law; commit = commit_law; prune = prune_law }
