use Rattle.std.proofs.Common.{inl, inr}
use Rattle.core_cases.proofs.Asked.{on_ok}
use Rattle.core_cases.proofs.asking.may_commit.Goals as goal

pub returns-in-Serial : goal.returns-in-Serial
returns-in-Serial c = on_ok c.is_ready.result _ _ (λ ready s h. inl (ready s h)) c.is_ready.ensures

pub returns-in-Snapshot : goal.returns-in-Snapshot
returns-in-Snapshot c = on_ok c.is_ready-in-Snapshot.result _ _ (λ ready s h. inr (ready s h)) c.is_ready-in-Snapshot.ensures
