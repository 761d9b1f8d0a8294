use Rattle.std.proofs.Common.{drop}
use mathlib.Core.Path.{ap, ◌∙◌}
use Rattle.txn_sessions.proofs.Saved.{drop_one}
use Rattle.txn_sessions.proofs.standing.drop_some.Goals as goal

pub loop-preserved : goal.loop-preserved
loop-preserved c = c.drop_first.ensures ∙ (ap (drop 1) c.loop.invariant ∙ drop_one c.loop.counter c.args.saved.now.items)
