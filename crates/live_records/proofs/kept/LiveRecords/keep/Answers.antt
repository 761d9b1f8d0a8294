use Rattle.std.proofs.Common.{rules}
use Rattle.live_records.proofs.Keys.{keyed_put}
use Rattle.live_records.proofs.kept.LiveRecords.keep.Goals as goal

pub invariant_of-self : goal.invariant_of-self
invariant_of-self c =
    let live = c.args.self.now in
    record { keyed = keyed_put live.records c.insert.new.self c.args.own (search rules) live.keyed c.insert.result c.insert.ensures.updates c.insert.ensures.err }

pub returns-in-Some-clause-kept : goal.returns-in-Some-clause-kept
returns-in-Some-clause-kept c t n = c.in_ok-other.ensures.updates.0 (t, n)

pub returns-in_default-clause-kept : goal.returns-in_default-clause-kept
returns-in_default-clause-kept c t n = c.in_ok-other.ensures.updates.0 (t, n)
