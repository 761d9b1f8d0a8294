use Rattle.std.proofs.Common.{◌+◌, sym, ap, subst, ◌∙◌}
use Rattle.txn_machine.specs.Log.{Within, block_bytes}
use Rattle.txn_machine.specs.Records.{record_bytes}
use Rattle.core_effects.proofs.Results.{on_ok_as, on_err_as}
use Rattle.core_journal.specs.Records.{with_one, flushed_all}
use Rattle.core_journal.specs.Cuts.{cut_of}
use Rattle.iv_types.specs.Faults.{Rose}
use Rattle.core_recording.proofs.append.give_and_flush.Goals as goal

pub give-requires : goal.give-requires
give-requires g c = let q = c.requires in (q.0, q.1, q.2, q.3, q.4, q.5)

pub flush-requires : goal.flush-requires
flush-requires g c =
    let q = c.requires in
    (with_one q.0 (record { number = c.args.number; of = q.1 }) q.2, c.give.ensures.has q.0 q.1 q.2 q.3 q.4, subst (λ m. Within m (q.2.used + record_bytes q.0 q.1 + block_bytes)) (sym c.give.ensures.limit) q.6)

pub returns-clause-ok : goal.returns-clause-ok
returns-clause-ok g c =
    on_ok_as c.flush.result (λ p. (λ objects r rs is has. p.0 (with_one objects (record { number = c.args.number; of = r }) rs) (c.give.ensures.has objects r rs is has), p.1 ∙ ap g.J.Journal.faults c.give.ensures.medium)) c.flush.ensures.ok

pub returns-clause-err : goal.returns-clause-err
returns-clause-err g c =
    on_err_as c.flush.result (λ rose. subst (λ m. Rose (g.J.Journal.faults m) (g.J.Journal.faults (g.J.Journal.medium c.flush.new.self))) c.give.ensures.medium rose) c.flush.ensures.err

pub returns-clause-any_moment : goal.returns-clause-any_moment
returns-clause-any_moment g c = λ objects r rs is has.
    let more = with_one objects (record { number = c.args.number; of = r }) rs in
    subst (λ m. g.J.Journal.leaves m (g.J.Journal.medium c.flush.new.self) (cut_of rs) (cut_of (flushed_all more))) c.give.ensures.medium (c.flush.ensures.any_moment more (c.give.ensures.has objects r rs is has))

pub returns-clause-limit : goal.returns-clause-limit
returns-clause-limit g c = c.flush.ensures.limit ∙ c.give.ensures.limit
