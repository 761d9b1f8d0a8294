use Rattle.std.proofs.Common.{sym, subst, ◌∙◌}
use Rattle.std.proofs.lemmas.Bool.{false≢true}
use Rattle.std.proofs.lemmas.Result.{IfOk-weaker}
use Rattle.txn_machine.specs.Records as log
use Rattle.log_records.specs.declared.record.Record.{Record}
use Rattle.log_records.specs.declared.record.Record.TheVariants.{Schema}
use Rattle.record_replay.specs.Past.{left_by, Comes}
use Rattle.record_replay.specs.Telling.{Tells}
use Rattle.record_replay.proofs.Passing.{any_answer}
use Rattle.record_replay.proofs.Standing.{unnumbered}
use Rattle.record_replay.proofs.replay.Replay.follow.Goals as goal

pub returns-then-not-may_come-clause-told : goal.returns-then-not-may_come-clause-told
returns-then-not-may_come-clause-told g c = λ x h r comes.
    let maps = g.M.SortedMaps.maps in
    let limit = g.M.SortedMaps.limit in
    let self = c.args.self.now in
    subst (Tells maps limit self x r) (sym c.misfit.ensures)
    (unnumbered maps limit self x h c.args.head c.args.entry.now r comes (λ both. false≢true (sym c.if-not-may_come.true ∙ c.may_come.ensures.1 both)))

pub returns-in-Commit-clause-told : goal.returns-in-Commit-clause-told
returns-in-Commit-clause-told g c =
    IfOk-weaker c.commit.result _ _ (λ answer told x h r comes.
    told c.in-Commit.session x h r (subst (λ (fields : Record). Comes (left_by x).db.schema c.args.head fields r) c.in-Commit.is comes)) c.commit.ensures.told

pub returns-in-Schema-clause-told : goal.returns-in-Schema-clause-told
returns-in-Schema-clause-told g c =
    IfOk-weaker c.define.result _ _ (λ answer told x h r comes.
    told c.in-Schema.session x h r
    (subst (λ text. Comes (left_by x).db.schema c.args.head (Schema c.in-Schema.commit c.in-Schema.session text) r) (sym c.as_slice-in-Schema.ensures)
    (subst (λ (fields : Record). Comes (left_by x).db.schema c.args.head fields r) c.in-Schema.is comes))) c.define.ensures.told

pub returns-in-Ghost-clause-reads : goal.returns-in-Ghost-clause-reads
returns-in-Ghost-clause-reads g c = let k = c.in-Ghost in any_answer c.ghost_made.result (record { of = log.Ghost (k.view, k.group); fits = tt; fields_are = k.is })

pub returns-in-Clean-clause-reads : goal.returns-in-Clean-clause-reads
returns-in-Clean-clause-reads g c = let k = c.in-Clean in any_answer c.group_cleaned.result (record { of = log.Clean (k.view, k.group); fits = tt; fields_are = k.is })

pub returns-in-Undo-clause-reads : goal.returns-in-Undo-clause-reads
returns-in-Undo-clause-reads g c = let k = c.in-Undo in any_answer c.undo.result (record { of = log.Undo k.transaction k.number; fits = tt; fields_are = k.is })

pub returns-in-Commit-clause-reads : goal.returns-in-Commit-clause-reads
returns-in-Commit-clause-reads g c = let k = c.in-Commit in any_answer c.commit.result (record { of = log.Commit k.transaction k.commit k.session; fits = tt; fields_are = k.is })

pub returns-in-Abort-clause-reads : goal.returns-in-Abort-clause-reads
returns-in-Abort-clause-reads g c = let k = c.in-Abort in any_answer c.abort.result (record { of = log.Abort k.transaction; fits = tt; fields_are = k.is })

pub returns-in-Schema-clause-reads : goal.returns-in-Schema-clause-reads
returns-in-Schema-clause-reads g c = let k = c.in-Schema in any_answer c.define.result (record { of = log.Definition k.commit k.session k.text; fits = tt; fields_are = k.is })
