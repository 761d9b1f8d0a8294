use Rattle.std.proofs.Common.{Option, subst}
use Rattle.std.specs.Prelude.{IfSome}
use Rattle.std.proofs.lemmas.Result.{IfOk-weaker}
use Rattle.iv_meaning.specs.Objects.{schema_of}
use Rattle.iv_meaning.specs.Schema.{Schema}
use Rattle.live_records.specs.declared.record.LiveRecord.{LiveRecord}
use Rattle.record_replay.specs.Past.{left_by, pages_in}
use Rattle.record_replay.specs.Telling.{Reads}
use Rattle.record_replay.proofs.Passing.{read_is, read_readable, any_answer}
use Rattle.record_replay.proofs.Standing.{objects_are}
use Rattle.record_replay.proofs.replay.Replay.keep.Goals as goal

pub returns-in-Some-clause-told : goal.returns-in-Some-clause-told
returns-in-Some-clause-told g c =
    let maps = g.M.SortedMaps.maps in
    let limit = g.M.SortedMaps.limit in
    let self = c.args.self.now in
    let own : LiveRecord = c.in-Some.own in
    IfOk-weaker c.keep_live.result _ _ (λ answer told x h r comes.
    told x h r (read_is (left_by x).db.schema c.args.head c.args.entry.now r own comes (subst (λ (objects : Schema). Reads objects c.args.head c.args.entry.now own) (objects_are maps limit self.store (pages_in (left_by x)) h.store)
    (subst (λ (o : Option LiveRecord). IfSome o (Reads (schema_of self.store.catalog) c.args.head c.args.entry.now)) c.in-Some.is c.in_ok-own.ensures.some)))) c.keep_live.ensures.told

pub returns-in-Some-clause-reads : goal.returns-in-Some-clause-reads
returns-in-Some-clause-reads g c =
    any_answer c.keep_live.result (read_readable (schema_of c.args.self.now.store.catalog) c.args.head c.args.entry.now c.in-Some.own
    (subst (λ (o : Option LiveRecord). IfSome o (Reads (schema_of c.args.self.now.store.catalog) c.args.head c.args.entry.now)) c.in-Some.is c.in_ok-own.ensures.some))
