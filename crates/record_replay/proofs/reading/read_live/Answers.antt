use Rattle.std.proofs.Common.{rules, sym, subst}
use Rattle.std.specs.Int.{w8}
use Rattle.std.specs.Int.RustNames.{FitsSigned}
use Rattle.std.proofs.lemmas.Int.{to_z-of_z}
use Rattle.iv_types.specs.declared.lock.GroupDelta.{GroupDelta}
use Rattle.iv_meaning.specs.Objects.{schema_of}
use Rattle.txn_log.specs.Replay.{Added}
use Rattle.txn_log.specs.Fitting.{IsKnown}
use Rattle.log_records.specs.declared.record.Record.{Record}
use Rattle.record_reading.specs.Groups.{delta}
use Rattle.record_replay.specs.Telling.{ReadsNone}
use Rattle.record_replay.proofs.Saying.{no_delta}
use Rattle.record_replay.proofs.reading.read_live.Goals as goal

pub returns-in-None-2-clause-none : goal.returns-in-None-2-clause-none
returns-in-None-2-clause-none c =
    let objects = schema_of c.args.catalog.now in
    let d = c.in-Delta in
    let fits : FitsSigned w8 d.count = search rules in
    let none = rw c.in-None-2.is at c.in_ok-delta-in-Delta.ensures.none in
    subst (λ (fields : Record). ReadsNone objects fields) (sym c.in-Delta.is)
    (no_delta objects d.transaction d.view d.group d.count d.sums
    (λ known. none (subst (λ (x : GroupDelta). IsKnown objects (Added x)) (λ i. delta d.view (sym c.as_slice-in-Delta.ensures i) (sym (to_z-of_z w8 d.count fits) i) (sym c.as_slice-in-Delta-2.ensures i)) known)))
