use Rattle.std.proofs.Common.{◌≤◌, Option, sym, subst}
use Rattle.std.specs.Prelude.{IfSome}
use Rattle.txn_log.specs.Refused.{most_number}
use Rattle.iv_meaning.specs.Objects.{schema_of}
use Rattle.iv_meaning.specs.Schema.{Schema}
use Rattle.live_records.specs.declared.record.LiveRecord.{LiveRecord}
use Rattle.live_records.specs.Live.{deed_of}
use Rattle.record_replay.specs.Past.{carrying, left_by, pages_in}
use Rattle.record_replay.specs.Telling.{Reads}
use Rattle.record_replay.proofs.Passing.{read_is, read_readable}
use Rattle.record_replay.proofs.Standing.{objects_are, carried_stands}
use Rattle.record_replay.proofs.replay.Replay.carry.Goals as goal

pub returns-in_ok-carry_live-in-Some-clause-told : goal.returns-in_ok-carry_live-in-Some-clause-told
returns-in_ok-carry_live-in-Some-clause-told g c = λ p first ds h r comes.
    let maps = g.M.SortedMaps.maps in
    let limit = g.M.SortedMaps.limit in
    let self = c.args.self.now in
    let own : LiveRecord = c.in-Some.own in
    let reads = subst (λ (objects : Schema). Reads objects c.args.head c.args.entry.now own) (objects_are maps limit self.store (pages_in (left_by (carrying p first ds))) h.store)
    (subst (λ (o : Option LiveRecord). IfSome o (Reads (schema_of self.store.catalog) c.args.head c.args.entry.now)) c.in-Some.is c.in_ok-own.ensures.some) in
    let number : (self.next ≤ own.number) × (own.number ≤ most_number) = subst (λ n. (self.next ≤ n) × (n ≤ most_number)) (sym reads.number) (c.may_come.ensures.0 c.if-not-may_come.false) in (
      deed_of own,
      carried_stands maps limit self p first ds h c.args.head c.args.entry.now r comes own reads number.0 number.1,
      c.in_ok-carry_live-in-Some.ensures.told p first ds h r (read_is p.db.schema c.args.head c.args.entry.now r own comes reads),
    )

pub returns-in_ok-carry_live-in-Some-clause-reads : goal.returns-in_ok-carry_live-in-Some-clause-reads
returns-in_ok-carry_live-in-Some-clause-reads g c = λ passed.
    read_readable (schema_of c.args.self.now.store.catalog) c.args.head c.args.entry.now c.in-Some.own
    (subst (λ (o : Option LiveRecord). IfSome o (Reads (schema_of c.args.self.now.store.catalog) c.args.head c.args.entry.now)) c.in-Some.is c.in_ok-own.ensures.some)
