use Rattle.live_records.proofs.Orders.{moved_each, moved_left, moved_all}
use Rattle.live_records.proofs.kept.LiveRecords.into_order.Goals as goal

pub loop-record-preserved : goal.loop-record-preserved
loop-record-preserved c =
    let live = c.args.self in
    let before = c.loop-record.invariant in
    let key = c.in-Some.field-0-0 in
    let own = c.in-Some.record in
    record {
      each = moved_each live.records live.keyed c.requires c.loop-record.left c.pop_first.new.self c.loop-record.all c.put.new.all key own before.left c.in-Some.ensures.value before.each c.in-Some.ensures.updates.0 c.in_ok-put.ensures;
      left = moved_left live.records live.keyed c.requires c.loop-record.left c.pop_first.new.self c.loop-record.all c.put.new.all key own before.left c.in-Some.ensures.updates.0;
      all = moved_all live.records live.keyed c.requires c.loop-record.left c.pop_first.new.self c.loop-record.all c.put.new.all key own before.left c.in-Some.ensures.value before.all c.in_ok-put.ensures;
    }

pub invariant_of-result : goal.invariant_of-result
invariant_of-result c =
    let live = c.args.self in
    record { numbered = λ n r is. let keyed = live.keyed r.transaction n r (c.loop-record.invariant.all n r is) in keyed.1 }
