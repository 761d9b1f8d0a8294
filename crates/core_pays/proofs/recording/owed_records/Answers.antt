use Rattle.std.proofs.Common.{◌≡◌, ◌-◌, List, length, reverse, take, sym, ap, ◌∙◌, arith}
use Rattle.iv_types.specs.declared.lock.GroupDelta.{GroupDelta}
use Rattle.txn_machine.specs.Counts.{told_need}
use Rattle.txn_machine.specs.Log.{owed_bytes}
use Rattle.data_room.proofs.Owed.{last_is}
use Rattle.core_pays.proofs.recording.owed_records.Goals as goal

pub returns : goal.returns
returns c =
    let items : List GroupDelta = c.args.txn.now.owed.items in
    let long : c.len.result ≡ length items = c.len.ensures ∙ c.args.txn.now.owed.ok.0 in
    let left : c.saturating_sub-left.result ≡ c.len.result - c.args.txn.now.back = c.saturating_sub-left.ensures in
    let many : c.saturating_sub-left.result ≡ length items - c.args.txn.now.back = omega (arith, long, left) in
    let those : List GroupDelta = take c.saturating_sub-left.result c.deref.result.now in
    let same : those ≡ take (length items - c.args.txn.now.back) items = λ x. take (many x) (c.deref.ensures.value x) in
    c.owed_bytes.ensures ∙ ap (λ l. told_need (owed_bytes c.args.txn.now.is_ghosted l)) (ap reverse same ∙ sym (last_is c.args.txn.now.back items))
